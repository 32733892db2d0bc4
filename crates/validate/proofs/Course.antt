-- The whole list of an accepted document, in the terms of the calls that write it.
-- Assumes nothing.
use Prim.Native.Nat.{ℕ, ◌/◌, ◌≤◌}
use native.Mathlib.Omega.{arith}
use mathlib.Core.Path.{◌≡◌, refl, ap, ◌∙◌}
use mathlib.Core.List.{List}
use lib.ListN.{length}
use Rattle.tape.specs.Nodes.{count, link_at}
use Rattle.tape.specs.Forest.{forest}
use Rattle.cursor.specs.Inner.{Run}
use Rattle.findings.specs.declared.Counts.{Counts}
use Rattle.definition.specs.State.{outside}
use Rattle.definition.specs.State as state
use Rattle.definition.specs.Document.{text_before, unclosed}
use Rattle.definition.specs.Outcome.{cleared, no_start}
use Rattle.definition.proofs.Few.{text-few}
use Rattle.definition.specs.declared.OpenStart.{OpenStart}
use Rattle.state.specs.Inner.{open_nodes, counts_of, with_counts}
use Rattle.state.specs.declared.State.{State}
use Rattle.closing.specs.Inner.{Left}
use Rattle.walk.specs.Inner.{walk_at, Ready, RunWalked}
use Rattle.validate.specs.Entry.{report_of}
use Rattle.validate.specs.declared.Report.{Report}
use Rattle.validate.proofs.Ending.{whole_run, walk-ready, walk-room, unclosed-room, missing-room, ran, finished, cleared-whole}
use Rattle.findings.specs.Inner.{Wrote, Room}
use Rattle.validate.specs.Inner.{none_yet, fresh, Begun, Endable, MissingWritten, Ran, Fit, Finished, reported}

-- before the walk
pub begun-room : (s t : List ℕ) (to : ℕ) (r : State) → r ≡ fresh → Room (counts_of r) (text_before (forest s t 1 to))
begun-room s t to r e = rw e (let k = text-few (forest s t 1 to) in omega arith)

pub begun : (s t l l' : List ℕ) (to : ℕ) (r q : State) (c : Counts) → to ≡ link_at t 0 → r ≡ fresh → Wrote (text_before (forest s t 1 to)) l (counts_of r) l' c → q ≡ with_counts r c → Begun s t l l' q
begun s t l l' to r q c e f w g = rw (g, f) (record { text = rw (e, f) at w; record_is = refl })

module _ {table index : List ℕ} {entries : ℕ} {s t seen : List ℕ} {opens : List OpenStart} (fit : Fit table index entries s t seen opens) (to : ℕ) (to_is : to ≡ link_at t 0) where
  pub first_run : Run s t 1 to
  first_run = rw to_is (whole_run fit)

  module _ (o : state.WalkContext) (o_is : o ≡ outside) (l l₁ : List ℕ) where
    asks : (q : State) (c : Counts) → q ≡ with_counts fresh c → Wrote (text_before (forest s t 1 (link_at t 0))) l none_yet l₁ c → Ready table index entries s t 64 1 to seen opens q × Room (counts_of q) (walk_at table s t o 1 to seen opens q).findings
    asks q c e text = rw (e, to_is, o_is) (walk-ready fit l l₁ c text, walk-room fit l l₁ c text)

    pub walk-asks : (q : State) → Begun s t l l₁ q → Ready table index entries s t 64 1 to seen opens q × Room (counts_of q) (walk_at table s t o 1 to seen opens q).findings
    walk-asks q b = asks q (counts_of q) b.record_is b.text

    -- after the walk
    module _ (q : State) (b : Begun s t l l₁ q) (seen' : List ℕ) (opens' : List OpenStart) (l₂ : List ℕ) (r : State) (w : RunWalked s t (walk_at table s t o 1 to seen opens q) 64 1 to l₁ q seen' opens' l₂ r) where
      abbrev At : State → Type 0
      At x = RunWalked s t (walk_at table s t outside 1 (link_at t 0) seen opens x) 64 1 (link_at t 0) l₁ x seen' opens' l₂ r

      went : At (with_counts fresh (counts_of q))
      went = go q (counts_of q) b.record_is (rw (to_is, o_is) at w)
        where
          go : (x : State) (c : Counts) → x ≡ with_counts fresh c → At x → At (with_counts fresh c)
          go x c e h = rw e at h

      pub left-asks : Left s t opens' r
      left-asks = record { known = w.went.starts; room = unclosed-room fit l l₁ (counts_of q) b.text seen' opens' l₂ r went }

      module _ (l₃ : List ℕ) (c₃ : Counts) (left : Wrote (unclosed (open_nodes s t opens' r.open_len)) l₂ (counts_of r) l₃ c₃) where
        pub end-asks : Endable r c₃
        end-asks = record { room = missing-room fit l l₁ (counts_of q) b.text seen' opens' l₂ r went l₃ c₃ left }

        pub ran-whole : (l₄ : List ℕ) (p : State) → MissingWritten r c₃ l₃ l₄ p → Ran table s t l l₄ p
        ran-whole l₄ p e = go p (counts_of p) e.record_is (ran fit l l₁ (counts_of q) b.text seen' opens' l₂ r went l₃ c₃ left l₄ (counts_of p) e.wrote)
          where
            go : (x : State) (c : Counts) → x ≡ with_counts r c → Ran table s t l l₄ (with_counts r c) → Ran table s t l l₄ x
            go x c e h = rw e h

-- the answer, and the lists cleared
module _ {table index : List ℕ} {entries : ℕ} {s t seen : List ℕ} {opens : List OpenStart} (fit : Fit table index entries s t seen opens) where
  pub seen-inside : (seen' : List ℕ) (n : ℕ) → length seen' ≡ length seen → n ≡ count t → n ≤ length seen'
  seen-inside seen' n e h = let r = fit.seen_room in omega arith

  pub opens-inside : (opens' : List OpenStart) (n : ℕ) → length opens' ≡ length opens → n ≡ count t → n ≤ length opens'
  opens-inside opens' n e h = let r = fit.open_room in omega arith

  pub finished-whole : (l l' : List ℕ) (q : State) → Ran table s t l l' q → length l' ≡ length l → (n m : ℕ) → n ≡ count t → m ≡ length l' / 8 → (seen₁ seen₂ : List ℕ) (opens₁ opens₂ : List OpenStart) → length seen₁ ≡ length seen → length opens₁ ≡ length opens → seen₂ ≡ cleared 0 n seen₁ → opens₂ ≡ cleared no_start n opens₁ → (r : Report) → report_of r ≡ reported q m → Finished table s t seen opens l seen₂ opens₂ l' r
  finished-whole l l' q ran-so ll n m n-is m-is seen₁ seen₂ opens₁ opens₂ ls lo cs co r said =
      record {
        answers = said ∙ finished fit l l' q ran-so m (m-is ∙ ap (λ (k : ℕ). k / 8) ll);
        words = ran-so.wrote.words;
        seen_zero = cs ∙ ap (λ (k : ℕ). cleared 0 k seen₁) n-is ∙ cleared-whole 0 (count t) seen₁ (ls ∙ fit.seen_room);
        opens_zero = co ∙ ap (λ (k : ℕ). cleared no_start k opens₁) n-is ∙ cleared-whole no_start (count t) opens₁ (lo ∙ fit.open_room);
      }
