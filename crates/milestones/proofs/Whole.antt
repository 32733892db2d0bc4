-- What a milestone does: the finding of an end that nothing waits for, and the record and the open starts after it.
-- Assumes nothing.
use Prim.Native.Nat.{ℕ, suc, ◌+◌, ◌-◌, ◌<◌, ◌≤◌}
use native.Mathlib.Omega.{arith}
use mathlib.Core.Path.{◌≡◌, refl, sym, ap, subst, ◌∙◌}
use mathlib.Core.Bool.{Bool, true, false, not, ◌&&◌}
use mathlib.Core.List.{List, [], ◌∷◌, append-nil}
use Rattle.std.specs.Prelude.{Option, Some, None}
use lib.ListN.{length, set}
use Rattle.text.specs.Pick.{pick}
use Rattle.tape.specs.Nodes.{Node, node_at}
use Rattle.table.specs.Entries.{Entry}
use Rattle.cursor.specs.Inner.{Spanned}
use Rattle.findings.specs.Finding.{Finding}
use Rattle.findings.specs.declared.Counts.{Counts}
use Rattle.findings.specs.Written.{overlay, only}
use Rattle.definition.specs.Checks.{given, when, error}
use Rattle.definition.specs.Milestones.{is_start, is_milestone, base_of, waits, milestone_checks, starts_after, without, after_milestone_by}
use Rattle.definition.specs.Setters.{set_open_starts}
use Rattle.definition.specs.declared.OpenStart.{OpenStart}
use Rattle.state.specs.Inner.{open_nodes, state_of, counts_of, with_counts, Opens}
use Rattle.state.specs.declared.State.{State}
use Rattle.milestones.specs.Inner.{Measured, AmongMilestones, start, end, neither, among_milestones, nearest_in, removed, opens_without, count_without, opens_by, paired_by, with_opens, WroteEndAlone, Counted, Countable}
use Rattle.milestones.specs.InnerStep.{MilestoneStep, Milestoned}
use Rattle.milestones.proofs.Search.{Gone, is_found, found_inside, waits-found, none-taken, one-taken}
use Rattle.milestones.proofs.Moves.{gone}
use Rattle.milestones.proofs.Kept.{starts-pushed, opens-pushed, opens-gone}
use Rattle.findings.specs.Codes.{milestone_mismatch, end_alone}
use Rattle.findings.specs.Inner.{counted, Wrote, Room}

-- one check: its finding under its test
module _ (b b' : Bool) (f f' : Finding) (b-is : b' ≡ b) (f-is : f' ≡ f) where
  one : given (when b f ∷ []) ≡ only b' f'
  unfolding given
  one = rw (b-is, f-is) (append-nil (only b f))

  one-fits : (c c' : Counts) → c' ≡ c → Room c (given (when b f ∷ [])) → Room c' (only b' f')
  one-fits c c' e r = rw e (rw one at r)

  one-wrote : (c c' : Counts) (l l' : List ℕ) (d : Counts) → c' ≡ c → Wrote (only b' f') l c' l' d → Wrote (given (when b f ∷ [])) l c l' d
  one-wrote c c' l l' d e w = rw one (rw e at w)

-- the record with the counts of a finding written
pub wrote-end-alone : (t : List ℕ) (i : ℕ) (l l' : List ℕ) (r q : State) (f : Finding) (c d : Counts) → f ≡ error (node_at [] t i) milestone_mismatch end_alone → c ≡ counts_of r → Wrote (f ∷ []) l c l' d → q ≡ with_counts r d → WroteEndAlone t i l r l' q
wrote-end-alone t i l l' r q f c d f-is c-is w q-is =
    let w' : Wrote (error (node_at [] t i) milestone_mismatch end_alone ∷ []) l (counts_of r) l' d = subst (λ (z : Finding). Wrote (z ∷ []) l (counts_of r) l' d) f-is (subst (λ (z : Counts). Wrote (f ∷ []) l z l' d) c-is w) in
    subst (WroteEndAlone t i l r l') (sym q-is) (record { wrote = w'; same = refl })

-- a node among the open starts
module _ (e : Entry) (s t : List ℕ) (i : ℕ) (opens : List OpenStart) (l : List ℕ) (r : State) (o : Opens s t opens r.open_len) where
  abbrev x : Node
  x = node_at s t i

  abbrev alone : Bool
  alone = is_milestone e x && (not (is_start x) && not (waits x (open_nodes s t opens r.open_len)))

  -- without a finding the counts are the same
  no-finding : false ≡ alone → {opens' : List OpenStart} {q : State} → MilestoneStep e s t i opens r opens' q → Milestoned e s t i opens l r opens' l q
  unfolding overlay counted
  no-finding h {opens'} {q} st =
      record {
        wrote = one-wrote alone false (error x milestone_mismatch end_alone) (error x milestone_mismatch end_alone) h refl (counts_of r) (counts_of r) l l (counts_of q) refl (record { words = refl; counts = st.counts });
        step = subst (λ (k : Counts). MilestoneStep e s t i opens (with_counts r k) opens' q) (sym st.counts) st;
      }

  -- a step doesn't read the counts
  recounted : (k : Counts) {opens' : List OpenStart} {q : State} → MilestoneStep e s t i opens r opens' q → MilestoneStep e s t i opens (with_counts r k) opens' (with_counts q k)
  recounted k st =
      record {
        state = st.state;
        stays = st.stays;
        few = st.few;
        counts = refl;
        seen = st.seen;
        anchor = st.anchor;
        verse = st.verse;
        verses = st.verses;
      }

  stepped : (opens' : List OpenStart) (n : ℕ) → open_nodes s t opens' n ≡ pick (is_milestone e x) (starts_after (is_start x) x (open_nodes s t opens r.open_len)) (open_nodes s t opens r.open_len) → Opens s t opens' n → n ≤ r.open_len + 1 → MilestoneStep e s t i opens r opens' (with_opens r n)
  unfolding after_milestone_by
  stepped opens' n p o' h =
      record {
        state = λ seen. ap (λ (xs : List Node). set_open_starts xs (state_of s t seen opens r)) p;
        stays = o';
        few = h;
        counts = refl;
        seen = refl;
        anchor = refl;
        verse = refl;
        verses = refl;
      }

  -- no milestone
  pub other : is_milestone e x ≡ false → Milestoned e s t i opens l r opens l r
  other h = let z : false ≡ alone = rw h in no-finding z (stepped opens r.open_len (rw h) o (omega arith))

  -- a start
  abbrev entry : OpenStart
  entry = record { node = i; base_len = length (base_of x) }

  started : is_milestone e x ≡ true → is_start x ≡ true → Spanned s t i → r.open_len < length opens → Milestoned e s t i opens l r (set opens r.open_len entry) l (with_opens r (r.open_len + 1))
  started y z sp room =
      let m : Measured s t i (length (base_of x)) = record { spanned = sp; is = refl } in
      let v : false ≡ alone = rw (y, z) in
      no-finding v (stepped (set opens r.open_len entry) (r.open_len + 1) (rw (y, z) (starts-pushed opens r.open_len entry room s t)) (opens-pushed opens r.open_len entry room s t o m) (omega arith))

  -- an end
  module _ (y : is_milestone e x ≡ true) (z : is_start x ≡ false) where
    alone-is : (f : Option ℕ) → nearest_in s t opens r.open_len (base_of x) ≡ f → not (is_found f) ≡ alone
    alone-is f h =
        let w : waits x (open_nodes s t opens r.open_len) ≡ is_found f = waits-found s t opens x r.open_len ∙ ap is_found h in
        rw (y, z, w)

    by_itself : nearest_in s t opens r.open_len (base_of x) ≡ None → (l' : List ℕ) (r' : State) → WroteEndAlone t i l r l' r' → Milestoned e s t i opens l r opens l' r'
    by_itself n l' r' w =
        let st : MilestoneStep e s t i opens r opens r = stepped opens r.open_len (rw (y, z) (sym (none-taken s t opens x r.open_len n))) o (omega arith) in
        record {
          wrote = one-wrote alone true (error x milestone_mismatch end_alone) (error x milestone_mismatch end_alone) (alone-is None n) refl (counts_of r) (counts_of r) l l' (counts_of r') refl w.wrote;
          step = subst (λ (q : State). MilestoneStep e s t i opens (with_counts r (counts_of r')) opens q) (sym w.same) (recounted (counts_of r') st);
        }

    room-alone : nearest_in s t opens r.open_len (base_of x) ≡ None → Room (counts_of r) (given (milestone_checks e (state_of s t [] opens r) x)) → Room (counts_of r) (error (node_at [] t i) milestone_mismatch end_alone ∷ [])
    room-alone n = one-fits alone true (error x milestone_mismatch end_alone) (error x milestone_mismatch end_alone) (alone-is None n) refl (counts_of r) (counts_of r) refl

    ended : (at : ℕ) → nearest_in s t opens r.open_len (base_of x) ≡ Some at → (opens' : List OpenStart) → opens' ≡ removed opens r.open_len at → length opens' ≡ length opens → Milestoned e s t i opens l r opens' l (with_opens r (r.open_len - 1))
    ended at n opens' w len =
        let a = found_inside s t opens (base_of x) r.open_len at n in
        let up : r.open_len ≡ suc (r.open_len - 1) = omega arith in
        let up' : r.open_len ≡ r.open_len - 1 + 1 = omega arith in
        let g : Gone opens opens' (r.open_len - 1) at = rw w (gone opens r.open_len at a o.room) in
        let found : nearest_in s t opens (suc (r.open_len - 1)) (base_of x) ≡ Some at = ap (λ (n : ℕ). nearest_in s t opens n (base_of x)) (sym up) ∙ n in
        let taken : without x (open_nodes s t opens r.open_len) ≡ open_nodes s t opens' (r.open_len - 1) = ap (λ (n : ℕ). without x (open_nodes s t opens n)) up ∙ one-taken s t opens opens' at x (r.open_len - 1) g found in
        let o' : Opens s t opens (r.open_len - 1 + 1) = rw up' at o in
        no-finding (alone-is (Some at) n) (stepped opens' (r.open_len - 1) (rw (y, z) (sym taken)) (opens-gone s t opens opens' (r.open_len - 1) at g (omega arith) len o') (omega arith))

  -- by what the node is
  by_cases : (P : AmongMilestones → Type 0) → (is_milestone e x ≡ false → P neither) → (is_milestone e x ≡ true → is_start x ≡ true → P (start i (length (base_of x)))) → (is_milestone e x ≡ true → is_start x ≡ false → P (end (base_of x))) → (m : AmongMilestones) → m ≡ among_milestones e x → P m
  by_cases P n a b m m-is = subst P (sym m-is) (go (is_milestone e x) (is_start x) refl refl)
    where
      go : (y z : Bool) → is_milestone e x ≡ y → is_start x ≡ z → P (pick y (pick z (start i (length (base_of x))) (end (base_of x))) neither)
      go false z y-is z-is = n y-is
      go true true y-is z-is = a y-is z-is
      go true false y-is z-is = b y-is z-is

  pub countable : (m : AmongMilestones) → m ≡ among_milestones e x → (n : Option ℕ) → n ≡ paired_by s t opens r.open_len m → Room (counts_of r) (given (milestone_checks e (state_of s t [] opens r) x)) → Countable t i n r
  countable m m-is n n-is h = rw n-is (by_cases (λ (m : AmongMilestones). Countable t i (paired_by s t opens r.open_len m) r) (λ y. tt) (λ y z. tt) (λ y z. go y z (nearest_in s t opens r.open_len (base_of x)) refl) m m-is)
    where
      go : is_milestone e x ≡ true → is_start x ≡ false → (f : Option ℕ) → nearest_in s t opens r.open_len (base_of x) ≡ f → Countable t i (count_without r.open_len f) r
      go y z (Some j) f-is = tt
      go y z None f-is = room-alone y z f-is h

  -- from the open starts and their number to the promise
  module _ (sp : Spanned s t i) (room : r.open_len < length opens) (opens' : List OpenStart) (long : length opens' ≡ length opens) (l' : List ℕ) (q : State) where
    abbrev Leads : List OpenStart → Option ℕ → Type 0
    Leads ys n = opens' ≡ ys → Counted t i n l r l' q → Milestoned e s t i opens l r opens' l' q

    end-leads : is_milestone e x ≡ true → is_start x ≡ false → (f : Option ℕ) → nearest_in s t opens r.open_len (base_of x) ≡ f → Leads (opens_without opens r.open_len f) (count_without r.open_len f)
    end-leads y z (Some j) f-is w c = rw (c.0, c.1) (ended y z j f-is opens' w long)
    end-leads y z None f-is w c = rw w (by_itself y z f-is l' q c)

    leads : (m : AmongMilestones) → m ≡ among_milestones e x → Leads (opens_by s t opens r.open_len m) (paired_by s t opens r.open_len m)
    leads =
        by_cases (λ (m : AmongMilestones). Leads (opens_by s t opens r.open_len m) (paired_by s t opens r.open_len m))
        (λ y w c. rw (w, c.0, c.1) (other y))
        (λ y z w c. rw (w, c.0, c.1) (started y z sp room))
        (λ y z. end-leads y z (nearest_in s t opens r.open_len (base_of x)) refl)

  pub milestoned : (m : AmongMilestones) → m ≡ among_milestones e x → Spanned s t i → r.open_len < length opens → (opens' : List OpenStart) → opens' ≡ opens_by s t opens r.open_len m → length opens' ≡ length opens → (n : Option ℕ) → n ≡ paired_by s t opens r.open_len m → (l' : List ℕ) (q : State) → Counted t i n l r l' q → Milestoned e s t i opens l r opens' l' q
  milestoned m m-is sp room opens' w long n n-is l' q c = leads sp room opens' long l' q m m-is w (rw n-is at c)
