-- The whole list of an accepted document, call by call, and its answer.
-- Assumes nothing.
use Prim.Native.Nat.{ℕ, zero, suc, ◌+◌, ◌*◌, ◌≤◌}
use native.Mathlib.Omega.{arith}
use native.Mathlib.Nat.{not-suc-le-zero, zero-add}
use mathlib.Core.Path.{◌≡◌, refl, sym, ap, ◌∙◌}
use mathlib.Core.List.{List, [], ◌∷◌, ◌++◌, append-nil}
use Rattle.std.specs.Prelude.{None}
use lib.Dec.{eqb}
use lib.ListN.{length, drop_of_length-le}
use Rattle.tape.specs.Nodes.{link_at}
use Rattle.tape.specs.Forest.{forest, top}
use Rattle.tape.proofs.Sizes.{weight-le}
use Rattle.cursor.specs.Inner.{Run}
use Rattle.cursor.proofs.Runs.{run-top}
use Rattle.findings.specs.Finding.{Finding}
use Rattle.findings.specs.declared.Counts.{Counts}
use Rattle.findings.specs.Written.{room, total}
use Rattle.findings.proofs.Overlay.{counted-total, wrote-append}
use Rattle.definition.specs.State.{WalkState, outside}
use Rattle.definition.specs.Checks.{given}
use Rattle.definition.specs.Walk.{walk}
use Rattle.definition.specs.Walk as def
use Rattle.definition.specs.Document.{text_before, unclosed, closing, walked, findings}
use Rattle.definition.specs.Outcome.{add_if, of_severity, checked, checked_of, cleared, repeated}
use Rattle.definition.proofs.Few.{text-few, walk-few, given-few, unclosed-length}
use Rattle.definition.proofs.Counted.{Graded, graded}
use Rattle.definition.specs.declared.OpenStart.{OpenStart}
use Rattle.state.specs.Inner.{latest, open_nodes, state_of, counts_of, with_counts}
use Rattle.state.specs.declared.State.{State}
use Rattle.state.proofs.Opened.{starts-length}
use Rattle.closing.specs.Inner.{missing_checks}
use Rattle.walk.specs.Inner.{nowhere, walk_at, Ready, RunWalked}
use Rattle.walk.proofs.Visiting.{count_low}
use Rattle.findings.specs.Inner.{Wrote, Room, by_severity, counted}
use Rattle.validate.specs.Inner.{none_yet, fresh, Ran, Fit, reported}
use Rattle.validate.specs.Entry.{lent}

module _ {table index : List ℕ} {entries : ℕ} {s t seen : List ℕ} {opens : List OpenStart} (fit : Fit table index entries s t seen opens) where
  abbrev to : ℕ
  to = link_at t 0

  pub whole_run : Run s t 1 to
  whole_run = run-top s t fit.accepted

  few : to ≤ 65535
  few = let r = whole_run.inside in let k = count_low s t fit.accepted in omega arith

  pub text-room : Room none_yet (text_before (forest s t 1 to))
  text-room = let k = text-few (forest s t 1 to) in omega arith

  -- after the text before `\id`
  module _ (l l₁ : List ℕ) (c : Counts) (text : Wrote (text_before (forest s t 1 to)) l none_yet l₁ c) where
    one : total c ≤ 1
    one = let k = text-few (forest s t 1 to) in omega (arith, ap total text.counts ∙ counted-total none_yet (text_before (forest s t 1 to)))

    pub walk-ready : Ready table index entries s t 64 1 to seen opens (with_counts fresh c)
    walk-ready =
        let r = whole_run.inside in
        let k = few in
        let sr = fit.seen_room in
        let or = fit.open_room in
        record {
          indexed = fit.indexed;
          accepted = fit.accepted;
          nested = fit.accepted.nested;
          start = omega arith;
          within = r;
          starts = record { room = omega arith; spanned = λ j h. absurd (not-suc-le-zero h); bases = λ j h. absurd (not-suc-le-zero h) };
          bounded = omega arith;
          seen_room = omega arith;
          open_room = omega arith;
          verses_room = omega arith;
          anchored = nowhere;
        }

    walk_is : walk_at table s t outside 1 to seen opens (with_counts fresh c) ≡ walked table (top s t)
    unfolding latest open_nodes
    walk_is = refl

    heavy : length (walk_at table s t outside 1 to seen opens (with_counts fresh c)).findings ≤ 16777232 * 65535
    heavy =
        let h = walk-few table outside None (forest s t 1 to) (state_of s t seen opens (with_counts fresh c)) in
        let g = weight-le s t fit.short fit.accepted.nested in
        let k = few in
        omega arith

    pub walk-room : Room c (walk_at table s t outside 1 to seen opens (with_counts fresh c)).findings
    walk-room = let o = one in let h = heavy in omega arith

    -- after the walk
    module _ (seen' : List ℕ) (opens' : List OpenStart) (l₂ : List ℕ) (r : State) (walked-so : RunWalked s t (walk_at table s t outside 1 to seen opens (with_counts fresh c)) 64 1 to l₁ (with_counts fresh c) seen' opens' l₂ r) where
      total-after : total (counts_of r) ≤ 1 + 16777232 * 65535
      total-after =
          let o = one in
          let h = heavy in
          omega (arith, ap total walked-so.went.wrote.counts ∙ counted-total c (walk_at table s t outside 1 to seen opens (with_counts fresh c)).findings)

      open-low : r.open_len ≤ 65535
      open-low = let k = walked-so.went.open_few in let f = few in omega arith

      left_is : length (unclosed (open_nodes s t opens' r.open_len)) ≡ r.open_len
      left_is = unclosed-length (open_nodes s t opens' r.open_len) ∙ starts-length s t opens' r.open_len

      pub unclosed-room : Room (counts_of r) (unclosed (open_nodes s t opens' r.open_len))
      unclosed-room = let a = total-after in let b = open-low in let e = left_is in omega arith

      -- after the unclosed starts
      module _ (l₃ : List ℕ) (c₃ : Counts) (left : Wrote (unclosed (open_nodes s t opens' r.open_len)) l₂ (counts_of r) l₃ c₃) where
        pub missing-room : Room c₃ (given (missing_checks r))
        missing-room =
            let a = total-after in
            let b = open-low in
            let e = left_is in
            let g = given-few (missing_checks r) in
            omega (arith, ap total left.counts ∙ counted-total (counts_of r) (unclosed (open_nodes s t opens' r.open_len)))

        closing-is : closing (walked table (top s t)).state ≡ unclosed (open_nodes s t opens' r.open_len) ++ given (missing_checks r)
        unfolding closing
        closing-is = ap closing (sym (walked-so.went.state ∙ ap (λ (x : def.Walked). x.state) walk_is))

        pub ran : (l₄ : List ℕ) (c₄ : Counts) → Wrote (given (missing_checks r)) l₃ c₃ l₄ c₄ → Ran table s t l l₄ (with_counts r c₄)
        ran l₄ c₄ last =
            let body : Wrote (walked table (top s t)).findings l₁ c l₂ (counts_of r) = rw walk_is at walked-so.went.wrote in
            record {
              wrote = rw closing-is (wrote-append (wrote-append text body) (wrote-append left last));
              low = (let m = missing-room in omega (arith, ap total last.counts ∙ counted-total c₃ (given (missing_checks r))));
              verses = ap (λ (x : WalkState). x.verses) walked-so.went.state ∙ ap (λ (x : def.Walked). x.state.verses) walk_is;
            }

-- The counts of the whole list are those of the definition.
by-severity : (c : Counts) (fs : List Finding) → Graded fs → ((counted c fs).errors ≡ c.errors + of_severity 0 fs) × ((counted c fs).warnings ≡ c.warnings + of_severity 1 fs) × ((counted c fs).infos ≡ c.infos + of_severity 2 fs)
unfolding counted of_severity
by-severity c [] h = (omega arith, omega arith, omega arith)
by-severity c (f ∷ fs) h = go f.severity h.0.0 (λ d. by-severity d fs h.1)
  where
    go : (n : ℕ) → n ≤ 2 → ((d : Counts) → ((counted d fs).errors ≡ d.errors + of_severity 0 fs) × ((counted d fs).warnings ≡ d.warnings + of_severity 1 fs) × ((counted d fs).infos ≡ d.infos + of_severity 2 fs)) → ((counted (by_severity n c) fs).errors ≡ c.errors + add_if (eqb n 0) (of_severity 0 fs)) × ((counted (by_severity n c) fs).warnings ≡ c.warnings + add_if (eqb n 1) (of_severity 1 fs)) × ((counted (by_severity n c) fs).infos ≡ c.infos + add_if (eqb n 2) (of_severity 2 fs))
    go zero l k = let q = k (by_severity 0 c) in (omega (arith, q.0), omega (arith, q.1), omega (arith, q.2))
    go (suc zero) l k = let q = k (by_severity 1 c) in (omega (arith, q.0), omega (arith, q.1), omega (arith, q.2))
    go (suc (suc zero)) l k = let q = k (by_severity 2 c) in (omega (arith, q.0), omega (arith, q.1), omega (arith, q.2))
    go (suc (suc (suc n))) l k = absurd (omega arith)

module _ {table index : List ℕ} {entries : ℕ} {s t seen : List ℕ} {opens : List OpenStart} (fit : Fit table index entries s t seen opens) (l l' : List ℕ) (q : State) (ran-so : Ran table s t l l' q) where
  abbrev fs : List Finding
  fs = findings table (top s t)

  counts-are : (q.errors ≡ of_severity 0 fs) × (q.warnings ≡ of_severity 1 fs) × (q.infos ≡ of_severity 2 fs)
  counts-are =
      let g = by-severity none_yet fs (graded table (top s t)) in
      let e = ran-so.wrote.counts in
      (ap (λ (c : Counts). c.errors) e ∙ g.0 ∙ zero-add _, ap (λ (c : Counts). c.warnings) e ∙ g.1 ∙ zero-add _, ap (λ (c : Counts). c.infos) e ∙ g.2 ∙ zero-add _)

  total-is : total (counts_of q) ≡ length fs
  total-is = ap total ran-so.wrote.counts ∙ counted-total none_yet fs ∙ zero-add _

  pub finished : (n : ℕ) → n ≡ room l → reported q n ≡ checked_of (lent table s t seen opens l)
  unfolding checked_of
  finished n e = rw (total-is, e, counts-are.0, counts-are.1, counts-are.2, ran-so.verses)

-- the whole of a list cleared
pub cleared-whole : {A : Type 0} (nothing : A) (n : ℕ) (xs : List A) → length xs ≡ n → cleared nothing n xs ≡ repeated nothing n
cleared-whole nothing n xs e = let h : length xs ≤ n = omega arith in rw (drop_of_length-le xs h) (append-nil (repeated nothing n))
