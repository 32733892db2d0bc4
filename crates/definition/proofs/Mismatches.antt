-- The MilestoneMismatch findings of the whole list, by any taking rule: those of the visited ends that took none, in the order of visits, and then those of the visited starts that no end took, in opening order.
-- Assumes nothing.
use mathlib.Core.Path.{◌≡◌, refl, ap, ap₂, ◌∙◌}
use mathlib.Core.Bool.{Bool, true, false}
use mathlib.Core.List.{List, [], ◌∷◌, ◌++◌, append-nil}
use Rattle.std.specs.Prelude.{None}
use Prim.Native.Nat.{ℕ}
use lib.Dec.{eqb}
use Rattle.tape.specs.Forest.{Forest}
use Rattle.findings.specs.Finding.{Finding}
use Rattle.findings.specs.Codes.{milestone_mismatch, unclosed_start}
use Rattle.definition.specs.State.{Milestone, node_of, WalkState, initial, outside}
use Rattle.definition.specs.Checks.{error}
use Rattle.definition.specs.Milestones.{Fits, visits, marks_by, free_starts}
use Rattle.definition.specs.Document.{text_before, unclosed, closing, walked_by, running_by, findings_by, those, is_mismatch}
use Rattle.definition.proofs.EachFinding.{given-other, each-text, each-missing}
use Rattle.definition.proofs.Those.{those-append, those-none}
use Rattle.definition.proofs.Untaken.{alone, walk-matches, untaken-by}

-- a test that the finding of every unclosed start passes picks all of them
pub all-unclosed : (p : Finding → Bool) → ((x : Milestone) → p (error (node_of x) milestone_mismatch unclosed_start) ≡ true) → (xs : List Milestone) → those p (unclosed xs) ≡ unclosed xs
unfolding those unclosed
all-unclosed p h [] = refl
all-unclosed p h (x ∷ xs) = those-append p (unclosed xs) (error (node_of x) milestone_mismatch unclosed_start ∷ []) ∙ rw (h x) (ap (◌++ error (node_of x) milestone_mismatch unclosed_start ∷ []) (all-unclosed p h xs))

closing-mismatches : (st : WalkState) → those is_mismatch (closing st) ≡ unclosed st.open_starts
unfolding closing
closing-mismatches st =
    those-append is_mismatch (unclosed st.open_starts) _
    ∙ ap₂ ◌++◌ (all-unclosed is_mismatch (λ x. refl) st.open_starts) (those-none is_mismatch _ (each-missing (λ severity code form. eqb code milestone_mismatch ≡ false) given-other _ _))
    ∙ append-nil (unclosed st.open_starts)

pub mismatches-are : (fits : Fits) (table : List ℕ) (f : Forest) → those is_mismatch (findings_by fits table f) ≡ alone fits [] (visits table f) ++ unclosed (free_starts (marks_by fits (visits table f)))
unfolding free_starts
mismatches-are fits table f =
    let w = walked_by fits table f in
    those-append is_mismatch (running_by fits table f) (closing w.state)
    ∙ ap₂ ◌++◌
    (those-append is_mismatch (text_before f) w.findings
    ∙ ap₂ ◌++◌ (those-none is_mismatch (text_before f) (each-text (λ severity code form. eqb code milestone_mismatch ≡ false) given-other f)) (walk-matches fits table outside None f initial [] refl).mismatches)
    (closing-mismatches w.state ∙ ap unclosed (untaken-by fits table f))
