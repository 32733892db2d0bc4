-- The findings of unclosed starts are those of the document's list with code 16 and form 0, in order; demand 3's second half over the lists.
-- Assumes nothing.
use Prim.Native.Nat.{ℕ}
use mathlib.Core.Path.{◌≡◌, refl, sym, ap, ap₂, ◌∙◌}
use mathlib.Core.Bool.{Bool, true, false, not, ◌&&◌}
use mathlib.Core.List.{List, [], ◌∷◌, ◌++◌}
use Rattle.std.specs.Prelude.{None}
use lib.Dec.{eqb, ltb}
use Rattle.tape.specs.Nodes.{link_at}
use Rattle.tape.specs.Forest.{Forest, top}
use Rattle.tape.specs.Alike.{BeginAlike}
use Rattle.findings.specs.Finding.{Finding}
use Rattle.findings.specs.Codes.{milestone_mismatch, unclosed_start, end_alone}
use Rattle.findings.specs.Written.{only}
use Rattle.definition.specs.State.{Milestone, node_of}
use Rattle.definition.specs.Checks.{error}
use Rattle.definition.specs.Milestones.{pairing, is_start, waits, visits, Mark, with_visit_by, marks, free_starts, taken_from}
use Rattle.definition.specs.Document.{unclosed, findings, unclosed_of, those, is_unclosed, is_mismatch}
use Rattle.definition.specs.Outcome.{Lent, refusal, list_of}
use Rattle.definition.proofs.Those.{those-append, those-both}
use Rattle.definition.proofs.Untaken.{alone, open-starts-are-untaken}
use Rattle.definition.proofs.Mismatches.{all-unclosed, mismatches-are}
use Rattle.definition.proofs.Demand3.{longer-open-starts}

-- "0 unclosed start"
abbrev is_of_start : Finding → Bool
is_of_start f = eqb f.form unclosed_start

-- the finding of an end has another form
alone-other : (ms : List Mark) (xs : List Milestone) → those is_of_start (alone pairing ms xs) ≡ []
unfolding those alone
alone-other ms [] = refl
alone-other ms (x ∷ xs) = test (not (is_start (node_of x)) && not (waits x (free_starts ms))) (alone-other (with_visit_by pairing x ms) xs)
  where
    test : (b : Bool) → those is_of_start (alone pairing (with_visit_by pairing x ms) xs) ≡ [] → those is_of_start (only b (error (node_of x) milestone_mismatch end_alone) ++ alone pairing (with_visit_by pairing x ms) xs) ≡ []
    test true h = h
    test false h = h

-- "A visited start that no end takes is unclosed, and its finding is a MilestoneMismatch of form 0 with its node."
pub unclosed-listed : (table : List ℕ) (f : Forest) → those is_unclosed (findings table f) ≡ unclosed_of table f
unclosed-listed table f =
    those-both is_mismatch is_of_start (findings table f)
    ∙ ap (those is_of_start) (mismatches-are pairing table f)
    ∙ those-append is_of_start (alone pairing [] (visits table f)) _
    ∙ ap₂ ◌++◌ (alone-other [] (visits table f)) (all-unclosed is_of_start (λ x. refl) _)
    ∙ ap unclosed (sym (open-starts-are-untaken table f))

module _ (l l' : Lent) (same-table : l.table ≡ l'.table) (short : refusal l ≡ None) (long : refusal l' ≡ None) (alike : BeginAlike l.source l.tape l'.source l'.tape) where
  pub longer-unclosed : those (λ e. is_unclosed e && ltb e.node (link_at l.tape 0)) (list_of l') ≡ those (λ e. is_unclosed e && not (taken_from (link_at l.tape 0) e.node (marks (visits l'.table (top l'.source l'.tape))))) (list_of l)
  longer-unclosed =
      those-both is_unclosed (λ e. ltb e.node (link_at l.tape 0)) (list_of l')
      ∙ ap (those (λ e. ltb e.node (link_at l.tape 0))) (unclosed-listed l'.table (top l'.source l'.tape))
      ∙ longer-open-starts l l' same-table short long alike
      ∙ ap (those (λ e. not (taken_from (link_at l.tape 0) e.node (marks (visits l'.table (top l'.source l'.tape)))))) (sym (unclosed-listed l.table (top l.source l.tape)))
      ∙ sym (those-both is_unclosed (λ e. not (taken_from (link_at l.tape 0) e.node (marks (visits l'.table (top l'.source l'.tape))))) (list_of l))
