-- `attributes::validate_attributes` meets its contract.
use Rattle.cursor.proofs.InTurn.{At}
use Rattle.attributes.proofs.Whole.{Along}
use Rattle.attributes.proofs.validate_attributes.Given as goal

abbrev pub invariant-loop-i : goal.invariant-loop-i
invariant-loop-i l =
    (goal.iterator-loop-i).can_next l.i-iterator
    × (goal.iterator-loop-i).is_finite l.i-iterator
    × At l.doc.tape.now l.to (λ i. Along l.owner l.doc.source.now l.doc.tape.now l.from l.to l.initial.list l.initial.r i l.list l.r) l.i-iterator
