-- `carried::is_border` meets its contract.
use Rattle.cursor.proofs.InTurn.{At}
use Rattle.carried.proofs.Along.{Along}
use Rattle.carried.proofs.is_border.Given as goal

abbrev pub invariant-loop-i : goal.invariant-loop-i
invariant-loop-i l =
    (goal.iterator-loop-i).can_next l.i-iterator
    × (goal.iterator-loop-i).is_finite l.i-iterator
    × At l.doc.tape.now l.end (λ i. Along l.doc.source.now l.doc.tape.now l.p i l.end) l.i-iterator
