-- `attachment::attached_numbers` meets its contract.
use Rattle.cursor.proofs.InTurn.{At}
use Rattle.attachment.proofs.Steps.{Going}
use Rattle.attachment.proofs.attached_numbers.Given as goal

abbrev pub invariant-loop-i : goal.invariant-loop-i
invariant-loop-i l =
    (goal.iterator-loop-i).can_next l.i-iterator
    × (goal.iterator-loop-i).is_finite l.i-iterator
    × At l.doc.tape.now l.to (Going l.doc.source.now l.doc.tape.now l.kind l.from l.to l.found l.alt l.pubn) l.i-iterator
