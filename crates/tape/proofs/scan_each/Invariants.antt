-- `tape::scan_each` meets its contract: the invariant is `Going`.
use Rattle.tape.proofs.Whole.{Going}
use Rattle.tape.proofs.scan_each.Given as goal

abbrev pub invariant-loop-i : goal.invariant-loop-i
invariant-loop-i l = Going l.source l.tape l.n l.root l.stack l.span l.taken l.reading l.i
