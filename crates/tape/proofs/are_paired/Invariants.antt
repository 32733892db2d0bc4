-- `tape::are_paired` meets its contract: the invariant is `Pairing`.
use Rattle.tape.specs.Nodes.{count}
use Rattle.tape.proofs.Settled.{Pairing}
use Rattle.tape.proofs.are_paired.Given as goal

abbrev pub invariant-loop-i : goal.invariant-loop-i
invariant-loop-i l = Pairing l.tape (count l.tape) l.root l.stack l.depth l.i
