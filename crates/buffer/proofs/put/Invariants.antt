-- `buffer::put` meets its contract.
use Rattle.buffer.proofs.Writing.{Writing}
use Rattle.buffer.proofs.put.Given as goal

abbrev pub invariant-loop-i : goal.invariant-loop-i
invariant-loop-i l = Writing l.s l.initial.out l.at l.out l.i
