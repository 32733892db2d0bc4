-- `harkoxin::write_words` meets its contract.
use Rattle.buffer.proofs.Writing.{Writing}
use Rattle.harkoxin.proofs.write_words.Given as goal

abbrev pub invariant-loop-i : goal.invariant-loop-i
invariant-loop-i l = Writing l.words l.initial.out l.at l.out l.i
