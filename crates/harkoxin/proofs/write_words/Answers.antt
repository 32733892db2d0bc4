-- `harkoxin::write_words` meets its contract.
use native.Mathlib.Omega.{arith}
use Rattle.buffer.proofs.Writing.{writing_start, writing-on, writing-done}
use Rattle.harkoxin.proofs.write_words.Goals as goal

pub loop-i-init : goal.loop-i-init
loop-i-init c = writing_start _ _ _

pub loop-i-preserved : goal.loop-i-preserved
loop-i-preserved c = writing-on _ _ _ _ _ c.loop-i.invariant (omega arith) (omega arith)

pub returns : goal.returns
returns c = writing-done _ _ _ _ _ c.loop-i.invariant (omega arith)
