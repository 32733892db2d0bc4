-- `message_texts::put_capitals` meets its contract.
use Rattle.std.proofs.Common.{arith}
use Rattle.buffer.proofs.Writing.{writing_start, writing-done}
use Rattle.message_texts.proofs.Capitals.{length-upper, capitals-on}
use Rattle.message_texts.proofs.put_capitals.Goals as goal

pub loop-i-init : goal.loop-i-init
loop-i-init c = writing_start _ _ _

pub loop-i-preserved : goal.loop-i-preserved
loop-i-preserved c = capitals-on _ _ _ _ _ _ c.loop-i.invariant (omega arith) (omega arith) c.upper.ensures

pub returns : goal.returns
returns c =
    let e = length-upper c.args.s.now in
    record { list = writing-done _ _ _ _ _ c.loop-i.invariant (omega arith); end = omega arith }
