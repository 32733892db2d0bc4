-- `Writer::put_count` meets its contract.
use Rattle.std.proofs.Common.{arith}
use Rattle.buffer.proofs.Decimal.{decimal-length}
use Rattle.listing.proofs.Lines.{line-written, line-near}
use Rattle.listing.proofs.Writer.put_count.Goals as goal

pub put-requires-3 : goal.put-requires-3
put-requires-3 c =
    let few = decimal-length c.args.n (omega arith) in
    (omega arith, omega arith)

pub returns-clause-near : goal.returns-clause-near
returns-clause-near c =
    let few = decimal-length c.args.n (omega arith) in
    line-near 22 _ _ (line-written c.put.ensures.written c.put-2.ensures.written c.put_decimal.ensures.written c.put-3.ensures.written) c.requires.1 (omega (arith, few))
