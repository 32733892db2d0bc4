-- `Writer::put_line` meets its contract.
use Rattle.listing.proofs.Lines.{line-written}
use Rattle.listing.proofs.Writer.put_line.Goals as goal

pub returns-clause-written : goal.returns-clause-written
returns-clause-written c = line-written c.put.ensures.written c.put-2.ensures.written c.put-3.ensures.written c.put-4.ensures.written
