-- `tally::clear` meets its contract.
use Rattle.std.proofs.Common.{rules}
use Rattle.tally.proofs.Counting.{cleared}
use Rattle.tally.proofs.clear.Goals as goal

pub returns : goal.returns
returns c = cleared _ _ _ c.min-n.ensures (search rules)
