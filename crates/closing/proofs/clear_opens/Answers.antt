-- `closing::clear_opens` meets its contract.
use Rattle.std.proofs.Common.{rules}
use Rattle.closing.proofs.Zeroed.{cleared_by}
use Rattle.closing.proofs.clear_opens.Goals as goal

pub returns : goal.returns
returns c = cleared_by _ _ _ _ (search rules)
