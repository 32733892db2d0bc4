-- `attributes::push_empty` meets its contract.
use Rattle.attributes.proofs.push_empty.Goals as goal

pub push_if-requires : goal.push_if-requires
push_if-requires c = rw c.finding-info.ensures c.requires

pub returns : goal.returns
returns c = rw c.finding-info.ensures at c.push_if.ensures
