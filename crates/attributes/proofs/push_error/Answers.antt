-- `attributes::push_error` meets its contract.
use Rattle.attributes.proofs.push_error.Goals as goal

pub returns : goal.returns
returns c = rw c.finding.ensures at c.push.ensures
