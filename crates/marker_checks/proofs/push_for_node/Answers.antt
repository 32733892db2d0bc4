-- `marker_checks::push_for_node` meets its contract.
use Rattle.definition.proofs.Givens.{only_none}
use Rattle.marker_checks.proofs.push_for_node.Goals as goal

pub returns-then-not-there : goal.returns-then-not-there
returns-then-not-there c = only_none c.args.there _ c.args.list.now c.args.c c.if-not-there.true
