-- `oracle_exports::holds_run` meets its contract: the root of an accepted tape holds a run.
use Rattle.std.proofs.Common.{sym, ◌∙◌}
use Rattle.oracle_exports.proofs.Guards.{holds_root}
use Rattle.oracle_exports.proofs.holds_run.Goals as goal

pub returns-then-i-eq0 : goal.returns-then-i-eq0
returns-then-i-eq0 c = λ e. holds_root _ _ _ c.if-i-eq0.true (sym c.accepted.ensures ∙ e)
