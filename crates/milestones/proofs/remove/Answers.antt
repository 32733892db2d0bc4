-- `milestones::remove` meets its contract.
use Rattle.std.proofs.Common.{arith}
use Rattle.milestones.proofs.Moves.{moving-start, moving-turn, moving-end}
use Rattle.milestones.proofs.remove.Goals as goal

pub loop-i-init : goal.loop-i-init
loop-i-init c = moving-start _ _ _ (omega arith) (omega arith)

pub loop-i-preserved : goal.loop-i-preserved
loop-i-preserved c = moving-turn _ _ _ _ _ c.loop-i.invariant c.loop-i-test.true

pub returns : goal.returns
returns c = moving-end _ _ _ _ _ c.loop-i.invariant c.loop-i-test.false
