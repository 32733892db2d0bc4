-- `milestones::nearest` meets its contract.
use Rattle.std.proofs.Common.{refl, sym, ◌∙◌, arith}
use Rattle.milestones.proofs.Search.{hit, miss, nowhere}
use Rattle.milestones.proofs.nearest.Goals as goal

pub returns-then-has_base : goal.returns-then-has_base
returns-then-has_base c = (refl, sym (c.loop-j.invariant.1 ∙ hit _ _ _ _ _ (omega arith) _ c.has_base.ensures c.if-has_base.true))

pub loop-j-preserved : goal.loop-j-preserved
loop-j-preserved c = (omega arith, c.loop-j.invariant.1 ∙ miss _ _ _ _ _ (omega arith) _ c.has_base.ensures c.if-has_base.false)

pub returns : goal.returns
returns c = (refl, sym (c.loop-j.invariant.1 ∙ nowhere _ _ _ _ _ (omega arith)))
