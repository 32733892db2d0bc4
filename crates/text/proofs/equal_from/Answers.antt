-- `text::equal_from` meets its contract.
use mathlib.Core.Path.{sym, ◌∙◌}
use native.Mathlib.Omega.{arith}
use Rattle.text.proofs.Blocks.{equal-past, equal-stops, equal-ends}
use Rattle.text.proofs.equal_from.Goals as goal

pub returns-then-a-i : goal.returns-then-a-i
returns-then-a-i c =
    let l = c.loop-i in
    sym (l.invariant.1 ∙ equal-stops _ _ l.i (omega arith) (omega arith) c.if-a-i.true)

pub loop-i-preserved : goal.loop-i-preserved
loop-i-preserved c =
    let l = c.loop-i in
    (l.invariant.0, l.invariant.1 ∙ equal-past _ _ l.i (omega arith) (omega arith) c.if-a-i.false)

pub returns : goal.returns
returns c =
    let l = c.loop-i in
    sym (l.invariant.1 ∙ equal-ends _ _ l.i (omega arith) (omega arith))
