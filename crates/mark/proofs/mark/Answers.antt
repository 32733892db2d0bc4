-- `mark::mark` meets its contract.
use Rattle.mark.proofs.Marks.{refused_over, refused_none, marked-as}
use Rattle.mark.proofs.mark.Goals as goal

pub returns-then-is_over : goal.returns-then-is_over
returns-then-is_over c = rw c.at.ensures (refused_over _ _ _ _ c.is_over.ensures c.if-is_over.true)

pub returns-then-verses-eq0 : goal.returns-then-verses-eq0
returns-then-verses-eq0 c = rw c.at-then-verses-eq0.ensures (refused_none _ _ _ _ c.is_over.ensures c.if-is_over.false c.if-verses-eq0.true)

pub returns : goal.returns
returns c = marked-as _ _ _ _ c.is_over.ensures c.if-is_over.false c.if-verses-eq0.false _ c.saturating_sub.ensures
