-- `text::equal` meets its contract.
use mathlib.Core.Path.{sym}
use Rattle.text.proofs.Blocks.{equal-apart}
use Rattle.text.proofs.equal.Goals as goal

pub returns-then-a-b : goal.returns-then-a-b
returns-then-a-b c = sym (equal-apart _ _ c.if-a-b.true)
