-- `text::four_at` meets its contract: the first four bytes decide.
use borrow.Author.Tests.{le-ltb}
use mathlib.Core.Path.{refl, ◌∙◌}
use native.Mathlib.Omega.{arith}
use Rattle.text.proofs.Second.{four_bytes, four-short}
use Rattle.text.proofs.four_at.Goals as goal

pub returns-else-s-at-gt3 : goal.returns-else-s-at-gt3
returns-else-s-at-gt3 c = let a = c.args in four-short a.s.now a.at (omega arith) (omega arith) (omega arith) ∙ rw (le-ltb 3 _ c.if-s-at-gt3.false) refl

pub returns-then-s-at-gt3 : goal.returns-then-s-at-gt3
returns-then-s-at-gt3 c =
    let a = c.args in
    four_bytes a.s.now a.at (omega arith) (omega arith) (omega arith) ∙ rw c.rows_of_four.ensures refl
