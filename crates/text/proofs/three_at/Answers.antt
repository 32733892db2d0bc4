-- `text::three_at` meets its contract: the first three bytes decide.
use borrow.Author.Tests.{le-ltb}
use mathlib.Core.Path.{refl, ◌∙◌}
use native.Mathlib.Omega.{arith}
use Rattle.text.proofs.Second.{three-bytes, three-short}
use Rattle.text.proofs.three_at.Goals as goal

pub returns-else-s-at-gt2 : goal.returns-else-s-at-gt2
returns-else-s-at-gt2 c = let a = c.args in three-short a.s.now a.at (omega arith) (omega arith) (omega arith) (omega arith) ∙ rw (le-ltb 2 _ c.if-s-at-gt2.false) refl

pub returns-then-s-at-gt2 : goal.returns-then-s-at-gt2
returns-then-s-at-gt2 c =
    let a = c.args in
    three-bytes a.s.now a.at (omega arith) (omega arith) (omega arith) (omega arith) ∙ rw c.rows_of_three.ensures refl
