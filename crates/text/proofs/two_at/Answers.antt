-- `text::two_at` meets its contract.
use borrow.Author.Tests.{le-ltb}
use mathlib.Core.Path.{refl, sym, ◌∙◌}
use native.Mathlib.Omega.{arith}
use Rattle.text.proofs.Second.{not-two, two_bytes, two-short}
use Rattle.text.proofs.two_at.Goals as goal

pub returns-then-not-holds : goal.returns-then-not-holds
returns-then-not-holds c =
    let a = c.args in
    not-two a.s.now a.at (omega arith) (omega arith) (omega arith) (sym c.holds.ensures ∙ c.if-not-holds.true)

pub returns-then-s-at-gt1 : goal.returns-then-s-at-gt1
returns-then-s-at-gt1 c =
    let a = c.args in
    two_bytes a.s.now a.at (omega arith) (sym c.holds.ensures ∙ c.if-not-holds.false) (omega arith) ∙ rw c.holds-then-s-at-gt1.ensures refl

pub returns-else-s-at-gt1 : goal.returns-else-s-at-gt1
returns-else-s-at-gt1 c =
    let a = c.args in
    two-short a.s.now a.at (omega arith) (sym c.holds.ensures ∙ c.if-not-holds.false) (omega arith) ∙ rw (le-ltb 1 _ c.if-s-at-gt1.false) refl
