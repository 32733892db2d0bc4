-- `text::width_at` meets its contract: the first byte says how long a sequence may be.
use mathlib.Core.Bool.{Bool}
use mathlib.Core.Path.{sym, ap, ◌∙◌}
use native.Mathlib.Omega.{arith}
use Rattle.text.proofs.Scan.{ascii-one}
use Rattle.text.specs.Pick.{pick}
use Rattle.text.proofs.width_at.Goals as goal

pub returns-then-b-lt128 : goal.returns-then-b-lt128
returns-then-b-lt128 c =
    let a = c.args in
    sym (ascii-one a.s.now a.at (omega arith) (omega arith))

pub two_at-requires : goal.two_at-requires
two_at-requires c = record { inside = omega arith; low = omega arith; high = omega arith }

pub returns-then-two_at : goal.returns-then-two_at
returns-then-two_at c = sym (c.two_at.ensures ∙ ap (λ (t : Bool). pick t 2 0) c.if-two_at.true)

pub returns-else-two_at : goal.returns-else-two_at
returns-else-two_at c = sym (c.two_at.ensures ∙ ap (λ (t : Bool). pick t 2 0) c.if-two_at.false)

pub returns-then-three_at : goal.returns-then-three_at
returns-then-three_at c = sym (c.three_at.ensures ∙ ap (λ (t : Bool). pick t 3 0) c.if-three_at.true)

pub returns-else-three_at : goal.returns-else-three_at
returns-else-three_at c = sym (c.three_at.ensures ∙ ap (λ (t : Bool). pick t 3 0) c.if-three_at.false)

pub four_at-requires : goal.four_at-requires
four_at-requires c =
    let a = c.args in
    let byte = c.type_inv.s a.at in
    record { inside = omega arith; low = omega arith; high = omega (arith, byte) }

pub returns-then-four_at : goal.returns-then-four_at
returns-then-four_at c = sym (c.four_at.ensures ∙ ap (λ (t : Bool). pick t 4 0) c.if-four_at.true)

pub returns-else-four_at : goal.returns-else-four_at
returns-else-four_at c = sym (c.four_at.ensures ∙ ap (λ (t : Bool). pick t 4 0) c.if-four_at.false)
