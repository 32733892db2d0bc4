-- `text::digits` meets its contract.
use borrow.Author.Tests.{eqb-true, eqb-false}
use Prim.Native.Nat.{◌+◌, ◌-◌, ◌*◌}
use lib.ListN.{get_or}
use mathlib.Core.Path.{◌≡◌, sym, ◌∙◌}
use native.Mathlib.Omega.{arith}
use Rattle.text.proofs.Number.{too_large, past, stops, ends, no-digits, some-digits}
use Rattle.text.proofs.digits.Goals as goal

pub returns-then-is_empty : goal.returns-then-is_empty
returns-then-is_empty c =
    let e = eqb-true _ 0 (sym c.is_empty.ensures ∙ c.if-is_empty.true) in
    sym (no-digits c.args.s.now 0 (omega arith))

pub loop-b-init : goal.loop-b-init
loop-b-init c =
    let e = eqb-false _ 0 (sym c.is_empty.ensures ∙ c.if-is_empty.false) in
    (omega arith, some-digits c.args.s.now 0 (omega (arith, e)))

pub returns-then-not-is_ascii_digit : goal.returns-then-not-is_ascii_digit
returns-then-not-is_ascii_digit c =
    let l = c.loop-b in
    let d = c.is_ascii_digit.ensures.value in
    sym (l.invariant.1 ∙ stops l.n c.args.s.now l.b-index (omega arith) (sym d ∙ c.if-not-is_ascii_digit.true))

pub returns-in_err-checked_mul : goal.returns-in_err-checked_mul
returns-in_err-checked_mul c =
    let l = c.loop-b in
    let d = c.is_ascii_digit.ensures.value in
    c.from_residual.ensures ∙ sym (l.invariant.1 ∙ past l.n c.args.s.now l.b-index (omega arith) (sym d ∙ c.if-not-is_ascii_digit.false) ∙ too_large _ _ (omega (arith, c.in_err-checked_mul.ensures)))

pub returns-in_err-n : goal.returns-in_err-n
returns-in_err-n c =
    let l = c.loop-b in
    let d = c.is_ascii_digit.ensures.value in
    c.from_residual-in_err-n.ensures ∙ sym (l.invariant.1 ∙ past l.n c.args.s.now l.b-index (omega arith) (sym d ∙ c.if-not-is_ascii_digit.false) ∙ too_large _ _ (omega (arith, c.in_ok-checked_mul.ensures, c.from.ensures, c.in_err-n.ensures)))

pub loop-b-preserved : goal.loop-b-preserved
loop-b-preserved c =
    let l = c.loop-b in
    let d = c.is_ascii_digit.ensures.value in
    let n : c.in_ok-n.n ≡ l.n * 10 + (get_or c.args.s.now l.b-index 0 - 0x30) = omega (arith, c.in_ok-checked_mul.ensures, c.from.ensures, c.in_ok-n.ensures) in
    (omega (arith, c.in_ok-n.ensures), l.invariant.1 ∙ past l.n c.args.s.now l.b-index (omega arith) (sym d ∙ c.if-not-is_ascii_digit.false) ∙ rw n)

pub returns : goal.returns
returns c =
    let l = c.loop-b in
    sym (l.invariant.1 ∙ ends l.n c.args.s.now l.b-index (omega arith) (omega arith))
