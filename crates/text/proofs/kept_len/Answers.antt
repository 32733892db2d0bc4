-- `text::kept_len` meets its contract.
use Prim.Native.Nat.{◌-◌, ◌<◌}
use borrow.Author.Tests.{ltb-true}
use lib.ListN.{length, get_or}
use lib.Seq.{length-take-le}
use mathlib.Core.Path.{refl, sym, ap, ◌∙◌}
use native.Mathlib.Nat.{zero-add}
use native.Mathlib.Omega.{arith}
use Rattle.text.proofs.Kept.{ends-blank, ends-not-blank, kept-all, kept-none}
use Rattle.text.specs.Blank.{blank}
use Rattle.text.proofs.kept_len.Goals as goal

pub returns-then-not-is_blank : goal.returns-then-not-is_blank
returns-then-not-is_blank c =
    let v = c.loop-rest.invariant in
    let r = c.loop-rest.rest.now in
    let b = get_or r (length r - 1) 0 in
    let low : b < 0x80 = ltb-true b 0x80 (sym c.is_ascii.ensures ∙ c.if-not-is_ascii.false) in
    let y = ap blank (sym c.from.ensures) ∙ sym c.is_blank.ensures ∙ c.if-not-is_blank.true in
    record { is = sym (zero-add _ ∙ v.1 ∙ kept-all r ∙ ends-not-blank b low r (length r) (omega arith) (omega arith) refl y); inside = omega arith }

pub loop-rest-preserved : goal.loop-rest-preserved
loop-rest-preserved c =
    let v = c.loop-rest.invariant in
    let r = c.loop-rest.rest.now in
    let b = get_or r (length r - 1) 0 in
    let low : b < 0x80 = ltb-true b 0x80 (sym c.is_ascii.ensures ∙ c.if-not-is_ascii.false) in
    let y = ap blank (sym c.from.ensures) ∙ sym c.is_blank.ensures ∙ c.if-not-is_blank.false in
    (omega (arith, length-take-le (length r - 1) r (omega arith)), v.1 ∙ kept-all r ∙ ends-blank b low r (length r) (omega arith) (omega arith) refl y)

pub returns : goal.returns
returns c =
    let v = c.loop-rest.invariant in
    let r = c.loop-rest.rest.now in
    record { is = sym (zero-add _ ∙ v.1 ∙ kept-all r ∙ kept-none r (length r) (omega arith)); inside = omega arith }
