-- `text::kept_forward` meets its contract. The invariant: what is kept of the first i bytes, and what is kept of the rest, give what is kept of all.
use borrow.Author.Tests.{not-true, not-false}
use mathlib.Core.Path.{sym, ap, ◌∙◌}
use native.Mathlib.Nat.{zero-add}
use native.Mathlib.Omega.{arith}
use Rattle.text.proofs.Chars.{in-text}
use Rattle.text.proofs.Kept.{kept-blank, kept-not-blank, kept-end, kept-start}
use Rattle.text.specs.Blank.{blank}
use Rattle.text.specs.declared.Decoded.{Decoded}
use Rattle.text.proofs.kept_forward.Goals as goal

pub loop-i-init : goal.loop-i-init
loop-i-init c = (omega arith, omega arith, kept-start _)

pub overflow_add-i : goal.overflow_add-i
overflow_add-i c =
    let s = c.args.s.now in
    let w = ap (λ (d : Decoded). d.width) c.decode_in-d.ensures in
    omega (arith, in-text s c.loop-i.i (omega arith), w)

pub loop-i-smaller-then-not-is_blank : goal.loop-i-smaller-then-not-is_blank
loop-i-smaller-then-not-is_blank c =
    let s = c.args.s.now in
    let w = ap (λ (d : Decoded). d.width) c.decode_in-d.ensures in
    omega (arith, in-text s c.loop-i.i (omega arith), w)

pub loop-i-preserved-then-not-is_blank : goal.loop-i-preserved-then-not-is_blank
loop-i-preserved-then-not-is_blank c =
    let s = c.args.s.now in
    let l = c.loop-i in
    let d = c.decode_in-d in
    let w = ap (λ (d : Decoded). d.width) d.ensures in
    let t = in-text s l.i (omega arith) in
    let y = ap (λ (d : Decoded). blank d.cp) (sym d.ensures) ∙ sym c.is_blank.ensures ∙ not-true _ c.if-not-is_blank.true-raw in
    (omega arith, omega (arith, t, w), l.invariant.2 ∙ kept-not-blank s l.end l.i d.result.width (omega arith) w (omega (arith, t, w)) y)

pub loop-i-smaller : goal.loop-i-smaller
loop-i-smaller c =
    let s = c.args.s.now in
    let w = ap (λ (d : Decoded). d.width) c.decode_in-d.ensures in
    omega (arith, in-text s c.loop-i.i (omega arith), w)

pub loop-i-preserved : goal.loop-i-preserved
loop-i-preserved c =
    let s = c.args.s.now in
    let l = c.loop-i in
    let d = c.decode_in-d in
    let w = ap (λ (d : Decoded). d.width) d.ensures in
    let t = in-text s l.i (omega arith) in
    let y = ap (λ (d : Decoded). blank d.cp) (sym d.ensures) ∙ sym c.is_blank.ensures ∙ not-false _ c.if-not-is_blank.false-raw in
    (omega arith, omega (arith, t, w), l.invariant.2 ∙ kept-blank s l.end l.i d.result.width (omega arith) w y)

pub returns : goal.returns
returns c =
    let s = c.args.s.now in
    let l = c.loop-i in
    record { is = sym (zero-add _ ∙ l.invariant.2 ∙ kept-end s l.end l.i (omega arith)); inside = omega arith }
