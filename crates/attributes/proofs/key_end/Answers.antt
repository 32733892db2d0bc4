-- `attributes::key_end` meets its contract.
use Prim.Native.Nat.{◌<◌, ◌≤◌, ◌+◌}
use lib.ListN.{length, get_or, drop, length-drop}
use mathlib.Core.Bool.{Bool}
use mathlib.Core.Path.{◌≡◌, refl, sym, ap, ◌∙◌}
use native.Mathlib.Omega.{arith}
use Rattle.attributes.specs.Inner.{ends_key}
use Rattle.text.proofs.Chars.{tested-by, past, stops, ends, in-text}
use Rattle.text.proofs.Rows.{within-lo, within-hi, width-le}
use Rattle.text.specs.Pick.{pick}
use Rattle.text.specs.Utf8.{width_of}
use Rattle.text.specs.declared.Decoded.{Decoded}
use Rattle.attributes.proofs.Keys.{letter-past, two_past}
use Rattle.attributes.proofs.key_end.Goals as goal

pub loop-i-init : goal.loop-i-init
loop-i-init c = (omega arith, refl)

pub loop-i-preserved-then-holds : goal.loop-i-preserved-then-holds
loop-i-preserved-then-holds c =
    let l = c.loop-i in
    (omega arith, l.invariant.1 ∙ letter-past c.args.s.now l.i (omega arith) (sym c.holds.ensures ∙ c.if-holds.true))

pub two_at-requires : goal.two_at-requires
two_at-requires c =
    let s = c.args.s.now in
    let i = c.loop-i.i in
    let e = sym c.holds-in-loop-i.ensures ∙ c.if-holds-2.true in
    record { inside = omega arith; low = omega (arith, within-lo 0xC3 0xDF (get_or s i 0) e); high = omega (arith, within-hi 0xC3 0xDF (get_or s i 0) e) }

pub overflow_add-i-then-two_at : goal.overflow_add-i-then-two_at
overflow_add-i-then-two_at c =
    let two-wide : width_of (drop c.loop-i.i c.args.s.now) ≡ 2 = c.two_at.ensures ∙ ap (λ (t : Bool). pick t 2 0) c.if-two_at.true in
    let two-inside : c.loop-i.i + 2 ≤ length c.args.s.now = let l = drop c.loop-i.i c.args.s.now in omega (arith, two-wide, width-le l, length-drop c.loop-i.i c.args.s.now) in
    let t = two-inside in omega (arith, t)

pub loop-i-smaller-then-two_at : goal.loop-i-smaller-then-two_at
loop-i-smaller-then-two_at c =
    let two-wide : width_of (drop c.loop-i.i c.args.s.now) ≡ 2 = c.two_at.ensures ∙ ap (λ (t : Bool). pick t 2 0) c.if-two_at.true in
    let two-inside : c.loop-i.i + 2 ≤ length c.args.s.now = let l = drop c.loop-i.i c.args.s.now in omega (arith, two-wide, width-le l, length-drop c.loop-i.i c.args.s.now) in
    let t = two-inside in omega (arith, t)

pub loop-i-preserved-then-two_at : goal.loop-i-preserved-then-two_at
loop-i-preserved-then-two_at c =
    let two-wide : width_of (drop c.loop-i.i c.args.s.now) ≡ 2 = c.two_at.ensures ∙ ap (λ (t : Bool). pick t 2 0) c.if-two_at.true in
    let two-inside : c.loop-i.i + 2 ≤ length c.args.s.now = let l = drop c.loop-i.i c.args.s.now in omega (arith, two-wide, width-le l, length-drop c.loop-i.i c.args.s.now) in
    let l = c.loop-i in
    let e = sym c.holds-in-loop-i.ensures ∙ c.if-holds-2.true in
    (two-inside, l.invariant.1 ∙ two_past c.args.s.now l.i (omega arith) e two-wide)

pub returns-then-ends_key : goal.returns-then-ends_key
returns-then-ends_key c =
    let s = c.args.s.now in
    let l = c.loop-i in
    let d = c.decode_at-d in
    let x = c.ends_key in
    let y = tested-by ends_key s l.i d.result x.result _ d.ensures x.ensures c.if-ends_key.true in
    record { is = sym (l.invariant.1 ∙ stops ends_key s l.i (omega arith) y); inside = omega arith }

pub overflow_add-i-in-loop-i : goal.overflow_add-i-in-loop-i
overflow_add-i-in-loop-i c =
    let within_text : (0 < c.decode_at-d.result.width) × (c.loop-i.i + c.decode_at-d.result.width ≤ length c.args.s.now) = let s = c.args.s.now in let i = c.loop-i.i in let w = ap (λ (d : Decoded). d.width) c.decode_at-d.ensures in let t = in-text s i (omega arith) in (omega (arith, t.0, w), omega (arith, t.1, w)) in
    let t = within_text in omega (arith, t.1)

pub loop-i-smaller : goal.loop-i-smaller
loop-i-smaller c =
    let within_text : (0 < c.decode_at-d.result.width) × (c.loop-i.i + c.decode_at-d.result.width ≤ length c.args.s.now) = let s = c.args.s.now in let i = c.loop-i.i in let w = ap (λ (d : Decoded). d.width) c.decode_at-d.ensures in let t = in-text s i (omega arith) in (omega (arith, t.0, w), omega (arith, t.1, w)) in
    let t = within_text in omega (arith, t.0, t.1)

pub loop-i-preserved : goal.loop-i-preserved
loop-i-preserved c =
    let within_text : (0 < c.decode_at-d.result.width) × (c.loop-i.i + c.decode_at-d.result.width ≤ length c.args.s.now) = let s = c.args.s.now in let i = c.loop-i.i in let w = ap (λ (d : Decoded). d.width) c.decode_at-d.ensures in let t = in-text s i (omega arith) in (omega (arith, t.0, w), omega (arith, t.1, w)) in
    let s = c.args.s.now in
    let l = c.loop-i in
    let d = c.decode_at-d in
    let x = c.ends_key in
    let y = tested-by ends_key s l.i d.result x.result _ d.ensures x.ensures c.if-ends_key.false in
    (within_text.1, l.invariant.1 ∙ past ends_key s l.i d.result.width (omega arith) (ap (λ (d : Decoded). d.width) d.ensures) y)

pub returns : goal.returns
returns c =
    let l = c.loop-i in
    record { is = sym (l.invariant.1 ∙ ends ends_key c.args.s.now l.i (omega arith)); inside = omega arith }
