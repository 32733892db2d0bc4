-- `cursor::name_end` meets its contract, as the search for a blank does.
use Prim.Native.Nat.{◌≤◌, ◌+◌}
use lib.ListN.{length, drop, get_or}
use mathlib.Core.Bool.{Bool}
use mathlib.Core.Path.{◌≡◌, refl, sym, ap, ◌∙◌}
use native.Mathlib.Omega.{arith}
use Rattle.cursor.specs.Names.{ends_name}
use Rattle.text.proofs.Chars.{tested-by, past, stops, ends, in-text}
use Rattle.text.proofs.Find.{past_ascii}
use Rattle.text.proofs.Rows.{within-lo, within-hi}
use Rattle.text.proofs.Scan.{within_text}
use Rattle.text.specs.Pick.{pick}
use Rattle.text.specs.Utf8.{width_of, decode}
use Rattle.text.specs.declared.Decoded.{Decoded}
use Rattle.cursor.proofs.Named.{three-past}
use Rattle.cursor.proofs.name_end.Goals as goal

pub loop-i-init : goal.loop-i-init
loop-i-init c = (omega arith, refl)

pub loop-i-preserved-then-is_plain : goal.loop-i-preserved-then-is_plain
loop-i-preserved-then-is_plain c =
    let s = c.args.s.now in
    let l = c.loop-i in
    let p = c.is_plain.ensures c.if-is_plain.true in
    (omega arith, l.invariant.1 ∙ past_ascii ends_name s l.i (omega arith) p.ascii p.goes_on)

pub three_at-requires : goal.three_at-requires
three_at-requires c =
    let b = get_or c.args.s.now c.loop-i.i 0 in
    let e = sym c.holds.ensures ∙ c.if-holds.true in
    record { inside = omega arith; low = omega (arith, within-lo 0xE4 0xEC b e); high = omega (arith, within-hi 0xE4 0xEC b e) }

pub overflow_add-i-then-three_at : goal.overflow_add-i-then-three_at
overflow_add-i-then-three_at c =
    let three-wide : width_of (drop c.loop-i.i c.args.s.now) ≡ 3 = c.three_at.ensures ∙ ap (λ (t : Bool). pick t 3 0) c.if-three_at.true in
    let three-inside : c.loop-i.i + 3 ≤ length c.args.s.now = omega (arith, three-wide, within_text c.args.s.now c.loop-i.i (omega arith)) in
    omega (arith, three-inside)

pub loop-i-smaller-then-three_at : goal.loop-i-smaller-then-three_at
loop-i-smaller-then-three_at c =
    let three-wide : width_of (drop c.loop-i.i c.args.s.now) ≡ 3 = c.three_at.ensures ∙ ap (λ (t : Bool). pick t 3 0) c.if-three_at.true in
    let three-inside : c.loop-i.i + 3 ≤ length c.args.s.now = omega (arith, three-wide, within_text c.args.s.now c.loop-i.i (omega arith)) in
    omega (arith, three-inside)

pub loop-i-preserved-then-three_at : goal.loop-i-preserved-then-three_at
loop-i-preserved-then-three_at c =
    let three-wide : width_of (drop c.loop-i.i c.args.s.now) ≡ 3 = c.three_at.ensures ∙ ap (λ (t : Bool). pick t 3 0) c.if-three_at.true in
    let three-inside : c.loop-i.i + 3 ≤ length c.args.s.now = omega (arith, three-wide, within_text c.args.s.now c.loop-i.i (omega arith)) in
    let l = c.loop-i in
    let e = sym c.holds.ensures ∙ c.if-holds.true in
    (three-inside, l.invariant.1 ∙ three-past c.args.s.now l.i (omega arith) e three-wide)

pub returns-then-ends_name : goal.returns-then-ends_name
returns-then-ends_name c =
    let l = c.loop-i in
    let x = c.ends_name in
    let y = tested-by ends_name c.args.s.now l.i c.decode_at-d.result x.result _ c.decode_at-d.ensures x.ensures c.if-ends_name.true in
    record { is = sym (l.invariant.1 ∙ stops ends_name c.args.s.now l.i (omega arith) y); inside = omega arith }

pub overflow_add-i-in-loop-i : goal.overflow_add-i-in-loop-i
overflow_add-i-in-loop-i c =
    let wide : c.decode_at-d.result.width ≡ (decode (drop c.loop-i.i c.args.s.now)).width = ap (λ (x : Decoded). x.width) c.decode_at-d.ensures in
    omega (arith, in-text c.args.s.now c.loop-i.i (omega arith), wide)

pub loop-i-smaller : goal.loop-i-smaller
loop-i-smaller c =
    let wide : c.decode_at-d.result.width ≡ (decode (drop c.loop-i.i c.args.s.now)).width = ap (λ (x : Decoded). x.width) c.decode_at-d.ensures in
    omega (arith, in-text c.args.s.now c.loop-i.i (omega arith), wide)

pub loop-i-preserved : goal.loop-i-preserved
loop-i-preserved c =
    let wide : c.decode_at-d.result.width ≡ (decode (drop c.loop-i.i c.args.s.now)).width = ap (λ (x : Decoded). x.width) c.decode_at-d.ensures in
    let l = c.loop-i in
    let x = c.ends_name in
    let y = tested-by ends_name c.args.s.now l.i c.decode_at-d.result x.result _ c.decode_at-d.ensures x.ensures c.if-ends_name.false in
    (omega (arith, in-text c.args.s.now l.i (omega arith), wide), l.invariant.1 ∙ past ends_name c.args.s.now l.i c.decode_at-d.result.width (omega arith) wide y)

pub returns : goal.returns
returns c =
    let l = c.loop-i in
    record { is = sym (l.invariant.1 ∙ ends ends_name c.args.s.now l.i (omega arith)); inside = omega arith }
