-- `text::equal_long` meets its contract. The invariant: the last eight bytes are the same, and what is left of the two lists is equal exactly if they are.
use Prim.Native.Nat.{◌+◌, ◌-◌}
use borrow.Author.Tests.{not-true, not-false}
use lib.ListN.{length, drop}
use mathlib.Core.Bool.{Bool, true, false, ◌&&◌}
use mathlib.Core.Path.{◌≡◌, refl, sym, ◌∙◌}
use native.Mathlib.Omega.{arith}
use Rattle.text.proofs.Blocks.{block, ending, ends-apart, ends_same}
use Rattle.text.specs.Bytes.{equal}
use Rattle.text.proofs.equal_long.Goals as goal

pub equal_8-requires : goal.equal_8-requires
equal_8-requires c = (omega arith, omega arith)

pub returns-then-not-equal_8 : goal.returns-then-not-equal_8
returns-then-not-equal_8 c =
    let told : (t : Bool) → c.equal_8.result ≡ t → equal (drop (length c.args.a.now - 8) c.args.a.now) (drop (length c.args.a.now - 8) c.args.b.now) ≡ t = λ t e. let s = c in let a = s.args.a.now in sym (ending a s.args.b.now (length a - 8) s.requires.0 (omega (arith, s.requires.1))) ∙ rw (← c.equal_8.ensures) e in
    let s = c in
    sym (ends-apart s.args.a.now s.args.b.now (length s.args.a.now - 8) s.requires.0 (omega arith) (told false (not-true _ c.if-not-equal_8.true-raw)))

pub loop-i-init : goal.loop-i-init
loop-i-init c =
    let told : (t : Bool) → c.equal_8.result ≡ t → equal (drop (length c.args.a.now - 8) c.args.a.now) (drop (length c.args.a.now - 8) c.args.b.now) ≡ t = λ t e. let s = c in let a = s.args.a.now in sym (ending a s.args.b.now (length a - 8) s.requires.0 (omega (arith, s.requires.1))) ∙ rw (← c.equal_8.ensures) e in
    let p = c.requires in
    (p.0, omega (arith, p.1), omega arith, told true (not-false _ c.if-not-equal_8.false-raw), refl)

pub equal_8-requires-in-loop-i : goal.equal_8-requires-in-loop-i
equal_8-requires-in-loop-i c = (omega arith, omega arith)

pub returns-then-not-equal_8-2 : goal.returns-then-not-equal_8-2
returns-then-not-equal_8-2 c =
    let past : (t : Bool) → c.equal_8-in-loop-i.result ≡ t → equal c.args.a.now c.args.b.now ≡ (t && equal (drop (c.loop-i.i + 8) c.args.a.now) (drop (c.loop-i.i + 8) c.args.b.now)) = λ t e. let l = c.loop-i in l.invariant.4 ∙ block _ _ l.i 8 l.invariant.0 (omega (arith, l.invariant.1)) ∙ rw (← c.equal_8-in-loop-i.ensures, e) in
    sym (past false (not-true _ c.if-not-equal_8-2.true-raw))

pub loop-i-preserved : goal.loop-i-preserved
loop-i-preserved c =
    let past : (t : Bool) → c.equal_8-in-loop-i.result ≡ t → equal c.args.a.now c.args.b.now ≡ (t && equal (drop (c.loop-i.i + 8) c.args.a.now) (drop (c.loop-i.i + 8) c.args.b.now)) = λ t e. let l = c.loop-i in l.invariant.4 ∙ block _ _ l.i 8 l.invariant.0 (omega (arith, l.invariant.1)) ∙ rw (← c.equal_8-in-loop-i.ensures, e) in
    let v = c.loop-i.invariant in
    (v.0, v.1, omega (arith, v.1), v.3, past true (not-false _ c.if-not-equal_8-2.false-raw))

pub returns : goal.returns
returns c =
    let l = c.loop-i in
    let s = c in
    sym (l.invariant.4 ∙ ends_same s.args.a.now s.args.b.now (length s.args.a.now - 8) l.invariant.0 l.i (omega arith) l.invariant.2 l.invariant.3)
