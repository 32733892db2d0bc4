-- `chapter_verse::is_seen` meets its contract. The invariant: the words that are left have the number exactly if all have it.
use Prim.Native.Nat.{ℕ, ◌+◌, ◌-◌}
use native.Mathlib.Omega.{arith}
use mathlib.Core.Path.{◌≡◌, refl, sym, ap, ◌∙◌}
use mathlib.Core.Bool.{Bool, true, false, ◌||◌}
use Rattle.attachment.specs.Attached.{among}
use Rattle.state.specs.Inner.{latest}
use Rattle.chapter_verse.proofs.is_seen.Goals as goal

pub loop-i-init : goal.loop-i-init
loop-i-init c = (c.requires, refl)

pub is_in_block-requires : goal.is_in_block-requires
is_in_block-requires c = omega arith

pub returns-then-is_in_block : goal.returns-then-is_in_block
returns-then-is_in_block c =
    let block : (r : Bool) → c.is_in_block.result ≡ r → (r || among c.args.num (latest c.args.seen.now (c.loop-i.i - 16))) ≡ among c.args.num (latest c.args.seen.now c.args.k) = λ r h. let a = c.args in let l = c.loop-i in let e : l.i - 16 + 16 ≡ l.i = omega (arith, c.loop-i-test.true) in ap (λ (x : Bool). (x || among a.num (latest a.seen.now (l.i - 16)))) (sym h) ∙ c.is_in_block.ensures ∙ ap (λ (i : ℕ). among a.num (latest a.seen.now i)) e ∙ l.invariant.1 in
    block true c.if-is_in_block.true

pub loop-i-smaller : goal.loop-i-smaller
loop-i-smaller c = omega arith

pub loop-i-preserved : goal.loop-i-preserved
loop-i-preserved c =
    let block : (r : Bool) → c.is_in_block.result ≡ r → (r || among c.args.num (latest c.args.seen.now (c.loop-i.i - 16))) ≡ among c.args.num (latest c.args.seen.now c.args.k) = λ r h. let a = c.args in let l = c.loop-i in let e : l.i - 16 + 16 ≡ l.i = omega (arith, c.loop-i-test.true) in ap (λ (x : Bool). (x || among a.num (latest a.seen.now (l.i - 16)))) (sym h) ∙ c.is_in_block.ensures ∙ ap (λ (i : ℕ). among a.num (latest a.seen.now i)) e ∙ l.invariant.1 in
    (omega (arith, c.loop-i.invariant.0), block false c.if-is_in_block.false)

pub returns : goal.returns
returns c = c.is_among_few.ensures ∙ c.loop-i.invariant.1
