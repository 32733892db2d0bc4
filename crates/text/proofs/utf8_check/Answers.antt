-- `text::utf8_check` meets its contract. The invariant: what the text gives is what the scan gives from the place on.
use mathlib.Core.Path.{refl, sym, ◌∙◌}
use native.Mathlib.Omega.{arith}
use Rattle.text.proofs.Scan.{stops, ends}
use Rattle.text.specs.Utf8.{first_ill_formed}
use Rattle.text.proofs.utf8_check.Goals as goal

pub loop-i-init : goal.loop-i-init
unfolding first_ill_formed
loop-i-init c = (refl, omega arith, refl)

pub returns-then-w-eq0 : goal.returns-then-w-eq0
returns-then-w-eq0 c =
    let s = c.args.s.now in
    let l = c.loop-i in
    sym (l.invariant.2 ∙ stops s l.i (omega arith) (c.passed-w.ensures.none c.if-w-eq0.true))

pub overflow_add-i : goal.overflow_add-i
overflow_add-i c = omega (arith, c.passed-w.ensures.inside)

pub loop-i-smaller : goal.loop-i-smaller
loop-i-smaller c = omega (arith, c.passed-w.ensures.inside)

pub loop-i-preserved : goal.loop-i-preserved
loop-i-preserved c =
    let l = c.loop-i in
    let p = c.passed-w.ensures in
    (refl, p.inside, l.invariant.2 ∙ p.some (omega arith))

pub returns : goal.returns
returns c =
    let s = c.args.s.now in
    let l = c.loop-i in
    sym (l.invariant.2 ∙ ends s l.i (omega arith))
