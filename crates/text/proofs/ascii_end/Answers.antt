-- `text::ascii_end` meets its contract. The invariant: what is passed is ASCII.
use mathlib.Core.Path.{refl}
use native.Mathlib.Omega.{arith}
use Rattle.text.proofs.Ascii.{none, joined}
use Rattle.text.proofs.ascii_end.Goals as goal

pub loop-i-init : goal.loop-i-init
loop-i-init c = (refl, omega arith, omega arith, none c.args.s.now _)

pub overflow_sub-n : goal.overflow_sub-n
overflow_sub-n c = omega arith

pub high16-requires : goal.high16-requires
high16-requires c = omega arith

pub ascii_of_16-requires : goal.ascii_of_16-requires
ascii_of_16-requires c = omega arith

pub overflow_add-result : goal.overflow_add-result
overflow_add-result c = omega (arith, c.ascii_of_16.ensures.0)

pub returns-then-high16-ne0 : goal.returns-then-high16-ne0
returns-then-high16-ne0 c =
    let a = c.args in
    let l = c.loop-i in
    let e = c.ascii_of_16.ensures in
    (omega (arith, l.invariant.1), omega (arith, e.0), joined a.s.now a.from l.i _ l.invariant.3 e.1)

pub overflow_add-i : goal.overflow_add-i
overflow_add-i c = omega arith

pub loop-i-smaller : goal.loop-i-smaller
loop-i-smaller c = omega arith

pub loop-i-preserved : goal.loop-i-preserved
loop-i-preserved c =
    let a = c.args in
    let l = c.loop-i in
    (refl, omega arith, omega arith, joined a.s.now a.from l.i _ l.invariant.3 (c.high16.ensures c.if-high16-ne0.false))

pub returns : goal.returns
returns c =
    let a = c.args in
    let l = c.loop-i in
    let e = c.ascii_rest.ensures in
    (omega (arith, l.invariant.1, e.0), e.1, joined a.s.now a.from l.i _ l.invariant.3 e.2)
