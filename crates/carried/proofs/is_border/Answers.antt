-- `carried::is_border` meets its contract.
use native.Mathlib.Omega.{arith}
use mathlib.Core.Path.{refl, ap, ◌∙◌}
use Rattle.tape.proofs.OneNumber.{some-nodes}
use Rattle.cursor.specs.InnerTurn.{left}
use Rattle.cursor.proofs.InTurn.{turn, last-turn}
use Rattle.carried.proofs.Along.{along-top, along-next, along-here, along-end}
use Rattle.carried.proofs.is_border.Goals as goal

pub link_at-end-requires : goal.link_at-end-requires
link_at-end-requires c =
    let a = c.args in
    let n = some-nodes a.doc.source.now a.doc.tape.now c.requires.sized in
    omega arith

pub new-i-items-requires : goal.new-i-items-requires
new-i-items-requires c =
    let a = c.args in
    let top = along-top a.doc.source.now a.doc.tape.now a.p c.requires c.link_at-end.result c.link_at-end.ensures in
    record { source = a.doc.source.now; run = top.run }

pub loop-i-init : goal.loop-i-init
loop-i-init c =
    let e = c.into_iter-i-iterator.ensures.into_iter_gives in
    let a = c.args in
    let top = along-top a.doc.source.now a.doc.tape.now a.p c.requires c.link_at-end.result c.link_at-end.ensures in
    (rw e c.new-i-items.ensures.run, tt, record { at = 1; items = ap left e ∙ c.new-i-items.ensures.items; fact = top })

pub returns-then-p-i : goal.returns-then-p-i
returns-then-p-i c =
    let a = c.args in
    let h = turn (λ i l. l.run) c.loop-i.invariant.2 c.in-Some.ensures.steps in
    along-here a.doc.source.now a.doc.tape.now a.p h.fact h.more (omega arith)

pub loop-i-preserved : goal.loop-i-preserved
loop-i-preserved c =
    let a = c.args in
    let h = turn (λ i l. l.run) c.loop-i.invariant.2 c.in-Some.ensures.steps in
    (c.in-Some.ensures.goes.keeps, tt, record { at = _; items = h.rest; fact = along-next a.doc.source.now a.doc.tape.now a.p h.fact h.more (omega arith) _ refl })

pub returns : goal.returns
returns c =
    let a = c.args in
    let p = c.loop-i.invariant.2 in
    along-end a.doc.source.now a.doc.tape.now a.p p.fact (last-turn (λ i l. l.run) p c.in-None.ensures.steps.0)
