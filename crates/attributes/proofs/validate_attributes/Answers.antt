-- `attributes::validate_attributes` meets its contract.
use mathlib.Core.Path.{ap, ◌∙◌}
use Rattle.cursor.specs.InnerTurn.{left}
use Rattle.cursor.proofs.InTurn.{turn, last-turn}
use Rattle.attributes.proofs.Whole.{along-start, along-end, along-room, along-next}
use Rattle.attributes.proofs.validate_attributes.Goals as goal

pub loop-i-init : goal.loop-i-init
loop-i-init c =
    let e = c.into_iter-i-iterator.ensures.into_iter_gives in
    let a = c.args in
    (rw e c.new-i-items.ensures.run, tt, record { at = a.from; items = ap left e ∙ c.new-i-items.ensures.items; fact = along-start a.owner a.doc.source.now a.doc.tape.now a.from a.to a.list.now a.c c.requires.0 c.requires.2 })

pub attribute_at-r-requires : goal.attribute_at-r-requires
attribute_at-r-requires c =
    let a = c.args in
    let h = turn (λ i g. g.run) c.loop-i.invariant.2 c.in-Some.ensures.steps in
    (h.spanned, c.requires.1, along-room a.owner a.doc.source.now a.doc.tape.now h.fact h.more)

pub loop-i-preserved : goal.loop-i-preserved
loop-i-preserved c =
    let a = c.args in
    let h = turn (λ i g. g.run) c.loop-i.invariant.2 c.in-Some.ensures.steps in
    (c.in-Some.ensures.goes.keeps, tt, record { at = _; items = h.rest; fact = along-next a.owner a.doc.source.now a.doc.tape.now h.fact h.more c.attribute_at-r.auto.list c.attribute_at-r.ensures })

pub returns : goal.returns
returns c =
    let a = c.args in
    let p = c.loop-i.invariant.2 in
    along-end a.owner a.doc.source.now a.doc.tape.now p.fact (last-turn (λ i g. g.run) p c.in-None.ensures.steps.0)
