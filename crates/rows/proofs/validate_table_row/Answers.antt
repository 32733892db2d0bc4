-- `rows::validate_table_row` meets its contract.
use Rattle.findings.specs.Finding.{finding_of}
use Rattle.rows.specs.Cells.{range_of, cell_of}
use mathlib.Core.Path.{refl, sym, ap, ◌∙◌}
use Rattle.cursor.specs.InnerTurn.{left}
use Rattle.cursor.proofs.InTurn.{turn, last-turn}
use Rattle.findings.proofs.Overlay.{left-start}
use Rattle.rows.proofs.Cells.{skipped, fits, passed, done}
use Rattle.rows.proofs.validate_table_row.Goals as goal

pub loop-i-init : goal.loop-i-init
loop-i-init c =
    let e = c.into_iter-i-iterator.ensures.into_iter_gives in
    let p = c.requires in
    (rw e c.new-i-items.ensures.run, tt, record { at = c.args.from; items = ap left e ∙ c.new-i-items.ensures.items; fact = record { run = p.0; left = left-start _ _ _; room = p.1 } }, refl)

pub cell_at-requires : goal.cell_at-requires
cell_at-requires c = (turn (λ i g. g.run) c.loop-i.invariant.2 c.in-Some.ensures.steps).spanned

pub loop-i-preserved-in_default : goal.loop-i-preserved-in_default
loop-i-preserved-in_default c =
    let h = turn (λ i g. g.run) c.loop-i.invariant.2 c.in-Some.ensures.steps in
    (c.in-Some.ensures.goes.keeps, tt, record { at = _; items = h.rest; fact = skipped h.fact h.more _ (cell_of c.cell_at.result) refl c.cell_at.ensures (ap cell_of c.in_default.is) }, c.loop-i.invariant.3)

pub out_of_order-f-requires : goal.out_of_order-f-requires
out_of_order-f-requires c = (turn (λ i g. g.run) c.loop-i.invariant.2 c.in-Some.ensures.steps).spanned.inside

pub push_if-c-requires : goal.push_if-c-requires
push_if-c-requires c =
    let h = turn (λ i g. g.run) c.loop-i.invariant.2 c.in-Some.ensures.steps in
    fits h.fact h.more (range_of c.in-Some-cell_at.columns) (sym c.cell_at.ensures ∙ ap cell_of c.in-Some-cell_at.is) (finding_of c.out_of_order-f.result) c.out_of_order-f.ensures

pub loop-i-preserved : goal.loop-i-preserved
loop-i-preserved c =
    let h = turn (λ i g. g.run) c.loop-i.invariant.2 c.in-Some.ensures.steps in
    let next = passed h.fact h.more (range_of c.in-Some-cell_at.columns) (sym c.cell_at.ensures ∙ ap cell_of c.in-Some-cell_at.is) (finding_of c.out_of_order-f.result) c.out_of_order-f.ensures _ c.push_if-c.new.list c.push_if-c.result refl c.push_if-c.ensures in
    (c.in-Some.ensures.goes.keeps, tt, record { at = _; items = h.rest; fact = next }, c.push_if-c.auto.list ∙ c.loop-i.invariant.3)

pub returns : goal.returns
returns c =
    let p = c.loop-i.invariant.2 in
    done p.fact (last-turn (λ i g. g.run) p c.in-None.ensures.steps.0)
