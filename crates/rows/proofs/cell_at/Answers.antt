-- `rows::cell_at` meets its contract.
use Rattle.rows.proofs.Cells.{no-open, opened}
use Rattle.rows.proofs.cell_at.Goals as goal

pub returns-then-kind_at-ne-MARKER_OPEN : goal.returns-then-kind_at-ne-MARKER_OPEN
returns-then-kind_at-ne-MARKER_OPEN c = let a = c.args in no-open a.doc.source.now a.doc.tape.now a.i _ c.kind_at.ensures c.if-kind_at-ne-MARKER_OPEN.true

pub returns : goal.returns
returns c =
    let a = c.args in
    opened a.doc.source.now a.doc.tape.now a.i _ c.kind_at.ensures c.marker_name.result.now _ c.if-kind_at-ne-MARKER_OPEN.false c.marker_name.ensures c.table_cell_columns.ensures
