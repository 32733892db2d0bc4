-- `rows::table_cell_columns` meets its contract.
use Rattle.rows.proofs.Reading.{cell-long, no_cell, is-cell, cell-by}
use Rattle.rows.proofs.table_cell_columns.Goals as goal

pub returns-then-not-is_cell : goal.returns-then-not-is_cell
returns-then-not-is_cell c = no_cell c.args.name.now _ c.is_cell.ensures c.if-not-is_cell.true-raw

pub after_letters-requires : goal.after_letters-requires
after_letters-requires c =
    let s = c.args.name.now in
    cell-long s (is-cell s _ c.is_cell.ensures c.if-not-is_cell.false-raw)

pub returns : goal.returns
returns c =
    let e = c in
    cell-by e.args.name.now _ e.is_cell.ensures c.after_letters.result.now _ e.if-not-is_cell.false-raw c.after_letters.ensures c.columns_in.ensures
