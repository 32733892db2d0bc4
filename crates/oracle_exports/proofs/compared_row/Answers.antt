-- `oracle_exports::compared_row` meets what it calls.
use Rattle.oracle_exports.proofs.Guards.{row_asked, row_total}
use Rattle.oracle_exports.proofs.compared_row.Goals as goal

pub validate_table_row-requires : goal.validate_table_row-requires
validate_table_row-requires c = row_asked _ _ _ _ c.in-Some.ensures

pub total_of-requires : goal.total_of-requires
total_of-requires c = row_total _ _ _ _ c.in-Some.ensures _ _ _ c.validate_table_row.ensures
