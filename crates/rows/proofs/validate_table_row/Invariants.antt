-- `rows::validate_table_row` meets its contract.
use mathlib.Core.Path.{◌≡◌}
use lib.ListN.{length}
use Rattle.tape.specs.Forest.{forest}
use Rattle.rows.specs.Row.{row_findings}
use Rattle.cursor.proofs.InTurn.{At}
use Rattle.rows.proofs.Cells.{Going}
use Rattle.rows.proofs.validate_table_row.Given as goal

abbrev pub invariant-loop-i : goal.invariant-loop-i
invariant-loop-i l =
    (goal.iterator-loop-i).can_next l.i-iterator
    × (goal.iterator-loop-i).is_finite l.i-iterator
    × At l.doc.tape.now l.to (Going l.doc.source.now l.doc.tape.now l.to (row_findings (forest l.doc.source.now l.doc.tape.now l.from l.to)) l.initial.list l.initial.c l.list l.c l.expected) l.i-iterator
    × (length l.list ≡ length l.initial.list)
