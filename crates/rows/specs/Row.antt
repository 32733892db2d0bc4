-- Document 01, module 6: "a cell without columns is skipped and the expected column kept; afterwards expected = end + 1."
use Rattle.std.specs.Prelude.{ℕ, ◌+◌, not, List, [], ◌++◌, eqb}
use Rattle.std.specs.Prelude.{Option, Some, None}
use Rattle.tape.specs.Nodes.{Node, is_open}
use Rattle.tape.specs.Forest.{Forest, end, leaf, node}
use Rattle.cursor.specs.Names.{name_of}
use Rattle.findings.specs.Finding.{Finding, error_severity}
use Rattle.findings.specs.Written.{only}
use Rattle.rows.specs.Cells.{ColumnRange, cell_columns}
use Rattle.text.specs.Pick.{pick}
use Rattle.findings.specs.Codes.{invalid_table_column_sequence}

-- InvalidTableColumnSequence: "expected, found"
abbrev pub out_of_order : Node → ℕ → ℕ → Finding
out_of_order x expected found =
    record {
      severity = error_severity;
      code = invalid_table_column_sequence;
      start = x.start;
      len = x.len;
      node = x.number;
      form = 0;
      first = expected;
      second = found;
    }

-- the columns of a node: of a marker, by its name as written
abbrev pub cell_in : Node → Option ColumnRange
cell_in x = pick (is_open x.kind) (cell_columns (name_of x.text)) None

-- what is found of a cell, and of the cells after it, by the column that is expected there
abbrev pub by_columns : Option ColumnRange → Node → ℕ → (ℕ → List Finding) → List Finding
by_columns None x expected after = after expected
by_columns (Some r) x expected after = only (not (eqb r.start expected)) (out_of_order x expected r.start) ++ after (r.end + 1)

-- the children of a row
unfoldable pub row_from : ℕ → Forest → List Finding
row_from expected end = []
row_from expected (leaf x r) = by_columns (cell_in x) x expected (λ e. row_from e r)
row_from expected (node x c r) = by_columns (cell_in x) x expected (λ e. row_from e r)

abbrev pub row_findings : Forest → List Finding
row_findings f = row_from 1 f
