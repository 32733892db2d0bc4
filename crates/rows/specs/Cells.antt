-- Document 01, module 6: "`table_cell_columns`".
use Rattle.std.specs.Prelude.{ℕ, ◌+◌, Bool, ◌||◌, List, eqb, ltb, length, get_or, take, drop}
use Rattle.std.specs.Prelude.{Option, Some, None}
use Rattle.text.specs.Pick.{pick}
use Rattle.text.specs.Characters.{find_byte}
use Rattle.text.specs.Number.{parsed}
use Rattle.rows.specs.declared.Columns.{Columns}
use Rattle.text.specs.Literal.{ascii}
use Rattle.text.specs.Bytes.{starting}

-- the columns of a cell, first and last
pub record ColumnRange : Type 0 where
  pub start : ℕ
  pub end : ℕ

-- `th` or `tc`, which begin a cell's name
abbrev pub is_cell : List ℕ → Bool
is_cell name = starting (ascii "th") name || starting (ascii "tc") name

-- `thr`, `thc`, `tcr` and `tcc`: the third byte
abbrev pub is_aligned : List ℕ → Bool
is_aligned name = eqb (get_or name 2 0) 0x72 || eqb (get_or name 2 0) 0x63

-- what stands after the name's letters
abbrev pub after_letters : List ℕ → List ℕ
after_letters name = drop (pick (is_aligned name) 3 2) name

abbrev pub pair : Option ℕ → Option ℕ → Option ColumnRange
pair None b = None
pair (Some a) None = None
pair (Some a) (Some b) = Some (record { start = a; end = b })

-- where the first `-` stands, or the length
abbrev pub hyphen : List ℕ → ℕ
hyphen s = find_byte (eqb 0x2D) s

-- "`tc1`→(1,1), `tcr1-2`→(1,2)"
unfoldable pub columns_in : List ℕ → Option ColumnRange
columns_in s = pick (ltb (hyphen s) (length s)) (pair (parsed (take (hyphen s) s)) (parsed (drop (hyphen s + 1) s))) (pair (parsed s) (parsed s))

-- "`None` if it isn't a numbered table cell"
unfoldable pub cell_columns : List ℕ → Option ColumnRange
cell_columns name = pick (is_cell name) (columns_in (after_letters name)) None

-- what the answer says
abbrev pub range_of : Columns → ColumnRange
range_of c = record { start = c.start; end = c.end }

abbrev pub cell_of : Option Columns → Option ColumnRange
cell_of (Some c) = Some (range_of c)
cell_of None = None
