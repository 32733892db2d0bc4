-- An answer that may be missing, as a number.
use Rattle.std.specs.Prelude.{ℕ, zero, suc, Bool, ◌&&◌, leb, ltb}
use Rattle.std.specs.Prelude.{Option, Some, None}
use Rattle.text.specs.Pick.{pick}
use Rattle.numbers.specs.Verse.{Position, PartReading, position, no_digits, too_large, next}
use Rattle.rows.specs.Cells.{ColumnRange}

-- the number, or another that stands for none
abbrev pub number_or : ℕ → Option ℕ → ℕ
number_or other (Some n) = n
number_or other None = other

-- the number of a position that is read, or one of two that stand for no digits and for too large; the byte of its letter or 0
abbrev pub number_word : PartReading → ℕ
number_word (position p) = p.number
number_word no_digits = 18446744073709551615
number_word too_large = 18446744073709551614

abbrev pub letter_word : PartReading → ℕ
letter_word (position p) = number_or 0 p.letter
letter_word no_digits = 0
letter_word too_large = 0

-- the position of a number and the byte of a letter, or 0 for none
abbrev pub position_from : ℕ → ℕ → Position
position_from n zero = record { number = n; letter = None }
position_from n (suc b) = record { number = n; letter = Some (suc b) }

-- the number is at most 4,294,967,296, which the number after one that is read can be
abbrev pub low : ℕ → Bool
low n = leb n 4294967296

-- the position after that of a number and a letter's byte, where a label can have that one and a letter has a byte after it; else itself
abbrev pub next_from : ℕ → ℕ → Position
next_from n b = pick (leb n 4294967295 && ltb b 255) (next (position_from n b)) (position_from n b)

-- the first and the last column of a cell
abbrev pub start_word : Option ColumnRange → ℕ
start_word (Some r) = r.start
start_word None = 4294967296

abbrev pub end_word : Option ColumnRange → ℕ
end_word (Some r) = r.end
end_word None = 4294967296
