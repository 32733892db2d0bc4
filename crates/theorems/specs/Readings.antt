-- Document 02, K6: "The part reading shall answer three ways: read, no digits, too large." What each answer says of a part whose blanks are skipped.
use Rattle.std.specs.Prelude.{ℕ, ◌<◌, ◌≤◌, ◌≡◌, List, take, drop}
use Rattle.text.specs.Number.{value_from}
use Rattle.numbers.specs.Verse.{PartReading, position, no_digits, too_large, letter_of, digits_end}

-- the number that the digits make with which the text begins
abbrev pub leading_number : List ℕ → ℕ
leading_number s = value_from 0 (take (digits_end s) s)

-- the three exclude each other
abbrev pub ReadingIs : List ℕ → PartReading → Type 0
ReadingIs s (position p) = (0 < digits_end s) × (leading_number s ≤ 4294967295) × (p.number ≡ leading_number s) × (p.letter ≡ letter_of (drop (digits_end s) s))
ReadingIs s no_digits = digits_end s ≡ 0
ReadingIs s too_large = (0 < digits_end s) × (4294967295 < leading_number s)
