-- The letter of an expected verse is a byte of at most 127, and a label that is read isn't empty.
-- Assumes nothing.
use Prim.Native.Nat.{ℕ, suc, ◌≤◌}
use native.Mathlib.Omega.{arith}
use mathlib.Core.Path.{◌≡◌, refl}
use mathlib.Core.Bool.{Bool, true, false, not, false≢true}
use mathlib.Core.List.{List, [], ◌∷◌}
use Rattle.std.specs.Prelude.{Option, Some, None}
use lib.Dec.{eqb}
use borrow.Author.Tests.{ne_eqb}
use lib.ListN.{length, take, drop}
use Rattle.text.specs.Pick.{within, cut, pick}
use Rattle.text.specs.Characters.{find_byte, chars_past, bytes_before}
use Rattle.text.specs.Words.{trim_start}
use Rattle.text.specs.Number.{digits}
use Rattle.text.proofs.Rows.{within-hi}
use Rattle.numbers.specs.Verse.{Position, PartReading, position, no_digits, too_large, letter_of, with_letter, digits_end, part_of, verse_part, end_start, verse_end, next}
use Rattle.numbers.specs.Verse as verse
use Rattle.definition.specs.Checks.{letter_byte, breaks, end_or, expected_after}

-- a letter that is read is no higher than `z`
abbrev UpToZ : PartReading → Type 0
UpToZ (position p) = letter_byte p.letter ≤ 0x7A
UpToZ no_digits = Unit {0}
UpToZ too_large = Unit {0}

letter_low : (s : List ℕ) → letter_byte (letter_of s) ≤ 0x7A
letter_low [] = omega arith
letter_low (b ∷ s) = go (within 0x61 0x7A b) refl
  where
    go : (v : Bool) → within 0x61 0x7A b ≡ v → letter_byte (pick v (Some b) None) ≤ 0x7A
    go true h = within-hi 0x61 0x7A b h
    go false h = omega arith

start_low : (s : List ℕ) → UpToZ (verse_part s)
unfolding verse_part part_of
start_low s =
    let text = cut (trim_start s) s in
    go (eqb (digits_end text) 0) (digits (take (digits_end text) text)) (letter_of (drop (digits_end text) text)) (letter_low (drop (digits_end text) text))
  where
    go : (b : Bool) (o l : Option ℕ) → letter_byte l ≤ 0x7A → UpToZ (pick b no_digits (with_letter o l))
    go true o l h = tt
    go false None l h = tt
    go false (Some n) l h = h

end_low : (s : List ℕ) → UpToZ (verse_end s)
unfolding verse_end
end_low s = start_low (drop (end_start s) s)

end-or-low : (e : PartReading) (p : Position) → UpToZ e → UpToZ (position p) → UpToZ (position (end_or e p))
end-or-low (position e) p h k = h
end-or-low no_digits p h k = k
end-or-low too_large p h k = k

-- the letter after it
after-low : (p : Position) → UpToZ (position p) → letter_byte (next p).letter ≤ 127
unfolding next
after-low p h = go p.letter h
  where
    go : (l : Option ℕ) → letter_byte l ≤ 0x7A → letter_byte (verse.next_position p.number l).letter ≤ 127
    go None h = omega arith
    go (Some b) h = omega arith

-- the expected verse after a label
pub next_low : (label : List ℕ) (expected : Position) → letter_byte expected.letter ≤ 127 → letter_byte (expected_after (verse_part label) label expected).letter ≤ 127
next_low label expected h = go (verse_part label) (start_low label)
  where
    go : (r : PartReading) → UpToZ r → letter_byte (expected_after r label expected).letter ≤ 127
    go no_digits k = h
    go too_large k = h
    go (position p) k = after-low (end_or (verse_end label) p) (end-or-low (verse_end label) p (end_low label) k)

-- of an empty label nothing is read
pub breaks-some : (label : List ℕ) (expected : Position) → breaks (verse_part label) expected ≡ true → not (eqb (length label) 0) ≡ true
unfolding verse_part part_of trim_start digits find_byte chars_past bytes_before
breaks-some [] expected h = absurd (false≢true h)
breaks-some (b ∷ label) expected h = rw (ne_eqb (suc (length label)) 0 (omega arith))
