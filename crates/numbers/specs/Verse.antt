-- Document 01, module 4: "A verse position is a number with a letter or none."
use Rattle.std.specs.Prelude.{ℕ, ◌+◌, ◌≤◌, Bool, true, false, not, ◌&&◌, List, [], ◌∷◌, ◌≡◌, leb, eqb, ltb, length, take, drop}
use Rattle.std.specs.Prelude.{Option, Some, None, Result, Ok, Err}
use Rattle.text.specs.Pick.{within, cut, pick}
use Rattle.text.specs.Characters.{find_byte}
use Rattle.text.specs.Words.{trim_start}
use Rattle.text.specs.Number.{digit, digits}
use Rattle.numbers.specs.declared.Suffix.{Suffix}
use Rattle.numbers.specs.declared.Suffix.TheVariants as suffix
use Rattle.numbers.specs.declared.VersePart.{VersePart}
use Rattle.numbers.specs.declared.Unread.{Unread}
use Rattle.numbers.specs.declared.Unread.TheVariants as unread

pub record Position : Type 0 where
  pub number : ℕ
  pub letter : Option ℕ

-- "then one ASCII lower-case letter if next"
abbrev pub letter_of : List ℕ → Option ℕ
letter_of [] = None
letter_of (b ∷ s) = pick (within 0x61 0x7A b) (Some b) None

-- Document 02, K6: "The part reading shall answer three ways: read, no digits, too large."
pub data PartReading : Type 0 where
  position : Position → PartReading
  no_digits : PartReading
  too_large : PartReading

-- digits whose value is no u32 are too large
abbrev pub with_letter : Option ℕ → Option ℕ → PartReading
with_letter None l = too_large
with_letter (Some n) l = position (record { number = n; letter = l })

-- where the digits end that the text begins with
abbrev pub digits_end : List ℕ → ℕ
digits_end s = find_byte (λ b. not (digit b)) s

-- "digits, then one ASCII lower-case letter if next; without a digit, or with a value over 4,294,967,295, it is not read"
unfoldable pub part_of : List ℕ → PartReading
part_of s = pick (eqb (digits_end s) 0) no_digits (with_letter (digits (take (digits_end s) s)) (letter_of (drop (digits_end s) s)))

-- "A part: skip blanks"
unfoldable pub verse_part : List ℕ → PartReading
verse_part s = part_of (cut (trim_start s) s)

-- the byte after the first `-`, or the start
abbrev pub end_start : List ℕ → ℕ
end_start s = pick (ltb (find_byte (eqb 0x2D) s) (length s)) (find_byte (eqb 0x2D) s + 1) 0

-- "The end is read after the first `-`, else the start serves."
unfoldable pub verse_end : List ℕ → PartReading
verse_end s = verse_part (drop (end_start s) s)

abbrev pub next_position : ℕ → Option ℕ → Position
next_position n None = record { number = n + 1; letter = None }
next_position n (Some b) = record { number = n; letter = Some (b + 1) }

-- "Next: number + 1, or the letter's byte + 1."
unfoldable pub next : Position → Position
next p = next_position p.number p.letter

-- "no letter before any letter": the second stands no earlier than the first
abbrev pub no_earlier : Option ℕ → Option ℕ → Bool
no_earlier None l = true
no_earlier (Some a) None = false
no_earlier (Some a) (Some b) = leb a b

-- the numbers differ: "After `9a`, `10` may follow; after `9`, a lettered `9a` may"
abbrev pub other_number : Option ℕ → ℕ → Option ℕ → ℕ → Bool
other_number (Some a) e l n = eqb n (e + 1)
other_number None e None n = false
other_number None e (Some b) n = leb 1 n && eqb (n + 1) e

-- "Sequence as `is_valid_verse_sequence`": the expected position, and the one that stands there
unfoldable pub in_sequence : Position → Position → Bool
in_sequence e a = pick (eqb a.number e.number) (no_earlier e.letter a.letter) (other_number e.letter e.number a.letter a.number)

-- what the code's values say
abbrev pub suffix_of : Suffix → Option ℕ
suffix_of (suffix.Letter b) = Some b
suffix_of suffix.None = None

abbrev pub position_of : VersePart → Position
position_of p = record { number = p.num; letter = suffix_of p.suffix }

abbrev pub read_of : Result VersePart Unread → PartReading
read_of (Ok p) = position (position_of p)
read_of (Err unread.NoDigits) = no_digits
read_of (Err unread.TooLarge) = too_large

-- the letter is a byte that has another after it
abbrev pub is_letter_low : Option ℕ → Bool
is_letter_low None = true
is_letter_low (Some b) = ltb b 255

-- a position that a label can have: what `next_expected` requires
pub record Readable (p : Position) : Type 0 where
  pub number_low : p.number ≤ 4294967295
  pub letter_low : is_letter_low p.letter ≡ true
