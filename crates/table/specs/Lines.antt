-- Document 01, "Lent lists": "Table: per marker three lines, each ended by byte 10, in this order: `name=` (1 to 16 ASCII letters, digits, hyphens), `category=` (identification, chapter, verse, paragraph, character, note, milestone, other), `role=` (content, excluded, boundary); at most 512 markers, the 513th's first line and a line without its byte 10 counting as bad".
-- Number 1: "The table text breaks its layout; place: first byte of the first bad line, or the text's length if a triple is unfinished."
use Rattle.std.specs.Prelude.{ℕ, zero, suc, ◌%◌, Bool, true, false, ◌&&◌, ◌||◌, List, [], ◌∷◌, eqb, ltb, length}
use Rattle.std.specs.Prelude.{Option, Some, None}
use Rattle.text.specs.Pick.{within, pick}
use Rattle.text.specs.Literal.{ascii}
use Rattle.text.specs.Bytes.{all, one_of, starting, beyond}

-- a line: the place of its first byte, what stands in it, and whether a byte 10 ends it
pub record Line : Type 0 where
  pub at : ℕ
  pub body : List ℕ
  pub ended : Bool

-- one more byte at the front of the first line
abbrev pub on_first : ℕ → ℕ → List Line → List Line
on_first at b [] = record { at = at; body = b ∷ []; ended = false } ∷ []
on_first at b (l ∷ ls) = record { at = at; body = b ∷ l.body; ended = l.ended } ∷ ls

-- one more byte in front of the lines: a byte 10 is a line of its own, any other byte goes on the first line
abbrev pub line_by : Bool → ℕ → ℕ → List Line → List Line
line_by true at b ls = record { at = at; body = []; ended = true } ∷ ls
line_by false at b ls = on_first at b ls

-- the lines of a text that stands at a place. A text that ends in byte 10 has no further line
unfoldable pub lines : ℕ → List ℕ → List Line
lines at [] = []
lines at (b ∷ s) = line_by (eqb b 10) at b (lines (suc at) s)

-- "name=", "category=", "role="
abbrev pub name_key : List ℕ
name_key = ascii "name="

abbrev pub category_key : List ℕ
category_key = ascii "category="

abbrev pub role_key : List ℕ
role_key = ascii "role="

-- identification, chapter, verse, paragraph, character, note, milestone, other
unfoldable pub categories : List (List ℕ)
categories =
    ascii "identification"
    ∷ ascii "chapter"
    ∷ ascii "verse"
    ∷ ascii "paragraph"
    ∷ ascii "character"
    ∷ ascii "note"
    ∷ ascii "milestone"
    ∷ ascii "other"
    ∷ []

-- content, excluded, boundary
unfoldable pub roles : List (List ℕ)
roles =
    ascii "content"
    ∷ ascii "excluded"
    ∷ ascii "boundary"
    ∷ []

-- an ASCII letter, a digit or a hyphen
abbrev pub name_byte : ℕ → Bool
name_byte b = within 65 90 b || (within 97 122 b || (within 48 57 b || eqb b 45))

abbrev pub good_name : List ℕ → Bool
good_name s = starting name_key s && (within 1 16 (length (beyond name_key s)) && all name_byte (beyond name_key s))

abbrev pub good_category : List ℕ → Bool
good_category s = starting category_key s && one_of categories (beyond category_key s)

abbrev pub good_role : List ℕ → Bool
good_role s = starting role_key s && one_of roles (beyond role_key s)

-- the first, the second and the third line of a marker
abbrev pub good_body : ℕ → List ℕ → Bool
good_body zero s = good_name s
good_body (suc zero) s = good_category s
good_body (suc (suc k)) s = good_role s

-- line number k, from 0: 512 markers have 1536 lines
abbrev pub good_line : ℕ → Line → Bool
good_line k l = ltb k 1536 && (l.ended && good_body (k % 3) l.body)

-- the place of the first bad line from line number k on; where there is none, the end of the text if a triple is unfinished
unfoldable pub bad_from : ℕ → ℕ → List Line → Option ℕ
bad_from end k [] = pick (eqb (k % 3) 0) None (Some end)
bad_from end k (l ∷ ls) = pick (good_line k l) (bad_from end (suc k) ls) (Some l.at)

-- number 1's place, or none
unfoldable pub bad_table : List ℕ → Option ℕ
bad_table t = bad_from (length t) 0 (lines 0 t)
