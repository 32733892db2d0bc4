-- UTF-8 by Table 3-7 of the Unicode Standard, row by row, and the place of the first ill-formed sequence of a text.
use Rattle.std.specs.Prelude.{ℕ, zero, suc, ◌+◌, ◌*◌, ◌%◌, ◌<◌, ◌≡◌, Bool, true, false, ◌&&◌, length, get_or, take, drop}
use mathlib.Core.List.{List, [], ◌∷◌, ◌++◌, Memᴰ}
use Rattle.std.specs.Prelude.{Option, Some, None}
use Rattle.text.specs.Pick.{Range, range, within, pick}
use Rattle.text.specs.declared.Decoded.{Decoded}

-- Table 3-7, "Well-Formed UTF-8 Byte Sequences": a row has a range for each byte of the sequence
unfoldable pub table3_7 : List (List Range)
table3_7 =
    (range 0x00 0x7F ∷ [])
    ∷ (range 0xC2 0xDF ∷ range 0x80 0xBF ∷ [])
    ∷ (range 0xE0 0xE0 ∷ range 0xA0 0xBF ∷ range 0x80 0xBF ∷ [])
    ∷ (range 0xE1 0xEC ∷ range 0x80 0xBF ∷ range 0x80 0xBF ∷ [])
    ∷ (range 0xED 0xED ∷ range 0x80 0x9F ∷ range 0x80 0xBF ∷ [])
    ∷ (range 0xEE 0xEF ∷ range 0x80 0xBF ∷ range 0x80 0xBF ∷ [])
    ∷ (range 0xF0 0xF0 ∷ range 0x90 0xBF ∷ range 0x80 0xBF ∷ range 0x80 0xBF ∷ [])
    ∷ (range 0xF1 0xF3 ∷ range 0x80 0xBF ∷ range 0x80 0xBF ∷ range 0x80 0xBF ∷ [])
    ∷ (range 0xF4 0xF4 ∷ range 0x80 0x8F ∷ range 0x80 0xBF ∷ range 0x80 0xBF ∷ [])
    ∷ []

-- the list begins with a byte of each range, in their order
unfoldable pub begins : List Range → List ℕ → Bool
begins [] s = true
begins (r ∷ rs) [] = false
begins (r ∷ rs) (b ∷ s) = within r.lo r.hi b && begins rs s

-- how long the sequence is that the list begins with, by the first of the rows that it fits; 0 where it fits none
unfoldable pub width_by : List (List Range) → List ℕ → ℕ
width_by [] s = 0
width_by (row ∷ rows) s = pick (begins row s) (length row) (width_by rows s)

unfoldable pub width_of : List ℕ → ℕ
width_of s = width_by table3_7 s

-- the place of the first ill-formed sequence. From the first byte of a sequence with this width: 0 is no row of the table; else the scan goes on and skips the other bytes
unfoldable pub after_width : ℕ → ℕ → (ℕ → Option ℕ) → Option ℕ
after_width zero at rest = Some at
after_width (suc k) at rest = rest k

-- the list stands at a place of the text, and its first k bytes belong to a sequence that has begun
unfoldable pub scan : List ℕ → ℕ → ℕ → Option ℕ
scan [] k at = None
scan (b ∷ s) (suc k) at = scan s k (suc at)
scan (b ∷ s) zero at = after_width (width_of (b ∷ s)) at (λ k. scan s k (suc at))

-- document 01, number 3: "The source isn't UTF-8; place: first byte of the first ill-formed sequence"
unfoldable pub first_ill_formed : List ℕ → Option ℕ
first_ill_formed s = scan s 0 0

-- the bytes are those of a row, no more and no fewer
abbrev pub fits : List Range → List ℕ → Bool
fits [] [] = true
fits [] (b ∷ s) = false
fits (r ∷ rs) [] = false
fits (r ∷ rs) (b ∷ s) = within r.lo r.hi b && fits rs s

-- the text is made of sequences that are rows of the table (the Unicode Standard, D85 to D92)
pub data Made : List ℕ → Type 0 where
  nothing : Made []
  more : (row : List Range) (a : List ℕ) {s l : List ℕ} → Memᴰ row table3_7 → fits row a ≡ true → Made s → l ≡ a ++ s → Made l

-- what stands before the place is made of rows of the table, and no row of it begins there
pub record FirstIllFormed (s : List ℕ) (at : ℕ) : Type 0 where
  pub inside : at < length s
  pub before : Made (take at s)
  pub none_begins : (row : List Range) → Memᴰ row table3_7 → begins row (drop at s) ≡ false

-- U+FFFD, of one byte
abbrev pub replacement : Decoded
replacement = record { cp = 0xFFFD; width = 1 }

-- the code point of a sequence of the width, by the low bits of its bytes (Table 3-6)
unfoldable pub decoded : ℕ → List ℕ → Decoded
decoded zero l = replacement
decoded (suc zero) l = record { cp = get_or l 0 0; width = 1 }
decoded (suc (suc zero)) l = record { cp = get_or l 0 0 % 32 * 64 + get_or l 1 0 % 64; width = 2 }
decoded (suc (suc (suc zero))) l = record { cp = get_or l 0 0 % 16 * 4096 + get_or l 1 0 % 64 * 64 + get_or l 2 0 % 64; width = 3 }
decoded (suc (suc (suc (suc k)))) l = record { cp = get_or l 0 0 % 8 * 262144 + get_or l 1 0 % 64 * 4096 + get_or l 2 0 % 64 * 64 + get_or l 3 0 % 64; width = 4 }

-- the code point that the list begins with, and its width. A byte that begins no row of the table counts as U+FFFD; past the end there is nothing, of width 0
unfoldable pub decode : List ℕ → Decoded
decode [] = record { cp = 0xFFFD; width = 0 }
decode (b ∷ s) = decoded (width_of (b ∷ s)) (b ∷ s)
