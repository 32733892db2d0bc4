-- A text as its characters, and the places between them.
use Rattle.std.specs.Prelude.{ℕ, zero, suc, pred, ◌+◌, ◌-◌, Bool, not, ◌&&◌, ◌||◌, List, [], ◌∷◌, leb, eqb, length, get_or}
use Rattle.text.specs.Pick.{within, pick}
use Rattle.text.specs.declared.Decoded.{Decoded}
use Rattle.text.specs.Utf8.{decode}

-- the characters of a text whose first k bytes belong to a character that has begun
unfoldable pub chars_past : ℕ → List ℕ → List Decoded
chars_past k [] = []
chars_past (suc k) (b ∷ s) = chars_past k s
chars_past zero (b ∷ s) = decode (b ∷ s) ∷ chars_past (pred (decode (b ∷ s)).width) s

abbrev pub chars : List ℕ → List Decoded
chars s = chars_past 0 s

-- how many bytes the characters take that stand before the first whose code point passes the test; all of them where none does
unfoldable pub bytes_before : (ℕ → Bool) → List Decoded → ℕ
bytes_before p [] = 0
bytes_before p (c ∷ cs) = pick (p c.cp) 0 (c.width + bytes_before p cs)

-- the Rust's `find` of a character, with `unwrap_or(len)`
abbrev pub find : (ℕ → Bool) → List ℕ → ℕ
find p s = bytes_before p (chars s)

-- how many bytes stand before the first byte that passes the test; all of them where none does
unfoldable pub find_byte : (ℕ → Bool) → List ℕ → ℕ
find_byte p [] = 0
find_byte p (b ∷ s) = pick (p b) 0 (suc (find_byte p s))

-- the place lies between two characters, before the first or after the last: some first characters take just that many bytes
unfoldable pub between : List Decoded → ℕ → Bool
between [] at = eqb at 0
between (c ∷ cs) at = eqb at 0 || (leb c.width at && between cs (at - c.width))

-- the place is 0 or the text's end, or it lies inside and holds no further byte of a sequence (80 to BF)
abbrev pub is_boundary : List ℕ → ℕ → Bool
is_boundary s at = eqb at 0 || (eqb at (length s) || (leb at (length s) && not (within 0x80 0xBF (get_or s at 0))))
