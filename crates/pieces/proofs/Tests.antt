-- The tests of bytes and characters, as the code takes them.
-- Assumes nothing.
use Prim.Native.Nat.{ℕ, zero, suc, ◌+◌, ◌<◌, ◌≤◌}
use mathlib.Core.Path.{◌≡◌, refl}
use mathlib.Core.Bool.{true, false}
use mathlib.Core.List.{List, [], ◌∷◌}
use native.Mathlib.Decide.{dec_lt}
use native.Mathlib.Omega.{arith}
use borrow.Author.Tests.{ne_eqb, le-ltb}
use lib.Dec.{eqb, ltb}
use lib.ListN.{length, get_or, drop, get_or-eq_default}
use Rattle.text.specs.Pick.{within}
use Rattle.text.specs.Blank.{blank}
use Rattle.text.specs.Characters.{find}
use Rattle.text.specs.Utf8.{decode}
use Rattle.text.proofs.Blank.{ascii-not-blank}
use Rattle.text.proofs.Chars.{past, stops}
use Rattle.text.proofs.Find.{past_ascii, stops-ascii, low-decode, high-decode}
use Rattle.text.proofs.Rows.{place, within-lo, within-hi}
use Rattle.reader_spec.specs.Pieces.{backslash, byte_is, ends_word}

-- a byte at a place of the list, and past its end
same_byte : (l : List ℕ) (k : ℕ) → k < length l → get_or l k 0 ≡ get_or l k 256
same_byte [] k h = absurd (omega arith)
same_byte (x ∷ l) zero h = refl
same_byte (x ∷ l) (suc k) h = same_byte l k (omega arith)

pub byte-in : (b : ℕ) (l : List ℕ) (k : ℕ) → k < length l → eqb (get_or l k 0) b ≡ byte_is b l k
byte-in b l k h = rw (same_byte l k h)

pub byte-out : (b : ℕ) (l : List ℕ) (k : ℕ) → b < 256 → length l ≤ k → ltb k (length l) ≡ byte_is b l k
byte-out b l k low h = rw (le-ltb k (length l) h, get_or-eq_default l 256 h, ne_eqb 256 b (λ e. omega arith))

-- the end of a word: at a backslash, past an ASCII byte above the space, and by a character that is decoded
module _ (s : List ℕ) (i : ℕ) (inside : i < length s) where
  pub stops-slash : get_or s i 0 ≡ backslash → i + find ends_word (drop i s) ≡ i
  stops-slash e = stops-ascii ends_word s i inside (omega arith) (rw (e, ascii-not-blank backslash (omega arith) (omega arith)))

  module _ (other : get_or s i 0 ≡ backslash → ⊥) where
    pub past-plain : within 0x21 0x7F (get_or s i 0) ≡ true → i + find ends_word (drop i s) ≡ i + 1 + find ends_word (drop (i + 1) s)
    past-plain y =
        let lo = within-lo 0x21 0x7F (get_or s i 0) y in
        let hi = within-hi 0x21 0x7F (get_or s i 0) y in
        past_ascii ends_word s i inside (omega arith) (rw (ascii-not-blank (get_or s i 0) (omega arith) (omega arith), ne_eqb (get_or s i 0) backslash other))

    no_slash : eqb (decode (drop i s)).cp backslash ≡ false
    no_slash = rw (place s i inside) (go (dec_lt (get_or s i 0) 0x80))
      where
        go : Dec (get_or s i 0 < 0x80) → eqb (decode (get_or s i 0 ∷ drop (i + 1) s)).cp backslash ≡ false
        go (yes h) = rw (low-decode (get_or s i 0) (drop (i + 1) s) h) (ne_eqb (get_or s i 0) backslash other)
        go (no h) = let g = high-decode (get_or s i 0) (drop (i + 1) s) (omega arith) in ne_eqb (decode (get_or s i 0 ∷ drop (i + 1) s)).cp backslash (λ e. omega arith)

    pub past_word : (w : ℕ) → w ≡ (decode (drop i s)).width → blank (decode (drop i s)).cp ≡ false → i + find ends_word (drop i s) ≡ i + w + find ends_word (drop (i + w) s)
    past_word w e y = past ends_word s i w inside e (rw (y, no_slash))

  pub stops-blank : blank (decode (drop i s)).cp ≡ true → i + find ends_word (drop i s) ≡ i
  stops-blank y = stops ends_word s i inside (rw y)
