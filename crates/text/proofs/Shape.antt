-- The further bytes of a sequence lie from 80 to BF, and its first byte does not.
-- Assumes nothing.
use mathlib.Core.Path.{◌≡◌, refl}
use mathlib.Core.Bool.{Bool, true, false, false≢true, ◌&&◌, ◌||◌, and-false}
use mathlib.Core.List.{List, [], ◌∷◌, Memᴰ}
use Prim.Native.Nat.{ℕ, zero, suc, ◌<◌, ◌≤◌}
use native.Mathlib.Nat.{not-suc-le-zero, le_of_suc-le-suc}
use native.Mathlib.Omega.{arith}
use lib.Dec.{leb, ltb}
use lib.ListN.{length, get_or}
use borrow.Author.Tests.{le-leb, lt-leb, leb-true, ltb-true}
use Rattle.text.specs.Pick.{Range, within}
use Rattle.text.specs.Utf8.{table3_7, fits}
use Rattle.text.proofs.Rows.{within-lo, within-hi, every, every_in}
use Rattle.text.proofs.Bool.{and_left, and_right}

-- the ranges of further bytes
unfoldable pub further : List Range → Bool
further [] = true
further (r ∷ rs) = (leb 0x80 r.lo && leb r.hi 0xBF) && further rs

pub further-lo : (r : Range) (rs : List Range) → further (r ∷ rs) ≡ true → 0x80 ≤ r.lo
unfolding further
further-lo r rs e = leb-true 0x80 r.lo (and_left (leb 0x80 r.lo) (leb r.hi 0xBF) (and_left (leb 0x80 r.lo && leb r.hi 0xBF) (further rs) e))

pub further-hi : (r : Range) (rs : List Range) → further (r ∷ rs) ≡ true → r.hi ≤ 0xBF
unfolding further
further-hi r rs e = leb-true r.hi 0xBF (and_right (leb 0x80 r.lo) (leb r.hi 0xBF) (and_left (leb 0x80 r.lo && leb r.hi 0xBF) (further rs) e))

pub further-rest : (r : Range) (rs : List Range) → further (r ∷ rs) ≡ true → further rs ≡ true
unfolding further
further-rest r rs e = and_right (leb 0x80 r.lo && leb r.hi 0xBF) (further rs) e

-- the range of a first byte
abbrev pub apart : Range → Bool
apart r = ltb r.hi 0x80 || ltb 0xBF r.lo

unfoldable pub shaped : List Range → Bool
shaped [] = false
shaped (r ∷ rs) = apart r && further rs

pub table-shaped : every shaped table3_7 ≡ true
unfolding every shaped further table3_7
table-shaped = refl

-- a byte in a row of further bytes
pub further-byte : (rs : List Range) (a : List ℕ) (k : ℕ) → further rs ≡ true → fits rs a ≡ true → k < length a → within 0x80 0xBF (get_or a k 0) ≡ true
further-byte [] [] k e f h = absurd (not-suc-le-zero h)
further-byte [] (b ∷ a) k e f h = absurd (false≢true f)
further-byte (r ∷ rs) [] k e f h = absurd (false≢true f)
further-byte (r ∷ rs) (b ∷ a) zero e f h =
    let here = and_left (within r.lo r.hi b) (fits rs a) f in
    let lo = further-lo r rs e in
    let hi = further-hi r rs e in
    rw (le-leb 0x80 b (omega (arith, within-lo r.lo r.hi b here)), le-leb b 0xBF (omega (arith, within-hi r.lo r.hi b here)))
further-byte (r ∷ rs) (b ∷ a) (suc k) e f h =
    further-byte rs a k (further-rest r rs e) (and_right (within r.lo r.hi b) (fits rs a) f) (le_of_suc-le-suc h)

-- the first byte of a row
first_byte : (r : Range) (b : ℕ) → apart r ≡ true → within r.lo r.hi b ≡ true → within 0x80 0xBF b ≡ false
first_byte r b e f = go (ltb r.hi 0x80) refl e
  where
    go : (t : Bool) → ltb r.hi 0x80 ≡ t → (t || ltb 0xBF r.lo) ≡ true → within 0x80 0xBF b ≡ false
    go true y z = let l = ltb-true r.hi 0x80 y in rw (lt-leb 0x80 b (omega (arith, within-hi r.lo r.hi b f)))
    go false y z = let l = ltb-true 0xBF r.lo z in rw (lt-leb b 0xBF (omega (arith, within-lo r.lo r.hi b f)), and-false (leb 0x80 b))

-- of a sequence that is a row of the table: its first byte, and the others
pub row_first : (row : List Range) (b : ℕ) (a : List ℕ) → Memᴰ row table3_7 → fits row (b ∷ a) ≡ true → within 0x80 0xBF b ≡ false
unfolding shaped
row_first [] b a m f = absurd (false≢true f)
row_first (r ∷ rs) b a m f =
    first_byte r b (and_left (apart r) (further rs) (every_in shaped table3_7 (r ∷ rs) table-shaped m)) (and_left (within r.lo r.hi b) (fits rs a) f)

pub row-further : (row : List Range) (b : ℕ) (a : List ℕ) (k : ℕ) → Memᴰ row table3_7 → fits row (b ∷ a) ≡ true → k < length a → within 0x80 0xBF (get_or a k 0) ≡ true
unfolding shaped
row-further [] b a k m f h = absurd (false≢true f)
row-further (r ∷ rs) b a k m f h =
    further-byte rs a k (and_right (apart r) (further rs) (every_in shaped table3_7 (r ∷ rs) table-shaped m)) (and_right (within r.lo r.hi b) (fits rs a) f) h
