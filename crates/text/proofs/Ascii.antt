-- A bitwise or is 0 only if its parts are. Eight bytes by their highest bits. A run of ASCII, made longer.
-- Assumes nothing.
use mathlib.Core.Path.{◌≡◌, refl, ◌∙◌, sym, subst}
use mathlib.Core.List.{List}
use Prim.Native.Nat.{ℕ, zero, suc, ◌+◌, ◌*◌, ◌-◌, ◌≤◌, ◌<◌, ◌/◌, ◌%◌, ◌^◌}
use native.Mathlib.Decide.{dec_lt}
use native.Mathlib.Omega.{arith}
use native.Mathlib.Nat.{add-zero, add_assoc, mod-eq_of_lt, pow-suc}
use lib.Arith.{digits_div, digits_mod, mod-mul}
use lib.Bits.{bit_and, bit_or, or_add_and, and_le_l, and_le_r, and_block, and_high}
use lib.Count.{count_trailing_zeros, under, trailing_le}
use lib.ListN.{get_or}
use lib.Pow.{pow-add, pow_pos}
use Rattle.text.specs.Inner.{Ascii, eight_bytes, High}

pub or-zero : (a b : ℕ) → bit_or a b ≡ 0 → (a ≡ 0) × (b ≡ 0)
or-zero a b h = (omega (arith, h, or_add_and a b, and_le_r a b), omega (arith, h, or_add_and a b, and_le_l a b))

low_bit : (r : ℕ) → r < 256 → bit_and r 128 ≡ 0 → r < 128
low_bit r h z =
    let l : bit_and r 128 ≡ (r / 128 % 2) * 128 = and_high r 1 7 in
    let q : r / 128 < 2 = omega (arith, h) in
    let e : r / 128 % 2 ≡ 0 = omega (arith, z, l) in
    let e = sym (mod-eq_of_lt q) ∙ e in
    omega (arith, e)

pub none : (s : List ℕ) (from : ℕ) → Ascii s from from
none s from k g l = absurd (omega arith)

pub joined : (s : List ℕ) (from i to : ℕ) → Ascii s from i → Ascii s i to → Ascii s from to
joined s from i to low next k g l = go (dec_lt k i)
  where
    go : Dec (k < i) → get_or s k 0 < 0x80
    go (yes h) = low k g h
    go (no h) = next k (omega arith) l

pub one : (s : List ℕ) (i to : ℕ) → to ≤ i + 1 → get_or s i 0 < 0x80 → Ascii s i to
one s i to e h k g l = let same : i ≡ k = omega arith in subst (λ (j : ℕ). get_or s j 0 < 0x80) same h

-- n bytes of f from k on as a number, the first the lowest, and the mask of their highest bits
unfoldable bytes : (ℕ → ℕ) → ℕ → ℕ → ℕ
bytes f k zero = 0
bytes f k (suc n) = bytes f (suc k) n * 256 + f k

unfoldable mask : ℕ → ℕ
mask zero = 0
mask (suc n) = mask n * 256 + 128

-- a number whose lowest j + 1 bytes are 0 has a lowest byte of 0, and j more behind it
low_byte : (a r j : ℕ) → r < 256 → (a * 256 + r) % 2 ^ (8 * suc j) ≡ 0 → (a % 2 ^ (8 * j) ≡ 0) × (r ≡ 0)
low_byte a r j h z =
    let p : 8 * suc j ≡ 8 * j + 8 = omega arith in
    let e : (a * 256 + r) % (2 ^ (8 * j) * 256) ≡ 0 = rw (p, pow-add) at z in
    let m = mod-mul (a * 256 + r) {m = 2 ^ (8 * j)} {c = 256} (pow_pos (8 * j)) (omega arith) in
    let q : (a * 256 + r) / 256 ≡ a = digits_div a h in
    let d : (a * 256 + r) % 256 ≡ r = digits_mod a h in
    let l : (a * 256 + r) / 256 % 2 ^ (8 * j) ≡ 0 = omega (arith, e, m) in
    (rw q at l, omega (arith, e, m, d))

lows : (f : ℕ → ℕ) → ((i : ℕ) → f i < 256) → (n k j : ℕ) → j ≤ n → bit_and (bytes f k n) (mask n) % 2 ^ (8 * j) ≡ 0 → (i : ℕ) → i < j → f (k + i) < 128
unfolding bytes mask
lows f low n k zero le z i h = absurd (omega arith)
lows f low zero k (suc j) le z i h = absurd (omega arith)
lows f low (suc n) k (suc j) le z i h =
    let b : bit_and (f k) 128 < 256 = omega (arith, and_le_r (f k) 128) in
    let e = low_byte (bit_and (bytes f (suc k) n) (mask n)) (bit_and (f k) 128) j b (subst (λ (m : ℕ). m % 2 ^ (8 * suc j) ≡ 0) (and_block 8 (bytes f (suc k) n) (mask n) (f k) 128 (low k) (omega arith)) z) in
    go i h (low_bit (f k) (low k) e.1) (lows f low n (suc k) j (omega arith) e.0)
  where
    go : (i : ℕ) → i < suc j → f k < 128 → ((i : ℕ) → i < j → f (suc k + i) < 128) → f (k + i) < 128
    go zero h first rest = rw add-zero first
    go (suc i) h first rest = let e : suc k + i ≡ k + suc i = omega arith in subst (λ (m : ℕ). f m < 128) e (rest i (omega arith))

-- the bytes below the lowest bit that is set are 0
tz-low : (d n j : ℕ) → j ≤ count_trailing_zeros d n → n % 2 ^ j ≡ 0
unfolding count_trailing_zeros
tz-low d n zero h = omega arith
tz-low zero n (suc j) h = absurd (omega arith)
tz-low (suc d) n (suc j) h = go (n % 2) refl h (tz-low d (n / 2) j)
  where
    go : (r : ℕ) → n % 2 ≡ r → suc j ≤ under r (count_trailing_zeros d (n / 2)) → (j ≤ count_trailing_zeros d (n / 2) → n / 2 % 2 ^ j ≡ 0) → n % 2 ^ suc j ≡ 0
    go zero e h ih =
        let m = mod-mul n {m = 2 ^ j} {c = 2} (pow_pos j) (omega arith) in
        rw pow-suc (omega (arith, m, e, ih (omega (arith, h))))
    go (suc r) e h ih = absurd (omega (arith, h))

-- eight bytes by their highest bits
pub high-8 : (s : List ℕ) (at w : ℕ) → ((k : ℕ) → get_or s k 0 < 256) → w ≡ eight_bytes s at → High s at (bit_and w 0x8080808080808080)
unfolding bytes mask
high-8 s at w low e j le z k g l =
    let f : ℕ → ℕ = λ i. get_or s (at + i) 0 in
    let h = simp add_assoc at e in
    let same : w ≡ bytes f 0 8 = simp add-zero (omega (arith, h)) in
    let i : at + (0 + (k - at)) ≡ k = omega arith in
    subst (λ (m : ℕ). get_or s m 0 < 128) i (lows f (λ i. low (at + i)) 8 0 j le (subst (λ (m : ℕ). bit_and m 0x8080808080808080 % 2 ^ (8 * j) ≡ 0) same z) (k - at) (omega arith))

-- all of them, where none is set
pub high-0 : (s : List ℕ) (at r : ℕ) → High s at r → r ≡ 0 → Ascii s at (at + 8)
high-0 s at r h z = h 8 (omega arith) (omega arith)

-- as many as the lowest bit shows
pub high-first : (s : List ℕ) (at r : ℕ) → High s at r → (count_trailing_zeros 64 r / 8 ≤ 8) × Ascii s at (at + count_trailing_zeros 64 r / 8)
high-first s at r h =
    let t = trailing_le 64 r in
    let le : count_trailing_zeros 64 r / 8 ≤ 8 = omega arith in
    (le, h (count_trailing_zeros 64 r / 8) le (tz-low 64 r (8 * (count_trailing_zeros 64 r / 8)) (omega arith)))
