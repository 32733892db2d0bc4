-- Numbers that a walk meets: a place in a slice, and one more or less.
-- Assumes nothing.
use Prim.Native.Nat.{ℕ, ◌+◌, ◌-◌, ◌*◌, ◌^◌, ◌<◌, ◌≤◌}
use native.Mathlib.Nat.{lt_of_le_of_lt, mul-le-mul_right}
use native.Mathlib.Omega.{arith}
use mathlib.Core.Path.{◌≡◌}

-- the place of an entry of so many bytes
pub scaled : (size i n m : ℕ) → i < n → m ≡ n → m * size < 2 ^ 63 → i * size < 2 ^ 64
scaled size i n m h e r =
    let inside : i ≤ m = omega arith in
    let small : i * size < 2 ^ 63 = lt_of_le_of_lt (mul-le-mul_right size inside) r in
    omega (arith, small)

pub less-fits : (k j : ℕ) → k < 2 ^ 64 → k - j < 2 ^ 64
less-fits k j h = omega arith

pub more-fits : (k n m : ℕ) → k < n → m ≡ n → m < 2 ^ 64 → k + 1 < 2 ^ 64
more-fits k n m h e r = omega arith

-- one turn more of a loop that counts up
pub nearer : (i n : ℕ) → i < n → n - (i + 1) < n - i
nearer i n h = omega arith

-- a number of 32 bits in 64
pub wide : (n : ℕ) → n < 2 ^ 32 → n < 2 ^ 64
wide n h = omega arith
