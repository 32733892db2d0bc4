-- Laws of decimal digits.
-- Assumes nothing.
use Prim.Native.Nat.{ℕ, zero, suc, ◌+◌, ◌/◌, ◌%◌, ◌^◌, ◌<◌, ◌≤◌}
use native.Mathlib.Omega.{arith}
use native.Mathlib.Nat.{one-le-pow}
use native.Mathlib.Numerals.{sub-one}
use mathlib.Core.Path.{◌≡◌}
use mathlib.Core.Bool.{Bool, true, false, cond}
use mathlib.Core.List.{[], ◌∷◌, ◌++◌}
use lib.Dec.{ltb}
use lib.ListN.{length, length-append}
use borrow.Author.Tests.{lt-ltb, le-ltb}
use Rattle.io.specs.Digits.{last_digits, IsDigitCount}
use Rattle.buffer.specs.Decimal.{decimal_fuel, decimal}

-- one digit, or the digits of the tenth part and one more
module _ (k n : ℕ) where
  pub one-digit : n < 10 → decimal_fuel (suc k) n ≡ (48 + n) ∷ []
  unfolding decimal_fuel
  one-digit h = rw (lt-ltb n 10 h)

  pub one_more : 10 ≤ n → decimal_fuel (suc k) n ≡ decimal_fuel k (n / 10) ++ ((48 + n % 10) ∷ [])
  unfolding decimal_fuel
  one_more h = rw (le-ltb n 10 h)

-- the fewest digits that hold a number are its digits without leading zeros
fewest : (k r n : ℕ) → IsDigitCount 10 1 n r → n < k → last_digits 10 r n ≡ decimal_fuel k n
fewest zero r n f h = absurd (omega arith)
fewest (suc k) zero n f h = absurd (omega arith)
fewest (suc k) (suc zero) n f h =
    let e : n % 10 ≡ n = omega arith in
    rw (one-digit k n (omega arith), e, lt-ltb n 10 (omega arith))
fewest (suc k) (suc (suc r)) n f h =
    let one = one-le-pow r 10 (omega arith) in
    let low : 10 ^ suc r ≤ n = rw sub-one at (f.2 (omega arith)) in
    let tenth : IsDigitCount 10 1 (n / 10) (suc r) = (omega arith, omega arith, λ _. rw sub-one (omega arith)) in
    rw (one_more k n (omega arith), ← fewest k (suc r) (n / 10) tenth (omega arith), lt-ltb (n % 10) 10 (omega arith))

pub fewest-decimal : (r n : ℕ) → IsDigitCount 10 1 n r → last_digits 10 r n ≡ decimal n
unfolding decimal
fewest-decimal r n f = fewest (suc n) r n f (omega arith)

-- a number of at most r + 1 digits
few : (k r n : ℕ) → n < 10 ^ suc r → length (decimal_fuel k n) ≤ suc r
unfolding decimal_fuel
few zero r n h = omega arith
few (suc k) zero n h = rw (one-digit k n (omega arith)) (omega arith)
few (suc k) (suc r) n h = test (ltb n 10) (few k r (n / 10) (omega arith))
  where
    test : (b : Bool) → length (decimal_fuel k (n / 10)) ≤ suc r → length (cond b ((48 + n) ∷ []) (decimal_fuel k (n / 10) ++ ((48 + n % 10) ∷ []))) ≤ suc (suc r)
    test true l = omega arith
    test false l = rw length-append (omega arith)

pub decimal-length : (n : ℕ) → n < 18446744073709551616 → length (decimal n) ≤ 20
unfolding decimal
decimal-length n h = few (suc n) 19 n (omega arith)

pub decimal-some : (n : ℕ) → 1 ≤ length (decimal n)
unfolding decimal decimal_fuel
decimal-some n = test (ltb n 10)
  where
    test : (b : Bool) → 1 ≤ length (cond b ((48 + n) ∷ []) (decimal_fuel n (n / 10) ++ ((48 + n % 10) ∷ [])))
    test true = omega arith
    test false = rw length-append (omega arith)
