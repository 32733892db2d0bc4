-- A number in decimal digits, read back.
-- Assumes nothing.
use Prim.Native.Nat.{ℕ, zero, suc, ◌+◌, ◌-◌, ◌*◌, ◌/◌, ◌%◌, ◌<◌, ◌≤◌}
use native.Mathlib.Omega.{arith}
use mathlib.Core.Path.{◌≡◌, refl, ◌∙◌}
use mathlib.Core.Bool.{Bool, true, false}
use mathlib.Core.List.{List, [], ◌∷◌, ◌++◌}
use Rattle.std.specs.Prelude.{Some}
use lib.Dec.{ltb}
use borrow.Author.Tests.{ltb-true, ltb-false, le-leb, ne_eqb}
use Rattle.text.specs.Number.{digit, all_digits, value_from, digits_from, digits, parsed}
use Rattle.buffer.specs.Decimal.{decimal_fuel, decimal}
use Rattle.buffer.proofs.Decimal.{one-digit, one_more, decimal-some}
use Rattle.text.proofs.Bool.{and_left, and_right}
use Rattle.text.proofs.Rows.{within-lo}
use lib.ListN.{length}

value-append : (m b : ℕ) (s : List ℕ) → value_from m (s ++ (b ∷ [])) ≡ value_from m s * 10 + (b - 0x30)
unfolding value_from
value-append m b [] = refl
value-append m b (c ∷ s) = value-append (m * 10 + (c - 0x30)) b s

value-back : (k n : ℕ) → n < k → value_from 0 (decimal_fuel k n) ≡ n
unfolding value_from
value-back zero n h = absurd (omega arith)
value-back (suc k) n h = test (ltb n 10) refl (λ less. value-back k (n / 10) less)
  where
    test : (b : Bool) → ltb n 10 ≡ b → (n / 10 < k → value_from 0 (decimal_fuel k (n / 10)) ≡ n / 10) → value_from 0 (decimal_fuel (suc k) n) ≡ n
    test true e later = rw (one-digit k n (ltb-true n 10 e)) (omega arith)
    test false e later =
        let large : 10 ≤ n = ltb-false n 10 e in
        rw (one_more k n large) (value-append 0 (48 + n % 10) (decimal_fuel k (n / 10)) ∙ rw (later (omega arith)) (omega arith))

-- the digits of a number make that number
pub decimal-back : (n : ℕ) → value_from 0 (decimal n) ≡ n
unfolding decimal
decimal-back n = value-back (suc n) n (omega arith)

all_append : (b : ℕ) (s : List ℕ) → all_digits s ≡ true → digit b ≡ true → all_digits (s ++ (b ∷ [])) ≡ true
unfolding all_digits
all_append b [] h d = rw d
all_append b (c ∷ s) h d = rw (and_left (digit c) (all_digits s) h, all_append b s (and_right (digit c) (all_digits s) h) d)

digit-of : (n : ℕ) → n < 10 → digit (48 + n) ≡ true
digit-of n h = rw (le-leb 0x30 (48 + n) (omega arith), le-leb (48 + n) 0x39 (omega arith))

one-all : (n : ℕ) → n < 10 → all_digits ((48 + n) ∷ []) ≡ true
unfolding all_digits
one-all n h = rw (digit-of n h)

fuel-digits : (k n : ℕ) → n < k → all_digits (decimal_fuel k n) ≡ true
fuel-digits zero n h = absurd (omega arith)
fuel-digits (suc k) n h = test (ltb n 10) refl (λ less. fuel-digits k (n / 10) less)
  where
    test : (b : Bool) → ltb n 10 ≡ b → (n / 10 < k → all_digits (decimal_fuel k (n / 10)) ≡ true) → all_digits (decimal_fuel (suc k) n) ≡ true
    test true e later = rw (one-digit k n (ltb-true n 10 e)) (one-all n (ltb-true n 10 e))
    test false e later =
        let large : 10 ≤ n = ltb-false n 10 e in
        rw (one_more k n large) (all_append (48 + n % 10) (decimal_fuel k (n / 10)) (later (omega arith)) (digit-of (n % 10) (omega arith)))

read_back : (s : List ℕ) (n : ℕ) → 1 ≤ length s → all_digits s ≡ true → value_from 0 s ≡ n → n ≤ 4294967295 → parsed s ≡ Some n
unfolding parsed digits digits_from all_digits
read_back [] n h d v l = absurd (omega arith)
read_back (b ∷ s) n h d v l =
    let low : 0x30 ≤ b = within-lo 0x30 0x39 b (and_left (digit b) (all_digits s) d) in
    rw (ne_eqb b 0x2B (omega arith), d, v, le-leb n 4294967295 l)

all-decimal : (n : ℕ) → all_digits (decimal n) ≡ true
unfolding decimal
all-decimal n = fuel-digits (suc n) n (omega arith)

-- `parse` reads a number's digits back
pub decimal-parsed : (n : ℕ) → n ≤ 4294967295 → parsed (decimal n) ≡ Some n
decimal-parsed n h = read_back (decimal n) n (decimal-some n) (all-decimal n) (decimal-back n) h
