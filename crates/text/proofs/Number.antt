-- How the digits of a number are read, from one place to the next.
-- Assumes nothing.
use mathlib.Core.Path.{◌≡◌, refl, sym, ◌∙◌}
use mathlib.Core.Bool.{true, false, false≢true, and-false, and-true}
use mathlib.Core.List.{List, [], ◌∷◌}
use Rattle.std.specs.Prelude.{Some, None}
use Prim.Native.Nat.{ℕ, ◌+◌, ◌-◌, ◌*◌, ◌<◌, ◌≤◌}
use native.Mathlib.Nat.{le_refl, le_trans}
use native.Mathlib.Omega.{arith}
use borrow.Author.Tests.{le-leb, lt-leb}
use lib.Dec.{eqb}
use lib.ListN.{length, get_or, take, drop, drop_of_length-le}
use Rattle.std.specs.Cmp.Lexicographic.{pointwise}
use Rattle.text.specs.Number.{digit, all_digits, value_from, digits_from, digits, parsed}
use Rattle.text.proofs.Rows.{place}
use Rattle.text.proofs.Bool.{and_left}

grows : (s : List ℕ) (n : ℕ) → n ≤ value_from n s
unfolding value_from
grows [] n = le_refl n
grows (b ∷ s) n = le_trans (omega arith) (grows s (n * 10 + (b - 0x30)))

-- a number that is too large already
pub too_large : (n : ℕ) (s : List ℕ) → 4294967295 < n → digits_from n s ≡ None
unfolding digits_from
too_large n s h =
    let large : 4294967295 < value_from n s = omega (arith, grows s n) in
    rw (lt-leb (value_from n s) 4294967295 large, and-false (all_digits s))

module _ (n : ℕ) (s : List ℕ) (i : ℕ) where
  -- past a digit, at a byte that is none, and at the end
  pub past : i < length s → digit (get_or s i 0) ≡ true → digits_from n (drop i s) ≡ digits_from (n * 10 + (get_or s i 0 - 0x30)) (drop (i + 1) s)
  unfolding digits_from all_digits value_from
  past h y = rw (place s i h, y)

  pub stops : i < length s → digit (get_or s i 0) ≡ false → digits_from n (drop i s) ≡ None
  unfolding digits_from all_digits value_from
  stops h y = rw (place s i h, y)

  pub ends : length s ≤ i → n ≤ 4294967295 → digits_from n (drop i s) ≡ Some n
  unfolding digits_from all_digits value_from
  ends h k = rw (drop_of_length-le s h, le-leb n 4294967295 k)

pub no-digits : (s : List ℕ) (i : ℕ) → length s ≤ i → digits (drop i s) ≡ None
unfolding digits
no-digits s i h = rw (drop_of_length-le s h)

pub some-digits : (s : List ℕ) (i : ℕ) → i < length s → digits (drop i s) ≡ digits_from 0 (drop i s)
unfolding digits
some-digits s i h = rw (place s i h)

-- with a `+`, as `strip_prefix` tells it, and with none
pub parsed-plus : (s : List ℕ) → pointwise eqb (take 1 s) (0x2B ∷ []) ≡ true → parsed s ≡ digits (drop 1 s)
unfolding parsed
parsed-plus [] e = absurd (false≢true e)
parsed-plus (b ∷ s) e = rw (and_left (eqb b 0x2B) true e)

pub parsed-plain : (s : List ℕ) → pointwise eqb (take 1 s) (0x2B ∷ []) ≡ false → parsed s ≡ digits s
unfolding parsed digits
parsed-plain [] e = refl
parsed-plain (b ∷ s) e = rw (sym (and-true (eqb b 0x2B)) ∙ e)
