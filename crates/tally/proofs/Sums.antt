-- The tally of a list sums to its number of records.
-- Assumes nothing.
use Prim.Native.Nat.{ℕ, zero, suc, ◌+◌, ◌<◌}
use native.Mathlib.Omega.{arith}
use native.Mathlib.Nat.{add-zero, zero-add}
use native.Mathlib.Decide.{dec_lt}
use mathlib.Core.Path.{◌≡◌, refl}
use mathlib.Core.List.{List}
use Rattle.std.specs.Prelude.{None}
use lib.Dec.{eqb, ltb}
use borrow.Author.Tests.{eq-eqb, ne_eqb, lt-ltb, le-ltb}
use Rattle.tally.specs.Tally.{code_at, tally_refusal, with_code, counts_from, tally_of, sum}
use Rattle.findings.specs.Written.{whole_records}
use Rattle.tally.proofs.Records.{known}
use Rattle.text.specs.Pick.{pick}
use Rattle.findings.specs.Codes.{code_count}

-- how many of the first k records have a code below c
unfoldable below : List ℕ → ℕ → ℕ → ℕ
below l c zero = 0
below l c (suc k) = pick (ltb (code_at l k) c) 1 0 + below l c k

at-or-below : (d c : ℕ) → pick (eqb d c) 1 0 + pick (ltb d c) 1 0 ≡ pick (ltb d (suc c)) 1 0
at-or-below d c = choose (dec_lt d c) (dec_lt c d)
  where
    choose : Dec (d < c) → Dec (c < d) → pick (eqb d c) 1 0 + pick (ltb d c) 1 0 ≡ pick (ltb d (suc c)) 1 0
    choose (yes h) k = rw (ne_eqb d c (omega arith), lt-ltb d c h, lt-ltb d (suc c) (omega arith))
    choose (no h) (yes k) = rw (ne_eqb d c (omega arith), le-ltb d c (omega arith), le-ltb d (suc c) (omega arith))
    choose (no h) (no k) = rw (eq-eqb d c (omega arith), le-ltb d c (omega arith), lt-ltb d (suc c) (omega arith))

one_code : (l : List ℕ) (c k : ℕ) → with_code l c k + below l c k ≡ below l (suc c) k
unfolding with_code below
one_code l c zero = refl
one_code l c (suc k) = omega (arith, one_code l c k, at-or-below (code_at l k) c)

sum_below : (l : List ℕ) (c n : ℕ) → sum (counts_from l c n) + below l c (whole_records l) ≡ below l (c + n) (whole_records l)
unfolding counts_from sum
sum_below l c zero = rw (add-zero, zero-add)
sum_below l c (suc n) =
    let e : c + suc n ≡ suc c + n = omega arith in
    rw e (omega (arith, sum_below l (suc c) n, one_code l c (whole_records l)))

none_below : (l : List ℕ) (k : ℕ) → below l 0 k ≡ 0
unfolding below
none_below l zero = refl
none_below l (suc k) = rw (le-ltb (code_at l k) 0 (omega arith)) (omega (arith, none_below l k))

all-below : (l : List ℕ) (c k : ℕ) → ((i : ℕ) → i < k → code_at l i < c) → below l c k ≡ k
unfolding below
all-below l c zero h = refl
all-below l c (suc k) h = rw (lt-ltb (code_at l k) c (h k (omega arith))) (omega (arith, all-below l c k (λ i b. h i (omega arith))))

pub tally-sums : (l : List ℕ) → tally_refusal l ≡ None → sum (tally_of l) ≡ whole_records l
tally-sums l e = omega (arith, sum_below l 0 code_count, none_below l (whole_records l), all-below l code_count (whole_records l) (known l e))
