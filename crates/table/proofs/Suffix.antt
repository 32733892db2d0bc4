-- The digits and the columns at the end of a name.
-- Assumes nothing.
use mathlib.Core.Path.{◌≡◌, refl, ap, ◌∙◌}
use mathlib.Core.Bool.{Bool, true, false, ◌&&◌}
use mathlib.Core.List.{List, [], ◌∷◌, ◌++◌}
use Prim.Native.Nat.{ℕ, zero, suc, ◌-◌, ◌<◌, ◌≤◌}
use native.Mathlib.Omega.{arith}
use lib.Dec.{eqb, ltb}
use lib.ListN.{length, get_or, take}
use lib.Seq.{take-suc, length-take-le}
use Rattle.text.specs.Pick.{pick}
use Rattle.text.specs.Number.{digit}
use Rattle.table.specs.Names.{undigited, keep_before, tail_off, stripped_length}

-- one more byte at the end
one_more : (l : List ℕ) (b : ℕ) → undigited (l ++ (b ∷ [])) ≡ pick (digit b) (undigited l) (suc (length l))
unfolding undigited
one_more [] b = refl
one_more (x ∷ l) b = rw (one_more l b) (go (digit b))
  where
    go : (t : Bool) → keep_before (digit x) (pick t (undigited l) (suc (length l))) ≡ pick t (keep_before (digit x) (undigited l)) (suc (suc (length l)))
    go true = refl
    go false = refl

undigited-le : (l : List ℕ) → undigited l ≤ length l
unfolding undigited
undigited-le [] = omega arith
undigited-le (b ∷ s) = go (digit b) (undigited s) (undigited-le s)
  where
    go : (t : Bool) (k : ℕ) → k ≤ length s → keep_before t k ≤ suc (length s)
    go true zero h = omega arith
    go false zero h = omega arith
    go t (suc k) h = omega arith

module _ (s : List ℕ) (i : ℕ) (h : 0 < i) (k : i ≤ length s) where
  last_byte : take i s ≡ take (i - 1) s ++ (get_or s (i - 1) 0 ∷ [])
  last_byte = let e : i ≡ suc (i - 1) = omega arith in ap (λ (n : ℕ). take n s) e ∙ take-suc s (i - 1) 0 (omega arith)

  -- before a digit, and at a byte that is none
  pub digit-off : digit (get_or s (i - 1) 0) ≡ true → undigited (take i s) ≡ undigited (take (i - 1) s)
  digit-off e = rw (last_byte, one_more (take (i - 1) s) (get_or s (i - 1) 0), e)

  pub no_digit : digit (get_or s (i - 1) 0) ≡ false → undigited (take i s) ≡ i
  no_digit e = rw (last_byte, one_more (take (i - 1) s) (get_or s (i - 1) 0), e, length-take-le (i - 1) s (omega arith)) (omega arith)

pub no_bytes : (s : List ℕ) → undigited (take 0 s) ≡ 0
unfolding undigited
no_bytes s = refl

pub tail-le : (s : List ℕ) → tail_off s ≤ length s
tail-le s = go (ltb (undigited s) (length s) && (ltb 0 (undigited s) && eqb (get_or s (undigited s - 1) 0) 45))
  where
    go : (t : Bool) → pick t (undigited s - 1) (length s) ≤ length s
    go true = omega (arith, undigited-le s)
    go false = omega arith

pub stripped-le : (s : List ℕ) → stripped_length s ≤ length s
unfolding stripped_length
stripped-le s = go (ltb 0 (undigited (take (tail_off s) s)) && ltb (undigited (take (tail_off s) s)) (tail_off s))
  where
    go : (t : Bool) → pick t (undigited (take (tail_off s) s)) (length s) ≤ length s
    go true = let z = tail-le s in omega (arith, undigited-le (take (tail_off s) s), length-take-le (tail_off s) s (tail-le s))
    go false = omega arith
