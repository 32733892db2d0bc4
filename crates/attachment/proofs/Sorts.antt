-- Names of numbers, the places that they claim, and the start offsets found so far.
-- Assumes nothing.
use Prim.Native.Nat.{ℕ, zero, suc, ◌<◌}
use mathlib.Core.Path.{◌≡◌, refl, ap}
use mathlib.Core.Bool.{Bool, ◌&&◌, ◌||◌}
use mathlib.Core.List.{List, [], ◌∷◌, ◌++◌}
use native.Mathlib.Omega.{arith}
use lib.Dec.{eqb}
use lib.Pointwise.{pointwise}
use lib.ListN.{length, take}
use Rattle.std.specs.List.{list_any}
use Rattle.attachment.specs.Attached.{among, starts_of}
use Rattle.attachment.specs.declared.Attached.{Attached}
use Rattle.text.specs.Bytes.{equal}

-- `==` of two lists of bytes
pub pairs_equal : (a b : List ℕ) → pointwise eqb a b ≡ equal a b
unfolding equal
pairs_equal [] [] = refl
pairs_equal [] (y ∷ b) = refl
pairs_equal (x ∷ a) [] = refl
pairs_equal (x ∷ a) (y ∷ b) = ap (λ (v : Bool). eqb x y && v) (pairs_equal a b)

-- one more start offset
pub added-first : (a : Attached) (n : ℕ) → a.count ≡ 0 → n ∷ [] ≡ starts_of a ++ (n ∷ [])
added-first a n e = rw e

lone : (k x y : ℕ) → (k ≡ 0 → ⊥) → length (take k (x ∷ y ∷ [])) < 2 → k ≡ 1
lone zero x y n h = absurd (n refl)
lone (suc zero) x y n h = refl
lone (suc (suc k)) x y n h = absurd (omega arith)

pub added-second : (a : Attached) (n : ℕ) → (a.count ≡ 0 → ⊥) → length (starts_of a) < 2 → a.first ∷ n ∷ [] ≡ starts_of a ++ (n ∷ [])
added-second a n e h = rw (lone a.count a.first a.second e h)

-- whether an offset is among those found
pub among_any : (at : ℕ) (xs : List ℕ) → list_any (λ x. eqb x at) xs ≡ among at xs
unfolding among
among_any at [] = refl
among_any at (x ∷ xs) = ap (λ (v : Bool). eqb x at || v) (among_any at xs)
