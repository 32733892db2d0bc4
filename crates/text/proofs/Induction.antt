-- Induction on the length of a list.
-- Assumes nothing.
use mathlib.Core.List.{List}
use Prim.Native.Nat.{ℕ, zero, suc, ◌<◌, ◌≤◌}
use native.Mathlib.Nat.{le_refl}
use native.Mathlib.Omega.{arith}
use lib.ListN.{length}

module _ (P : List ℕ → Type 0) (step : (l : List ℕ) → ((m : List ℕ) → length m < length l → P m) → P l) where
  up_to : (n : ℕ) (l : List ℕ) → length l ≤ n → P l
  up_to zero l h = step l (λ m k. absurd (omega arith))
  up_to (suc n) l h = step l (λ m k. up_to n m (omega arith))

  pub by_length : (l : List ℕ) → P l
  by_length l = up_to (length l) l (le_refl (length l))
