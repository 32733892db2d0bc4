-- Nine kinds.
-- Assumes nothing.
use mathlib.Core.Path.{◌≡◌}
use Prim.Native.Nat.{ℕ, suc, ◌≤◌}
use native.Mathlib.Omega.{arith}

-- a number from n on that isn't n
above : (n k : ℕ) → n ≤ k → (k ≡ n → ⊥) → suc n ≤ k
above n k h x = omega arith

-- none of the first eight
pub ninth : (k : ℕ) → k ≤ 8 → (k ≡ 0 → ⊥) → (k ≡ 1 → ⊥) → (k ≡ 2 → ⊥) → (k ≡ 3 → ⊥) → (k ≡ 4 → ⊥) → (k ≡ 5 → ⊥) → (k ≡ 6 → ⊥) → (k ≡ 7 → ⊥) → 8 ≡ k
ninth k h a b c d e f g i =
    let low : 8 ≤ k = above 7 k (above 6 k (above 5 k (above 4 k (above 3 k (above 2 k (above 1 k (above 0 k (omega arith) a) b) c) d) e) f) g) i in
    last k h low
  where
    last : (k : ℕ) → k ≤ 8 → 8 ≤ k → 8 ≡ k
    last k h l = omega arith
