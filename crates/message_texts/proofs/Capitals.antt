-- Bytes with capitals for small letters.
-- Assumes nothing.
use Prim.Native.Nat.{ℕ, zero, suc, ◌+◌, ◌<◌}
use mathlib.Core.Path.{◌≡◌, refl, ap}
use mathlib.Core.List.{List, [], ◌∷◌}
use lib.ListN.{length, set, get_or}
use Rattle.buffer.proofs.Writing.{Writing, writing-on}
use Rattle.text.specs.Bytes.{capital, upper}

pub length-upper : (s : List ℕ) → length (upper s) ≡ length s
unfolding upper
length-upper [] = refl
length-upper (b ∷ s) = ap suc (length-upper s)

upper-at : (s : List ℕ) (i : ℕ) → get_or (upper s) i 0 ≡ capital (get_or s i 0)
unfolding upper
upper-at [] i = refl
upper-at (b ∷ s) zero = refl
upper-at (b ∷ s) (suc i) = upper-at s i

pub capitals-on : (s l₀ : List ℕ) (at : ℕ) (l : List ℕ) (i b : ℕ) → Writing (upper s) l₀ at l i → i < length s → at + i < length l → b ≡ capital (get_or s i 0) → Writing (upper s) l₀ at (set l (at + i) b) (i + 1)
capitals-on s l₀ at l i b y h k e = rw (e, ← upper-at s i) (writing-on (upper s) l₀ at l i y (rw (length-upper s) h) k)
