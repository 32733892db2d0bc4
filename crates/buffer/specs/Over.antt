-- Bytes written over a lent list.
use Rattle.std.specs.Prelude.{ℕ, zero, suc, ◌+◌, ◌≡◌, List, [], ◌∷◌, length}

-- a list with bytes written over it from a place on, as far as there is room
unfoldable pub over : List ℕ → ℕ → List ℕ → List ℕ
over [] at s = []
over (x ∷ l) zero [] = x ∷ l
over (x ∷ l) zero (b ∷ s) = b ∷ over l zero s
over (x ∷ l) (suc at) s = x ∷ over l at s

-- what a function that writes bytes promises: the list after it, and the place behind them
pub record Put (s l : List ℕ) (at : ℕ) (l' : List ℕ) (r : ℕ) : Type 0 where
  pub list : l' ≡ over l at s
  pub end : r ≡ at + length s

-- a place, and bytes, whose sum stays in 64 bits
abbrev pub place_limit : ℕ
place_limit = 4611686018427387904
