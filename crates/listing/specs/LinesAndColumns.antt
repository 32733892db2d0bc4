-- Line and column of every place of a source, in two lent lists.
use Rattle.std.specs.Prelude.{ℕ, zero, suc, ◌<◌, ◌≤◌, ◌≡◌, List, [], ◌∷◌, length, get_or}
use Rattle.listing.specs.Lines.{line_and_column}
use Rattle.listing.specs.Columns.{column_at}

-- what the places from one on have, n of them
unfoldable pub each_from : (ℕ → ℕ) → ℕ → ℕ → List ℕ
each_from f i zero = []
each_from f i (suc n) = f i ∷ each_from f (suc i) n

-- the lines of the places from one on, n of them, and the columns
abbrev pub lines_from : List ℕ → ℕ → ℕ → List ℕ
lines_from s i n = each_from (λ k. (line_and_column s k).line) i n

abbrev pub columns_from : List ℕ → ℕ → ℕ → List ℕ
columns_from s i n = each_from (λ k. column_at s k) i n

-- the lists that `lines_and_columns` writes: line and column of every place of a source
pub record PlacesOf (s lines columns : List ℕ) : Type 0 where
  pub lines_room : length s < length lines
  pub columns_room : length s < length columns
  pub lines_are : (i : ℕ) → i ≤ length s → get_or lines i 0 ≡ (line_and_column s i).line
  pub columns_are : (i : ℕ) → i ≤ length s → get_or columns i 0 ≡ column_at s i
