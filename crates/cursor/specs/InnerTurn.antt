-- The siblings of a run, in order.
use Rattle.std.specs.Prelude.{ℕ, List, [], ◌∷◌}
use Rattle.tape.specs.Forest.{Forest, end, leaf, node, forest}
use Rattle.cursor.specs.Inner.{Run}
use Rattle.cursor.specs.declared.Siblings.{Siblings}

-- the numbers of a run's nodes, without those inside them
unfoldable pub numbers : Forest → List ℕ
numbers end = []
numbers (leaf x r) = x.number ∷ numbers r
numbers (node x c r) = x.number ∷ numbers r

-- the numbers of the siblings from node a up to b; they need no source
unfoldable pub siblings : List ℕ → ℕ → ℕ → List ℕ
siblings t a b = numbers (forest [] t a b)

-- a run of siblings, of some source
pub record SomeRun (t : List ℕ) (a b : ℕ) : Type 0 where
  pub source : List ℕ
  pub run : Run source t a b

-- what an iterator has left
abbrev pub left : Siblings → List ℕ
left s = siblings s.tape.now s.next s.end

abbrev pub HasRun : Siblings → Type 0
HasRun s = SomeRun s.tape.now s.next s.end
