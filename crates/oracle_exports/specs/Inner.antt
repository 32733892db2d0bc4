-- What the inner functions promise of a node.
use Rattle.std.specs.Prelude.{ℕ, ◌+◌, ◌<◌, ◌≤◌, ◌≡◌, List, length}
use Rattle.tape.specs.Nodes.{count, link_at}
use Rattle.tape.specs.Forest.{Accepted}
use Rattle.cursor.specs.Inner.{Run}

-- a node of an accepted tape, and not its root
pub record Child (s t : List ℕ) (i : ℕ) : Type 0 where
  pub accepted : Accepted s t
  pub from : 1 ≤ i
  pub inside : i < count t

-- a node of an accepted tape that holds others, which are the run up to its link
pub record Holds (s t : List ℕ) (i : ℕ) : Type 0 where
  pub inside : i < count t
  pub run : Run s t (i + 1) (link_at t i)

-- an open node of an accepted tape over a source that number 2 passes, and where its run ends
pub record Opened (s t : List ℕ) (i to : ℕ) : Type 0 where
  pub short : length s ≤ 1048576
  pub child : Child s t i
  pub holds : Holds s t i
  pub end : to ≡ link_at t i

-- a node and one of its children, whose next siblings begin at a node
pub record SiblingsAfter (s t : List ℕ) (parent i from : ℕ) : Type 0 where
  pub outer : parent < count t
  pub inside : i < count t
  pub run : Run s t from (link_at t parent)
