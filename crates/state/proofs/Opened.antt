-- The open starts that a working list holds.
-- Assumes nothing.
use Prim.Native.Nat.{ℕ, zero, suc}
use mathlib.Core.Path.{◌≡◌, refl, ap}
use mathlib.Core.List.{List}
use lib.ListN.{length}
use Rattle.definition.specs.declared.OpenStart.{OpenStart}
use Rattle.state.specs.Inner.{open_nodes}

pub starts-length : (s t : List ℕ) (opens : List OpenStart) (k : ℕ) → length (open_nodes s t opens k) ≡ k
unfolding open_nodes
starts-length s t opens zero = refl
starts-length s t opens (suc k) = ap suc (starts-length s t opens k)
