-- `table::index` meets its contract. The invariant: what is left of the text gives what the whole text gives.
use Prim.Native.Nat.{◌-◌}
use lib.ListN.{length}
use mathlib.Core.Path.{◌≡◌}
use Rattle.table.proofs.Filling.{Going}
use Rattle.table.proofs.index.Given as goal

abbrev pub invariant-loop-at : goal.invariant-loop-at
invariant-loop-at l = (length l.index ≡ length l.initial.index) × (Going l.table l.index l.at l.k)

abbrev pub decreases-loop-at : goal.decreases-loop-at
decreases-loop-at l = length l.table - l.at
