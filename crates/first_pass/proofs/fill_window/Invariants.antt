-- `first_pass::fill_window` meets its contract.
use Prim.Native.Nat.{◌-◌}
use Rattle.first_pass.proofs.Windows.{Filling}
use Rattle.first_pass.proofs.fill_window.Given as goal

abbrev pub invariant-loop-at : goal.invariant-loop-at
invariant-loop-at l = Filling l.table l.s l.to l.low l.window l.at l.depth

abbrev pub decreases-loop-at : goal.decreases-loop-at
decreases-loop-at l = l.to - l.at
