-- `first_pass::survey_with` meets its contract.
use Prim.Native.Nat.{◌-◌}
use lib.ListN.{length}
use Rattle.first_pass.specs.Counted.{Windowed}
use Rattle.first_pass.proofs.Surveying.{Passing}
use Rattle.first_pass.proofs.survey_with.Given as goal

abbrev pub invariant-loop-at : goal.invariant-loop-at
invariant-loop-at l =
    Passing l.table l.s l.at l.nodes l.depth l.block × Windowed l.table l.s l.at l.depth l.low l.window

abbrev pub decreases-loop-at : goal.decreases-loop-at
decreases-loop-at l =
    length l.s - l.at
