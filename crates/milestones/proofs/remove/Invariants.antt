-- `milestones::remove`: the entries up to entry i have moved down.
use Rattle.std.proofs.Common.{◌-◌}
use Rattle.milestones.proofs.Moves.{Moving}
use Rattle.milestones.proofs.remove.Given as goal

abbrev pub invariant-loop-i : goal.invariant-loop-i
invariant-loop-i l = Moving l.initial.opens l.at (l.k - 1) l.opens l.i
