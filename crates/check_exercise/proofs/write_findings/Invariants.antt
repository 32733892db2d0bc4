-- `check_exercise::write_findings` ends: each piece goes on to a later finding.
use Rattle.std.proofs.Common.{◌-◌, ◌≤◌}
use Rattle.check_exercise.proofs.write_findings.Given as goal

abbrev pub invariant-loop-k : goal.invariant-loop-k
invariant-loop-k g l = l.k ≤ l.held

abbrev pub decreases-loop-k : goal.decreases-loop-k
decreases-loop-k g l = l.held - l.k
