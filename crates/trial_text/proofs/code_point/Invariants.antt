-- `trial_text::code_point` meets its contract.
use Rattle.std.proofs.Common.{◌≤◌}
use Rattle.trial_text.proofs.code_point.Given as goal

abbrev pub invariant-loop-b : goal.invariant-loop-b
invariant-loop-b l = l.cp ≤ 0xFFFFFF
