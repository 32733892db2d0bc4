-- `trial_text::bytes_of` meets its contract.
use Rattle.std.proofs.Common.{◌≤◌, length}
use Rattle.trial_text.proofs.bytes_of.Given as goal

abbrev pub invariant-loop-two : goal.invariant-loop-two
invariant-loop-two l = l.n ≤ length l.out
