-- `trial_replay::room` meets its contract.
use Rattle.std.proofs.Common.{ℕ}
use Rattle.std.proofs.Math.ListN.{length-replicate}
use Rattle.trial_replay.proofs.room.Goals as goal

pub returns : goal.returns
returns c = length-replicate {A = ℕ} 1048576 0
