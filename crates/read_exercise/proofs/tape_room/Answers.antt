-- `read_exercise::tape_room` meets its contract.
use Rattle.std.proofs.Common.{ℕ, sym}
use Rattle.std.proofs.Math.ListN.{length-replicate}
use Rattle.read_exercise.proofs.tape_room.Goals as goal

pub returns : goal.returns
returns c = sym (length-replicate {A = ℕ} 1048592 0)
