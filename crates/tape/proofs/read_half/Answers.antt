-- `tape::read_half` meets its contract.
use native.Mathlib.Omega.{arith}
use Rattle.tape.specs.Nodes.{half}
use Rattle.tape.proofs.read_half.Goals as goal

pub returns : goal.returns
unfolding half
returns c = omega arith
