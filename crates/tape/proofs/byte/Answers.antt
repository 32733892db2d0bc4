-- `tape::byte` meets its contract.
use mathlib.Core.Path.{refl}
use native.Mathlib.Omega.{arith}
use Rattle.tape.proofs.byte.Goals as goal

pub returns : goal.returns
returns c = (refl, omega (arith, c.type_inv.t c.args.k))
