-- `text::high8` meets its contract: the masked sum of eight bytes.
use native.Mathlib.Omega.{arith}
use Rattle.text.proofs.Ascii.{high-8}
use Rattle.text.proofs.high8.Goals as goal

pub returns : goal.returns
returns c = high-8 c.args.s.now c.args.at _ (λ k. omega (arith, c.type_inv.s k)) c.eight_bytes.ensures
