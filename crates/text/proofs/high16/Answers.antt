-- `text::high16` meets its contract: twice eight.
use Prim.Native.Nat.{◌+◌}
use native.Mathlib.Omega.{arith}
use Rattle.text.proofs.Ascii.{or-zero, joined, high-0}
use Rattle.text.proofs.high16.Goals as goal

pub returns : goal.returns
returns c =
    let a = c.args in
    λ z.
    let r = or-zero _ _ z in
    joined a.s.now a.at (a.at + 8) (a.at + 16) (high-0 a.s.now a.at _ c.high8.ensures r.0) (λ k g l. high-0 a.s.now (a.at + 8) _ c.high8-2.ensures r.1 k g (omega arith))
