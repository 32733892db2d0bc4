-- `text::ascii_of_16` meets its contract: twice eight.
use Prim.Native.Nat.{◌+◌}
use native.Mathlib.Omega.{arith}
use Rattle.text.proofs.Ascii.{joined}
use Rattle.text.proofs.ascii_of_16.Goals as goal

pub returns : goal.returns
returns c =
    let a = c.args in
    let first = c.ascii_of_8-n.ensures in
    let next = c.ascii_of_8.ensures in
    (omega (arith, next.0), joined a.s.now a.at (a.at + 8) (a.at + (8 + c.ascii_of_8.result)) (λ k g l. first.1 k g (omega (arith, first.0))) (λ k g l. next.1 k g (omega arith)))
