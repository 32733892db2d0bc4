-- `pieces::byte_is` meets its contract.
use native.Mathlib.Omega.{arith}
use Rattle.pieces.proofs.Tests.{byte-in, byte-out}
use Rattle.pieces.proofs.byte_is.Goals as goal

pub returns-then-k-l : goal.returns-then-k-l
returns-then-k-l c =
    let a = c.args in
    byte-in a.b a.l.now a.k (omega arith)

pub returns-else-k-l : goal.returns-else-k-l
returns-else-k-l c =
    let a = c.args in
    byte-out a.b a.l.now a.k (omega arith) (omega arith)
