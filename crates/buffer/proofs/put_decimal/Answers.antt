-- `buffer::put_decimal` meets its contract.
use native.Mathlib.Omega.{arith}
use Rattle.buffer.proofs.Decimal.{fewest-decimal, decimal-length}
use Rattle.buffer.proofs.put_decimal.Goals as goal

pub put-requires : goal.put-requires
put-requires c =
    let d = c.decimal-k in
    let n = c.args.n in
    let few = decimal-length n (omega arith) in
    (omega arith, rw (d.ensures.digits, fewest-decimal d.result n d.ensures.len) (omega arith))

pub returns : goal.returns
returns c =
    let d = c.decimal-k in
    rw (← fewest-decimal _ _ d.ensures.len, ← d.ensures.digits) c.put.ensures
