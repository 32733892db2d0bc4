-- `messages::write_parts` meets its contract.
use mathlib.Core.Path.{sym}
use native.Mathlib.Omega.{arith}
use Prim.Native.Nat.{◌-◌}
use lib.ListN.{length}
use lib.Seq.{length-take-le}
use Rattle.messages.proofs.Lengths.{take_short}
use Rattle.messages.proofs.write_parts.Goals as goal

pub slice_bounds-write_text-end : goal.slice_bounds-write_text-end
slice_bounds-write_text-end c =
    let a = c.args in
    sym (length-take-le (length a.name.now - length a.label.now) a.name.now (omega arith))

pub write_text-requires : goal.write_text-requires
write_text-requires c =
    let s = c in
    let a = s.args in
    let k = take_short (length a.name.now - length a.label.now) a.name.now in
    record { a_short = s.requires.1; b_short = omega (arith, s.requires.1); c_short = omega (arith, s.requires.0, s.requires.1) }
