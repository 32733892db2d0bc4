-- `messages::write_numbers` meets its contract.
use Prim.Native.Nat.{◌≤◌}
use mathlib.Core.Path.{◌≡◌, sym}
use native.Mathlib.Omega.{arith}
use lib.ListN.{length, take}
use lib.Seq.{length-take-le}
use Rattle.buffer.specs.Decimal.{decimal}
use Rattle.buffer.proofs.Decimal.{decimal-length}
use Rattle.messages.proofs.Digits.{inside, taken}
use Rattle.messages.proofs.write_numbers.Goals as goal

pub slice_bounds-x-end : goal.slice_bounds-x-end
slice_bounds-x-end c =
    let few : length (decimal c.args.first) ≤ 20 = decimal-length c.args.first (omega arith) in
    let in-x : c.put_decimal-k.result ≤ length c.put_decimal-k.new.out = let s = c in inside (decimal s.args.first) _ c.put_decimal-k.new.out c.put_decimal-k.result few c.put_decimal-k.ensures in
    in-x

pub slice_bounds-write_text-end : goal.slice_bounds-write_text-end
slice_bounds-write_text-end c =
    let few : length (decimal c.args.first) ≤ 20 = decimal-length c.args.first (omega arith) in
    let in-x : c.put_decimal-k.result ≤ length c.put_decimal-k.new.out = let s = c in inside (decimal s.args.first) _ c.put_decimal-k.new.out c.put_decimal-k.result few c.put_decimal-k.ensures in
    let p = c in sym (length-take-le p.put_decimal-k.result p.put_decimal-k.new.out in-x)

pub slice_bounds-y-end : goal.slice_bounds-y-end
slice_bounds-y-end c =
    let few-2 : length (decimal c.args.second) ≤ 20 = decimal-length c.args.second (omega arith) in
    let in-y : c.put_decimal-m.result ≤ length c.put_decimal-m.new.out = let s = c in inside (decimal s.args.second) _ c.put_decimal-m.new.out c.put_decimal-m.result few-2 c.put_decimal-m.ensures in
    in-y

pub slice_bounds-write_text-end-2 : goal.slice_bounds-write_text-end-2
slice_bounds-write_text-end-2 c =
    let few-2 : length (decimal c.args.second) ≤ 20 = decimal-length c.args.second (omega arith) in
    let in-y : c.put_decimal-m.result ≤ length c.put_decimal-m.new.out = let s = c in inside (decimal s.args.second) _ c.put_decimal-m.new.out c.put_decimal-m.result few-2 c.put_decimal-m.ensures in
    let p = c in sym (length-take-le p.put_decimal-m.result p.put_decimal-m.new.out in-y)

pub write_text-requires : goal.write_text-requires
write_text-requires c =
    let few : length (decimal c.args.first) ≤ 20 = decimal-length c.args.first (omega arith) in
    let few-2 : length (decimal c.args.second) ≤ 20 = decimal-length c.args.second (omega arith) in
    let of-x : take c.put_decimal-k.result c.put_decimal-k.new.out ≡ decimal c.args.first = let s = c in taken (decimal s.args.first) _ c.put_decimal-k.new.out c.put_decimal-k.result few c.put_decimal-k.ensures in
    let of-y : take c.put_decimal-m.result c.put_decimal-m.new.out ≡ decimal c.args.second = let s = c in taken (decimal s.args.second) _ c.put_decimal-m.new.out c.put_decimal-m.result few-2 c.put_decimal-m.ensures in
    let y = c in
    let x = y in
    let s = x in
    rw (of-x, of-y) (record { a_short = omega (arith, few); b_short = omega (arith, few-2); c_short = omega arith })

pub returns : goal.returns
returns c =
    let few : length (decimal c.args.first) ≤ 20 = decimal-length c.args.first (omega arith) in
    let few-2 : length (decimal c.args.second) ≤ 20 = decimal-length c.args.second (omega arith) in
    let of-x : take c.put_decimal-k.result c.put_decimal-k.new.out ≡ decimal c.args.first = let s = c in taken (decimal s.args.first) _ c.put_decimal-k.new.out c.put_decimal-k.result few c.put_decimal-k.ensures in
    let of-y : take c.put_decimal-m.result c.put_decimal-m.new.out ≡ decimal c.args.second = let s = c in taken (decimal s.args.second) _ c.put_decimal-m.new.out c.put_decimal-m.result few-2 c.put_decimal-m.ensures in
    let y = c in
    let x = y in
    rw (of-x, of-y) at c.write_text.ensures
