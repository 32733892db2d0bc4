-- `messages::write_position` meets its contract.
use Prim.Native.Nat.{◌≤◌}
use mathlib.Core.Path.{◌≡◌, sym}
use mathlib.Core.List.{[], ◌∷◌, ◌++◌, append-nil}
use native.Mathlib.Omega.{arith}
use lib.ListN.{length, take, length-append}
use lib.Seq.{length-take-le}
use Rattle.buffer.specs.Decimal.{decimal}
use Rattle.buffer.proofs.Decimal.{decimal-length}
use Rattle.buffer.proofs.Over.{put_then}
use Rattle.messages.proofs.Digits.{inside, taken}
use Rattle.messages.proofs.Parts.{letter-none, letter-one}
use Rattle.messages.proofs.write_position.Goals as goal

pub slice_bounds-x-end : goal.slice_bounds-x-end
slice_bounds-x-end c =
    let few : length (decimal c.args.first) ≤ 20 = decimal-length c.args.first (omega arith) in
    let few-one : length (decimal c.args.first) ≤ 21 = omega (arith, few) in
    let in-x : c.put_decimal-k.result ≤ length c.put_decimal-k.new.out = let s = c in inside (decimal s.args.first) _ c.put_decimal-k.new.out c.put_decimal-k.result few-one c.put_decimal-k.ensures in
    in-x

pub slice_bounds-write_text-end : goal.slice_bounds-write_text-end
slice_bounds-write_text-end c =
    let few : length (decimal c.args.first) ≤ 20 = decimal-length c.args.first (omega arith) in
    let few-one : length (decimal c.args.first) ≤ 21 = omega (arith, few) in
    let in-x : c.put_decimal-k.result ≤ length c.put_decimal-k.new.out = let s = c in inside (decimal s.args.first) _ c.put_decimal-k.new.out c.put_decimal-k.result few-one c.put_decimal-k.ensures in
    let d = c in sym (length-take-le d.put_decimal-k.result d.put_decimal-k.new.out in-x)

pub write_text-requires : goal.write_text-requires
write_text-requires c =
    let few : length (decimal c.args.first) ≤ 20 = decimal-length c.args.first (omega arith) in
    let few-one : length (decimal c.args.first) ≤ 21 = omega (arith, few) in
    let of-x : take c.put_decimal-k.result c.put_decimal-k.new.out ≡ decimal c.args.first = let s = c in taken (decimal s.args.first) _ c.put_decimal-k.new.out c.put_decimal-k.result few-one c.put_decimal-k.ensures in
    let d = c in
    let s = d in
    rw of-x (record { a_short = omega (arith, few); b_short = s.requires.1; c_short = omega arith })

pub returns-then-second-eq0 : goal.returns-then-second-eq0
returns-then-second-eq0 c =
    let few : length (decimal c.args.first) ≤ 20 = decimal-length c.args.first (omega arith) in
    let few-one : length (decimal c.args.first) ≤ 21 = omega (arith, few) in
    let of-x : take c.put_decimal-k.result c.put_decimal-k.new.out ≡ decimal c.args.first = let s = c in taken (decimal s.args.first) _ c.put_decimal-k.new.out c.put_decimal-k.result few-one c.put_decimal-k.ensures in
    let t = c in
    let d = t in
    let s = d in
    rw (letter-none s.args.second t.if-second-eq0.true, append-nil) (rw of-x at c.write_text.ensures)

pub put-m-requires : goal.put-m-requires
put-m-requires c =
    let few : length (decimal c.args.first) ≤ 20 = decimal-length c.args.first (omega arith) in
    let d = c in
    let s = d in
    (omega (arith, few, d.put_decimal-k.ensures.end), omega arith)

pub slice_bounds-x-end-2 : goal.slice_bounds-x-end-2
slice_bounds-x-end-2 c =
    let few : length (decimal c.args.first) ≤ 20 = decimal-length c.args.first (omega arith) in
    let few-more : length (decimal c.args.first ++ (c.args.second ∷ [])) ≤ 21 = omega (arith, few, length-append (decimal c.args.first) (c.args.second ∷ [])) in
    let in-more : c.put-m.result ≤ length c.put-m.new.out = let d = c in let s = d in inside (decimal s.args.first ++ (s.args.second ∷ [])) _ c.put-m.new.out c.put-m.result few-more (put_then d.put_decimal-k.ensures c.put-m.ensures) in
    in-more

pub slice_bounds-write_text-end-2 : goal.slice_bounds-write_text-end-2
slice_bounds-write_text-end-2 c =
    let few : length (decimal c.args.first) ≤ 20 = decimal-length c.args.first (omega arith) in
    let few-more : length (decimal c.args.first ++ (c.args.second ∷ [])) ≤ 21 = omega (arith, few, length-append (decimal c.args.first) (c.args.second ∷ [])) in
    let in-more : c.put-m.result ≤ length c.put-m.new.out = let d = c in let s = d in inside (decimal s.args.first ++ (s.args.second ∷ [])) _ c.put-m.new.out c.put-m.result few-more (put_then d.put_decimal-k.ensures c.put-m.ensures) in
    sym (length-take-le c.put-m.result c.put-m.new.out in-more)

pub write_text-requires-2 : goal.write_text-requires-2
write_text-requires-2 c =
    let few : length (decimal c.args.first) ≤ 20 = decimal-length c.args.first (omega arith) in
    let few-more : length (decimal c.args.first ++ (c.args.second ∷ [])) ≤ 21 = omega (arith, few, length-append (decimal c.args.first) (c.args.second ∷ [])) in
    let of-more : take c.put-m.result c.put-m.new.out ≡ decimal c.args.first ++ (c.args.second ∷ []) = let d = c in let s = d in taken (decimal s.args.first ++ (s.args.second ∷ [])) _ c.put-m.new.out c.put-m.result few-more (put_then d.put_decimal-k.ensures c.put-m.ensures) in
    let p = c in
    let s = p in
    rw of-more (record { a_short = omega (arith, few-more); b_short = s.requires.1; c_short = omega arith })

pub returns : goal.returns
returns c =
    let few : length (decimal c.args.first) ≤ 20 = decimal-length c.args.first (omega arith) in
    let few-more : length (decimal c.args.first ++ (c.args.second ∷ [])) ≤ 21 = omega (arith, few, length-append (decimal c.args.first) (c.args.second ∷ [])) in
    let of-more : take c.put-m.result c.put-m.new.out ≡ decimal c.args.first ++ (c.args.second ∷ []) = let d = c in let s = d in taken (decimal s.args.first ++ (s.args.second ∷ [])) _ c.put-m.new.out c.put-m.result few-more (put_then d.put_decimal-k.ensures c.put-m.ensures) in
    let p = c in
    let e = p in
    let s = e in
    rw (letter-one s.args.second e.if-second-eq0.false) (rw of-more at c.write_text-2.ensures)
