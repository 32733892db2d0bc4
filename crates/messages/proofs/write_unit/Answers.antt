-- `messages::write_unit` meets its contract.
use mathlib.Core.Path.{sym}
use native.Mathlib.Omega.{arith}
use lib.Seq.{length-take-le}
use borrow.Author.Tests.{eq-eqb, ne_eqb}
use lib.ListN.{get_or}
use Rattle.text.specs.Literal.{ascii}
use Rattle.messages.proofs.Lengths.{take_short}
use Rattle.messages.proofs.write_unit.Goals as goal

pub slice_bounds-write_text-end : goal.slice_bounds-write_text-end
slice_bounds-write_text-end c =
    let s = c in
    sym (length-take-le 1 s.args.name.now s.requires.0)

pub write_text-requires : goal.write_text-requires
write_text-requires c =
    let s = c in
    let a = s.args in
    let k = take_short 1 a.name.now in
    record { a_short = s.requires.1; b_short = omega (arith, s.requires.1); c_short = omega arith }

pub returns-then-name-eq99 : goal.returns-then-name-eq99
unfolding ascii
returns-then-name-eq99 c =
    let a = c.args in
    rw (eq-eqb (get_or a.name.now 0 0) 0x63 c.if-name-eq99.true) c.write_text.ensures

pub write_text-requires-2 : goal.write_text-requires-2
write_text-requires-2 c =
    let s = c in
    let a = s.args in
    let k = take_short 1 a.name.now in
    record { a_short = s.requires.1; b_short = omega (arith, s.requires.1); c_short = omega arith }

pub returns : goal.returns
unfolding ascii
returns c =
    let a = c.args in
    rw (ne_eqb (get_or a.name.now 0 0) 0x63 c.if-name-eq99.false) c.write_text-2.ensures
