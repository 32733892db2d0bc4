-- `table::name_step` meets its contract, a test at a time.
use native.Mathlib.Omega.{arith}
use Rattle.text.proofs.Chars.{found-le}
use Rattle.table.proofs.Heads.{unnamed, name-open, name-other, name-good, name-empty, name-long}
use Rattle.table.proofs.name_step.Goals as goal

pub returns-then-n-s : goal.returns-then-n-s
returns-then-n-s c = name-open c.args.s.now _ c.name_len-n.ensures c.if-n-s.true

pub bounds-s-n : goal.bounds-s-n
bounds-s-n c = omega (arith, found-le unnamed c.args.s.now _ c.name_len-n.ensures)

pub returns-then-s-n-ne10 : goal.returns-then-s-n-ne10
returns-then-s-n-ne10 c = name-other c.args.s.now _ c.name_len-n.ensures c.if-s-n-ne10.true

pub returns-in-1-to-16 : goal.returns-in-1-to-16
returns-in-1-to-16 c =
    let d = c in
    name-good d.args.s.now _ d.name_len-n.ensures d.if-s-n-ne10.false c.in-1-to-16.if-n-lt1-own.false c.in-1-to-16.if-n-lt17-own.true

pub returns-in_default : goal.returns-in_default
returns-in_default c =
    let d = c in
    name-empty d.args.s.now _ d.name_len-n.ensures d.if-s-n-ne10.false c.in_default.if-n-lt1-own.true

pub returns-in_default-2 : goal.returns-in_default-2
returns-in_default-2 c =
    let d = c in
    name-long d.args.s.now _ d.name_len-n.ensures d.if-s-n-ne10.false c.in_default.if-n-lt17-own.false
