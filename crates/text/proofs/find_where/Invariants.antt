-- `text::find_where` meets its contract. The invariant: what is to be found lies as far from the place reached as it does from the start.
use Rattle.std.proofs.Common.{◌≡◌, ◌+◌, drop}
use Rattle.text.specs.Characters.{find}
use Rattle.text.proofs.find_where.Given as goal

abbrev pub invariant-loop-i : goal.invariant-loop-i
invariant-loop-i g l = l.from + find g.T.CharTest.test (drop l.from l.s) ≡ l.i + find g.T.CharTest.test (drop l.i l.s)
