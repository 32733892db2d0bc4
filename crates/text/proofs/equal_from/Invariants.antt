-- `text::equal_from` meets its contract. The invariant: the lists are equal from the place on exactly if what is left of them is.
use Rattle.std.proofs.Common.{◌≡◌, length, drop}
use Rattle.text.specs.Bytes.{equal}
use Rattle.text.proofs.equal_from.Given as goal

abbrev pub invariant-loop-i : goal.invariant-loop-i
invariant-loop-i l = (length l.a ≡ length l.b) × (equal (drop l.from l.a) (drop l.from l.b) ≡ equal (drop l.i l.a) (drop l.i l.b))
