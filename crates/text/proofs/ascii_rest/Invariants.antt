-- `text::ascii_rest` meets its contract. The invariant: what is passed is ASCII.
use Rattle.text.specs.Inner.{Ascii}
use Rattle.text.proofs.ascii_rest.Given as goal

abbrev pub invariant-loop-i : goal.invariant-loop-i
invariant-loop-i l = Ascii l.s l.from l.i
