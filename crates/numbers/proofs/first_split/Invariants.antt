-- `numbers::first_split` meets its contract.
use lib.ListN.{drop}
use mathlib.Core.Path.{◌≡◌}
use Rattle.numbers.specs.Label.{bad_label}
use Rattle.numbers.specs.Inner.{first_among}
use Rattle.numbers.proofs.first_split.Given as goal

abbrev pub invariant-loop-j : goal.invariant-loop-j
invariant-loop-j l = first_among (bad_label l.table l.doc.source.now l.doc.tape.now) (drop l.j l.found) ≡ first_among (bad_label l.table l.doc.source.now l.doc.tape.now) l.found
