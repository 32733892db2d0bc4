-- `table::word_in` meets its contract. The invariant: the words from the place on give what all the words give.
use Prim.Native.Nat.{◌≤◌, ◌-◌, ◌+◌}
use lib.ListN.{length, drop}
use mathlib.Core.Path.{◌≡◌}
use Rattle.table.specs.Lines.{lines}
use Rattle.table.specs.Books.{code_from}
use Rattle.table.specs.Inner.{lines_of}
use Rattle.table.proofs.Parts.{bodies}
use Rattle.table.proofs.word_in.Given as goal

abbrev pub invariant-loop-at : goal.invariant-loop-at
invariant-loop-at l = (l.k ≤ l.at) × (l.at ≤ length l.words + 1) × (code_from 0 (lines_of l.words) l.s ≡ code_from l.k (bodies (lines l.at (drop l.at l.words))) l.s)

abbrev pub decreases-loop-at : goal.decreases-loop-at
decreases-loop-at l = length l.words + 1 - l.at
