-- `pieces::word_end` meets its contract, as the search for a blank does.
use Prim.Native.Nat.{◌≤◌, ◌-◌, ◌+◌}
use lib.ListN.{length, drop}
use mathlib.Core.Path.{◌≡◌}
use Rattle.text.specs.Characters.{find}
use Rattle.reader_spec.specs.Pieces.{ends_word}
use Rattle.pieces.proofs.word_end.Given as goal

abbrev pub invariant-loop-i : goal.invariant-loop-i
invariant-loop-i l = (l.i ≤ length l.l) × (l.from + find ends_word (drop l.from l.l) ≡ l.i + find ends_word (drop l.i l.l))

abbrev pub decreases-loop-i : goal.decreases-loop-i
decreases-loop-i l = length l.l - l.i
