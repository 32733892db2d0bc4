-- `cursor::name_end` meets its contract, as the search for a blank does.
use Prim.Native.Nat.{◌≤◌, ◌-◌, ◌+◌}
use lib.ListN.{length, drop}
use mathlib.Core.Path.{◌≡◌}
use Rattle.cursor.specs.Names.{ends_name}
use Rattle.text.specs.Characters.{find}
use Rattle.cursor.proofs.name_end.Given as goal

abbrev pub invariant-loop-i : goal.invariant-loop-i
invariant-loop-i l = (l.i ≤ length l.s) × (l.from + find ends_name (drop l.from l.s) ≡ l.i + find ends_name (drop l.i l.s))

abbrev pub decreases-loop-i : goal.decreases-loop-i
decreases-loop-i l = length l.s - l.i
