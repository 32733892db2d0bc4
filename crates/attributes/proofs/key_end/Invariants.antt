-- `attributes::key_end` meets its contract.
use Prim.Native.Nat.{◌≤◌, ◌-◌, ◌+◌}
use lib.ListN.{length, drop}
use mathlib.Core.Path.{◌≡◌}
use Rattle.attributes.specs.Inner.{ends_key}
use Rattle.text.specs.Characters.{find}
use Rattle.attributes.proofs.key_end.Given as goal

abbrev pub invariant-loop-i : goal.invariant-loop-i
invariant-loop-i l = (l.i ≤ length l.s) × (l.from + find ends_key (drop l.from l.s) ≡ l.i + find ends_key (drop l.i l.s))

abbrev pub decreases-loop-i : goal.decreases-loop-i
decreases-loop-i l = length l.s - l.i
