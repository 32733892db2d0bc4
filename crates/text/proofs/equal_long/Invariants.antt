-- `text::equal_long` meets its contract. The invariant: the last eight bytes are the same, and what is left of the two lists is equal exactly if they are.
use Prim.Native.Nat.{◌+◌, ◌-◌, ◌≤◌}
use lib.ListN.{length, drop}
use mathlib.Core.Bool.{true}
use mathlib.Core.Path.{◌≡◌}
use Rattle.text.specs.Bytes.{equal}
use Rattle.text.proofs.equal_long.Given as goal

abbrev pub invariant-loop-i : goal.invariant-loop-i
invariant-loop-i l =
    (length l.a ≡ length l.b) × (l.last + 8 ≡ length l.a) × (l.i ≤ length l.a) × (equal (drop l.last l.a) (drop l.last l.b) ≡ true) × (equal l.a l.b ≡ equal (drop l.i l.a) (drop l.i l.b))

abbrev pub decreases-loop-i : goal.decreases-loop-i
decreases-loop-i l = l.last - l.i
