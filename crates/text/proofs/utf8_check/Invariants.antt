-- `text::utf8_check` meets its contract. The invariant: what the text gives is what the scan gives from the place on.
use Prim.Native.Nat.{◌≤◌, ◌-◌}
use lib.ListN.{length, drop}
use mathlib.Core.Path.{◌≡◌}
use Rattle.text.specs.Utf8.{scan, first_ill_formed}
use Rattle.text.proofs.utf8_check.Given as goal

abbrev pub invariant-loop-i : goal.invariant-loop-i
invariant-loop-i l = (l.n ≡ length l.s) × (l.i ≤ l.n) × (first_ill_formed l.s ≡ scan (drop l.i l.s) 0 l.i)

abbrev pub decreases-loop-i : goal.decreases-loop-i
decreases-loop-i l = l.n - l.i
