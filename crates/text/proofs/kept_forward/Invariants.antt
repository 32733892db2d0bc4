-- `text::kept_forward` meets its contract. The invariant: what is kept of the first i bytes, and what is kept of the rest, give what is kept of all.
use Prim.Native.Nat.{◌≤◌, ◌-◌}
use lib.ListN.{length, drop}
use mathlib.Core.Path.{◌≡◌}
use Rattle.text.proofs.Kept.{end_of}
use Rattle.text.specs.Characters.{chars}
use Rattle.text.specs.Words.{kept}
use Rattle.text.proofs.kept_forward.Given as goal

abbrev pub invariant-loop-i : goal.invariant-loop-i
invariant-loop-i l = (l.end ≤ l.i) × (l.i ≤ length l.s) × (kept (chars l.s) ≡ end_of l.end l.i (kept (chars (drop l.i l.s))))

abbrev pub decreases-loop-i : goal.decreases-loop-i
decreases-loop-i l = length l.s - l.i
