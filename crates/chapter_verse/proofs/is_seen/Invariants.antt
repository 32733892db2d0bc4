-- `chapter_verse::is_seen` meets its contract. The invariant: the words that are left have the number exactly if all have it.
use Prim.Native.Nat.{◌≤◌}
use mathlib.Core.Path.{◌≡◌}
use lib.ListN.{length}
use Rattle.attachment.specs.Attached.{among}
use Rattle.state.specs.Inner.{latest}
use Rattle.chapter_verse.proofs.is_seen.Given as goal

abbrev pub invariant-loop-i : goal.invariant-loop-i
invariant-loop-i l = (l.i ≤ length l.seen) × (among l.num (latest l.seen l.i) ≡ among l.num (latest l.seen l.k))

abbrev pub decreases-loop-i : goal.decreases-loop-i
decreases-loop-i l = l.i
