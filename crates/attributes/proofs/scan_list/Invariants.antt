-- `attributes::scan_list` meets its contract.
use Prim.Native.Nat.{◌-◌}
use lib.ListN.{length}
use mathlib.Core.Path.{◌≡◌}
use Rattle.attributes.proofs.Quotes.{Seeking}
use Rattle.attributes.proofs.Turns.{Going}
use Rattle.attributes.proofs.scan_list.Given as goal

-- the search for a closing quote writes nothing
abbrev pub invariant-loop-j : goal.invariant-loop-j
invariant-loop-j l = (l.list ≡ l.initial.list) × (l.c ≡ l.initial.c) × Seeking l.body l.initial.j l.j

abbrev pub decreases-loop-j : goal.decreases-loop-j
decreases-loop-j l = length l.body - l.j

abbrev pub invariant-scan : goal.invariant-scan
invariant-scan l = Going l.w l.body l.initial.list l.initial.c l.i l.list l.c

abbrev pub decreases-scan : goal.decreases-scan
decreases-scan l = length l.body - l.i
