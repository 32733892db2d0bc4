-- `numbers::label_check` meets its contract. The invariant: a search from here on finds what the whole search does.
use Prim.Native.Nat.{◌-◌, ◌≤◌}
use mathlib.Core.Path.{◌≡◌}
use Rattle.tape.specs.Nodes.{count}
use Rattle.refusals.specs.Refusal.{first_bad, split_label}
use Rattle.tape.specs.Forest.{Accepted}
use Rattle.numbers.specs.Label.{bad_label, label_refusal}
use Rattle.table.specs.Inner.{Indexed}
use Rattle.numbers.proofs.label_check.Given as goal

abbrev pub invariant-loop-i : goal.invariant-loop-i
invariant-loop-i l = (Indexed l.table l.index l.entries) × (Accepted l.doc.source.now l.doc.tape.now) × (l.n ≡ count l.doc.tape.now) × (1 ≤ l.i) × (first_bad split_label (bad_label l.table l.doc.source.now l.doc.tape.now) l.i (l.n - l.i) ≡ label_refusal l.table l.doc.source.now l.doc.tape.now)

abbrev pub decreases-loop-i : goal.decreases-loop-i
decreases-loop-i l = l.n - l.i
