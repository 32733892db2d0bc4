-- `table::link_names` meets its contract. The invariant: the entries from number k on are linked.
use Rattle.std.proofs.Common.{◌≡◌, ◌≤◌, length}
use Rattle.table.specs.Inner.{Indexed}
use Rattle.table.proofs.Linking.{Linked}
use Rattle.table.proofs.link_names.Given as goal

abbrev pub invariant-loop-k : goal.invariant-loop-k
invariant-loop-k l = (length l.chains ≡ length l.initial.chains) × (l.k ≤ l.entries) × (Indexed l.table l.index l.entries) × (Linked l.table l.chains l.k)
