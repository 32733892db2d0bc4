-- `table::undigited_len` meets its contract. The invariant: the first i bytes have as many left as all have.
use Rattle.std.proofs.Common.{◌≡◌, ◌≤◌, length, take}
use Rattle.table.specs.Names.{undigited}
use Rattle.table.proofs.undigited_len.Given as goal

abbrev pub invariant-loop-i : goal.invariant-loop-i
invariant-loop-i l = (l.i ≤ length l.s) × (undigited (take l.end l.s) ≡ undigited (take l.i l.s))
