-- `numbers::gather` meets its contract. The invariant: those kept so far, followed by those of the nodes that are left, are all.
use Prim.Native.Nat.{◌+◌, ◌-◌, ◌≤◌}
use lib.ListN.{length, take}
use mathlib.Core.List.{◌++◌}
use mathlib.Core.Path.{◌≡◌}
use Rattle.numbers.specs.Inner.{numbers_in}
use Rattle.numbers.proofs.gather.Given as goal

abbrev pub invariant-loop-i : goal.invariant-loop-i
invariant-loop-i l = (l.from ≤ l.i) × (l.i ≤ l.to) × (l.k + l.from ≤ l.i) × (length l.found ≡ length l.initial.found) × (take l.k l.found ++ numbers_in l.tape l.i (l.to - l.i) ≡ numbers_in l.tape l.from (l.to - l.from))
