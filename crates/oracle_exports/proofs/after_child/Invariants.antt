-- `oracle_exports::after_child` meets its contract.
use Prim.Native.Nat.{◌-◌}
use Rattle.cursor.specs.Inner.{Run}
use Rattle.oracle_exports.proofs.after_child.Given as goal

abbrev pub invariant-loop-k : goal.invariant-loop-k
invariant-loop-k l = Run l.source l.tape l.k l.to

abbrev pub decreases-loop-k : goal.decreases-loop-k
decreases-loop-k l = l.to - l.k
