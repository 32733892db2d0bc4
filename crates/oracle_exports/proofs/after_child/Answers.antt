-- `oracle_exports::after_child` meets its contract.
use native.Mathlib.Omega.{arith}
use Rattle.cursor.proofs.Runs.{run-next, past-later}
use Rattle.oracle_exports.proofs.after_child.Goals as goal

pub returns-then-k-i : goal.returns-then-k-i
returns-then-k-i c = rw c.past_node-next.ensures (run-next _ _ _ _ c.loop-k.invariant c.loop-k-test.true)

pub loop-k-smaller : goal.loop-k-smaller
loop-k-smaller c =
    omega (arith, past-later _ _ _ _ c.loop-k.invariant c.loop-k-test.true, c.past_node-next.ensures)

pub loop-k-preserved : goal.loop-k-preserved
loop-k-preserved c = rw c.past_node-next.ensures (run-next _ _ _ _ c.loop-k.invariant c.loop-k-test.true)
