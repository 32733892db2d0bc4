-- `second_pass::write_nodes` meets its contract. The loop's measure is what is left of the text.
use Prim.Native.Nat.{◌-◌}
use mathlib.Core.Path.{◌≡◌}
use lib.ListN.{length}
use mathlib.Core.List.{[]}
use Rattle.reader_spec.specs.Answer.{nodes_read}
use Rattle.reader_spec.specs.InnerWriting.{will_hold}
use Rattle.second_pass.proofs.Whole.{Going}
use Rattle.second_pass.proofs.write_nodes.Given as goal

abbrev pub invariant-loop-at : goal.invariant-loop-at
invariant-loop-at l = (length l.t ≡ length l.initial.t) × Going (will_hold l.initial.t l.first [] (nodes_read l.table l.s)) l.table l.s l.t l.w l.at l.depth

abbrev pub decreases-loop-at : goal.decreases-loop-at
decreases-loop-at l = length l.s - l.at
