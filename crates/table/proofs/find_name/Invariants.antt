-- `table::find_name` meets its contract. The invariant: the search stands on the chain of the name's bucket, and the entries that it has not passed give what all the entries give.
use Rattle.table.specs.Inner.{Indexed, Chained}
use Rattle.table.proofs.Buckets.{OnChain, left_of}
use Rattle.table.proofs.find_name.Given as goal

abbrev pub invariant-loop-link : goal.invariant-loop-link
invariant-loop-link l = (Indexed l.table l.index l.entries) × (Chained l.table l.chains) × (OnChain l.table l.name l.link)

abbrev pub decreases-loop-link : goal.decreases-loop-link
decreases-loop-link l = left_of l.entries l.link
