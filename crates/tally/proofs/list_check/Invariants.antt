-- `tally::list_check`: the words that are left are those of the records from k on.
use Rattle.std.proofs.Common.{◌≡◌, ◌*◌, drop}
use Rattle.std.specs.Iterator.Adapters.{enumerate_source, enumerate_count}
use Rattle.std.specs.Slice.Iter.{chunks_exact_rest, chunks_exact_size}
use Rattle.tally.proofs.Records.{Checking}
use Rattle.tally.proofs.list_check.Given as goal

abbrev pub invariant-loop-k : goal.invariant-loop-k
invariant-loop-k l =
    let k = enumerate_count l.k-iterator in
    let left = enumerate_source l.k-iterator in
    goal.iterator-loop-k.can_next l.k-iterator × goal.iterator-loop-k.is_finite l.k-iterator
    × (chunks_exact_size left ≡ 8) × (chunks_exact_rest left ≡ drop (8 * k) l.list) × Checking l.list k
