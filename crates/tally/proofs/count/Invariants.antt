-- `tally::count`: the words that are left are those of the records that are not counted yet.
use Rattle.std.proofs.Common.{◌≡◌, ◌*◌, length, drop}
use Rattle.std.specs.Slice.Iter.{chunks_exact_rest, chunks_exact_size}
use Rattle.tally.proofs.Counting.{Counting}
use Rattle.tally.proofs.count.Given as goal

abbrev pub invariant-loop-record : goal.invariant-loop-record
invariant-loop-record l =
    let k = length l.yielded in
    let left = l.record-iterator in
    goal.iterator-loop-record.can_next left × goal.iterator-loop-record.is_finite left
    × (chunks_exact_size left ≡ 8) × (chunks_exact_rest left ≡ drop (8 * k) l.list) × Counting l.list l.initial.counts l.counts k
