-- `chapter_verse::is_in_block` meets its contract. The invariant: what is found so far, with what is known of the words before the block, is what the words up to here have.
use Rattle.std.proofs.Common.{◌≡◌, ◌+◌, ◌||◌}
use Rattle.attachment.specs.Attached.{among}
use Rattle.state.specs.Inner.{latest}
use Rattle.chapter_verse.proofs.is_in_block.Given as goal

abbrev pub invariant-loop-i : goal.invariant-loop-i
invariant-loop-i l = (l.found || among l.num (latest l.seen l.at)) ≡ among l.num (latest l.seen (l.at + l.i))
