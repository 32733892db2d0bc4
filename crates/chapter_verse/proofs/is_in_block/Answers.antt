-- `chapter_verse::is_in_block` meets its contract.
use Rattle.chapter_verse.proofs.Seen.{block_more}
use Rattle.chapter_verse.proofs.is_in_block.Goals as goal

pub loop-i-preserved : goal.loop-i-preserved
loop-i-preserved c =
    let a = c.args in
    let l = c.loop-i in
    block_more a.seen.now a.num a.at l.i l.found l.invariant
