-- `chapter_verse::end_read` meets its contract.
use Rattle.numbers.proofs.Parts.{end-start}
use Rattle.chapter_verse.proofs.end_read.Goals as goal

pub returns-else-find_byte-label : goal.returns-else-find_byte-label
returns-else-find_byte-label c =
    let s = c in
    end-start s.args.label.now _ _ c.find_byte.ensures c.if-find_byte-label.false s.requires
