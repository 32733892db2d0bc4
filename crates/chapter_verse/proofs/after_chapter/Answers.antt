-- `chapter_verse::after_chapter` meets its contract.
use Rattle.chapter_verse.proofs.Passing.{chapter-passed}
use Rattle.chapter_verse.proofs.after_chapter.Goals as goal

pub returns : goal.returns
returns c =
    let s = c in
    let a = s.args in
    chapter-passed a.tape.now a.seen.now a.i c.link_at-number.result a.rec c.link_at-number.ensures s.requires.1
