-- `chapter_verse::after_verse` meets its contract.
use Rattle.table.specs.Entries.{info_of}
use Rattle.state.specs.Inner.{context_of}
use Rattle.chapter_verse.proofs.Passing.{verse-passed}
use Rattle.chapter_verse.proofs.after_verse.Goals as goal

pub returns : goal.returns
returns c =
    let b = c in
    let a = b.args in
    verse-passed (info_of a.info) a.doc.source.now a.doc.tape.now (context_of a.context) a.i a.rec a.label.now c.verse_after-next.result c.or_not-warned.result b.requires.0 c.verse_after-next.ensures c.or_not-warned.ensures
