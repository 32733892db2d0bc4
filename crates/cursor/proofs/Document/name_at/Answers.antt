-- `cursor::Document::name_at` meets its contract.
use Rattle.cursor.proofs.Named.{slash-inside, plus-inside, named-at}
use Rattle.cursor.proofs.Document.name_at.Goals as goal

pub bounds-self-a : goal.bounds-self-a
bounds-self-a c =
    let s = c in
    rw c.start_at-a.ensures (slash-inside s.args.self.source.now _ _ s.requires.0.fits s.requires.1)

pub bounds-self-b : goal.bounds-self-b
bounds-self-b c =
    let s = c in
    rw (c.one_if.ensures.0, c.start_at-a.ensures) (plus-inside s.args.self.source.now _ _ s.requires.0.fits s.requires.1)

pub returns : goal.returns
returns c =
    let s = c in
    rw (c.one_if-2.ensures.0, c.one_if.ensures.0, c.start_at-a.ensures) (named-at s.args.self.source.now _ _ s.requires.0.fits s.requires.1)
