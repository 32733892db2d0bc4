-- `chapter_verse::verse_after` meets its contract.
use mathlib.Core.Path.{refl, sym, ap, ◌∙◌}
use Rattle.numbers.specs.Verse.{position_of, read_of}
use Rattle.chapter_verse.proofs.Positions.{stays, last-readable, next-of-last}
use Rattle.chapter_verse.proofs.verse_after.Goals as goal

pub next_expected-requires : goal.next_expected-requires
next_expected-requires c =
    let s = c in
    let e = c.end_read in
    last-readable s.args.label.now s.args.read s.requires.1 c.in-Ok.start c.in-Ok.is e.result e.ensures c.end_or.result c.end_or.ensures

pub returns-in-Ok : goal.returns-in-Ok
returns-in-Ok c =
    let q = c in
    let s = q in
    let e = q.end_read in
    next-of-last s.args.label.now s.args.read s.requires.1 q.in-Ok.start q.in-Ok.is e.result e.ensures q.end_or.result q.end_or.ensures c.next_expected.result (position_of s.args.v) c.next_expected.ensures
