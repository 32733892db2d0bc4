-- `numbers::parse_verse_part` meets its contract.
use borrow.Author.Rules.{rules}
use lib.Seq.{length-take-le}
use mathlib.Core.Path.{sym}
use Rattle.numbers.proofs.Parts.{part_none, part-read, part-large}
use Rattle.text.proofs.Chars.{found-le}
use Rattle.numbers.specs.Verse.{suffix_of}
use Rattle.numbers.proofs.parse_verse_part.Goals as goal

pub slice_bounds-parse-end : goal.slice_bounds-parse-end
slice_bounds-parse-end c = sym (length-take-le _ _ (found-le _ _ _ c.find_non_digit-end.ensures))

pub slice_bounds-letter-count : goal.slice_bounds-letter-count
slice_bounds-letter-count c = found-le _ _ _ c.find_non_digit-end.ensures

pub slice_bounds-letter-start : goal.slice_bounds-letter-start
slice_bounds-letter-start c =
    let l = found-le _ _ _ c.find_non_digit-end.ensures in
    search rules

pub returns-then-end-eq0 : goal.returns-then-end-eq0
returns-then-end-eq0 c =
    let f = c in
    part_none _ _ _ f.trim_start-rest.ensures f.find_non_digit-end.ensures c.if-end-eq0.true

pub returns-in-Some : goal.returns-in-Some
returns-in-Some c =
    let p = c in
    let e = p in
    let f = e in
    part-read _ _ _ f.trim_start-rest.ensures f.find_non_digit-end.ensures e.if-end-eq0.false _ p.parse.ensures _ (suffix_of c.letter.result) c.in-Some.is c.letter.ensures

pub returns-in-None : goal.returns-in-None
returns-in-None c =
    let p = c in
    let e = p in
    let f = e in
    part-large _ _ _ f.trim_start-rest.ensures f.find_non_digit-end.ensures e.if-end-eq0.false _ p.parse.ensures c.in-None.is
