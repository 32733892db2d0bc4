-- `numbers::parse_verse_range_end` meets its contract.
use Rattle.numbers.proofs.Parts.{end_after, end-start}
use Rattle.numbers.proofs.parse_verse_range_end.Goals as goal

pub returns-then-at-s : goal.returns-then-at-s
returns-then-at-s c =
    end_after c.args.s.now _ _ c.find_byte-at.ensures c.if-at-s.true c.parse_verse_part.ensures

pub returns-else-at-s : goal.returns-else-at-s
returns-else-at-s c =
    end-start c.args.s.now _ _ c.find_byte-at.ensures c.if-at-s.false c.parse_verse_part-else-at-s.ensures
