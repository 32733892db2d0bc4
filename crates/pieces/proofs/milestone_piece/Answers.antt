-- `pieces::milestone_piece` meets its contract: behind a bar.
use Rattle.std.proofs.Common.{true, false, sym, ◌∙◌}
use Rattle.pieces.proofs.Places.{rest_is}
use Rattle.pieces.proofs.Answers.{behind_bar}
use Rattle.pieces.proofs.milestone_piece.Goals as goal

pub returns-then-star_at-2 : goal.returns-then-star_at-2
returns-then-star_at-2 c =
    let a = c.args in
    let b = c.find_from-bar in
    let n = c.find_byte-attributes in
    λ t. behind_bar a.m a.l.now a.end c.requires.is (sym c.star_at.ensures ∙ c.if-star_at.false) b.result b.ensures.is (sym c.byte_is.ensures ∙ c.if-byte_is.true) n.result (n.ensures ∙ rw rest_is) true (sym c.star_at-then-byte_is.ensures ∙ c.if-star_at-2.true)

pub returns-else-star_at-2 : goal.returns-else-star_at-2
returns-else-star_at-2 c =
    let a = c.args in
    let b = c.find_from-bar in
    let n = c.find_byte-attributes in
    λ t. behind_bar a.m a.l.now a.end c.requires.is (sym c.star_at.ensures ∙ c.if-star_at.false) b.result b.ensures.is (sym c.byte_is.ensures ∙ c.if-byte_is.true) n.result (n.ensures ∙ rw rest_is) false (sym c.star_at-then-byte_is.ensures ∙ c.if-star_at-2.false)
