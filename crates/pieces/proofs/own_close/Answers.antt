-- `pieces::own_close` meets its contract.
use Rattle.std.proofs.Common.{sym, ◌∙◌}
use Rattle.cursor.proofs.Named.{name-cut}
use Rattle.pieces.proofs.Closes.{own}
use Rattle.pieces.proofs.own_close.Goals as goal

pub returns-then-equal : goal.returns-then-equal
returns-then-equal c =
    let a = c.args in
    let at = c.name_span-at in
    let same = sym c.equal.ensures ∙ c.if-equal.true in
    λ t i. own t a.opened.now a.l.now (sym c.byte_is.ensures ∙ c.if-not-byte_is.false) (sym c.byte_is-else-not-byte_is.ensures ∙ c.if-byte_is.false) at.result.end at.ensures.stops (sym c.byte_is-2.ensures ∙ c.if-byte_is-2.true) (rw (c.name_of.ensures, name-cut a.l.now at.result at.ensures) at same) i
