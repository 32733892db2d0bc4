-- `attributes::closes` meets its contract.
use mathlib.Core.Path.{sym, ◌∙◌}
use Rattle.attributes.proofs.Quotes.{later-quote}
use Rattle.attributes.proofs.closes.Goals as goal

pub returns-else-j-from : goal.returns-else-j-from
returns-else-j-from c =
    let a = c.args in
    later-quote a.s.now a.from a.j c.byte_is-else-j-from.result (sym c.byte_is.ensures ∙ c.if-byte_is.true) c.if-j-from.false c.byte_is-else-j-from.ensures
