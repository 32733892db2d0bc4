-- `rows::is_cell` meets its contract.
use mathlib.Core.Path.{sym, ◌∙◌}
use Rattle.text.specs.Literal.{ascii}
use Rattle.rows.proofs.is_cell.Goals as goal

pub returns-then-starts_with : goal.returns-then-starts_with
unfolding ascii
returns-then-starts_with c = rw (sym c.starts_with.ensures ∙ c.if-starts_with.true) c.if-starts_with.true

pub returns-else-starts_with : goal.returns-else-starts_with
unfolding ascii
returns-else-starts_with c = rw (sym c.starts_with.ensures ∙ c.if-starts_with.false) c.starts_with-else-starts_with.ensures
