-- `table::is_front_matter_code` meets its contract: the codes of the constant are the codes of the definition.
use mathlib.Core.Path.{sym, ap, ◌∙◌}
use Rattle.table.specs.Names.{front_matter}
use Rattle.table.specs.Inner.{triples}
use Rattle.text.specs.Pick.{known}
use Rattle.table.proofs.Words.{one-of}
use Rattle.text.specs.Literal.{ascii}
use Rattle.table.proofs.is_front_matter_code.Goals as goal

pub returns : goal.returns
unfolding ascii triples front_matter
returns c = c.is_some.ensures ∙ ap known c.code_in.ensures ∙ sym (one-of front_matter _ 0)
