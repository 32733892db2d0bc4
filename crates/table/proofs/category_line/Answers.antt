-- `table::category_line` meets its contract: the key of the constant is that of the definition, and no byte 10 is in it.
use mathlib.Core.Path.{refl, ◌∙◌}
use Rattle.table.specs.Lines.{category_key, categories}
use Rattle.table.specs.Books.{code_from}
use Rattle.table.specs.Inner.{step_of}
use Rattle.table.proofs.Heads.{key_step}
use Rattle.table.proofs.Steps.{Read, line_read}
use Rattle.text.specs.Literal.{ascii}
use Rattle.text.specs.Bytes.{all}
use Rattle.table.proofs.category_line.Goals as goal

pub returns : goal.returns
unfolding ascii all step_of
returns c =
    let read : let a = c.args in Read a.table.now a.at 1 c.category_step.result = line_read _ _ 1 _ c.requires (c.category_step.ensures ∙ key_step category_key (code_from 0 categories) _ _ refl c.behind.ensures) in
    c.moved.ensures ∙ read.is
