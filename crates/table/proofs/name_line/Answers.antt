-- `table::name_line` meets its contract: the key of the constant is that of the definition, and no byte 10 is in it.
use mathlib.Core.Path.{refl, ◌∙◌}
use Rattle.table.specs.Lines.{name_key}
use Rattle.table.specs.Inner.{name_length, step_of}
use Rattle.table.proofs.Heads.{key_step}
use Rattle.table.proofs.Steps.{Read, line_read}
use Rattle.text.specs.Literal.{ascii}
use Rattle.text.specs.Bytes.{all}
use Rattle.table.proofs.name_line.Goals as goal

pub returns : goal.returns
unfolding ascii all step_of
returns c =
    let read : let a = c.args in Read a.table.now a.at 0 c.name_step.result = line_read _ _ 0 _ c.requires (c.name_step.ensures ∙ key_step name_key name_length _ _ refl c.behind.ensures) in
    c.moved.ensures ∙ read.is
