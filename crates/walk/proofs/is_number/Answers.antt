-- `walk::is_number` meets its contract.
use mathlib.Core.Path.{ap, ◌∙◌}
use Rattle.numbers.specs.Label.{numbered}
use Rattle.walk.proofs.is_number.Goals as goal

pub returns : goal.returns
returns c = c.is_numbered.ensures ∙ ap numbered c.kind_at.ensures
