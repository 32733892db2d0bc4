-- `text::find_blank` meets its contract.
use mathlib.Core.Path.{◌∙◌}
use native.Mathlib.Nat.{zero-add}
use Rattle.text.proofs.find_blank.Goals as goal

pub returns : goal.returns
returns c = c.find_from.ensures.is ∙ zero-add _
