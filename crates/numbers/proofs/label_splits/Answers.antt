-- `numbers::label_splits` meets its contract.
use mathlib.Core.Path.{◌∙◌}
use Rattle.numbers.proofs.Labels.{split-known, split-missing}
use Rattle.numbers.proofs.label_splits.Goals as goal

pub returns-in-Some : goal.returns-in-Some
returns-in-Some c =
    let m = c in
    let a = m.args in
    c.is_split.ensures ∙ split-known m.in-Some.m a.info a.text.now m.in-Some.is

pub returns-in-None : goal.returns-in-None
returns-in-None c = let a = c.args in split-missing a.info a.text.now c.in-None.is
