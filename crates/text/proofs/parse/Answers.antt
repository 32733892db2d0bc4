-- `text::parse` meets its contract.
use mathlib.Core.Path.{sym, ap, ◌∙◌}
use Rattle.text.proofs.Number.{parsed-plus, parsed-plain}
use Rattle.text.specs.Number.{digits}
use Rattle.text.proofs.parse.Goals as goal

pub returns-in-Some : goal.returns-in-Some
returns-in-Some c =
    let s = c.args.s.now in
    c.digits.ensures ∙ ap digits c.in-Some.ensures.cases.1 ∙ sym (parsed-plus s c.in-Some.ensures.cases.0)

pub returns-in-None : goal.returns-in-None
returns-in-None c = c.digits-in-None.ensures ∙ sym (parsed-plain c.args.s.now c.in-None.ensures.cases)
