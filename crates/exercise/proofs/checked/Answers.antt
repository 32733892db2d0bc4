-- `exercise::checked` meets its contract: its open starts are the definition's.
use Rattle.std.proofs.Common.{ap, refl, ◌∙◌}
use Rattle.definition.proofs.Filled.{filled-with}
use Rattle.definition.specs.Outcome.{answer, list_after, no_start}
use Rattle.validate.specs.Entry.{lent}
use Rattle.exercise.proofs.checked.Goals as goal

pub returns : goal.returns
returns c =
    let a = c.args in
    record {
      answer = c.check.ensures.answer ∙ ap (λ xs. answer (lent a.table.now a.source.now a.tape.now a.seen.now xs a.list.now)) (filled-with 4096 no_start _ refl);
      list = c.check.ensures.list ∙ ap (λ xs. list_after (lent a.table.now a.source.now a.tape.now a.seen.now xs a.list.now)) (filled-with 4096 no_start _ refl);
    }
