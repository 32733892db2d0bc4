-- `numbers::first_word_end` meets its contract.
use mathlib.Core.Path.{◌∙◌}
use native.Mathlib.Omega.{arith}
use Rattle.numbers.proofs.Labels.{first-end}
use Rattle.text.proofs.Cuts.{word_end}
use Rattle.numbers.proofs.first_word_end.Goals as goal

pub returns-then-e-eq0 : goal.returns-then-e-eq0
returns-then-e-eq0 c =
    let a = c.find_from-a in
    let e = c.find_from in
    record { is = word_end c.args.text.now 0 a.result e.result a.ensures.is e.ensures.is; inside = e.ensures.inside }

pub returns : goal.returns
returns c =
    let b = c in
    let e = c.find_from-2.ensures in
    record { is = e.is ∙ first-end b.args.text.now b.args.at.end b.requires.stops (omega arith) b.requires.inside; inside = e.inside }
