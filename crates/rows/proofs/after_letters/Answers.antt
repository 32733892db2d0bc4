-- `rows::after_letters` meets its contract.
use borrow.Author.Rules.{rules}
use mathlib.Core.Bool.{true, false}
use mathlib.Core.Path.{sym, ◌∙◌}
use Rattle.rows.proofs.Reading.{aligned-long, letters-cut}
use Rattle.rows.proofs.after_letters.Goals as goal

pub slice_bounds-result-count : goal.slice_bounds-result-count
slice_bounds-result-count c = aligned-long c.args.name.now (sym c.is_aligned.ensures ∙ c.if-is_aligned.true)

pub slice_bounds-result-start : goal.slice_bounds-result-start
slice_bounds-result-start c =
    let l = aligned-long c.args.name.now (sym c.is_aligned.ensures ∙ c.if-is_aligned.true) in
    search rules

pub returns-then-is_aligned : goal.returns-then-is_aligned
returns-then-is_aligned c = letters-cut c.args.name.now _ true c.is_aligned.ensures c.if-is_aligned.true

pub returns-else-is_aligned : goal.returns-else-is_aligned
returns-else-is_aligned c = letters-cut c.args.name.now _ false c.is_aligned.ensures c.if-is_aligned.false
