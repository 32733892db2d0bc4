-- `attributes::after_bar` meets its contract.
use mathlib.Core.Path.{sym, ◌∙◌}
use Rattle.attributes.proofs.Bars.{bar-yes, bar-no}
use Rattle.attributes.proofs.Scanning.{leads-in}
use Rattle.attributes.proofs.after_bar.Goals as goal

pub slice_bounds-result-count : goal.slice_bounds-result-count
slice_bounds-result-count c = leads-in 0x7C c.args.s.now 0 (sym c.byte_is.ensures ∙ c.if-byte_is.true)

pub slice_bounds-result-start : goal.slice_bounds-result-start
slice_bounds-result-start c = leads-in 0x7C c.args.s.now 0 (sym c.byte_is.ensures ∙ c.if-byte_is.true)

pub returns-then-byte_is : goal.returns-then-byte_is
returns-then-byte_is c = bar-yes c.args.s.now (sym c.byte_is.ensures ∙ c.if-byte_is.true)

pub returns : goal.returns
returns c = bar-no c.args.s.now (sym c.byte_is.ensures ∙ c.if-byte_is.false)
