-- `text::equal_short` meets its contract.
use mathlib.Core.Path.{sym, ◌∙◌}
use Rattle.text.proofs.Blocks.{fronts-apart, fronts-same}
use Rattle.text.proofs.equal_short.Goals as goal

pub returns-then-equal_8 : goal.returns-then-equal_8
returns-then-equal_8 c = c.equal_from.ensures ∙ sym (fronts-same c.args.a.now c.args.b.now 8 c.requires c.if-a-ge8.true (sym c.equal_8.ensures ∙ c.if-equal_8.true))

pub returns-else-equal_8 : goal.returns-else-equal_8
returns-else-equal_8 c = c.if-equal_8.false ∙ sym (fronts-apart c.args.a.now c.args.b.now 8 c.requires c.if-a-ge8.true (sym c.equal_8.ensures ∙ c.if-equal_8.false))

pub returns-then-equal_4 : goal.returns-then-equal_4
returns-then-equal_4 c = c.equal_from-then-equal_4.ensures ∙ sym (fronts-same c.args.a.now c.args.b.now 4 c.requires c.if-a-ge4.true (sym c.equal_4.ensures ∙ c.if-equal_4.true))

pub returns-else-equal_4 : goal.returns-else-equal_4
returns-else-equal_4 c = c.if-equal_4.false ∙ sym (fronts-apart c.args.a.now c.args.b.now 4 c.requires c.if-a-ge4.true (sym c.equal_4.ensures ∙ c.if-equal_4.false))
