-- `marker_checks::row_findings` meets its contract.
use mathlib.Core.Path.{sym, ◌∙◌}
use Rattle.findings.proofs.Overlay.{wrote_none}
use Rattle.text.specs.Literal.{ascii}
use Rattle.marker_checks.proofs.row_findings.Goals as goal

pub returns : goal.returns
unfolding ascii
returns c = rw (sym c.equal.ensures ∙ c.if-equal.false) (wrote_none c.args.list.now c.args.c)
