-- `text::stop_at` meets its contract.
use mathlib.Core.Path.{sym, ◌∙◌}
use native.Mathlib.Omega.{arith}
use Rattle.text.proofs.Find.{stops-ascii}
use Rattle.text.proofs.stop_at.Goals as goal

pub returns-in-Some-true : goal.returns-in-Some-true
returns-in-Some-true g c =
    let e = c.in-Some-true.ensures in
    record { is = sym (stops-ascii _ c.args.s.now c.args.at (omega arith) e.0 (e.1 ∙ c.in-Some-true.field-0-test)); inside = omega arith }
