-- `text::ascii_of_8` meets its contract: the lowest bit that is set stands in the first byte above ASCII.
use native.Mathlib.Omega.{arith}
use Rattle.text.proofs.Ascii.{high-first}
use Rattle.text.proofs.ascii_of_8.Goals as goal

pub overflow_cast-result : goal.overflow_cast-result
overflow_cast-result c =
    let a = c.args in
    let h = high-first a.s.now a.at c.high8.result c.high8.ensures in
    omega (arith, h.0)

pub returns : goal.returns
returns c = high-first c.args.s.now c.args.at c.high8.result c.high8.ensures
