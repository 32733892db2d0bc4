-- `tally::tally` meets its contract.
use mathlib.Core.Path.{sym}
use Rattle.std.proofs.lemmas.Result.{err_from_is_err_and}
use Rattle.tally.proofs.tally.Goals as goal

pub count-requires : goal.count-requires
count-requires c = sym c.in_ok-list_check.ensures

pub returns-in_err-list_check : goal.returns-in_err-list_check
returns-in_err-list_check c =
    let p = err_from_is_err_and c.from_residual.result c.from_residual.ensures.1 in
    let e = c.in_err-list_check.ensures in
    record { answer = rw (p.1, p.2) e; counts = rw (sym e) }

pub returns : goal.returns
returns c = let e = c.in_ok-list_check.ensures in record { answer = e; counts = rw (sym e) c.count.ensures }
