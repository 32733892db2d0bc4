-- `validate::check` meets its contract.
use Rattle.std.proofs.Common.{refl}
use Rattle.std.proofs.lemmas.Result.{err_from_is_err_and}
use Rattle.validate.proofs.Through.{refused-so, accepted-so}
use Rattle.validate.proofs.check.Goals as goal

pub returns-in_err-entries : goal.returns-in_err-entries
returns-in_err-entries c =
    let a = c.args in
    let p = err_from_is_err_and c.from_residual.result c.from_residual.ensures.1 in
    let t = refused-so a.table.now a.source.now a.tape.now a.seen.now a.opens.now a.list.now _ _ refl refl _ c.in_err-entries.ensures.number in
    record { answer = rw (p.1, p.2) t.0; list = t.1.0; seen = t.1.1.0; opens = t.1.1.1 }
