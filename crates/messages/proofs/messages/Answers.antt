-- `messages::messages` meets its contract.
use Rattle.std.proofs.lemmas.Result.{err_from_is_err_and}
use Rattle.messages.proofs.Nine.{nine-refused, passed, is-accepted, is-short}
use Rattle.messages.proofs.messages.Goals as goal

pub messages_in-requires : goal.messages_in-requires
messages_in-requires c =
    let a = c.args in
    let e = c.in_ok-entries.ensures in
    let z = passed a.table.now a.source.now a.tape.now e.number in
    (e.index, is-accepted a.table.now a.source.now a.tape.now z, is-short a.table.now a.source.now a.tape.now z)

pub returns-in_err-entries : goal.returns-in_err-entries
returns-in_err-entries c =
    let a = c.args in
    let p = err_from_is_err_and c.from_residual.result c.from_residual.ensures.1 in
    let z = nine-refused a.table.now a.source.now a.tape.now _ c.in_err-entries.ensures.number in
    record { answer = rw (p.1, p.2, z); bytes = rw z; ends = rw z }

pub returns : goal.returns
returns c =
    let a = c.args in
    let z = passed a.table.now a.source.now a.tape.now c.in_ok-entries.ensures.number in
    let m = c.messages_in.ensures in
    record { answer = rw z m.answer; bytes = rw z m.bytes; ends = rw z m.ends }
