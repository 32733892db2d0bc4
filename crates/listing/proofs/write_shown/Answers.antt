-- `listing::write_shown` meets its contract.
use Rattle.messages.specs.Message.{message_text}
use Rattle.messages.specs.Answer.{request_by}
use Rattle.listing.proofs.Shown.{shown-none, shown-whole}
use Rattle.listing.proofs.write_shown.Goals as goal

pub returns-in-Ok : goal.returns-in-Ok
returns-in-Ok c =
    let a = c.args in
    shown-whole (message_text a.table.now a.doc.source.now a.doc.tape.now (request_by a.q)) a.text.now _ c.message_in.result c.message_in.ensures.0 c.message_in.ensures.1 _ c.in-Ok.is

pub returns-in-Err : goal.returns-in-Err
returns-in-Err c =
    let a = c.args in
    shown-none (message_text a.table.now a.doc.source.now a.doc.tape.now (request_by a.q)) a.text.now _ c.message_in.result c.message_in.ensures.0 c.message_in.ensures.1 _ c.in-Err.is
