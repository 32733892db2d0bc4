-- `messages::message_in` meets its contract.
use native.Mathlib.Omega.{arith}
use Rattle.messages.proofs.Nine.{off-tape, on-tape, answer-lack, answer-short, answer-written}
use Rattle.messages.specs.Answer.{request_by}
use Rattle.messages.proofs.message_in.Goals as goal

pub returns-then-doc-q : goal.returns-then-doc-q
returns-then-doc-q c =
    let a = c.args in
    let z = off-tape a.table.now a.doc.source.now a.doc.tape.now (request_by a.q) c.if-doc-q.true in
    (rw (c.at.ensures, z), rw z)

pub returns-in_default : goal.returns-in_default
returns-in_default c =
    let y = c in
    on-tape _ _ _ _ y.if-doc-q.false _ _ _ _ y.write_message.ensures (rw c.at-in_default.ensures (answer-lack _ _ c.in_default.is))

pub returns-then-out-len : goal.returns-then-out-len
returns-then-out-len c =
    let y = c in
    on-tape _ _ _ _ y.if-doc-q.false _ _ _ _ y.write_message.ensures (rw c.at-then-out-len.ensures (answer-short _ _ _ c.in-Some.is (omega (arith, c.if-out-len.true, y.write_message.auto))))

pub returns : goal.returns
returns c =
    let y = c in
    on-tape _ _ _ _ y.if-doc-q.false _ _ _ _ y.write_message.ensures (answer-written _ _ _ c.in-Some.is (omega (arith, c.if-out-len.false, y.write_message.auto)))
