-- `messages::write_label` meets its contract.
use mathlib.Core.List.{[]}
use native.Mathlib.Omega.{arith}
use Rattle.numbers.specs.Label.{numbered}
use Rattle.tape.specs.Nodes.{kind_at}
use Rattle.cursor.specs.Info.{info_at}
use Rattle.message_texts.specs.Texts as texts
use Rattle.messages.proofs.Values.{holes-label, written-with, written-lacks}
use Rattle.messages.proofs.Shown.{label-none, label-shown}
use Rattle.messages.proofs.Lengths.{label-fits}
use Rattle.messages.specs.Answer.{request_by}
use Rattle.messages.proofs.write_label.Goals as goal

pub returns-then-label-eq0 : goal.returns-then-label-eq0
returns-then-label-eq0 c =
    let s = c in
    let a = s.args in
    let n = c.label_shown-label in
    written-lacks a.table.now a.doc.source.now a.doc.tape.now (request_by a.q) texts.label texts.empty texts.empty (holes-label a.q.code s.requires.1)
    (label-none a.table.now a.doc.source.now a.doc.tape.now (request_by a.q) n.result.now n.ensures c.if-label-eq0.true)
    a.out.now

pub write_text-requires : goal.write_text-requires
write_text-requires c =
    let s = c in
    let a = s.args in
    let n = c.label_shown-label in
    record { a_short = label-fits a.doc.source.now a.doc.tape.now a.q.node s.requires.0.short (numbered (kind_at a.doc.tape.now a.q.node)) (info_at a.table.now a.doc.tape.now a.q.node) n.result.now n.ensures; b_short = omega arith; c_short = omega arith }

pub returns : goal.returns
returns c =
    let s = c in
    let a = s.args in
    let n = c.label_shown-label in
    written-with a.table.now a.doc.source.now a.doc.tape.now (request_by a.q) texts.label texts.empty texts.empty (holes-label a.q.code s.requires.1)
    n.result.now [] []
    (label-shown a.table.now a.doc.source.now a.doc.tape.now (request_by a.q) n.result.now n.ensures c.if-label-eq0.false)
    a.out.now _ _ c.write_text.ensures
