-- `messages::write_message` meets its contract.
use mathlib.Core.Path.{ap}
use Rattle.message_texts.specs.Texts as texts
use Rattle.messages.proofs.Values.{written-with, holes-9, holes-10, holes-27}
use Rattle.messages.proofs.Plain.{written-plain}
use Rattle.messages.proofs.Shown.{numbers-shown}
use Rattle.messages.specs.Answer.{request_by}
use Rattle.messages.specs.Inner.{is_tables, is_labels}
use Rattle.messages.proofs.write_message.Goals as goal

pub write_entry-requires : goal.write_entry-requires
write_entry-requires c =
    let m = c in
    (m.requires, ap is_tables m.in-13.is)

pub write_label-requires : goal.write_label-requires
write_label-requires c =
    let m = c in
    (m.requires, ap is_labels m.in-15.is)

pub write_entry-requires-in-23 : goal.write_entry-requires-in-23
write_entry-requires-in-23 c =
    let m = c in
    (m.requires, ap is_tables m.in-23.is)

pub write_entry-requires-in-24 : goal.write_entry-requires-in-24
write_entry-requires-in-24 c =
    let m = c in
    (m.requires, ap is_tables m.in-24.is)

pub write_label-requires-in-35 : goal.write_label-requires-in-35
write_label-requires-in-35 c =
    let m = c in
    (m.requires, ap is_labels m.in-35.is)

pub returns-in-5 : goal.returns-in-5
returns-in-5 c = c.write_book.ensures _

pub returns-in-9 : goal.returns-in-9
returns-in-9 c =
    let m = c in
    let a = m.args in
    let q = request_by a.q in
    written-with a.table.now a.doc.source.now a.doc.tape.now q texts.first texts.second texts.empty (holes-9 q.code m.in-9.is) _ _ _ (numbers-shown a.table.now a.doc.source.now a.doc.tape.now q) _ _ _ c.write_numbers.ensures

pub returns-in-10 : goal.returns-in-10
returns-in-10 c =
    let m = c in
    let a = m.args in
    let q = request_by a.q in
    written-with a.table.now a.doc.source.now a.doc.tape.now q texts.first texts.second texts.empty (holes-10 q.code m.in-10.is) _ _ _ (numbers-shown a.table.now a.doc.source.now a.doc.tape.now q) _ _ _ c.write_numbers-in-10.ensures

pub returns-in-27 : goal.returns-in-27
returns-in-27 c =
    let m = c in
    let a = m.args in
    let q = request_by a.q in
    written-with a.table.now a.doc.source.now a.doc.tape.now q texts.first texts.second texts.empty (holes-27 q.code m.in-27.is) _ _ _ (numbers-shown a.table.now a.doc.source.now a.doc.tape.now q) _ _ _ c.write_numbers-in-27.ensures

pub returns-in_default : goal.returns-in_default
returns-in_default c =
    let m = c in
    let a = m.args in
    written-plain a.table.now a.doc.source.now a.doc.tape.now (request_by a.q) m.in_default.in_default-own.rest _ _ _ c.write_text.ensures
