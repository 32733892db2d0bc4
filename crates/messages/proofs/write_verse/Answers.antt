-- `messages::write_verse` meets its contract.
use native.Mathlib.Omega.{arith}
use mathlib.Core.List.{[], ◌++◌}
use Rattle.tape.specs.Nodes.{kind_at}
use Rattle.cursor.specs.Info.{info_at}
use Rattle.numbers.specs.Label.{numbered}
use Rattle.buffer.specs.Decimal.{decimal}
use Rattle.message_texts.specs.Texts as texts
use Rattle.messages.specs.Message.{letter_bytes}
use Rattle.messages.proofs.Values.{holes-11, written-with, written-lacks}
use Rattle.messages.proofs.Shown.{far-letter, verse-lacks, verse-shown}
use Rattle.messages.proofs.Lengths.{label-fits}
use Rattle.messages.specs.Answer.{request_by}
use Rattle.messages.proofs.write_verse.Goals as goal

pub returns-then-q-gt127 : goal.returns-then-q-gt127
returns-then-q-gt127 c =
    let s = c in
    let a = s.args in
    let q = request_by a.q in
    written-lacks a.table.now a.doc.source.now a.doc.tape.now q texts.position texts.label texts.empty (holes-11 q.code s.requires.1) (far-letter a.table.now a.doc.source.now a.doc.tape.now q (omega arith)) a.out.now

pub returns-then-label-eq0 : goal.returns-then-label-eq0
returns-then-label-eq0 c =
    let n = c in
    let s = n in
    let a = s.args in
    let q = request_by a.q in
    written-lacks a.table.now a.doc.source.now a.doc.tape.now q texts.position texts.label texts.empty (holes-11 q.code s.requires.1) (verse-lacks a.table.now a.doc.source.now a.doc.tape.now q n.label_shown-label.result.now n.label_shown-label.ensures (omega arith) c.if-label-eq0.true) a.out.now

pub write_position-requires : goal.write_position-requires
write_position-requires c =
    let n = c in
    let s = n in
    let a = s.args in
    let q = request_by a.q in
    (omega arith, label-fits a.doc.source.now a.doc.tape.now q.node s.requires.0.short (numbered (kind_at a.doc.tape.now q.node)) (info_at a.table.now a.doc.tape.now q.node) n.label_shown-label.result.now n.label_shown-label.ensures)

pub returns : goal.returns
returns c =
    let p = c in
    let e = p in
    let n = e in
    let s = n in
    let a = s.args in
    let q = request_by a.q in
    written-with a.table.now a.doc.source.now a.doc.tape.now q texts.position texts.label texts.empty (holes-11 q.code s.requires.1) (decimal q.first ++ letter_bytes q.second) n.label_shown-label.result.now [] (verse-shown a.table.now a.doc.source.now a.doc.tape.now q n.label_shown-label.result.now n.label_shown-label.ensures (omega arith) e.if-label-eq0.false) a.out.now p.write_position.new.out p.write_position.result p.write_position.ensures
