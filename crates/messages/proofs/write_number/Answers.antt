-- `messages::write_number` meets its contract.
use Prim.Native.Nat.{◌≤◌}
use mathlib.Core.Path.{refl, sym, ◌∙◌}
use native.Mathlib.Omega.{arith}
use lib.Dec.{eqb}
use lib.ListN.{get_or, take}
use borrow.Author.Tests.{not-true, not-false}
use Rattle.tape.specs.Nodes.{node_at}
use Rattle.cursor.specs.Names.{name_of}
use Rattle.cursor.specs.Info.{info_at}
use Rattle.cursor.proofs.Around.{spanned}
use Rattle.message_texts.specs.Texts as texts
use Rattle.messages.specs.Message.{unit_of}
use Rattle.messages.specs.Inner.{name_or}
use Rattle.messages.proofs.Values.{holes-33, written-with, written-lacks}
use Rattle.messages.proofs.Shown.{root-number, no_number, number-shown}
use Rattle.messages.proofs.Lengths.{by-source, name-fits, four-named}
use Rattle.messages.specs.Answer.{request_by}
use Rattle.messages.proofs.write_number.Goals as goal

pub returns-then-q-eq0 : goal.returns-then-q-eq0
returns-then-q-eq0 c =
    let s = c in
    let a = s.args in
    written-lacks a.table.now a.doc.source.now a.doc.tape.now (request_by a.q) texts.number_name texts.owner texts.unit (holes-33 a.q.code s.requires.1)
    (root-number a.table.now a.doc.source.now a.doc.tape.now (request_by a.q) c.if-q-eq0.true)
    a.out.now

pub name_shown-name-requires : goal.name_shown-name-requires
name_shown-name-requires c =
    let s = c in
    let a = s.args in
    let h : 1 ≤ a.q.node = omega (arith, c.if-q-eq0.false) in
    (s.requires.0.indexed, spanned a.doc.source.now a.doc.tape.now a.q.node s.requires.0.accepted h s.requires.0.inside)

pub returns-then-not-is_number_marker : goal.returns-then-not-is_number_marker
returns-then-not-is_number_marker c =
    let s = c in
    let a = s.args in
    let n = c.name_shown-name in
    let is = by-source a.q.code (name_or a.table.now (info_at a.table.now a.doc.tape.now a.q.node)) (name_of (node_at a.doc.source.now a.doc.tape.now a.q.node).text) n.result.now n.ensures 33 refl s.requires.1 in
    written-lacks a.table.now a.doc.source.now a.doc.tape.now (request_by a.q) texts.number_name texts.owner texts.unit (holes-33 a.q.code s.requires.1)
    (no_number a.table.now a.doc.source.now a.doc.tape.now (request_by a.q) n.result.now is c.if-q-eq0.false (sym c.is_number_marker.ensures ∙ not-true _ c.if-not-is_number_marker.true-raw))
    a.out.now

pub write_unit-requires : goal.write_unit-requires
write_unit-requires c =
    let s = c in
    let a = s.args in
    let n = c.name_shown-name in
    let is = by-source a.q.code (name_or a.table.now (info_at a.table.now a.doc.tape.now a.q.node)) (name_of (node_at a.doc.source.now a.doc.tape.now a.q.node).text) n.result.now n.ensures 33 refl s.requires.1 in
    (four-named n.result.now (sym c.is_number_marker.ensures ∙ not-false _ c.if-not-is_number_marker.false-raw), name-fits a.doc.source.now a.doc.tape.now a.q.node s.requires.0.short n.result.now is)

pub returns : goal.returns
returns c =
    let s = c in
    let a = s.args in
    let n = c.name_shown-name in
    let is = by-source a.q.code (name_or a.table.now (info_at a.table.now a.doc.tape.now a.q.node)) (name_of (node_at a.doc.source.now a.doc.tape.now a.q.node).text) n.result.now n.ensures 33 refl s.requires.1 in
    written-with a.table.now a.doc.source.now a.doc.tape.now (request_by a.q) texts.number_name texts.owner texts.unit (holes-33 a.q.code s.requires.1)
    n.result.now (take 1 n.result.now) (unit_of (eqb (get_or n.result.now 0 0) 0x63))
    (number-shown a.table.now a.doc.source.now a.doc.tape.now (request_by a.q) n.result.now is c.if-q-eq0.false (sym c.is_number_marker.ensures ∙ not-false _ c.if-not-is_number_marker.false-raw))
    a.out.now _ _ c.write_unit.ensures
