-- `messages::write_owner` meets its contract.
use Prim.Native.Nat.{◌≤◌}
use mathlib.Core.Path.{refl}
use mathlib.Core.List.{[]}
use native.Mathlib.Omega.{arith}
use Rattle.tape.specs.Nodes.{node_at}
use Rattle.cursor.specs.Names.{name_of}
use Rattle.cursor.specs.Info.{info_at}
use Rattle.cursor.proofs.Around.{spanned}
use Rattle.message_texts.specs.Texts as texts
use Rattle.messages.specs.Inner.{name_or}
use Rattle.messages.proofs.Values.{holes-32, written-with, written-lacks}
use Rattle.messages.proofs.Shown.{root-owner, far-owner, owner-shown}
use Rattle.messages.proofs.Lengths.{by-source, name-fits}
use Rattle.messages.specs.Answer.{request_by}
use Rattle.messages.proofs.write_owner.Goals as goal

pub returns-then-q-eq0 : goal.returns-then-q-eq0
returns-then-q-eq0 c =
    let s = c in
    let a = s.args in
    written-lacks a.table.now a.doc.source.now a.doc.tape.now (request_by a.q) texts.owner_name texts.empty texts.empty (holes-32 a.q.code s.requires.1)
    (root-owner a.table.now a.doc.source.now a.doc.tape.now (request_by a.q) c.if-q-eq0.true)
    a.out.now

pub returns-then-doc-q : goal.returns-then-doc-q
returns-then-doc-q c =
    let s = c in
    let a = s.args in
    written-lacks a.table.now a.doc.source.now a.doc.tape.now (request_by a.q) texts.owner_name texts.empty texts.empty (holes-32 a.q.code s.requires.1)
    (far-owner a.table.now a.doc.source.now a.doc.tape.now (request_by a.q) c.if-q-eq0.false c.if-doc-q.true)
    a.out.now

pub name_shown-name-requires : goal.name_shown-name-requires
name_shown-name-requires c =
    let s = c in
    let a = s.args in
    let h : 1 ≤ a.q.first = omega (arith, c.if-q-eq0.false) in
    (s.requires.0.indexed, spanned a.doc.source.now a.doc.tape.now a.q.first s.requires.0.accepted h c.if-doc-q.false)

pub write_text-requires : goal.write_text-requires
write_text-requires c =
    let s = c in
    let a = s.args in
    let n = c.name_shown-name in
    let is = by-source a.q.code (name_or a.table.now (info_at a.table.now a.doc.tape.now a.q.first)) (name_of (node_at a.doc.source.now a.doc.tape.now a.q.first).text) n.result.now n.ensures 32 refl s.requires.1 in
    record { a_short = name-fits a.doc.source.now a.doc.tape.now a.q.first s.requires.0.short n.result.now is; b_short = omega arith; c_short = omega arith }

pub returns : goal.returns
returns c =
    let s = c in
    let a = s.args in
    let n = c.name_shown-name in
    let is = by-source a.q.code (name_or a.table.now (info_at a.table.now a.doc.tape.now a.q.first)) (name_of (node_at a.doc.source.now a.doc.tape.now a.q.first).text) n.result.now n.ensures 32 refl s.requires.1 in
    written-with a.table.now a.doc.source.now a.doc.tape.now (request_by a.q) texts.owner_name texts.empty texts.empty (holes-32 a.q.code s.requires.1)
    n.result.now [] []
    (owner-shown a.table.now a.doc.source.now a.doc.tape.now (request_by a.q) n.result.now c.if-q-eq0.false c.if-doc-q.false is)
    a.out.now _ _ c.write_text.ensures
