-- `messages::write_entry` meets its contract.
use Prim.Native.Nat.{◌≤◌}
use mathlib.Core.List.{[]}
use native.Mathlib.Omega.{arith}
use Rattle.tape.specs.Nodes.{node_at}
use Rattle.cursor.specs.Names.{name_of}
use Rattle.cursor.specs.Info.{info_at}
use Rattle.cursor.proofs.Around.{spanned}
use Rattle.message_texts.specs.Texts as texts
use Rattle.messages.specs.Inner.{name_or}
use Rattle.messages.proofs.Values.{holes-entry, written-with, written-lacks}
use Rattle.messages.proofs.Shown.{entry-lacks, entry-there, entry-none, entry-shown, root-entry}
use Rattle.messages.proofs.Lengths.{by-table, entry-fits}
use Rattle.messages.specs.Answer.{request_by}
use Rattle.messages.proofs.write_entry.Goals as goal

pub returns-then-q-eq0 : goal.returns-then-q-eq0
returns-then-q-eq0 c =
    let s = c in
    let a = s.args in
    written-lacks a.table.now a.doc.source.now a.doc.tape.now (request_by a.q) texts.entry_name texts.empty texts.empty (holes-entry a.q.code s.requires.1)
    (entry-none a.table.now a.doc.source.now a.doc.tape.now (request_by a.q) (root-entry a.table.now a.doc.source.now a.doc.tape.now (request_by a.q) s.requires.0.accepted s.requires.0.inside c.if-q-eq0.true))
    a.out.now

pub name_shown-name-requires : goal.name_shown-name-requires
name_shown-name-requires c =
    let s = c in
    let a = s.args in
    let h : 1 ≤ a.q.node = omega (arith, c.if-q-eq0.false) in
    (s.requires.0.indexed, spanned a.doc.source.now a.doc.tape.now a.q.node s.requires.0.accepted h s.requires.0.inside)

pub returns-then-name-eq0 : goal.returns-then-name-eq0
returns-then-name-eq0 c =
    let s = c in
    let a = s.args in
    let n = c.name_shown-name in
    let is = by-table a.q.code (name_or a.table.now (info_at a.table.now a.doc.tape.now a.q.node)) (name_of (node_at a.doc.source.now a.doc.tape.now a.q.node).text) n.result.now n.ensures s.requires.1 in
    written-lacks a.table.now a.doc.source.now a.doc.tape.now (request_by a.q) texts.entry_name texts.empty texts.empty (holes-entry a.q.code s.requires.1)
    (entry-none a.table.now a.doc.source.now a.doc.tape.now (request_by a.q) (entry-lacks a.table.now a.index.now a.entries s.requires.0.indexed a.doc.tape.now a.q.node n.result.now is c.if-name-eq0.true))
    a.out.now

pub write_text-requires : goal.write_text-requires
write_text-requires c =
    let s = c in
    let a = s.args in
    let n = c.name_shown-name in
    let is = by-table a.q.code (name_or a.table.now (info_at a.table.now a.doc.tape.now a.q.node)) (name_of (node_at a.doc.source.now a.doc.tape.now a.q.node).text) n.result.now n.ensures s.requires.1 in
    record { a_short = entry-fits a.table.now a.index.now a.entries s.requires.0.indexed a.doc.tape.now a.q.node n.result.now is; b_short = omega arith; c_short = omega arith }

pub returns : goal.returns
returns c =
    let s = c in
    let a = s.args in
    let n = c.name_shown-name in
    let is = by-table a.q.code (name_or a.table.now (info_at a.table.now a.doc.tape.now a.q.node)) (name_of (node_at a.doc.source.now a.doc.tape.now a.q.node).text) n.result.now n.ensures s.requires.1 in
    written-with a.table.now a.doc.source.now a.doc.tape.now (request_by a.q) texts.entry_name texts.empty texts.empty (holes-entry a.q.code s.requires.1)
    n.result.now [] []
    (entry-shown a.table.now a.doc.source.now a.doc.tape.now (request_by a.q) n.result.now (entry-there a.table.now a.index.now a.entries s.requires.0.indexed a.doc.tape.now a.q.node n.result.now is c.if-name-eq0.false))
    a.out.now _ _ c.write_text.ensures
