-- `messages::write_base` meets its contract.
use mathlib.Core.Bool.{◌||◌}
use Prim.Native.Nat.{ℕ, ◌≤◌, ◌-◌}
use mathlib.Core.Path.{refl, ap, ◌∙◌}
use mathlib.Core.List.{List, []}
use native.Mathlib.Omega.{arith}
use lib.ListN.{length}
use borrow.Author.Tests.{not-true, not-false}
use Rattle.tape.specs.Nodes.{node_at}
use Rattle.cursor.specs.Names.{name_of}
use Rattle.cursor.specs.Info.{info_at}
use Rattle.cursor.proofs.Around.{spanned}
use Rattle.definition.specs.Milestones.{ends_in}
use Rattle.milestones.specs.Inner.{base_in}
use Rattle.message_texts.specs.Texts as texts
use Rattle.messages.specs.Inner.{name_or}
use Rattle.messages.proofs.Values.{holes-16, written-with, written-lacks}
use Rattle.messages.proofs.Shown.{root-base, no-base, base-shown}
use Rattle.messages.proofs.Lengths.{by-source, take_short, name-fits}
use Rattle.messages.specs.Answer.{request_by}
use Rattle.messages.proofs.write_base.Goals as goal

pub returns-then-q-eq0 : goal.returns-then-q-eq0
returns-then-q-eq0 c =
    let s = c in
    let a = s.args in
    written-lacks a.table.now a.doc.source.now a.doc.tape.now (request_by a.q) texts.base texts.empty texts.empty (holes-16 a.q.code s.requires.1)
    (root-base a.table.now a.doc.source.now a.doc.tape.now (request_by a.q) c.if-q-eq0.true)
    a.out.now

pub name_shown-name-requires : goal.name_shown-name-requires
name_shown-name-requires c =
    let s = c in
    let a = s.args in
    let h : 1 ≤ a.q.node = omega (arith, c.if-q-eq0.false) in
    (s.requires.0.indexed, spanned a.doc.source.now a.doc.tape.now a.q.node s.requires.0.accepted h s.requires.0.inside)

pub returns-then-not-is_paired : goal.returns-then-not-is_paired
returns-then-not-is_paired c =
    let s = c in
    let a = s.args in
    let n = c.name_shown-name in
    let is = by-source a.q.code (name_or a.table.now (info_at a.table.now a.doc.tape.now a.q.node)) (name_of (node_at a.doc.source.now a.doc.tape.now a.q.node).text) n.result.now n.ensures 16 refl s.requires.1 in
    let b = c.is_paired in
    let paired = b.ensures ∙ ap (λ (x : List ℕ). (ends_in 0x73 x || ends_in 0x65 x)) is in
    written-lacks a.table.now a.doc.source.now a.doc.tape.now (request_by a.q) texts.base texts.empty texts.empty (holes-16 a.q.code s.requires.1)
    (no-base a.table.now a.doc.source.now a.doc.tape.now (request_by a.q) b.result paired (not-true _ c.if-not-is_paired.true-raw) c.if-q-eq0.false)
    a.out.now

pub write_text-requires : goal.write_text-requires
write_text-requires c =
    let s = c in
    let a = s.args in
    let n = c.name_shown-name in
    let is = by-source a.q.code (name_or a.table.now (info_at a.table.now a.doc.tape.now a.q.node)) (name_of (node_at a.doc.source.now a.doc.tape.now a.q.node).text) n.result.now n.ensures 16 refl s.requires.1 in
    let b = ap length c.milestone_base.ensures in
    let k = take_short (length n.result.now - 2) n.result.now in
    let l = name-fits a.doc.source.now a.doc.tape.now a.q.node s.requires.0.short n.result.now is in
    record { a_short = omega (arith, b, k, l); b_short = omega arith; c_short = omega arith }

pub returns : goal.returns
returns c =
    let s = c in
    let a = s.args in
    let n = c.name_shown-name in
    let is = by-source a.q.code (name_or a.table.now (info_at a.table.now a.doc.tape.now a.q.node)) (name_of (node_at a.doc.source.now a.doc.tape.now a.q.node).text) n.result.now n.ensures 16 refl s.requires.1 in
    let b = c.is_paired in
    let paired = b.ensures ∙ ap (λ (x : List ℕ). (ends_in 0x73 x || ends_in 0x65 x)) is in
    let m = c.milestone_base in
    written-with a.table.now a.doc.source.now a.doc.tape.now (request_by a.q) texts.base texts.empty texts.empty (holes-16 a.q.code s.requires.1)
    m.result.now [] []
    (base-shown a.table.now a.doc.source.now a.doc.tape.now (request_by a.q) b.result m.result.now paired (not-false _ c.if-not-is_paired.false-raw) c.if-q-eq0.false (m.ensures ∙ ap base_in is))
    a.out.now _ _ c.write_text.ensures
