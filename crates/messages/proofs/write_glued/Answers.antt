-- `messages::write_glued` meets its contract.
use Prim.Native.Nat.{ℕ, ◌-◌}
use mathlib.Core.Path.{refl, sym, ap, ◌∙◌}
use mathlib.Core.List.{List}
use Rattle.std.specs.Prelude.{Option}
use lib.ListN.{length, take}
use borrow.Author.Tests.{not-true, not-false}
use Rattle.tape.specs.Nodes.{node_at}
use Rattle.table.specs.Entries.{Entry}
use Rattle.cursor.specs.Names.{name_of}
use Rattle.cursor.specs.Info.{info_at}
use Rattle.numbers.specs.Label.{label_of, is_glued, numbered}
use Rattle.message_texts.specs.Texts as texts
use Rattle.messages.specs.Inner.{name_or}
use Rattle.messages.proofs.Values.{holes-34, written-with, written-lacks}
use Rattle.messages.proofs.Shown.{numbered-spanned, not-numbered, not-glued, glued-shown}
use Rattle.messages.proofs.Lengths.{by-source, name-fits, glued-fits}
use Rattle.messages.specs.Answer.{request_by}
use Rattle.messages.proofs.write_glued.Goals as goal

pub returns-then-not-is_numbered : goal.returns-then-not-is_numbered
returns-then-not-is_numbered c =
    let s = c in
    let a = s.args in
    let d = sym (c.is_numbered.ensures ∙ ap numbered c.kind_at.ensures) ∙ not-true _ c.if-not-is_numbered.true-raw in
    written-lacks a.table.now a.doc.source.now a.doc.tape.now (request_by a.q) texts.glued_name texts.bare_name texts.glued_label (holes-34 a.q.code s.requires.1)
    (not-numbered a.table.now a.doc.source.now a.doc.tape.now (request_by a.q) d)
    a.out.now

pub text-text-requires : goal.text-text-requires
text-text-requires c =
    let s = c in
    let a = s.args in
    let d = sym (c.is_numbered.ensures ∙ ap numbered c.kind_at.ensures) ∙ not-false _ c.if-not-is_numbered.false-raw in
    numbered-spanned a.doc.source.now a.doc.tape.now a.q.node s.requires.0.accepted s.requires.0.inside d

pub returns-then-not-is_glued : goal.returns-then-not-is_glued
returns-then-not-is_glued c =
    let s = c in
    let a = s.args in
    let d = sym (c.is_numbered.ensures ∙ ap numbered c.kind_at.ensures) ∙ not-false _ c.if-not-is_numbered.false-raw in
    let m = c.marker_info-info in
    let x = c.text-text in
    let g = sym (c.is_glued.ensures ∙ ap (λ (e : Option Entry). is_glued e (name_of x.result.now)) m.ensures ∙ ap (λ (y : List ℕ). is_glued (info_at a.table.now a.doc.tape.now a.q.node) (name_of y)) x.ensures) ∙ not-true _ c.if-not-is_glued.true-raw in
    written-lacks a.table.now a.doc.source.now a.doc.tape.now (request_by a.q) texts.glued_name texts.bare_name texts.glued_label (holes-34 a.q.code s.requires.1)
    (not-glued a.table.now a.doc.source.now a.doc.tape.now (request_by a.q) d g)
    a.out.now

pub name_shown-name-requires : goal.name_shown-name-requires
name_shown-name-requires c =
    let s = c in
    let a = s.args in
    let d = sym (c.is_numbered.ensures ∙ ap numbered c.kind_at.ensures) ∙ not-false _ c.if-not-is_numbered.false-raw in
    (s.requires.0.indexed, numbered-spanned a.doc.source.now a.doc.tape.now a.q.node s.requires.0.accepted s.requires.0.inside d)

pub write_parts-requires : goal.write_parts-requires
write_parts-requires c =
    let s = c in
    let a = s.args in
    let n = c.name_shown-name in
    let is = by-source a.q.code (name_or a.table.now (info_at a.table.now a.doc.tape.now a.q.node)) (name_of (node_at a.doc.source.now a.doc.tape.now a.q.node).text) n.result.now n.ensures 34 refl s.requires.1 in
    let m = c.marker_info-info in
    let x = c.text-text in
    let g = sym (c.is_glued.ensures ∙ ap (λ (e : Option Entry). is_glued e (name_of x.result.now)) m.ensures ∙ ap (λ (y : List ℕ). is_glued (info_at a.table.now a.doc.tape.now a.q.node) (name_of y)) x.ensures) ∙ not-false _ c.if-not-is_glued.false-raw in
    let y = c.number_label-label in
    let label = y.ensures ∙ ap (λ (e : Option Entry). label_of e x.result.now) m.ensures ∙ ap (label_of (info_at a.table.now a.doc.tape.now a.q.node)) x.ensures in
    (glued-fits (info_at a.table.now a.doc.tape.now a.q.node) (node_at a.doc.source.now a.doc.tape.now a.q.node).text n.result.now y.result.now g is label, name-fits a.doc.source.now a.doc.tape.now a.q.node s.requires.0.short n.result.now is)

pub returns : goal.returns
returns c =
    let s = c in
    let a = s.args in
    let n = c.name_shown-name in
    let is = by-source a.q.code (name_or a.table.now (info_at a.table.now a.doc.tape.now a.q.node)) (name_of (node_at a.doc.source.now a.doc.tape.now a.q.node).text) n.result.now n.ensures 34 refl s.requires.1 in
    let d = sym (c.is_numbered.ensures ∙ ap numbered c.kind_at.ensures) ∙ not-false _ c.if-not-is_numbered.false-raw in
    let m = c.marker_info-info in
    let x = c.text-text in
    let g = sym (c.is_glued.ensures ∙ ap (λ (e : Option Entry). is_glued e (name_of x.result.now)) m.ensures ∙ ap (λ (y : List ℕ). is_glued (info_at a.table.now a.doc.tape.now a.q.node) (name_of y)) x.ensures) ∙ not-false _ c.if-not-is_glued.false-raw in
    let y = c.number_label-label in
    let label = y.ensures ∙ ap (λ (e : Option Entry). label_of e x.result.now) m.ensures ∙ ap (label_of (info_at a.table.now a.doc.tape.now a.q.node)) x.ensures in
    written-with a.table.now a.doc.source.now a.doc.tape.now (request_by a.q) texts.glued_name texts.bare_name texts.glued_label (holes-34 a.q.code s.requires.1)
    n.result.now (take (length n.result.now - length y.result.now) n.result.now) y.result.now
    (glued-shown a.table.now a.doc.source.now a.doc.tape.now (request_by a.q) d n.result.now y.result.now g is label)
    a.out.now _ _ c.write_parts.ensures
