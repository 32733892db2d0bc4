-- `chapter_verse::visit_leaf` meets its contract.
use native.Mathlib.Omega.{arith}
use Prim.Native.Nat.{ℕ, ◌-◌}
use mathlib.Core.Path.{◌≡◌, sym, ◌∙◌}
use mathlib.Core.Bool.{true}
use mathlib.Core.List.{List, []}
use Rattle.std.specs.Prelude.{Option}
use lib.ListN.{take, drop}
use borrow.Author.Tests.{not-true, not-false}
use Rattle.tape.specs.Nodes.{Node, node_at}
use Rattle.table.specs.Entries.{Entry, info_of}
use Rattle.numbers.specs.Label.{numbered}
use Rattle.definition.specs.State.{WalkState}
use Rattle.state.specs.Inner.{state_of, context_of, counts_of}
use Rattle.chapter_verse.specs.Inner.{LabelRead}
use Rattle.chapter_verse.proofs.Checked.{label-read}
use Rattle.chapter_verse.proofs.Passing.{room-chapter, visited-chapter, room-verse, visited-verse, visited-other}
use Rattle.chapter_verse.proofs.visit_leaf.Goals as goal

pub returns-then-not-is_numbered : goal.returns-then-not-is_numbered
returns-then-not-is_numbered c =
    let n = c in
    let s = n in
    let a = s.args in
    let k = n.kind_at-kind in
    visited-other a.table.now a.doc.source.now a.doc.tape.now (context_of a.context) a.i k.result k.ensures (sym n.is_numbered.ensures ∙ c.if-not-is_numbered.true) a.seen.now a.list.now a.rec s.requires.2

pub chapter_findings-c-requires : goal.chapter_findings-c-requires
chapter_findings-c-requires c =
    let entry : Option Entry = info_of c.marker_info-info.result in
    let state : WalkState = let a = c.args in state_of a.doc.source.now a.doc.tape.now a.seen.now [] a.rec in
    let node : Node = let a = c.args in node_at a.doc.source.now a.doc.tape.now a.i in
    let label : List ℕ = let at = c.label_span-at.result in take (at.end - at.start) (drop at.start c.text-text.result.now) in
    let labelled : LabelRead entry node label c.label_span-at.result.glued = let t = c.text-text in let at = c.label_span-at in label-read entry node t.result.now at.result t.ensures at.ensures in
    let l = c in
    let s = l in
    let a = s.args in
    let k = l.kind_at-kind in
    (s.requires.1.inside, labelled, omega (arith, s.requires.3), room-chapter a.table.now a.doc.source.now a.doc.tape.now (context_of a.context) a.i k.result k.ensures entry l.marker_info-info.ensures c.if-kind-eq-CHAPTER.true state (counts_of a.rec) s.requires.5)

pub returns-then-kind-eq-CHAPTER : goal.returns-then-kind-eq-CHAPTER
returns-then-kind-eq-CHAPTER c =
    let entry : Option Entry = info_of c.marker_info-info.result in
    let q = c in
    let f = q in
    let l = f in
    let a = l.args in
    let k = l.kind_at-kind in
    rw c.with_counts.ensures (visited-chapter a.table.now a.doc.source.now a.doc.tape.now (context_of a.context) a.i k.result k.ensures entry l.marker_info-info.ensures f.if-kind-eq-CHAPTER.true f.chapter_findings-c.ensures q.after_chapter-q.ensures)

pub verse_findings-c-requires : goal.verse_findings-c-requires
verse_findings-c-requires c =
    let entry : Option Entry = info_of c.marker_info-info.result in
    let state : WalkState = let a = c.args in state_of a.doc.source.now a.doc.tape.now a.seen.now [] a.rec in
    let node : Node = let a = c.args in node_at a.doc.source.now a.doc.tape.now a.i in
    let label : List ℕ = let at = c.label_span-at.result in take (at.end - at.start) (drop at.start c.text-text.result.now) in
    let labelled : LabelRead entry node label c.label_span-at.result.glued = let t = c.text-text in let at = c.label_span-at in label-read entry node t.result.now at.result t.ensures at.ensures in
    let a-number : numbered c.kind_at-kind.result ≡ true = let e = c in sym e.is_numbered.ensures ∙ not-false _ e.if-not-is_numbered.false-raw in
    let n = c in
    let l = n in
    let s = l in
    let a = s.args in
    let k = l.kind_at-kind in
    (s.requires.1.inside, labelled, c.parse_verse_part-read.ensures, s.requires.2, room-verse a.table.now a.doc.source.now a.doc.tape.now (context_of a.context) a.i k.result k.ensures entry l.marker_info-info.ensures a-number n.if-kind-eq-CHAPTER.false state (counts_of a.rec) s.requires.5)

pub returns : goal.returns
returns c =
    let entry : Option Entry = info_of c.marker_info-info.result in
    let a-number : numbered c.kind_at-kind.result ≡ true = let e = c in sym e.is_numbered.ensures ∙ not-false _ e.if-not-is_numbered.false-raw in
    let q = c in
    let f = q in
    let n = f in
    let l = n in
    let a = l.args in
    let k = l.kind_at-kind in
    rw c.with_counts-2.ensures (visited-verse a.table.now a.doc.source.now a.doc.tape.now (context_of a.context) a.i k.result k.ensures entry l.marker_info-info.ensures a-number n.if-kind-eq-CHAPTER.false f.verse_findings-c.ensures q.after_verse-q.ensures)
