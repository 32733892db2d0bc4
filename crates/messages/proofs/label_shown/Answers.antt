-- `messages::label_shown` meets its contract.
use mathlib.Core.Path.{sym, ap, ◌∙◌}
use borrow.Author.Tests.{not-true, not-false}
use Rattle.std.specs.Prelude.{Option}
use Rattle.table.specs.Entries.{Entry}
use Rattle.numbers.specs.Label.{numbered, label_of}
use Rattle.messages.proofs.Shown.{numbered-spanned}
use Rattle.messages.proofs.label_shown.Goals as goal

pub returns-then-not-is_numbered : goal.returns-then-not-is_numbered
returns-then-not-is_numbered c =
    let k = c.kind_at in
    let n = c.is_numbered in
    rw (sym (n.ensures ∙ ap numbered k.ensures) ∙ not-true _ c.if-not-is_numbered.true-raw)

pub text-requires : goal.text-requires
text-requires c =
    let s = c in
    let k = c.kind_at in
    let n = c.is_numbered in
    numbered-spanned s.args.doc.source.now s.args.doc.tape.now s.args.i s.requires.accepted s.requires.inside (sym (n.ensures ∙ ap numbered k.ensures) ∙ not-false _ c.if-not-is_numbered.false-raw)

pub returns : goal.returns
returns c =
    let k = c.kind_at in
    let n = c.is_numbered in
    let m = c.marker_info in
    let x = c.text in
    rw (sym (n.ensures ∙ ap numbered k.ensures) ∙ not-false _ c.if-not-is_numbered.false-raw)
    (c.number_label.ensures ∙ ap (λ (e : Option Entry). label_of e x.result.now) m.ensures ∙ ap (label_of _) x.ensures)
