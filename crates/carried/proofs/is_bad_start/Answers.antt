-- `carried::is_bad_start` meets its contract.
use mathlib.Core.Path.{sym, ap, ◌∙◌}
use Rattle.table.specs.Entries.{info_of, entry_of_info}
use Rattle.carried.proofs.Tests.{past-start, no-open, open-spanned, no-entry, with-entry}
use Rattle.carried.proofs.is_bad_start.Goals as goal

pub returns-then-doc-i : goal.returns-then-doc-i
returns-then-doc-i c =
    let f = c in
    let a = f.args in
    past-start a.table.now a.doc.source.now a.doc.tape.now f.requires.1 (record { node = a.node; base_len = a.base_len }) c.if-doc-i.true

pub returns-then-kind_at-ne-MARKER_OPEN : goal.returns-then-kind_at-ne-MARKER_OPEN
returns-then-kind_at-ne-MARKER_OPEN c =
    let f = c in
    let a = f.args in
    let k = c.kind_at in
    no-open a.table.now a.doc.source.now a.doc.tape.now f.requires.1 (record { node = a.node; base_len = a.base_len }) k.result k.ensures c.if-kind_at-ne-MARKER_OPEN.true

pub is_start_of-requires : goal.is_start_of-requires
is_start_of-requires c =
    let f = c in
    let a = f.args in
    let k = c.kind_at in
    open-spanned a.table.now a.doc.source.now a.doc.tape.now f.requires.1 (record { node = a.node; base_len = a.base_len }) k.result k.ensures c.if-kind_at-ne-MARKER_OPEN.false c.if-doc-i.false

pub returns-in-Some : goal.returns-in-Some
returns-in-Some c =
    let f = c in
    let a = f.args in
    let k = c.kind_at in
    let x = c.is_start_of in
    with-entry a.table.now a.doc.source.now a.doc.tape.now f.requires.1 (record { node = a.node; base_len = a.base_len }) k.result k.ensures c.if-kind_at-ne-MARKER_OPEN.false (entry_of_info c.in-Some.m) x.result (sym (ap info_of c.in-Some.is) ∙ c.marker_info.ensures) x.ensures

pub returns-in-None : goal.returns-in-None
returns-in-None c =
    let f = c in
    let a = f.args in
    let k = c.kind_at in
    no-entry a.table.now a.doc.source.now a.doc.tape.now f.requires.1 (record { node = a.node; base_len = a.base_len }) k.result k.ensures c.if-kind_at-ne-MARKER_OPEN.false (sym (ap info_of c.in-None.is) ∙ c.marker_info.ensures)
