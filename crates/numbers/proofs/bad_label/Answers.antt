-- `numbers::bad_label` meets its contract.
use Rattle.numbers.proofs.Labels.{bad-other, bad-by}
use Rattle.table.specs.Entries.{info_of}
use Rattle.numbers.proofs.bad_label.Goals as goal

pub returns-then-not-is_numbered : goal.returns-then-not-is_numbered
returns-then-not-is_numbered c =
    let a = c.args in
    let n = c in
    bad-other a.table.now a.doc.source.now a.doc.tape.now a.i _ _ n.kind_at.ensures n.is_numbered.ensures c.if-not-is_numbered.true-raw

pub returns : goal.returns
returns c =
    let a = c.args in
    let m = c in
    let n = m in
    bad-by a.table.now a.doc.source.now a.doc.tape.now a.i _ _ n.kind_at.ensures n.is_numbered.ensures _ (info_of m.marker_info-info.result) _ m.if-not-is_numbered.false-raw m.marker_info-info.ensures c.text.ensures c.label_splits.ensures
