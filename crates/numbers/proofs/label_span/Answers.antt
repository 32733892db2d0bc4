-- `numbers::label_span` meets its contract.
use Rattle.numbers.proofs.Labels.{labelled}
use Rattle.table.specs.Entries.{info_of}
use Rattle.numbers.proofs.label_span.Goals as goal

pub returns : goal.returns
returns c =
    let b = c.base_len in
    let a = c.args in
    labelled (info_of a.info) a.text.now b.result c.label_by.result b.ensures c.label_by.ensures
