-- `numbers::is_glued` meets its contract.
use Rattle.numbers.proofs.Labels.{glued-by}
use Rattle.table.specs.Entries.{info_of}
use Rattle.numbers.proofs.is_glued.Goals as goal

pub returns : goal.returns
returns c =
    let a = c.args in
    glued-by (info_of a.info) a.text.now _ _ c.name_of-name.ensures c.base_len.ensures
