-- `validate::passed` meets its contract: what lies behind the working lists' first entries stays.
use Rattle.validate.proofs.Through.{part-fit, through}
use Rattle.validate.proofs.passed.Goals as goal

pub checked-requires : goal.checked-requires
checked-requires c =
    let a = c.args in
    part-fit a.table.now a.doc.source.now a.doc.tape.now a.seen.now a.opens.now a.list.now c.requires.1 c.node_count-n.result c.node_count-n.ensures a.index.now a.entries c.requires.0

pub returns : goal.returns
returns c =
    let a = c.args in
    let t = through a.table.now a.doc.source.now a.doc.tape.now a.seen.now a.opens.now a.list.now c.requires.1 c.node_count-n.result c.node_count-n.ensures _ _ _ _ c.checked.ensures in
    record { answer = t.0; list = t.1.0; seen = t.1.1.0; opens = t.1.1.1 }
