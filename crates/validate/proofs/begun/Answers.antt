-- `validate::begun` meets its contract.
use Rattle.validate.proofs.Course.{begun-room, begun}
use Rattle.validate.proofs.begun.Goals as goal

pub text_before-requires : goal.text_before-requires
text_before-requires c =
    let b = c in
    let i = c.initial-start in
    (b.requires.0, begun-room b.args.doc.source.now b.args.doc.tape.now b.args.to i.result i.ensures)

pub returns : goal.returns
returns c =
    let b = c in
    let a = b.args in
    let i = c.initial-start in
    begun a.doc.source.now a.doc.tape.now a.list.now c.text_before.new.list a.to i.result c.with_counts.result c.text_before.result b.requires.1 i.ensures c.text_before.ensures c.with_counts.ensures
