-- `milestones::pair` meets its contract: the entry that was found is one of the first k.
use Rattle.std.proofs.Common.{◌<◌, length, ap, ◌∙◌, Some, arith}
use Rattle.milestones.proofs.Pairing.{end-inside}
use Rattle.milestones.proofs.pair.Goals as goal

pub remove-requires : goal.remove-requires
remove-requires c =
    let a = c.args in
    let few = c.requires.0.room in
    let same = ap length c.nearest.ensures.0 in
    (end-inside a.doc.source.now a.doc.tape.now a.opens.now a.k a.step _ _ (c.in-Some.is ∙ ap Some c.in-End.is) _ c.nearest.ensures.1 _ c.in_ok-j-in-End.was, omega arith)

pub overflow_sub-result : goal.overflow_sub-result
overflow_sub-result c =
    let a = c.args in
    let some : c.in_ok-j-in-End.j < a.k = end-inside a.doc.source.now a.doc.tape.now a.opens.now a.k a.step _ _ (c.in-Some.is ∙ ap Some c.in-End.is) _ c.nearest.ensures.1 _ c.in_ok-j-in-End.was in
    omega arith
