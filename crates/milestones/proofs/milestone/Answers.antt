-- `milestones::milestone` meets its contract.
use Rattle.milestones.proofs.Whole.{countable, milestoned}
use Rattle.milestones.specs.Inner.{step_means}
use Rattle.table.specs.Entries.{entry_of_info}
use Rattle.milestones.proofs.milestone.Goals as goal

pub after_pair-requires : goal.after_pair-requires
after_pair-requires c =
    let a = c.args in
    let q = c.requires in
    (q.spanned.inside, countable (entry_of_info a.m) a.doc.source.now a.doc.tape.now a.i a.opens.now a.list.now a.rec q.known (step_means a.doc.source.now c.step_of-step.result) c.step_of-step.ensures.0 c.pair-paired.result c.pair-paired.ensures.1 q.room)

pub returns : goal.returns
returns c =
    let a = c.args in
    let q = c.requires in
    milestoned (entry_of_info a.m) a.doc.source.now a.doc.tape.now a.i a.opens.now a.list.now a.rec q.known (step_means a.doc.source.now c.step_of-step.result) c.step_of-step.ensures.0 q.spanned q.more _ c.pair-paired.ensures.0 c.pair-paired.auto.opens c.pair-paired.result c.pair-paired.ensures.1 _ _ c.after_pair.ensures
