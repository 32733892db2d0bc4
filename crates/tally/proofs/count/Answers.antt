-- `tally::count` meets its contract.
use Rattle.std.proofs.Common.{◌∙◌, rules, arith}
use Rattle.std.proofs.lemmas.List.{length_push}
use Rattle.tally.proofs.Records.{next-record, no-record}
use Rattle.tally.proofs.Counting.{counting-start, counting-small, counting-stored, counting-passed, counting-end}
use Rattle.tally.proofs.count.Goals as goal

pub loop-record-init : goal.loop-record-init
loop-record-init c = (search rules, search rules, search rules, search rules, counting-start _ _ _ c.clear.ensures)

pub overflow_add-counts : goal.overflow_add-counts
overflow_add-counts c =
    let v = c.loop-record.invariant in
    let s = c.in-Some.ensures.steps in
    let r = next-record c.args.list.now _ _ _ _ _ v.3 v.2 s.1.0 s.1.1 in
    omega (arith, counting-small _ _ _ _ v.4 r c.requires c.if-code-counts.true, v.4.few)

pub loop-record-preserved-then-code-counts : goal.loop-record-preserved-then-code-counts
loop-record-preserved-then-code-counts c =
    let v = c.loop-record.invariant in
    let s = c.in-Some.ensures.steps in
    let r = next-record c.args.list.now _ _ _ _ _ v.3 v.2 s.1.0 s.1.1 in
    let n = length_push c.loop-record.yielded c.in-Some.record in
    (search rules, search rules, s.0 ∙ v.2, rw n r.behind, counting-stored _ _ _ _ v.4 r c.requires _ n c.if-code-counts.true)

pub loop-record-preserved : goal.loop-record-preserved
loop-record-preserved c =
    let v = c.loop-record.invariant in
    let s = c.in-Some.ensures.steps in
    let r = next-record c.args.list.now _ _ _ _ _ v.3 v.2 s.1.0 s.1.1 in
    let n = length_push c.loop-record.yielded c.in-Some.record in
    (search rules, search rules, s.0 ∙ v.2, rw n r.behind, counting-passed _ _ _ _ v.4 r c.requires _ n c.if-code-counts.false)

pub returns : goal.returns
returns c =
    let v = c.loop-record.invariant in
    counting-end _ _ _ _ v.4 _ c.clear.ensures (no-record _ _ _ _ v.3 v.2 c.in-None.ensures.steps.1.0)
