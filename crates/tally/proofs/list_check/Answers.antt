-- `tally::list_check` meets its contract.
use Rattle.std.proofs.Common.{sym, ◌∙◌, rules, arith}
use Rattle.tally.proofs.Records.{next-record, no-record, checking-start, checking-hit, checking-on, checking-ragged, checking-end}
use Rattle.tally.proofs.list_check.Goals as goal

pub loop-k-init : goal.loop-k-init
loop-k-init c = (search rules, search rules, search rules, search rules, search (rules, checking-start))

pub returns-then-bad_record : goal.returns-then-bad_record
returns-then-bad_record c =
    let v = c.loop-k.invariant in
    let s = c.in-Some.ensures.steps in
    let r = next-record _ _ _ _ _ _ v.3 v.2 s.0.1.0 s.0.1.1 in
    rw (c.at.ensures, s.1) (checking-hit _ _ v.4 r.within (sym r.bad ∙ sym c.bad_record.ensures ∙ c.if-bad_record.true))

pub loop-k-preserved : goal.loop-k-preserved
loop-k-preserved c =
    let v = c.loop-k.invariant in
    let s = c.in-Some.ensures.steps in
    let r = next-record _ _ _ _ _ _ v.3 v.2 s.0.1.0 s.0.1.1 in
    (search rules, search rules, s.0.0 ∙ v.2, rw s.2 r.behind, rw s.2 (checking-on _ _ v.4 r.within (sym r.bad ∙ sym c.bad_record.ensures ∙ c.if-bad_record.false)))

pub returns-then-list-ne0 : goal.returns-then-list-ne0
returns-then-list-ne0 c =
    let v = c.loop-k.invariant in
    rw c.at-then-list-ne0.ensures (checking-ragged _ _ v.4 (no-record _ _ _ _ v.3 v.2 c.in-None.ensures.steps.0.1.0) (omega arith))

pub returns : goal.returns
returns c =
    let v = c.loop-k.invariant in
    checking-end _ _ v.4 (no-record _ _ _ _ v.3 v.2 c.in-None.ensures.steps.0.1.0) (omega arith)
