-- `tape::scan_each` meets its contract: the invariant is `Going`.
use native.Mathlib.Omega.{arith}
use Rattle.tape.proofs.Whole.{going_on, going-bad, going-last, kind-step}
use Rattle.tape.proofs.scan_each.Goals as goal

pub returns-then-bad_kind : goal.returns-then-bad_kind
returns-then-bad_kind c =
    let l = c.loop-i in
    let g = l.invariant in
    rw c.at.ensures
    (going-bad _ _ _ _ _ _ _ _ _ g (omega arith) (kind-step _ _ _ _ _ g.after c.kind_at-kind.ensures c.bad_kind.ensures c.if-bad_kind.true))

pub loop-i-preserved : goal.loop-i-preserved
loop-i-preserved c =
    let l = c.loop-i in
    let g = l.invariant in
    let k = kind-step _ _ _ _ _ g.after c.kind_at-kind.ensures c.bad_kind.ensures c.if-bad_kind.false in
    rw (c.span_step-span.ensures, c.taken_step-taken.ensures) (going_on _ _ _ _ _ _ _ _ _ g (omega arith) _ _ k c.step-reading.ensures)

pub returns : goal.returns
returns c = rw c.answer.ensures (going-last _ _ _ _ _ _ _ _ _ c.loop-i.invariant (omega arith))
