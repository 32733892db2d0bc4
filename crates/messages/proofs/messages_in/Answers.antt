-- `messages::messages_in` meets its contract.
use Prim.Native.Nat.{ℕ, ◌/◌}
use native.Mathlib.Omega.{arith}
use mathlib.Core.Path.{◌≡◌, ap, ◌∙◌}
use lib.ListN.{length}
use Rattle.messages.specs.Messages.{all}
use Rattle.buffer.proofs.Over.{over-set}
use Rattle.messages.proofs.WritingTexts.{writing_start, writing_more, writing-all, writing-stopped, within, end-past}
use Rattle.messages.proofs.messages_in.Goals as goal
use Rattle.messages.proofs.messages_in.Goals.{then-k-ends, else-k-ends}

pub loop-k-init : goal.loop-k-init
loop-k-init c = writing_start _ _ _ _

pub returns-in-Err : goal.returns-in-Err
returns-in-Err c =
    let d = c in
    let v = d.loop-k.invariant in
    let e = rw d.request_at-q.ensures at d.message_in.ensures in
    let z = writing-stopped _ _ _ _ _ _ _ _ v (omega arith) _ _ e _ c.in-Err.is in
    record { answer = z.0; bytes = z.1.0; ends = z.1.1 }

pub overflow_add-at : goal.overflow_add-at
overflow_add-at c =
    let d = c in
    let v = d.loop-k.invariant in
    let e = rw d.request_at-q.ensures at d.message_in.ensures in
    omega (arith, within _ _ _ _ _ _ _ _ v (omega arith) _ _ e _ c.in-Ok.is)

pub loop-k-preserved : goal.loop-k-preserved
loop-k-preserved c =
    let d = c in
    let v = d.loop-k.invariant in
    let e = rw d.request_at-q.ensures at d.message_in.ensures in
    let m = writing_more _ _ _ _ _ _ _ _ v (omega arith) _ _ e _ c.in-Ok.is in
    elim c.if-k-ends.branch [ then-k-ends w ↦ rw w.ends-is (m _ (λ es. over-set _ _ _ es w.if-k-ends.true)) | else-k-ends w ↦ rw w.ends-is (m _ (end-past _ _ _ (omega (arith, w.if-k-ends.false)))) ]

pub returns : goal.returns
returns c =
    let z = writing-all _ _ _ _ _ _ _ _ c.loop-k.invariant (omega arith) in
    let e : length c.args.list.now / 8 ≡ c.loop-k.k = omega arith in
    record { answer = ap (λ (k : ℕ). all k c.loop-k.at) e ∙ z.0; bytes = z.1.0; ends = z.1.1 }
