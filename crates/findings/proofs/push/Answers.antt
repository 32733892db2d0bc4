-- `findings::push` meets its contract.
use mathlib.Core.Path.{sym, ap, ◌∙◌}
use native.Mathlib.Omega.{arith}
use lib.ListN.{length, length-set}
use Rattle.findings.proofs.Overlay.{put-words, put-out, wrote_one}
use Rattle.findings.specs.Finding.{finding_of}
use Prim.Native.Nat.{◌+◌}
use Rattle.findings.proofs.push.Goals as goal
use Rattle.findings.proofs.push.Goals.{then-k-list, else-k-list}

pub bounds-list-base-then-k-list : goal.bounds-list-base-then-k-list
bounds-list-base-then-k-list c = simp length-set (omega arith)

pub bounds-list-base-then-k-list-2 : goal.bounds-list-base-then-k-list-2
bounds-list-base-then-k-list-2 c = simp length-set (omega arith)

pub bounds-list-base-then-k-list-3 : goal.bounds-list-base-then-k-list-3
bounds-list-base-then-k-list-3 c = simp length-set (omega arith)

pub bounds-list-base-then-k-list-4 : goal.bounds-list-base-then-k-list-4
bounds-list-base-then-k-list-4 c = simp length-set (omega arith)

pub bounds-list-base-then-k-list-5 : goal.bounds-list-base-then-k-list-5
bounds-list-base-then-k-list-5 c = simp length-set (omega arith)

pub bounds-list-base-then-k-list-6 : goal.bounds-list-base-then-k-list-6
bounds-list-base-then-k-list-6 c = simp length-set (omega arith)

pub bounds-list-base-then-k-list-7 : goal.bounds-list-base-then-k-list-7
bounds-list-base-then-k-list-7 c = simp length-set (omega arith)

pub shape_of-list : goal.shape_of-list
shape_of-list c = elim c.if-k-list.branch [ then-k-list w ↦ ap length w.list-is ∙ simp length-set | else-k-list w ↦ ap length w.list-is ]

pub returns : goal.returns
returns c =
    let a = c.args in
    let l = a.list.now in
    let k = a.c.errors + a.c.warnings + a.c.infos in
    wrote_one l a.c c.if-k-list.list c.counted.result (finding_of a.f)
    (elim c.if-k-list.branch [
      | then-k-list w ↦ w.list-is ∙ put-words l k c.severity_number-number.result (finding_of a.f) c.severity_number-number.ensures w.if-k-list.true
      | else-k-list w ↦ w.list-is ∙ sym (put-out l k (finding_of a.f) w.if-k-list.false)
    ])
    c.counted.ensures
