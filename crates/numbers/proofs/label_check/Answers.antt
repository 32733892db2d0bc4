-- `numbers::label_check` meets its contract. The invariant: a search from here on finds what the whole search does.
use mathlib.Core.Path.{refl, sym, ◌∙◌}
use native.Mathlib.Omega.{arith}
use Rattle.refusals.specs.Refusal.{split_label}
use Rattle.refusals.proofs.First.{first-end}
use Rattle.numbers.specs.Label.{bad_label}
use Rattle.std.specs.Prelude.{None}
use Rattle.std.proofs.lemmas.Result.{err_from_is_err_and}
use Rattle.numbers.proofs.Gathered.{first-there, first-later}
use Rattle.numbers.proofs.Labels.{all-labels}
use Rattle.numbers.proofs.label_check.Goals as goal

pub loop-i-init : goal.loop-i-init
loop-i-init c =
    let s = c in
    let a = s.args in
    (s.requires.0, s.requires.1, refl, omega arith, all-labels a.table.now a.doc.source.now a.doc.tape.now)

pub split_in-requires : goal.split_in-requires
split_in-requires c =
    let v = c.loop-i.invariant in
    let e = c.min-next.ensures in
    (v.0, v.1, v.3, omega arith, omega arith, omega arith)

pub returns-in_err-split_in : goal.returns-in_err-split_in
returns-in_err-split_in c =
    let p = err_from_is_err_and c.from_residual.result c.from_residual.ensures.1 in
    let a = c.args in
    let l = c.loop-i in
    let e = c.min-next.ensures in
    rw (p.1, p.2) (sym (first-there (bad_label a.table.now a.doc.source.now a.doc.tape.now) l.i c.min-next.result _ (omega arith) (omega arith) _ c.in_err-split_in.ensures) ∙ l.invariant.4)

pub loop-i-smaller : goal.loop-i-smaller
loop-i-smaller c =
    let e = c.min-next.ensures in
    omega arith

pub loop-i-preserved : goal.loop-i-preserved
loop-i-preserved c =
    let a = c.args in
    let l = c.loop-i in
    let v = l.invariant in
    let m = c.min-next in
    let e = m.ensures in
    (v.0, v.1, v.2, omega (arith, v.3), sym (first-later (bad_label a.table.now a.doc.source.now a.doc.tape.now) l.i m.result _ (omega arith) (omega arith) None refl c.in_ok-split_in.ensures) ∙ v.4)

pub returns : goal.returns
returns c =
    let a = c.args in
    let l = c.loop-i in
    sym (first-end split_label (bad_label a.table.now a.doc.source.now a.doc.tape.now) _ l.i (omega arith)) ∙ l.invariant.4
