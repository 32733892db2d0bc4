-- `numbers::first_split` meets its contract.
use mathlib.Core.Path.{refl, sym, ◌∙◌}
use Rattle.numbers.specs.Label.{bad_label}
use Rattle.numbers.proofs.Gathered.{among-hit, among-pass, among-end}
use Rattle.numbers.proofs.first_split.Goals as goal

pub loop-j-init : goal.loop-j-init
loop-j-init c = refl

pub bad_label-requires : goal.bad_label-requires
bad_label-requires c = let r = c.requires in (r.0, r.1 c.loop-j.j c.loop-j-test.true)

pub returns-then-bad_label : goal.returns-then-bad_label
returns-then-bad_label c =
    let a = c.args in
    let l = c.loop-j in
    rw c.at.ensures (sym (among-hit (bad_label a.table.now a.doc.source.now a.doc.tape.now) a.found.now l.j c.loop-j-test.true (sym c.bad_label.ensures ∙ c.if-bad_label.true)) ∙ l.invariant)

pub loop-j-preserved : goal.loop-j-preserved
loop-j-preserved c =
    let a = c.args in
    let l = c.loop-j in
    sym (among-pass (bad_label a.table.now a.doc.source.now a.doc.tape.now) a.found.now l.j c.loop-j-test.true (sym c.bad_label.ensures ∙ c.if-bad_label.false)) ∙ l.invariant

pub returns : goal.returns
returns c =
    let a = c.args in
    let l = c.loop-j in
    sym (among-end (bad_label a.table.now a.doc.source.now a.doc.tape.now) a.found.now l.j c.loop-j-test.false) ∙ l.invariant
