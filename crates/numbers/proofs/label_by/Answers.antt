-- `numbers::label_by` meets its contract.
use native.Mathlib.Omega.{arith}
use Rattle.numbers.proofs.Labels.{in-name, past-name, usual}
use Rattle.numbers.proofs.label_by.Goals as goal

pub find_from-requires : goal.find_from-requires
find_from-requires c = let u = (c.is_usual.ensures c.if-is_usual.true).long in omega arith

pub returns-then-is_usual : goal.returns-then-is_usual
returns-then-is_usual c =
    let a = c.args in
    let e = c.find_from.ensures in
    usual a.text.now (c.is_usual.ensures c.if-is_usual.true) a.base c.find_from.result c.if-base-ge1.true e.is e.inside

pub returns-then-base-name : goal.returns-then-base-name
returns-then-base-name c =
    let n = c in
    let a = n.args in
    in-name a.text.now n.name_span-at.result a.base n.name_span-at.ensures c.if-base-name.true

pub returns : goal.returns
returns c =
    let f = c.first_word_end in
    let s = c.find_from-a in
    let e = c.find_from-2 in
    let n = c in
    let a = n.args in
    past-name a.text.now n.name_span-at.result a.base n.name_span-at.ensures f.result s.result e.result c.if-base-name.false f.ensures.is s.ensures.is e.ensures.is e.ensures.inside
