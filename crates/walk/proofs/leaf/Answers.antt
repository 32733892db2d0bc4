-- `walk::leaf` meets its contract.
use Rattle.walk.proofs.Steps.{is-chapter, is-verse, is-neither, leaf-new, leaf-old}
use Rattle.walk.proofs.leaf.Goals as goal

pub returns-then-kind-eq-CHAPTER : goal.returns-then-kind-eq-CHAPTER
returns-then-kind-eq-CHAPTER c =
    let a = c.args in
    let k = c.kind_at-kind in
    leaf-new c.visit_leaf-r.ensures c.with_anchor.result c.with_anchor.ensures (is-chapter a.doc.tape.now a.i k.result k.ensures c.if-kind-eq-CHAPTER.true)

pub returns-then-kind-eq-VERSE : goal.returns-then-kind-eq-VERSE
returns-then-kind-eq-VERSE c =
    let a = c.args in
    let k = c.kind_at-kind in
    leaf-new c.visit_leaf-r.ensures c.with_anchor-then-kind-eq-VERSE.result c.with_anchor-then-kind-eq-VERSE.ensures (is-verse a.doc.tape.now a.i k.result k.ensures c.if-kind-eq-CHAPTER.false c.if-kind-eq-VERSE.true)

pub returns : goal.returns
returns c =
    let a = c.args in
    let k = c.kind_at-kind in
    leaf-old c.visit_leaf-r.ensures (is-neither a.doc.tape.now a.i k.result k.ensures c.if-kind-eq-CHAPTER.false c.if-kind-eq-VERSE.false)
