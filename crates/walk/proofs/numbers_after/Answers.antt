-- `walk::numbers_after` meets its contract.
use Rattle.attachment.specs.Attached.{starts_of}
use Rattle.walk.proofs.Steps.{is-chapter, is-verse, is-neither, new-numbers, same_numbers}
use Rattle.walk.proofs.numbers_after.Goals as goal

pub returns-then-kind-eq-CHAPTER : goal.returns-then-kind-eq-CHAPTER
returns-then-kind-eq-CHAPTER c =
    let a = c.args in
    let k = c.kind_at-kind in
    new-numbers a.doc.source.now a.doc.tape.now a.i a.next a.to (starts_of a.numbers) k.result (starts_of c.attached_numbers.result) k.ensures (is-chapter a.doc.tape.now a.i k.result k.ensures c.if-kind-eq-CHAPTER.true) c.attached_numbers.ensures

pub returns-then-kind-eq-VERSE : goal.returns-then-kind-eq-VERSE
returns-then-kind-eq-VERSE c =
    let a = c.args in
    let k = c.kind_at-kind in
    new-numbers a.doc.source.now a.doc.tape.now a.i a.next a.to (starts_of a.numbers) k.result (starts_of c.attached_numbers-then-kind-eq-VERSE.result) k.ensures (is-verse a.doc.tape.now a.i k.result k.ensures c.if-kind-eq-CHAPTER.false c.if-kind-eq-VERSE.true) c.attached_numbers-then-kind-eq-VERSE.ensures

pub returns : goal.returns
returns c =
    let a = c.args in
    let k = c.kind_at-kind in
    same_numbers a.doc.source.now a.doc.tape.now a.i a.next a.to (starts_of a.numbers) (is-neither a.doc.tape.now a.i k.result k.ensures c.if-kind-eq-CHAPTER.false c.if-kind-eq-VERSE.false)
