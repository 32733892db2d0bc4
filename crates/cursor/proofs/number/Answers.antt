-- `cursor::number` meets its contract.
use Rattle.cursor.proofs.Around.{number-chapter, number-verse, number-none}
use Rattle.cursor.proofs.number.Goals as goal

pub returns-then-kind-eq-CHAPTER : goal.returns-then-kind-eq-CHAPTER
returns-then-kind-eq-CHAPTER c =
    let a = c.args in
    let k = c.kind_at-kind in
    number-chapter a.tape.now a.i k.result k.ensures c.link_at.result c.if-kind-eq-CHAPTER.true c.link_at.ensures

pub returns-then-kind-eq-VERSE : goal.returns-then-kind-eq-VERSE
returns-then-kind-eq-VERSE c =
    let a = c.args in
    let k = c.kind_at-kind in
    number-verse a.tape.now a.i k.result k.ensures c.link_at-then-kind-eq-VERSE.result c.if-kind-eq-CHAPTER.false c.if-kind-eq-VERSE.true c.link_at-then-kind-eq-VERSE.ensures

pub returns : goal.returns
returns c =
    let a = c.args in
    let k = c.kind_at-kind in
    number-none a.tape.now a.i k.result k.ensures c.if-kind-eq-CHAPTER.false c.if-kind-eq-VERSE.false
