-- `closing::text_before` meets its contract.
use Rattle.findings.specs.Finding.{finding_of}
use Rattle.state.specs.Inner.{counts_of}
use Rattle.cursor.proofs.Runs.{run-spanned, run-below}
use Rattle.closing.proofs.NotBlank.{before-none, before-room, before-wrote}
use Rattle.closing.proofs.text_before.Goals as goal

pub returns-then-to-le1 : goal.returns-then-to-le1
returns-then-to-le1 c =
    let a = c.args in
    before-none a.doc.source.now a.doc.tape.now a.to a.list.now (counts_of a.rec) c.counts-c.result c.if-to-le1.true c.counts-c.ensures

pub is_kind-there-requires : goal.is_kind-there-requires
is_kind-there-requires c =
    let s = c in
    let a = s.args in
    run-spanned a.doc.source.now a.doc.tape.now 1 a.to s.requires.0 c.if-to-le1.false

pub about-requires : goal.about-requires
about-requires c =
    let s = c in
    let a = s.args in
    run-below a.doc.source.now a.doc.tape.now 1 a.to s.requires.0 c.if-to-le1.false

pub push_if-requires : goal.push_if-requires
push_if-requires c =
    let s = c in
    let a = s.args in
    let b = c.is_kind-there in
    let k = c.counts-c in
    before-room a.doc.source.now a.doc.tape.now a.to s.requires.0 c.if-to-le1.false b.result (finding_of c.about.result) b.ensures c.about.ensures (counts_of a.rec) k.result k.ensures s.requires.1

pub returns : goal.returns
returns c =
    let d = c in
    let s = d in
    let a = s.args in
    let b = d.is_kind-there in
    let k = d.counts-c in
    before-wrote a.doc.source.now a.doc.tape.now a.to s.requires.0 d.if-to-le1.false b.result (finding_of d.about.result) b.ensures d.about.ensures (counts_of a.rec) k.result k.ensures c.push_if.ensures
