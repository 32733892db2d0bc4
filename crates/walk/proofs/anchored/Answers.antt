-- `walk::anchored` meets its contract.
use Rattle.attachment.specs.Attached.{starts_of}
use Rattle.tape.specs.Forest.{forest}
use Rattle.walk.proofs.Steps.{begun-below, begun-run, begun-starts, begun-nothing}
use Rattle.walk.proofs.anchored.Goals as goal

pub returns-then-anchor-eq0 : goal.returns-then-anchor-eq0
returns-then-anchor-eq0 c =
    let a = c.args in
    begun-nothing a.doc.source.now a.doc.tape.now a.anchor a.from (forest a.doc.source.now a.doc.tape.now a.from a.to) c.if-anchor-eq0.true

pub kind_at-requires : goal.kind_at-requires
kind_at-requires c =
    let p = c.requires in
    let a = c.args in
    begun-below a.doc.source.now a.doc.tape.now a.depth a.anchor a.from a.to p.0 p.1 p.2 p.3 c.if-anchor-eq0.false

pub past_node-requires : goal.past_node-requires
past_node-requires c =
    let p = c.requires in
    let a = c.args in
    begun-below a.doc.source.now a.doc.tape.now a.depth a.anchor a.from a.to p.0 p.1 p.2 p.3 c.if-anchor-eq0.false

pub attached_numbers-requires : goal.attached_numbers-requires
attached_numbers-requires c =
    let p = c.requires in
    let a = c.args in
    begun-run a.doc.source.now a.doc.tape.now a.depth a.anchor a.from a.to p.0 p.1 p.2 p.3 c.if-anchor-eq0.false c.past_node.result c.past_node.ensures

pub returns : goal.returns
returns c =
    let p = c.requires in
    let a = c.args in
    begun-starts a.doc.source.now a.doc.tape.now a.depth a.anchor a.from a.to p.0 p.1 p.2 p.3 c.if-anchor-eq0.false c.kind_at.result c.past_node.result (starts_of c.attached_numbers.result) c.kind_at.ensures c.past_node.ensures c.attached_numbers.ensures
