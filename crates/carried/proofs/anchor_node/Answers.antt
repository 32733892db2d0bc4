-- `carried::anchor_node` meets its contract.
use Rattle.carried.specs.Record.{record_of}
use Rattle.carried.proofs.Tests.{late-anchor, own-anchor, inner-anchor}
use Rattle.carried.proofs.anchor_node.Goals as goal

pub returns-then-rec : goal.returns-then-rec
returns-then-rec c = let a = c.args in late-anchor a.doc.source.now a.doc.tape.now (record_of a.rec) c.if-rec.true

pub returns-then-is_border : goal.returns-then-is_border
returns-then-is_border c =
    let a = c.args in
    let p = c.is_border in
    own-anchor a.doc.source.now a.doc.tape.now (record_of a.rec) c.if-rec.false p.result p.ensures c.if-is_border.true

pub returns-else-is_border : goal.returns-else-is_border
returns-else-is_border c =
    let a = c.args in
    let p = c.is_border in
    inner-anchor a.doc.source.now a.doc.tape.now (record_of a.rec) c.if-rec.false p.result p.ensures c.if-is_border.false
