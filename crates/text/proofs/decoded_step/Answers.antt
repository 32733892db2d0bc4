-- `text::decoded_step` meets its contract.
use Rattle.text.proofs.Steps.{decoded_past, decoded-stops}
use Rattle.text.proofs.decoded_step.Goals as goal

pub returns-then-passes : goal.returns-then-passes
returns-then-passes g c = decoded-stops _ c.args.s.now c.args.at c.requires c.decode_near-d.result c.passes.result c.decode_near-d.ensures c.passes.ensures c.if-passes.true

pub returns-else-passes : goal.returns-else-passes
returns-else-passes g c = decoded_past _ c.args.s.now c.args.at c.requires c.decode_near-d.result c.passes.result c.decode_near-d.ensures c.passes.ensures c.if-passes.false
