-- `reader::put_output` meets its contract: the nodes that are read have room in the list.
use Rattle.std.proofs.Common.{arith}
use Rattle.reader.proofs.Outputs.{nodes-fit}
use Rattle.reader.proofs.put_output.Goals as goal

pub overflow_mul-result : goal.overflow_mul-result
overflow_mul-result c = omega (arith, nodes-fit _ _ _ _ c.in-Ok.ensures.answer)

pub returns-in-Ok-clause-end : goal.returns-in-Ok-clause-end
returns-in-Ok-clause-end c = λ h. omega (arith, nodes-fit _ _ _ _ c.in-Ok.ensures.answer, c.read.auto.nodes)
