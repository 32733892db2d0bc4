-- `numbers::base_len` meets its contract.
use Rattle.numbers.proofs.Labels.{base-own}
use Rattle.numbers.proofs.base_len.Goals as goal

pub returns-in-None : goal.returns-in-None
returns-in-None c = base-own c.args.info c.args.name.now c.in-None.is
