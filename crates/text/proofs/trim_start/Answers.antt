-- `text::trim_start` meets its contract.
use Rattle.text.proofs.Cuts.{start-cut}
use Rattle.text.proofs.trim_start.Goals as goal

pub returns : goal.returns
returns c = start-cut c.args.s.now c.find_from-a.result c.find_from-a.ensures.is
