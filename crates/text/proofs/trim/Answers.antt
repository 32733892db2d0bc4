-- `text::trim` meets its contract.
use Rattle.text.proofs.Cuts.{trim-cut}
use Rattle.text.proofs.trim.Goals as goal

pub returns : goal.returns
returns c =
    let a = c.find_from-a in
    let n = c.kept_len-n in
    trim-cut c.args.s.now a.result n.result a.ensures.is n.ensures.is
