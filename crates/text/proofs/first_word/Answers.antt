-- `text::first_word` meets its contract.
use Rattle.text.proofs.Cuts.{word_cut}
use Rattle.text.proofs.first_word.Goals as goal

pub returns : goal.returns
returns c =
    let a = c.find_from-a in
    let e = c.find_from-e in
    word_cut c.args.s.now 0 a.result e.result a.ensures.is e.ensures.is
