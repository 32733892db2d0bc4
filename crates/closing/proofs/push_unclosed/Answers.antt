-- `closing::push_unclosed` meets its contract.
use Rattle.closing.proofs.Starts.{wrote_as}
use Rattle.closing.proofs.push_unclosed.Goals as goal

pub about-f-requires : goal.about-f-requires
about-f-requires c = c.requires.inside

pub returns : goal.returns
returns c =
    let w = c.push in
    let f = c.about-f in
    wrote_as f.ensures w.ensures
