-- `cursor::name_start` meets its contract.
use Rattle.cursor.proofs.Named.{name-starts}
use Rattle.cursor.proofs.name_start.Goals as goal

pub returns : goal.returns
returns c =
    let a = c.past_one-a in
    let b = c.past_one in
    record { is = name-starts c.args.s.now a.result b.result a.ensures.is b.ensures.is; inside = b.ensures.inside }
