-- `cursor::name_span` meets its contract.
use Rattle.cursor.proofs.Named.{name-ends}
use Rattle.cursor.proofs.name_span.Goals as goal

pub returns : goal.returns
returns c =
    let b = c.name_start-b in
    let e = c.name_end in
    record { begins = b.ensures.is; stops = name-ends c.args.s.now b.result e.result b.ensures.is e.ensures.is; inside = e.ensures.inside }
