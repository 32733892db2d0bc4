-- `text::equal_4` meets its contract.
use Rattle.text.proofs.Blocks.{same-four}
use Rattle.text.proofs.equal_4.Goals as goal

pub returns : goal.returns
returns c =
    let k = c in
    let s = k in
    rw (c.four_bytes.ensures, c.four_bytes-2.ensures) (same-four s.args.a.now s.args.b.now k.type_inv.a k.type_inv.b s.args.at s.args.at s.requires.0 s.requires.1)
