-- `text::equal_8` meets its contract.
use Rattle.text.proofs.Blocks.{same-eight}
use Rattle.text.proofs.equal_8.Goals as goal

pub returns : goal.returns
returns c =
    let k = c in
    let s = k in
    rw (c.eight_bytes.ensures, c.eight_bytes-2.ensures) (same-eight s.args.a.now s.args.b.now k.type_inv.a k.type_inv.b s.args.at s.args.at s.requires.0 s.requires.1)
