-- `table::clear_heads` meets its contract.
use Rattle.std.proofs.Common.{◌<◌, ◌∙◌, length, arith}
use Rattle.std.proofs.lemmas.List.{get_or-replicate}
use lib.ListN.{get_or-append}
use lib.Seq.{length-take-le}
use Rattle.table.proofs.clear_heads.Goals as goal

pub returns : goal.returns
returns c =
    let n = length-take-le 256 c.args.chains.now c.requires in
    let e = c.fill.ensures.after (λ y k. k) in
    λ h b. let l : h < length c.fill.new.self = omega (arith, n, c.fill.ensures.len) in get_or-append _ _ 0 h l ∙ rw (e, n) (get_or-replicate 256 h 0 0 b)
