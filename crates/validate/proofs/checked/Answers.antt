-- `validate::checked` meets its contract.
use Rattle.std.proofs.Common.{refl}
use Rattle.validate.proofs.Course.{finished-whole}
use Rattle.validate.proofs.checked.Goals as goal

pub returns : goal.returns
returns c =
    let r = c.run-r in
    finished-whole c.requires c.args.list.now r.new.list _ r.ensures r.auto.list _ _ c.node_count-n.ensures refl r.new.seen _ r.new.opens _ r.auto.seen r.auto.opens c.clear_seen.ensures c.clear_opens.ensures _ c.reported.ensures
