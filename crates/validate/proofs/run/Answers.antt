-- `validate::run` meets its contract.
use Rattle.std.proofs.Common.{refl}
use Rattle.validate.proofs.Course.{walk-asks, left-asks, end-asks, ran-whole}
use Rattle.validate.proofs.run.Goals as goal

pub walk-requires : goal.walk-requires
walk-requires c = walk-asks c.requires _ c.link_at-to.ensures _ refl c.args.list.now _ _ c.begun-rec.ensures

pub unclosed-left-requires : goal.unclosed-left-requires
unclosed-left-requires c = left-asks c.requires _ c.link_at-to.ensures _ refl c.args.list.now _ _ c.begun-rec.ensures _ _ _ _ c.walk.ensures

pub ended-requires : goal.ended-requires
ended-requires c = end-asks c.requires _ c.link_at-to.ensures _ refl c.args.list.now _ _ c.begun-rec.ensures _ _ _ _ c.walk.ensures _ _ c.unclosed-left.ensures.1

pub returns : goal.returns
returns c = ran-whole c.requires _ c.link_at-to.ensures _ refl c.args.list.now _ _ c.begun-rec.ensures _ _ _ _ c.walk.ensures _ _ c.unclosed-left.ensures.1 _ _ c.ended.ensures
