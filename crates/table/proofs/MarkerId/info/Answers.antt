-- `table::MarkerId::info` meets its contract.
use Rattle.table.proofs.Unpack.{past, info-known}
use Rattle.table.proofs.MarkerId.info.Goals as goal

pub returns-then-entries-k : goal.returns-then-entries-k
returns-then-entries-k c = past _ _ _ c.requires _ c.if-entries-k.true

pub returns : goal.returns
returns c = info-known _ _ _ c.requires _ c.if-entries-k.false _ _ c.category_of-category.ensures c.role_of-text_role.ensures
