-- `oracle_exports::compared_attributes` meets what it calls.
use Rattle.oracle_exports.proofs.Guards.{attributes_asked, attributes_total}
use Rattle.oracle_exports.proofs.compared_attributes.Goals as goal

pub validate_attributes-requires : goal.validate_attributes-requires
validate_attributes-requires c = attributes_asked _ _ _ _ c.in-Some.ensures _

pub total_of-requires : goal.total_of-requires
total_of-requires c = attributes_total _ _ _ _ c.in-Some.ensures _ _ _ _ c.validate_attributes.ensures
