-- `validate::ended` meets its contract.
use mathlib.Core.Path.{refl}
use Rattle.validate.proofs.ended.Goals as goal

pub missing-requires : goal.missing-requires
missing-requires c = c.requires.room

pub returns : goal.returns
returns c = let w = c.missing in rw c.with_counts.ensures (record { wrote = w.ensures; record_is = refl })
