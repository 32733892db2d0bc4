-- `table::bucket_of` meets its contract.
use Rattle.table.proofs.Buckets.{bucket-empty, bucket-is}
use Rattle.table.proofs.bucket_of.Goals as goal

pub returns-then-n-eq0 : goal.returns-then-n-eq0
returns-then-n-eq0 c = bucket-empty c.args.name.now c.if-n-eq0.true

pub returns : goal.returns
returns c = bucket-is c.args.name.now
