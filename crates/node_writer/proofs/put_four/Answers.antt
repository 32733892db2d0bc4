-- `node_writer::put_four` meets its contract.
use Rattle.std.proofs.Common.{◌≡◌, ◌+◌, ◌-◌, ◌∙◌, arith}
use Rattle.definition.specs.Examples.{four}
use Rattle.node_writer.proofs.Laws.{copied, four-bytes}
use Rattle.node_writer.proofs.put_four.Goals as goal

pub returns : goal.returns
returns c =
    let bytes : c.copy_from_slice.new.self ≡ four c.args.n = c.copy_from_slice.ensures.after ∙ c.to_le_bytes.ensures ∙ four-bytes c.args.n (omega arith) in
    rw bytes (copied c.args.t.now (four c.args.n) c.args.at (c.args.at + 4 - c.args.at) (omega arith) c.requires)
