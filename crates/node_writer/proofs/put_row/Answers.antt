-- `node_writer::put_row` meets its contract.
use Rattle.std.proofs.Common.{◌≡◌, ◌+◌, ◌-◌, ◌*◌, ◌/◌, ◌%◌, [], ◌∷◌, set, length-set, refl, ◌∙◌, arith}
use Rattle.node_writer.proofs.Laws.{copied, two-bytes, row-stored}
use Rattle.node_writer.proofs.put_row.Goals as goal

pub returns : goal.returns
returns c =
    let a = c.args in
    let bytes : c.copy_from_slice.new.self ≡ a.marker % 256 ∷ a.marker / 256 ∷ [] = c.copy_from_slice.ensures.after ∙ c.to_le_bytes.ensures ∙ two-bytes a.marker (omega arith) in
    let l = set (set a.t.now (16 * a.n) a.kind) (16 * a.n + 1) 0 in
    let marked = copied l (a.marker % 256 ∷ a.marker / 256 ∷ []) (16 * a.n + 2) (16 * a.n + 4 - (16 * a.n + 2)) (omega arith) (simp length-set (omega arith)) in
    (row-stored a.t.now _ _ _ _ a.n a.kind a.marker a.start a.len a.link (rw bytes marked) c.put_four.ensures c.put_four-2.ensures c.put_four-3.ensures, refl)
