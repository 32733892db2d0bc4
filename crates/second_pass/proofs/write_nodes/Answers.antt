-- `second_pass::write_nodes` meets its contract.
use Rattle.std.proofs.Common.{refl, ◌∙◌, arith}
use Rattle.second_pass.proofs.Whole.{nodes-few, root-fits, going_start, whole_is, few-open, fair-here, size_fits, turned, last-ready, all-written}
use Rattle.second_pass.proofs.write_nodes.Goals as goal

pub overflow_cast-s : goal.overflow_cast-s
overflow_cast-s c = omega (arith, c.requires.2.legible.short)

pub overflow_cast-count : goal.overflow_cast-count
overflow_cast-count c = omega (arith, nodes-few c.requires.2)

pub put_row-first-requires : goal.put_row-first-requires
put_row-first-requires c = root-fits c.requires.2

pub loop-at-init : goal.loop-at-init
loop-at-init c = (refl, going_start c.requires.2 c.put_row-first.ensures)

pub faultless_piece_at-p-requires : goal.faultless_piece_at-p-requires
faultless_piece_at-p-requires c =
    (c.requires.0, c.requires.1, fair-here c.requires.2.legible c.loop-at.invariant.1 c.loop-at-test.true)

pub size_of-requires : goal.size_of-requires
size_of-requires c =
    let p = c.faultless_piece_at-p in
    size_fits c.requires.2.legible c.loop-at.invariant.1 c.loop-at-test.true p.result p.ensures

pub overflow_add-to : goal.overflow_add-to
overflow_add-to c =
    let p = c.faultless_piece_at-p in
    let turn = turned c.requires.2.legible c.loop-at.invariant.1 c.loop-at-test.true p.result p.ensures c.size_of.ensures in
    omega (arith, turn.inside)

pub slice_bounds-put_piece-end : goal.slice_bounds-put_piece-end
slice_bounds-put_piece-end c =
    let p = c.faultless_piece_at-p in
    (turned c.requires.2.legible c.loop-at.invariant.1 c.loop-at-test.true p.result p.ensures c.size_of.ensures).inside

pub put_piece-w-requires : goal.put_piece-w-requires
put_piece-w-requires c =
    let p = c.faultless_piece_at-p in
    (c.requires.0, (turned c.requires.2.legible c.loop-at.invariant.1 c.loop-at-test.true p.result p.ensures c.size_of.ensures).ready)

pub depth_after-depth-requires : goal.depth_after-depth-requires
depth_after-depth-requires c = few-open c.requires.2.legible c.loop-at.invariant.1

pub loop-at-smaller : goal.loop-at-smaller
loop-at-smaller c =
    let p = c.faultless_piece_at-p in
    let turn = turned c.requires.2.legible c.loop-at.invariant.1 c.loop-at-test.true p.result p.ensures c.size_of.ensures in
    omega (arith, turn.inside, turn.some)

pub loop-at-preserved : goal.loop-at-preserved
loop-at-preserved c =
    let p = c.faultless_piece_at-p in
    let turn = turned c.requires.2.legible c.loop-at.invariant.1 c.loop-at-test.true p.result p.ensures c.size_of.ensures in
    let put = c.put_piece-w in
    (put.auto.t ∙ c.loop-at.invariant.0, turn.on put.new.t put.result c.depth_after-depth.result put.ensures c.depth_after-depth.ensures)

pub put_block_end-requires : goal.put_block_end-requires
put_block_end-requires c = last-ready c.requires.2.legible c.loop-at.invariant.1 c.loop-at-test.false

pub shape_of-t : goal.shape_of-t
shape_of-t c = c.put_block_end.auto.t ∙ c.loop-at.invariant.0 ∙ c.put_row-first.auto.t

pub returns : goal.returns
returns c =
    all-written c.requires.2.legible c.loop-at.invariant.1 c.loop-at-test.false c.put_block_end.ensures
    ∙ whole_is c.requires.2 c.put_row-first.ensures
