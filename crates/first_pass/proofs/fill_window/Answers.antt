-- `first_pass::fill_window` meets its contract.
use Rattle.std.proofs.Common.{arith}
use Rattle.first_pass.proofs.Windows.{onward, fill_start, fill_end, fill_step}
use Rattle.first_pass.proofs.fill_window.Goals as goal

pub loop-at-init : goal.loop-at-init
loop-at-init c = fill_start c.requires.2 c.requires.5

pub keep_place-requires : goal.keep_place-requires
keep_place-requires c =
    let f = c.loop-at.invariant in
    (f.long, omega (arith, f.inside, c.requires.2.short), omega (arith, c.requires.2.short, c.requires.3))

pub depth_after-depth-requires : goal.depth_after-depth-requires
depth_after-depth-requires c =
    let f = c.loop-at.invariant in
    omega (arith, f.few, f.inside, c.requires.2.short)

pub size_of-at-requires : goal.size_of-at-requires
size_of-at-requires c =
    omega (arith, (onward _ _ _ _ c.piece_at-p.ensures c.requires.2 c.loop-at.invariant.made (omega (arith, c.requires.3))).next)

pub overflow_add-at : goal.overflow_add-at
overflow_add-at c =
    omega (arith, (onward _ _ _ _ c.piece_at-p.ensures c.requires.2 c.loop-at.invariant.made (omega (arith, c.requires.3))).next, c.requires.2.short)

pub loop-at-smaller : goal.loop-at-smaller
loop-at-smaller c =
    let h = onward _ _ _ _ c.piece_at-p.ensures c.requires.2 c.loop-at.invariant.made (omega (arith, c.requires.3)) in
    omega (arith, h.some, h.next)

pub loop-at-preserved : goal.loop-at-preserved
loop-at-preserved c =
    rw (c.size_of-at.ensures, c.keep_place.ensures, c.depth_after-depth.ensures) (fill_step c.requires.2 c.loop-at.invariant c.loop-at-test.true c.requires.3 _ c.piece_at-p.ensures)

pub returns : goal.returns
returns c = fill_end c.requires.2 c.loop-at.invariant (omega arith)
