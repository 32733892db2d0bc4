-- `first_pass::survey_with` meets its contract.
use Rattle.std.proofs.Common.{sym, ◌∙◌, arith}
use Rattle.first_pass.proofs.Windows.{onward}
use Rattle.first_pass.proofs.Surveying.{pass-start, window-start, innermost-inside, close-onward, close-next, has-name, pass-stops, pass-next, end-open, end_none}
use Rattle.first_pass.proofs.survey_with.Goals as goal

pub loop-at-init : goal.loop-at-init
loop-at-init c = (pass-start c.requires.2, window-start c.requires.2 c.requires.3)

pub innermost_close-requires : goal.innermost_close-requires
innermost_close-requires c =
    let l = c.loop-at.invariant in
    (l.0.inside, l.1.long, innermost-inside c.requires.2 l.0 l.1)

pub overflow_add-at : goal.overflow_add-at
overflow_add-at c =
    let l = c.loop-at.invariant in
    omega (arith, (close-onward c.requires.2 l.0 l.1 c.loop-at-test.true c.in-Some.ensures).next, c.requires.2.short)

pub loop-at-smaller-in-Some : goal.loop-at-smaller-in-Some
loop-at-smaller-in-Some c =
    let l = c.loop-at.invariant in
    let h = close-onward c.requires.2 l.0 l.1 c.loop-at-test.true c.in-Some.ensures in
    omega (arith, h.some, h.next)

pub loop-at-preserved-in-Some : goal.loop-at-preserved-in-Some
loop-at-preserved-in-Some c =
    let l = c.loop-at.invariant in
    close-next c.requires.2 l.0 l.1 c.loop-at-test.true c.in-Some.ensures

pub piece_fault-requires : goal.piece_fault-requires
piece_fault-requires c =
    let f = c.loop-at.invariant.0 in
    let w = c.prepare-low.ensures in
    (f.inside, w.0.long, has-name c.requires.2 f w.0 _ c.piece_at-p.ensures c.loop-at-test.true w.1)

pub returns-in-Some-piece_fault : goal.returns-in-Some-piece_fault
returns-in-Some-piece_fault c =
    let w = c.prepare-low.ensures in
    rw c.at.ensures (pass-stops c.requires.2 c.loop-at.invariant.0 w.0 _ c.piece_at-p.ensures c.loop-at-test.true w.1 c.in-Some-piece_fault.reason (sym c.piece_fault.ensures ∙ c.in-Some-piece_fault.is))

pub size_of-requires : goal.size_of-requires
size_of-requires c =
    omega (arith, (onward _ _ _ _ c.piece_at-p.ensures c.requires.2 c.loop-at.invariant.0.made c.loop-at-test.true).next)

pub overflow_add-to : goal.overflow_add-to
overflow_add-to c =
    omega (arith, (onward _ _ _ _ c.piece_at-p.ensures c.requires.2 c.loop-at.invariant.0.made c.loop-at-test.true).next, c.requires.2.short)

pub slice_bounds-nodes_of-end : goal.slice_bounds-nodes_of-end
slice_bounds-nodes_of-end c =
    omega (arith, (onward _ _ _ _ c.piece_at-p.ensures c.requires.2 c.loop-at.invariant.0.made c.loop-at-test.true).next)

pub loop-at-smaller : goal.loop-at-smaller
loop-at-smaller c =
    let h = onward _ _ _ _ c.piece_at-p.ensures c.requires.2 c.loop-at.invariant.0.made c.loop-at-test.true in
    omega (arith, h.some, h.next)

pub loop-at-preserved : goal.loop-at-preserved
loop-at-preserved c =
    let w = c.prepare-low.ensures in
    pass-next c.requires.2 c.loop-at.invariant.0 w.0 _ c.piece_at-p.ensures c.loop-at-test.true w.1 c.size_of.ensures c.nodes_of-nodes.ensures c.keep_place.ensures c.block_after-block.ensures c.depth_after-depth.ensures (sym c.piece_fault.ensures ∙ c.in_default-piece_fault.is)

pub returns-then-depth-gt0 : goal.returns-then-depth-gt0
returns-then-depth-gt0 c =
    rw c.at-then-depth-gt0.ensures (end-open c.requires.2 c.loop-at.invariant.0 (omega arith) c.if-depth-gt0.true)

pub returns : goal.returns
returns c = rw c.from.ensures (end_none c.requires.2 c.loop-at.invariant.0 (omega arith) (omega arith))
