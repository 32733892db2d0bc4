-- `walk::visit` and `walk::walk` meet their contracts.
use Rattle.std.proofs.Common.{refl, arith}
use Rattle.state.specs.Inner.{context_of}
use Rattle.table.specs.Entries.{entry_of_info}
use Rattle.walk.proofs.Going.{going_start, going_end, going-nearer, going-past-leaf, going-passed-over, going-visited, visit-asks, passable}
use Rattle.walk.proofs.Visiting.{visit-with, visit-run, visit-below, visit-children, visit-deep, own_room, steppable, visited-skipped, enters, inner-run, visited-still, inner-asks, inner-less, visited-whole, entered}
use Rattle.walk.proofs.+visit_walk.Goals as goal

pub visit-can_skip_marker-requires : goal.visit-can_skip_marker-requires
visit-can_skip_marker-requires t c =
    let q = c.requires in
    let v = visit-with (context_of c.args.context) (entry_of_info c.args.m) c.args.list.now q.0 q.1 q.3 in
    (q.2, visit-below v, visit-children v)

pub visit-returns-then-can_skip_marker : goal.visit-returns-then-can_skip_marker
visit-returns-then-can_skip_marker t c =
    let q = c.requires in
    let v = visit-with (context_of c.args.context) (entry_of_info c.args.m) c.args.list.now q.0 q.1 q.3 in
    visited-skipped v _ c.can_skip_marker.ensures c.if-can_skip_marker.true

pub visit-visit_marker-marked-requires : goal.visit-visit_marker-marked-requires
visit-visit_marker-marked-requires t c =
    let q = c.requires in
    let v = visit-with (context_of c.args.context) (entry_of_info c.args.m) c.args.list.now q.0 q.1 q.3 in
    (q.2, visit-run v, q.1.more, q.1.opened, q.1.attached, own_room v)

pub visit-milestone-paired-requires : goal.visit-milestone-paired-requires
visit-milestone-paired-requires t c =
    let q = c.requires in
    let v = visit-with (context_of c.args.context) (entry_of_info c.args.m) c.args.list.now q.0 q.1 q.3 in
    steppable v _ _ c.visit_marker-marked.ensures

pub visit-can_skip_children-requires : goal.visit-can_skip_children-requires
visit-can_skip_children-requires t c =
    let q = c.requires in
    let v = visit-with (context_of c.args.context) (entry_of_info c.args.m) c.args.list.now q.0 q.1 q.3 in
    let x = enters v _ _ c.visit_marker-marked.ensures _ _ _ c.milestone-paired.auto.opens c.milestone-paired.ensures in
    inner-run x _ c.link_at-link.ensures

pub visit-returns-then-can_skip_children : goal.visit-returns-then-can_skip_children
visit-returns-then-can_skip_children t c =
    let q = c.requires in
    let v = visit-with (context_of c.args.context) (entry_of_info c.args.m) c.args.list.now q.0 q.1 q.3 in
    let x = enters v _ _ c.visit_marker-marked.ensures _ _ _ c.milestone-paired.auto.opens c.milestone-paired.ensures in
    visited-still x _ c.link_at-link.ensures _ c.can_skip_children.ensures c.if-can_skip_children.true c.args.rec.now _ refl c.with_anchor.ensures

pub visit-overflow_sub-deeper : goal.visit-overflow_sub-deeper
visit-overflow_sub-deeper t c =
    let q = c.requires in
    visit-deep (visit-with (context_of c.args.context) (entry_of_info c.args.m) c.args.list.now q.0 q.1 q.3)

pub visit-walk-requires : goal.visit-walk-requires
visit-walk-requires t c =
    let q = c.requires in
    let v = visit-with (context_of c.args.context) (entry_of_info c.args.m) c.args.list.now q.0 q.1 q.3 in
    let x = enters v _ _ c.visit_marker-marked.ensures _ _ _ c.milestone-paired.auto.opens c.milestone-paired.ensures in
    let y = entered x c.args.rec.now _ _ _ _ _ refl c.with_anchor-2.ensures refl c.link_at-link.ensures refl c.inside-inner.ensures in
    let less = inner-less y in
    (omega (arith, c.decreases), inner-asks y)

pub visit-returns : goal.visit-returns
visit-returns t c =
    let q = c.requires in
    let v = visit-with (context_of c.args.context) (entry_of_info c.args.m) c.args.list.now q.0 q.1 q.3 in
    let x = enters v _ _ c.visit_marker-marked.ensures _ _ _ c.milestone-paired.auto.opens c.milestone-paired.ensures in
    let y = entered x c.args.rec.now _ _ _ _ _ refl c.with_anchor-2.ensures refl c.link_at-link.ensures refl c.inside-inner.ensures in
    visited-whole y _ _ _ _ c.walk.ensures _ c.with_anchor-3.ensures

pub walk-loop-i-init : goal.walk-loop-i-init
walk-loop-i-init t c = going_start _ _ _ _ _ _ _ _ _ _ _ _ _ _ c.requires.0 c.requires.1 c.anchored-numbers.ensures

pub walk-loop-i-smaller-in_default : goal.walk-loop-i-smaller-in_default
walk-loop-i-smaller-in_default t c = going-nearer c.loop-i.invariant c.loop-i-test.true _ c.past_node-i.ensures

pub walk-loop-i-preserved-in_default : goal.walk-loop-i-preserved-in_default
walk-loop-i-preserved-in_default t c =
    going-passed-over c.loop-i.invariant c.loop-i-test.true _ c.past_node-i.ensures _ c.kind_at.ensures c.if-kind_at-eq-MARKER_OPEN.true _ c.marker_info.ensures c.in_default.is

pub walk-visit-requires : goal.walk-visit-requires
walk-visit-requires t c =
    (omega (arith, c.decreases), visit-asks c.loop-i.invariant c.loop-i-test.true _ c.past_node-i.ensures _ c.kind_at.ensures c.if-kind_at-eq-MARKER_OPEN.true _ c.marker_info.ensures _ c.in-Some.is)

pub walk-loop-i-smaller-then-kind_at-eq-MARKER_OPEN : goal.walk-loop-i-smaller-then-kind_at-eq-MARKER_OPEN
walk-loop-i-smaller-then-kind_at-eq-MARKER_OPEN t c = going-nearer c.loop-i.invariant c.loop-i-test.true _ c.past_node-i.ensures

pub walk-loop-i-preserved-then-kind_at-eq-MARKER_OPEN : goal.walk-loop-i-preserved-then-kind_at-eq-MARKER_OPEN
walk-loop-i-preserved-then-kind_at-eq-MARKER_OPEN t c =
    going-visited c.loop-i.invariant c.loop-i-test.true _ c.past_node-i.ensures _ c.kind_at.ensures c.if-kind_at-eq-MARKER_OPEN.true _ c.marker_info.ensures _ c.in-Some.is _ _ _ _ c.visit.auto.seen c.visit.auto.opens c.visit.ensures

pub walk-visit_leaf-numbers-requires : goal.walk-visit_leaf-numbers-requires
walk-visit_leaf-numbers-requires t c = passable c.loop-i.invariant c.loop-i-test.true _ c.past_node-i.ensures

pub walk-loop-i-smaller : goal.walk-loop-i-smaller
walk-loop-i-smaller t c = going-nearer c.loop-i.invariant c.loop-i-test.true _ c.past_node-i.ensures

pub walk-loop-i-preserved : goal.walk-loop-i-preserved
walk-loop-i-preserved t c =
    going-past-leaf c.loop-i.invariant c.loop-i-test.true _ c.past_node-i.ensures _ c.kind_at.ensures c.if-kind_at-eq-MARKER_OPEN.false _ _ _ _ c.visit_leaf-numbers.auto.seen c.visit_leaf-numbers.ensures

pub walk-returns : goal.walk-returns
walk-returns t c = going_end c.loop-i.invariant c.loop-i-test.false
