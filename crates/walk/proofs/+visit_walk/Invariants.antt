-- `walk::visit` and `walk::walk`: a visit walks the children, which lie one deeper; a walk visits nodes at its own depth.
use Rattle.std.proofs.Common.{◌+◌, ◌*◌, ◌-◌}
use Rattle.state.specs.Inner.{context_of}
use Rattle.walk.specs.Inner.{walk_at}
use Rattle.walk.proofs.Going.{Going}
use Rattle.walk.proofs.+visit_walk.Given as goal

abbrev pub decreases-visit : goal.decreases-visit
decreases-visit l = 2 * l.depth

abbrev pub decreases-walk : goal.decreases-walk
decreases-walk l = 2 * l.depth + 1

abbrev pub invariant-walk-loop-i : goal.invariant-walk-loop-i
invariant-walk-loop-i l =
    Going l.table l.index l.entries l.doc.source.now l.doc.tape.now l.depth (context_of l.context) l.from l.to (walk_at l.table l.doc.source.now l.doc.tape.now (context_of l.context) l.from l.to l.fn.seen l.fn.opens l.fn.rec) l.fn.list l.fn.rec l.seen l.opens l.list l.rec l.numbers l.i

abbrev pub decreases-walk-loop-i : goal.decreases-walk-loop-i
decreases-walk-loop-i l = l.to - l.i
