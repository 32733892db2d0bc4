-- `milestones::nearest`: no open start from entry j on has the base.
use Rattle.std.proofs.Common.{◌≡◌, ◌≤◌}
use Rattle.milestones.specs.Inner.{nearest_in, base_at}
use Rattle.milestones.proofs.nearest.Given as goal

abbrev pub invariant-loop-j : goal.invariant-loop-j
invariant-loop-j l =
    (l.j ≤ l.k) × (nearest_in l.doc.source.now l.doc.tape.now l.opens l.k (base_at l.doc.source.now l.at l.len) ≡ nearest_in l.doc.source.now l.doc.tape.now l.opens l.j (base_at l.doc.source.now l.at l.len))
