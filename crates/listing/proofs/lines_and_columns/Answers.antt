-- `listing::lines_and_columns` meets its contract. The invariant: the places passed are written, and `line` and `column` are those of the next.
use native.Mathlib.Omega.{arith}
use lib.ListN.{length-set}
use Rattle.listing.proofs.Places.{places-start, places-break, places-further, places-low, places-high, lines-written, columns-written}
use Rattle.listing.proofs.lines_and_columns.Goals as goal
use Rattle.listing.proofs.lines_and_columns.Goals.{in-10, in-128-to-191, in_default+in_default, in_default-via-then-b-lt128, in_default-via-else-b-lt128+else-b-lt192}

pub loop-i-init : goal.loop-i-init
loop-i-init c = places-start _ _ _

pub loop-i-preserved : goal.loop-i-preserved
loop-i-preserved c =
    let l = c.loop-i in
    let p = c.requires in
    let h = c.loop-i-test.true in
    elim c.match-b.branch [
      | in-10 w ↦ rw (w.line-is, w.column-is) (places-break _ _ _ _ _ _ _ _ l.invariant p.1 p.2 h w.in-10.is)
      | in-128-to-191 w ↦
          rw (w.line-is, w.column-is) (places-further _ _ _ _ _ _ _ _ l.invariant p.1 p.2 h w.in-128-to-191.in_default-own.rest.1 p.3 (omega arith) (omega arith))
      | in_default+in_default w ↦
          rw (w.line-is, w.column-is)
          (elim w.in_default.branch [
            | in_default-via-then-b-lt128 w' ↦ places-low _ _ _ _ _ _ _ _ l.invariant p.1 p.2 h w.in_default-1.rest.1 p.3 (omega arith)
            | in_default-via-else-b-lt128+else-b-lt192 w' ↦ places-high _ _ _ _ _ _ _ _ l.invariant p.1 p.2 h w.in_default-1.rest.1 p.3 (omega arith)
          ])
    ]

pub shape_of-lines : goal.shape_of-lines
shape_of-lines c = simp length-set c.loop-i.invariant.lines.same

pub shape_of-columns : goal.shape_of-columns
shape_of-columns c = simp length-set c.loop-i.invariant.columns.same

pub returns : goal.returns
returns c =
    let l = c.loop-i in
    let p = c.requires in
    let h = c.loop-i-test.false in
    record { lines = lines-written _ _ _ _ _ _ _ _ l.invariant p.1 p.2 h; columns = columns-written _ _ _ _ _ _ _ _ l.invariant p.1 p.2 h }
