-- `check_exercise::write_findings` meets its contract: each piece has room, is written whole, and goes on to a later finding.
use Rattle.std.proofs.Common.{length, arith}
use Rattle.listing.specs.Listing.{listed_each}
use Rattle.listing.specs.Pieces.{held_findings}
use Rattle.listing.proofs.Places.{listable}
use Rattle.check_exercise.proofs.Progress.{written-whole, nearer, within}
use Rattle.check_exercise.proofs.write_findings.Goals as goal

pub put_findings-piece-requires : goal.put_findings-piece-requires
put_findings-piece-requires g c =
    let short = c.requires.short in
    (listable _ _ _ _ c.requires.indexed c.requires.accepted (omega arith) (omega arith) (omega arith) c.lines_and_columns.ensures.lines c.lines_and_columns.ensures.columns, c.requires.few, c.loop-k.invariant, omega arith, omega arith)

pub write-requires : goal.write-requires
write-requires g c =
    let a = c.args in
    let l = c.loop-k in
    written-whole (listed_each (length l.text) a.table.now a.source.now a.tape.now (held_findings a.held a.list.now)) l.k l.out _ _ c.put_findings-piece.ensures.piece c.put_findings-piece.auto.out

pub loop-k-smaller : goal.loop-k-smaller
loop-k-smaller g c =
    let l = c.loop-k in
    nearer _ _ _ _ _ c.requires.short c.requires.few l.text l.out (omega arith) (omega arith) _ _ c.put_findings-piece.ensures.next c.loop-k-test.true

pub loop-k-preserved : goal.loop-k-preserved
loop-k-preserved g c =
    let l = c.loop-k in
    within _ _ _ _ _ c.requires.short c.requires.few l.text l.out (omega arith) (omega arith) _ _ c.put_findings-piece.ensures.next l.invariant
