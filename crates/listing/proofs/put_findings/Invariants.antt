-- `listing::put_findings` meets its contract. The invariant: the findings passed are written, and what is left gives what the whole gives.
use mathlib.Core.Path.{◌≡◌}
use lib.ListN.{length}
use Rattle.listing.specs.Listing.{listed_each}
use Rattle.listing.specs.Pieces.{held_findings}
use Rattle.listing.proofs.Pieces.{WritingPiece}
use Rattle.listing.proofs.put_findings.Given as goal

abbrev pub invariant-loop-k : goal.invariant-loop-k
invariant-loop-k l =
    WritingPiece (listed_each (length l.initial.text) l.table l.doc.source.now l.doc.tape.now (held_findings l.held l.list)) l.held l.from l.initial.out l.out l.k l.at × (length l.text ≡ length l.initial.text)
