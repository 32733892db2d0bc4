-- `listing::lines_and_columns` meets its contract. The invariant: the places passed are written, and `line` and `column` are those of the next.
use Rattle.listing.proofs.Places.{PlacesSoFar}
use Rattle.listing.proofs.lines_and_columns.Given as goal

abbrev pub invariant-loop-i : goal.invariant-loop-i
invariant-loop-i l = PlacesSoFar l.source l.initial.lines l.initial.columns l.lines l.columns l.line l.column l.i
