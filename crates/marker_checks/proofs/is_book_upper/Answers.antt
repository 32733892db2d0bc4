-- `marker_checks::is_book_upper` meets its contract.
use Rattle.std.proofs.Common.{◌∙◌}
use borrow.Author.Tests.{ne_eqb}
use Rattle.marker_checks.proofs.Codes.{upper-three, no-upper-book}
use Rattle.marker_checks.proofs.is_book_upper.Goals as goal

pub returns-then-code-eq3 : goal.returns-then-code-eq3
returns-then-code-eq3 c = c.is_book.ensures ∙ upper-three _ _ _ _ c.if-code-eq3.true c.upper.ensures c.upper-then-code-eq3.ensures c.upper-then-code-eq3-2.ensures

pub returns-else-code-eq3 : goal.returns-else-code-eq3
returns-else-code-eq3 c = ne_eqb _ _ c.if-code-eq3.false ∙ no-upper-book _ c.if-code-eq3.false
