-- `table::BookId::from_code` meets its contract: the codes of the constant are the codes of the definition.
use mathlib.Core.Path.{sym, ◌∙◌}
use native.Mathlib.Omega.{arith}
use Rattle.table.specs.Books.{book_codes, book_of}
use Rattle.table.specs.Inner.{triples}
use Rattle.table.proofs.Words.{found}
use Rattle.text.specs.Literal.{ascii}
use Rattle.table.proofs.BookId.from_code.Goals as goal

pub returns-in_err-k : goal.returns-in_err-k
unfolding ascii triples book_codes book_of
returns-in_err-k c = rw c.from_residual.ensures (sym c.in_err-k.was ∙ c.code_in.ensures)

pub overflow_cast-result : goal.overflow_cast-result
unfolding triples
overflow_cast-result c = let a = found _ _ 0 _ (sym c.code_in.ensures ∙ c.in_ok-k.was) in omega (arith, a.inside)

pub returns : goal.returns
unfolding ascii triples book_codes book_of
returns c = sym c.in_ok-k.was ∙ c.code_in.ensures
