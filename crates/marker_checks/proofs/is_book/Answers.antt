-- `marker_checks::is_book` meets its contract.
use mathlib.Core.Path.{◌≡◌, refl, ap, ◌∙◌}
use Rattle.std.specs.Prelude.{Option, Some, None, is_some}
use Rattle.table.specs.declared.BookId.{BookId}
use Rattle.table.specs.Books.{id_of}
use Rattle.text.specs.Pick.{known}
use Rattle.marker_checks.proofs.is_book.Goals as goal

there : (b : Option BookId) → is_some b ≡ known (id_of b)
there None = refl
there (Some b) = refl

pub returns : goal.returns
returns c = c.is_some.ensures ∙ there c.from_code.result ∙ ap known c.from_code.ensures
