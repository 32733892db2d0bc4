-- `text::IsBlank::of_byte` meets its contract.
use mathlib.Core.Logic.{inl}
use native.Mathlib.Omega.{arith}
use Rattle.text.proofs.Blank.{ascii-not-blank, blank-key}
use Rattle.text.proofs.IsBlankCharSearch.of_byte.Goals as goal

pub returns-in-32 : goal.returns-in-32
returns-in-32 c = (omega (arith, c.in-32.is), blank-key _ (inl c.in-32.is))

pub returns-in-33-to-127 : goal.returns-in-33-to-127
returns-in-33-to-127 c = (omega arith, ascii-not-blank _ (omega arith) (omega arith))
