-- `cursor::is_plain` meets its contract.
use native.Mathlib.Omega.{arith}
use borrow.Author.Tests.{not-true, eqb-false}
use Rattle.cursor.proofs.Named.{is_plain}
use Rattle.cursor.proofs.is_plain.Goals as goal

pub returns-then-b-lt124 : goal.returns-then-b-lt124
returns-then-b-lt124 c = λ e. is_plain c.args.b (omega arith) (omega arith) (eqb-false _ _ (not-true _ e))
