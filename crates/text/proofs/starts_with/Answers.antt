-- `text::starts_with` meets its contract.
use borrow.Author.Tests.{lt-leb}
use mathlib.Core.Path.{◌∙◌}
use native.Mathlib.Omega.{arith}
use Rattle.text.proofs.Blocks.{starts-short}
use Rattle.text.proofs.starts_with.Goals as goal

pub returns-else-key-s : goal.returns-else-key-s
returns-else-key-s c = lt-leb _ _ (omega arith) ∙ starts-short c.args.key.now c.args.s.now (omega arith)
