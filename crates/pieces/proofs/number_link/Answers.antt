-- `pieces::number_link` meets its contract: a number that is read has four bytes.
use native.Mathlib.Omega.{arith}
use Rattle.pieces.proofs.Answers.{link_low}
use Rattle.pieces.proofs.number_link.Goals as goal

pub overflow_cast-result : goal.overflow_cast-result
overflow_cast-result c = omega (arith, link_low _ _ _ c.parse_verse_part.ensures c.in-Ok.is)
