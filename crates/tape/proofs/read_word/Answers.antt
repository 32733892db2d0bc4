-- `tape::read_word` meets its contract.
use native.Mathlib.Omega.{arith}
use Rattle.tape.specs.Nodes.{word}
use Rattle.tape.proofs.read_word.Goals as goal

pub returns : goal.returns
unfolding word
returns c = omega (arith, c.byte.ensures, c.byte-2.ensures, c.byte-3.ensures, c.byte-4.ensures)
