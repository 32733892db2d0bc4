-- `mark::put_mark` meets its contract.
use Rattle.text.specs.Literal.{ascii}
use Rattle.buffer.proofs.Over.{put_then}
use Rattle.mark.specs.MarkLines.{mark_lines}
use Rattle.mark.proofs.put_mark.Goals as goal

pub returns-in-Err-clause-lines : goal.returns-in-Err-clause-lines
unfolding mark_lines
returns-in-Err-clause-lines g c = rw (c.in-Err.is, ← c.number.ensures, ← c.place.ensures) c.put_refused.ensures.lines

pub returns-in-Ok-clause-lines : goal.returns-in-Ok-clause-lines
unfolding mark_lines ascii
returns-in-Ok-clause-lines g c = rw c.in-Ok.is (put_then c.put_count-second.ensures.written c.put_count.ensures.written)
