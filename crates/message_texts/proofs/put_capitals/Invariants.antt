-- `message_texts::put_capitals`: the first i capitals are written.
use Rattle.buffer.proofs.Writing.{Writing}
use Rattle.text.specs.Bytes.{upper}
use Rattle.message_texts.proofs.put_capitals.Given as goal

abbrev pub invariant-loop-i : goal.invariant-loop-i
invariant-loop-i l = Writing (upper l.s) l.initial.out l.at l.out l.i
