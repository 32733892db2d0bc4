-- `message_texts::fill`: what is left of the text gives what the whole gives.
use Rattle.std.proofs.Common.{length}
use Rattle.message_texts.specs.Inner.{values}
use Rattle.message_texts.proofs.Filling.{Filling}
use Rattle.message_texts.proofs.fill.Given as goal

abbrev pub invariant-loop-n : goal.invariant-loop-n
invariant-loop-n l = Filling l.text (values l.a l.b l.c) l.initial.out l.out l.at l.rest

abbrev pub decreases-loop-n : goal.decreases-loop-n
decreases-loop-n l = length l.rest
