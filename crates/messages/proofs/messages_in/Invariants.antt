-- `messages::messages_in` meets its contract.
use Prim.Native.Nat.{◌/◌}
use lib.ListN.{length}
use Rattle.messages.specs.Messages.{text_at}
use Rattle.messages.proofs.WritingTexts.{WritingTexts}
use Rattle.messages.proofs.messages_in.Given as goal

abbrev pub invariant-loop-k : goal.invariant-loop-k
invariant-loop-k l = WritingTexts (text_at l.table l.doc.source.now l.doc.tape.now l.list) (length l.list / 8) l.initial.ends l.initial.out l.ends l.out l.k l.at
