-- Answers as words: the verdict, a refusal's number and place, then counts.
use Rattle.std.specs.Prelude.{ℕ, Bool, true, false, List, [], ◌∷◌}
use Rattle.std.specs.Prelude.{Option, Some, None}
use Rattle.refusals.specs.Refusal.{Refusal}
use Rattle.definition.specs.Outcome.{Answer, refused, checked}
use Rattle.messages.specs.Answer as message
use Rattle.messages.specs.Messages as messages
use Rattle.mark.specs.Mark as mark
use Rattle.reader_spec.specs.Answer as reader

abbrev pub report_words : ℕ → ℕ → ℕ → ℕ → ℕ → ℕ → ℕ → List ℕ
report_words verdict total written verses errors warnings infos =
    verdict ∷ 0 ∷ 0 ∷ total ∷ written ∷ verses ∷ errors ∷ warnings ∷ infos ∷ []

abbrev pub refusal_words : ℕ → ℕ → List ℕ
refusal_words number place = 2 ∷ number ∷ place ∷ 0 ∷ 0 ∷ 0 ∷ 0 ∷ 0 ∷ 0 ∷ []

abbrev pub verdict_of : Bool → ℕ
verdict_of true = 1
verdict_of false = 0

-- the verdict (0 checked, 1 cut, 2 refused), a refusal's number and place, and a checked document's counts
abbrev pub answer_words : Answer → List ℕ
answer_words (refused r) = refusal_words r.number r.place
answer_words (checked c) =
    report_words (verdict_of c.cut) c.total c.written c.verses c.errors c.warnings c.infos

-- the verdict (0 written, 2 refused), a refusal's number and place, and the text's length
abbrev pub message_words : message.MessageAnswer → List ℕ
message_words (message.refused r) = 2 ∷ r.number ∷ r.place ∷ 0 ∷ []
message_words (message.written n) = 0 ∷ 0 ∷ 0 ∷ n ∷ []

-- the verdict (0 all written, 1 stopped, 2 refused), number and place of a refusal or of what turns the next text back, the records
-- whose texts are written and the bytes that they take
abbrev pub messages_words : messages.MessagesAnswer → List ℕ
messages_words (messages.refused r) = 2 ∷ r.number ∷ r.place ∷ 0 ∷ 0 ∷ []
messages_words (messages.all records bytes) = 0 ∷ 0 ∷ 0 ∷ records ∷ bytes ∷ []
messages_words (messages.stopped records bytes r) = 1 ∷ r.number ∷ r.place ∷ records ∷ bytes ∷ []

-- the verdict (0 counted, 2 refused), a refusal's number and place
abbrev pub tally_words : Option Refusal → List ℕ
tally_words None = 0 ∷ 0 ∷ 0 ∷ []
tally_words (Some r) = 2 ∷ r.number ∷ r.place ∷ []

-- the verdict (0 marked, 2 refused), a refusal's number and place, loss and mark
abbrev pub mark_words : mark.MarkAnswer → List ℕ
mark_words (mark.refused r) = 2 ∷ r.number ∷ r.place ∷ 0 ∷ 0 ∷ []
mark_words (mark.marked m) = 0 ∷ 0 ∷ 0 ∷ m.loss ∷ m.mark ∷ []

-- the verdict (0 read, 2 refused), a refusal's number and place, and the number of nodes
abbrev pub read_words : reader.ReadAnswer → List ℕ
read_words (reader.refused r) = 2 ∷ r.number ∷ r.place ∷ 0 ∷ []
read_words (reader.read n) = 0 ∷ 0 ∷ 0 ∷ n ∷ []
