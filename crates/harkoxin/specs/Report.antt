-- A check, and the texts of the findings that it wrote.
use Rattle.std.specs.Prelude.{ℕ, ◌*◌, List, ◌++◌, take}
use Rattle.definition.specs.Outcome.{Lent, Answer, refused, checked, refusal, answer, list_after, words_by}
use Rattle.messages.specs.Messages as messages
use Rattle.messages.specs.Messages.{MessagesAnswer, refused_or, messages_answer, answer_by_texts, text_at, texts_of, messages_after, ends_after}
use Rattle.findings.specs.Written.{whole_records}
use Rattle.harkoxin.specs.Words.{refusal_words, messages_words}

-- how many findings the list of a checked document holds
abbrev pub held_of : Answer → ℕ
held_of (refused r) = 0
held_of (checked c) = c.written

-- the words of these
abbrev pub held_in : Answer → List ℕ → List ℕ
held_in a l = take (8 * held_of a) l

-- the answer for the texts of a list, of a document that nothing turns back
abbrev pub held_answer : List ℕ → List ℕ → List ℕ → List ℕ → ℕ → MessagesAnswer
held_answer table s t l room = answer_by_texts (text_at table s t l) (whole_records l) (texts_of table s t l room)

-- both answers of a document that is turned back
abbrev pub turned_words : ℕ → ℕ → List ℕ
turned_words number place = refusal_words number place ++ messages_words (messages.refused (record { number = number; place = place }))

-- the findings that a check wrote
abbrev pub written : Lent → List ℕ
written l = held_in (answer l) (list_after l)

-- their texts, as those of any list; none after a refusal
abbrev pub report_answer : Lent → ℕ → MessagesAnswer
report_answer l room = refused_or (refusal l) (messages_answer l.table l.source l.tape (written l) room)

abbrev pub report_text : Lent → List ℕ → List ℕ
report_text l text = words_by (refusal l) text (messages_after l.table l.source l.tape (written l) text)

abbrev pub report_ends : Lent → ℕ → List ℕ → List ℕ
report_ends l room ends = words_by (refusal l) ends (ends_after l.table l.source l.tape (written l) room ends)
