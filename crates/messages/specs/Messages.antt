-- The texts of a list's findings, one behind another: as many calls for a text, by one reading of the document.
use Rattle.std.specs.Prelude.{ℕ, zero, suc, ◌+◌, ◌*◌, ◌-◌, List, [], ◌∷◌, eqb, ltb, length, get_or}
use Rattle.std.specs.Prelude.{Option, Some, None, Result, Ok, Err}
use Rattle.refusals.specs.declared.Refusal as code
use Rattle.refusals.specs.Reasons.{refusal_of}
use Rattle.messages.specs.declared.Texts.{Texts}
use Rattle.refusals.specs.Refusal.{Refusal, no_message, message_list_too_short}
use Rattle.buffer.specs.Over.{over}
use Rattle.findings.specs.Written.{whole_records}
use Rattle.message_texts.specs.Filled.{joined}
use Rattle.messages.specs.Message.{Request, message_text}
use Rattle.messages.specs.Answer.{first_nine}
use Rattle.text.specs.Pick.{pick}

-- the request for the text of record k of a list
abbrev pub request_at : List ℕ → ℕ → Request
request_at l k =
    record {
      code = get_or l (8 * k + 1) 0;
      form = get_or l (8 * k + 5) 0;
      node = get_or l (8 * k + 4) 0;
      first = get_or l (8 * k + 6) 0;
      second = get_or l (8 * k + 7) 0;
    }

abbrev pub fitting : Option (List ℕ) → ℕ → (ℕ → List (List ℕ)) → List (List ℕ)
fitting None room rest = []
fitting (Some x) room rest = pick (ltb room (length x)) [] (x ∷ rest (room - length x))

-- the texts of n records from the k-th on, up to the first that has none, or no room
unfoldable pub texts_from : (ℕ → Option (List ℕ)) → ℕ → ℕ → ℕ → List (List ℕ)
texts_from text k zero room = []
texts_from text k (suc n) room = fitting (text k) room (texts_from text (suc k) n)

-- where each text ends
unfoldable pub ends_from : ℕ → List (List ℕ) → List ℕ
ends_from at [] = []
ends_from at (x ∷ xs) = (at + length x) ∷ ends_from (at + length x) xs

-- what turns the next text back: number 12, or 13 with the length that it needs
abbrev pub turned_back : Option (List ℕ) → Refusal
turned_back None = record { number = no_message; place = 0 }
turned_back (Some x) = record { number = message_list_too_short; place = length x }

-- numbers 1 to 9; or how many texts are written and how many bytes they take, and where not all are, what turns the next one back
pub data MessagesAnswer : Type 0 where
  refused : Refusal → MessagesAnswer
  all : ℕ → ℕ → MessagesAnswer
  stopped : ℕ → ℕ → Refusal → MessagesAnswer

abbrev pub answer_by_texts : (ℕ → Option (List ℕ)) → ℕ → List (List ℕ) → MessagesAnswer
answer_by_texts text n ts =
    pick (eqb (length ts) n) (all (length ts) (length (joined ts))) (stopped (length ts) (length (joined ts)) (turned_back (text (length ts))))

abbrev pub text_at : List ℕ → List ℕ → List ℕ → List ℕ → ℕ → Option (List ℕ)
text_at table s t l k = message_text table s t (request_at l k)

-- the texts that are written over a list with so much room
abbrev pub texts_of : List ℕ → List ℕ → List ℕ → List ℕ → ℕ → List (List ℕ)
texts_of table s t l room = texts_from (text_at table s t l) 0 (whole_records l) room

abbrev pub refused_or : Option Refusal → MessagesAnswer → MessagesAnswer
refused_or (Some r) a = refused r
refused_or None a = a

abbrev pub messages_answer : List ℕ → List ℕ → List ℕ → List ℕ → ℕ → MessagesAnswer
messages_answer table s t l room = refused_or (first_nine table s t) (answer_by_texts (text_at table s t l) (whole_records l) (texts_of table s t l room))

-- a lent list after it: unchanged after a refusal, else with the words or bytes written over its start as far as there is room
abbrev pub written_unless : Option Refusal → List ℕ → List ℕ → List ℕ
written_unless (Some r) out s = out
written_unless None out s = over out 0 s

abbrev pub messages_after : List ℕ → List ℕ → List ℕ → List ℕ → List ℕ → List ℕ
messages_after table s t l out = written_unless (first_nine table s t) out (joined (texts_of table s t l (length out)))

abbrev pub ends_after : List ℕ → List ℕ → List ℕ → List ℕ → ℕ → List ℕ → List ℕ
ends_after table s t l room ends = written_unless (first_nine table s t) ends (ends_from 0 (texts_of table s t l room))

-- what the answer says
abbrev pub stopped_by : ℕ → ℕ → Option code.Refusal → MessagesAnswer
stopped_by records bytes None = all records bytes
stopped_by records bytes (Some r) = stopped records bytes (refusal_of r)

abbrev pub messages_answer_of : Result Texts code.Refusal → MessagesAnswer
messages_answer_of (Ok t) = stopped_by t.records t.bytes t.stop
messages_answer_of (Err r) = refused (refusal_of r)
