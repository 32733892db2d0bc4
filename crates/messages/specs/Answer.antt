-- What the entry for a text answers: numbers 1 to 9, 12 and 13, or the text's length, and the lent list afterwards.
use Rattle.std.specs.Prelude.{ℕ, List, [], ltb, length}
use Rattle.std.specs.Prelude.{Option, Some, None, Result, Ok, Err}
use Rattle.refusals.specs.declared.Refusal as turned
use Rattle.refusals.specs.Reasons.{refusal_of}
use Rattle.refusals.specs.Refusal.{Refusal, or_else, no_message, message_list_too_short}
use Rattle.definition.specs.Outcome.{Lent, of1, of2, of3, of_tape, of9}
use Rattle.buffer.specs.Over.{over}
use Rattle.messages.specs.Message.{Request, message_text}
use Rattle.text.specs.Pick.{pick}
use Rattle.messages.specs.declared.MessageRequest as code

-- a document, with nothing else lent
abbrev pub document : List ℕ → List ℕ → List ℕ → Lent
document table s t = record { table = table; source = s; tape = t; seen = []; open_starts = []; list = [] }

-- "Message (after 1 to 9)"
unfoldable pub first_nine : List ℕ → List ℕ → List ℕ → Option Refusal
first_nine table s t =
    or_else (of1 (document table s t)) (or_else (of2 (document table s t)) (or_else (of3 (document table s t)) (or_else (of_tape (document table s t)) (of9 (document table s t)))))

-- a refusal, or the number of bytes written
pub data MessageAnswer : Type 0 where
  refused : Refusal → MessageAnswer
  written : ℕ → MessageAnswer

-- 13: "Message list too short; place: length needed."
abbrev pub by_room : Option (List ℕ) → ℕ → MessageAnswer
by_room None room = refused (record { number = no_message; place = 0 })
by_room (Some text) room = pick (ltb room (length text)) (refused (record { number = message_list_too_short; place = length text })) (written (length text))

abbrev pub message_answer_by : Option Refusal → Option (List ℕ) → ℕ → MessageAnswer
message_answer_by (Some r) text room = refused r
message_answer_by None text room = by_room text room

abbrev pub message_answer : List ℕ → List ℕ → List ℕ → Request → List ℕ → MessageAnswer
message_answer table s t q out = message_answer_by (first_nine table s t) (message_text table s t q) (length out)

-- "from the list's start, with their length; bytes beyond are untouched"; a refusal writes nothing
abbrev pub bytes_by : Option Refusal → Option (List ℕ) → List ℕ → List ℕ
bytes_by (Some r) text out = out
bytes_by None None out = out
bytes_by None (Some text) out = pick (ltb (length out) (length text)) out (over out 0 text)

abbrev pub message_after : List ℕ → List ℕ → List ℕ → Request → List ℕ → List ℕ
message_after table s t q out = bytes_by (first_nine table s t) (message_text table s t q) out

-- the request that the code makes
abbrev pub request_by : code.MessageRequest → Request
request_by q = record { code = q.code; form = q.form; node = q.node; first = q.first; second = q.second }

-- what the answer says
abbrev pub message_answer_of : Result ℕ turned.Refusal → MessageAnswer
message_answer_of (Ok n) = written n
message_answer_of (Err r) = refused (refusal_of r)
