-- Document 02, K5: what the entry answers and leaves, by the definition of the reader.
use Rattle.std.specs.Prelude.{ℕ, Result, Ok, Err}
use Rattle.refusals.specs.Reasons.{refusal_of}
use Rattle.refusals.specs.declared.Refusal.{Refusal}
use Rattle.reader_spec.specs.Answer.{ReadAnswer, refused, read}

-- the numbers of an answer
abbrev pub read_answer_of : Result ℕ Refusal → ReadAnswer
read_answer_of (Ok n) = read n
read_answer_of (Err r) = refused (refusal_of r)
