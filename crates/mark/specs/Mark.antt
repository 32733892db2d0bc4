-- Document 02, K1: loss and mark of a paper, from its checked counts, and numbers 14 and 15.
use Rattle.std.specs.Prelude.{ℕ, ◌+◌, ◌*◌, ◌-◌, ◌/◌, Bool, eqb}
use Rattle.std.specs.Prelude.{Option, Some, None, Result, Ok, Err}
use Rattle.refusals.specs.declared.Refusal as code
use Rattle.refusals.specs.Reasons.{refusal_of}
use Rattle.mark.specs.declared.PaperMark.{PaperMark}
use Rattle.text.specs.Pick.{any_over}
use Rattle.refusals.specs.Refusal.{Refusal, refuse, only_if, or_else, count_too_large, no_verses}

-- "loss = (250 × errors + 75 × warnings) × 10 / verses, in hundredths of a mark, rounded down"
abbrev pub penalty : ℕ → ℕ → ℕ
penalty errors warnings = (250 * errors + 75 * warnings) * 10

abbrev pub loss_of : ℕ → ℕ → ℕ → ℕ
loss_of errors warnings verses = penalty errors warnings / verses

-- "10,000"
abbrev pub full_mark : ℕ
full_mark = 10000

-- "The mark is 10,000 less the loss, never below 0": of whole numbers the smaller less the larger is 0
abbrev pub mark_of : ℕ → ℕ → ℕ → ℕ
mark_of errors warnings verses = full_mark - loss_of errors warnings verses

-- 14: "any of the three counts is over 1,000,000"
abbrev pub most_counted : ℕ
most_counted = 1000000

abbrev pub is_over : ℕ → ℕ → ℕ → Bool
is_over errors warnings verses = any_over most_counted errors warnings verses

-- "14 when any of the three counts is over 1,000,000, place 0; then 15 when verses is 0, place 0"
unfoldable pub mark_refusal : ℕ → ℕ → ℕ → Option Refusal
mark_refusal errors warnings verses = or_else (only_if (is_over errors warnings verses) (refuse count_too_large 0)) (only_if (eqb verses 0) (refuse no_verses 0))

-- both in hundredths of a mark
pub record LossAndMark : Type 0 where
  pub loss : ℕ
  pub mark : ℕ

-- the answer: a refusal, or loss and mark
pub data MarkAnswer : Type 0 where
  refused : Refusal → MarkAnswer
  marked : LossAndMark → MarkAnswer

abbrev pub mark_by : Option Refusal → LossAndMark → MarkAnswer
mark_by (Some r) m = refused r
mark_by None m = marked m

abbrev pub mark_answer : ℕ → ℕ → ℕ → MarkAnswer
mark_answer errors warnings verses = mark_by (mark_refusal errors warnings verses) (record { loss = loss_of errors warnings verses; mark = mark_of errors warnings verses })

-- what the code's answer says, by what its refusal says
abbrev pub mark_answer_in : {E : Type 0} → (E → Refusal) → Result PaperMark E → MarkAnswer
mark_answer_in says (Ok m) = marked (record { loss = m.loss; mark = m.mark })
mark_answer_in says (Err r) = refused (says r)

abbrev pub mark_answer_of : Result PaperMark code.Refusal → MarkAnswer
mark_answer_of answer = mark_answer_in refusal_of answer
