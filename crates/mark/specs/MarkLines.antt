-- Document 02, K1: "A small program over check-exercise's files prints it as `loss=` and `mark=`, or a refusal as there."
use Rattle.std.specs.Prelude.{ℕ, List, ◌++◌}
use Rattle.std.specs.Prelude.{Option, Some, None}
use Rattle.text.specs.Pick.{pick}
use Rattle.refusals.specs.Refusal.{Refusal}
use Rattle.tape.specs.Forest.{top}
use Rattle.buffer.specs.Decimal.{decimal}
use Rattle.findings.specs.Finding.{error_severity, warning_severity}
use Rattle.definition.specs.Document.{findings, verses_visited}
use Rattle.definition.specs.Outcome as outcome
use Rattle.definition.specs.Outcome.{of_severity}
use Rattle.messages.specs.Answer.{first_nine}
use Rattle.listing.specs.Lines.{line, too_large_lines, refused_lines}
use Rattle.listing.specs.Listing.{is_too_large}
use Rattle.mark.specs.Mark.{MarkAnswer, refused, marked, mark_answer}

unfoldable pub mark_lines : MarkAnswer → List ℕ
mark_lines (refused r) = refused_lines r.number r.place
mark_lines (marked m) = line "loss" (decimal m.loss) ++ line "mark" (decimal m.mark)

-- the mark by what the check answers: "From the checked counts"
abbrev pub mark_of_answer : outcome.Answer → MarkAnswer
mark_of_answer (outcome.refused r) = refused r
mark_of_answer (outcome.checked c) = mark_answer c.errors c.warnings c.verses

abbrev pub mark_unless : Option Refusal → MarkAnswer → MarkAnswer
mark_unless (Some r) m = refused r
mark_unless None m = m

-- the mark of a document: the counts are those of its whole list
abbrev pub mark_of_document : List ℕ → List ℕ → List ℕ → MarkAnswer
mark_of_document table s t =
    mark_unless (first_nine table s t)
    (mark_answer (of_severity error_severity (findings table (top s t))) (of_severity warning_severity (findings table (top s t))) (verses_visited table (top s t)))

-- the whole output of mark-exercise
unfoldable pub mark_output : List ℕ → List ℕ → List ℕ → List ℕ
mark_output table s t = pick (is_too_large table s t) too_large_lines (mark_lines (mark_of_document table s t))
