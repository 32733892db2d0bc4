-- Document 01, "Listing": what check-exercise prints for a table, a source and a tape.
use Rattle.std.specs.Prelude.{ℕ, Bool, List, [], ◌∷◌, ◌++◌, ltb, length, take}
use Rattle.std.specs.Prelude.{Option, Some, None}
use Rattle.text.specs.Pick.{pick, any_over}
use Rattle.refusals.specs.Refusal.{Refusal}
use Rattle.tape.specs.Forest.{top}
use Rattle.findings.specs.Finding.{Finding, error_severity, warning_severity, info_severity}
use Rattle.definition.specs.Document.{findings}
use Rattle.definition.specs.Outcome.{of_severity}
use Rattle.message_texts.specs.Filled.{joined}
use Rattle.messages.specs.Message.{request_of, message_text}
use Rattle.messages.specs.Answer.{first_nine}
use Rattle.listing.specs.Lines.{too_large_lines, refused_lines, checked_lines, finding_lines, line_and_column}
use Rattle.listing.specs.Columns.{column_at}

-- "each at most 65,536 bytes, else it prints `verdict=toolarge`"
abbrev pub largest_file : ℕ
largest_file = 65536

abbrev pub is_too_large : List ℕ → List ℕ → List ℕ → Bool
is_too_large table s t = any_over largest_file (length table) (length s) (length t)

-- "Its findings list holds 1,024, its message list 65,536 bytes"
abbrev pub most_held : ℕ
most_held = 1024

abbrev pub message_room : ℕ
message_room = 65536

-- "a message that doesn't fit prints empty"
abbrev pub message_shown : ℕ → Option (List ℕ) → List ℕ
message_shown room None = []
message_shown room (Some text) = pick (ltb room (length text)) [] text

-- the lines of a finding, whose message has so much room; line and column are those of its start, the column in code points (document 02, K3)
unfoldable pub listed_finding : ℕ → List ℕ → List ℕ → List ℕ → Finding → List ℕ
listed_finding room table s t f =
    finding_lines f.severity f.code (line_and_column s f.start).line (column_at s f.start) (message_shown room (message_text table s t (request_of f)))

-- "The last five lines repeat per finding."
unfoldable pub listed_each : ℕ → List ℕ → List ℕ → List ℕ → List Finding → List (List ℕ)
listed_each room table s t [] = []
listed_each room table s t (f ∷ fs) = listed_finding room table s t f ∷ listed_each room table s t fs

-- "`findings=` is the total, and only the held ones are printed"
unfoldable pub checked_listing : List ℕ → List ℕ → List ℕ → List Finding → List ℕ
checked_listing table s t fs =
    checked_lines (of_severity error_severity fs) (of_severity warning_severity fs) (of_severity info_severity fs) (length fs)
    ++ joined (listed_each message_room table s t (take most_held fs))

abbrev pub listing_by : Option Refusal → List ℕ → List ℕ
listing_by (Some r) checked = refused_lines r.number r.place
listing_by None checked = checked

-- the whole output; number 10 never turns back a file's document, since the program lends working lists for 4,096 nodes, and a file has no more
unfoldable pub listing : List ℕ → List ℕ → List ℕ → List ℕ
listing table s t = pick (is_too_large table s t) too_large_lines (listing_by (first_nine table s t) (checked_listing table s t (findings table (top s t))))
