-- A listing in pieces: a head, then as many whole findings as fit into a lent list, and where to go on.
use Rattle.std.specs.Prelude.{ℕ, suc, ◌+◌, ◌*◌, ◌-◌, ◌≤◌, List, [], ◌∷◌, ◌++◌, ltb, length, take, drop}
use Rattle.text.specs.Pick.{pick}
use Rattle.tape.specs.Forest.{Accepted}
use Rattle.table.specs.Inner.{Indexed}
use Rattle.findings.specs.Finding.{Finding}
use Rattle.findings.specs.Written.{findings_in}
use Rattle.definition.specs.Outcome.{Lent, Answer, refused, checked, answer, list_after}
use Rattle.message_texts.specs.Filled.{joined}
use Rattle.listing.specs.Lines.{refused_lines, checked_lines}
use Rattle.listing.specs.LinesAndColumns.{PlacesOf}
use Rattle.listing.specs.Listing.{listed_each}

-- the lines before the findings, by what the check answers
abbrev pub head_lines : Answer → List ℕ
head_lines (refused r) = refused_lines r.number r.place
head_lines (checked c) = checked_lines c.errors c.warnings c.infos c.total

-- how many findings the check has written
abbrev pub held_count : Answer → ℕ
held_count (refused r) = 0
held_count (checked c) = c.written

-- the first n findings that a list holds
abbrev pub held_findings : ℕ → List ℕ → List Finding
held_findings n l = findings_in (take (8 * n) l)

-- how many of some texts have whole room, one behind another
unfoldable pub whole_in : ℕ → List (List ℕ) → ℕ
whole_in room [] = 0
whole_in room (x ∷ xs) = pick (ltb room (length x)) 0 (suc (whole_in (room - length x) xs))

-- the piece of the texts from the k-th on with so much room, and which text is next
abbrev pub piece_of : List (List ℕ) → ℕ → ℕ → List ℕ
piece_of xs k room = joined (take (whole_in room (drop k xs)) (drop k xs))

abbrev pub next_of : List (List ℕ) → ℕ → ℕ → ℕ
next_of xs k room = k + whole_in room (drop k xs)

-- pieces one behind another from the k-th text on, with so much room for each, and which text is next
unfoldable pub pieces_of : List (List ℕ) → ℕ → List ℕ → List ℕ
pieces_of xs k [] = []
pieces_of xs k (room ∷ rooms) = piece_of xs k room ++ pieces_of xs (next_of xs k room) rooms

unfoldable pub next_after : List (List ℕ) → ℕ → List ℕ → ℕ
next_after xs k [] = k
next_after xs k (room ∷ rooms) = next_after xs (next_of xs k room) rooms

-- the lines of each finding that the list holds after a check, their messages with so much room
abbrev pub held_texts : ℕ → Lent → List (List ℕ)
held_texts room l = listed_each room l.table l.source l.tape (held_findings (held_count (answer l)) (list_after l))

-- a document that numbers 1 to 9 pass, with its table's index and the lines and columns of its source
pub record Listable (table index : List ℕ) (entries : ℕ) (s t lines columns : List ℕ) : Type 0 where
  pub indexed : Indexed table index entries
  pub accepted : Accepted s t
  pub short : length s ≤ 1048576
  pub places : PlacesOf s lines columns
