-- A worked example of sections: a chapter, and two `\ca` with a border between them.
use Rattle.std.specs.Prelude.{ℕ, List, [], ◌∷◌}
use Rattle.text.specs.Literal.{ascii}
use Rattle.tape.specs.Nodes.{root_kind, marker_open_kind, marker_close_kind, chapter_kind, text_kind, block_end_kind}
use Rattle.findings.specs.Finding.{Finding, warning_severity}
use Rattle.findings.specs.Codes.{misplaced_number_marker}
use Rattle.definition.specs.Examples.{Example, example, row, found, example_table, tape_of}
use Rattle.definition.specs.Sections.{Carried, begun, sections, after_sections}

-- the first `\ca` takes the place of the chapter's alternate number, so the second is misplaced: "at most one of each"
unfoldable pub two_numbers : Example
two_numbers =
    example (ascii "\\id GEN\n\\c 1\n\\ca 2\\ca*\\ca 3\\ca*")
    (row root_kind 0 0 31 11
    ∷ row marker_open_kind 0 0 3 3
    ∷ row text_kind 0 3 5 0
    ∷ row block_end_kind 0 8 0 0
    ∷ row chapter_kind 1 8 5 1
    ∷ row marker_open_kind 12 13 3 7
    ∷ row text_kind 0 16 2 0
    ∷ row marker_close_kind 12 18 4 0
    ∷ row marker_open_kind 12 22 3 10
    ∷ row text_kind 0 25 2 0
    ∷ row marker_close_kind 12 27 4 0
    ∷ [])
    (found warning_severity misplaced_number_marker 22 3 8 0 0 0
    ∷ [])

-- sections that end before the first `\ca`, between the two, and at the root's link
abbrev pub section_ends : List ℕ
section_ends = 5 ∷ 8 ∷ 11 ∷ []

abbrev pub example_sections : List (List Finding)
example_sections = sections example_table two_numbers.source (tape_of two_numbers.nodes) begun section_ends

abbrev pub example_end : Carried
example_end = after_sections example_table two_numbers.source (tape_of two_numbers.nodes) begun section_ends
