-- Worked examples: documents, and the findings that document 01 gives them.
use Rattle.std.specs.Prelude.{ℕ, ◌/◌, ◌%◌, List, [], ◌∷◌, ◌++◌, length}
use Rattle.std.specs.Prelude.{Option, None}
use Rattle.text.specs.Literal.{ascii}
use Rattle.tape.specs.Forest.{top}
use Rattle.tape.specs.Nodes.{node_at, root_kind, marker_open_kind, marker_close_kind, chapter_kind, verse_kind, text_kind, attribute_kind, block_end_kind}
use Rattle.refusals.specs.Refusal.{Refusal}
use Rattle.findings.specs.Finding.{Finding, error_severity, warning_severity, info_severity}
use Rattle.findings.specs.Codes.{body_paragraph_before_chapter, duplicate_id, invalid_attributes, invalid_book_code, invalid_table_column_sequence, invalid_verse_sequence, leading_zeros, milestone_mismatch, misplaced_number_marker, missing_chapter_marker, missing_id_marker, missing_space_before_number, text_before_id, unquoted_attribute_value, verse_outside_paragraph}
use Rattle.definition.specs.Milestones.{visits, marks}
use Rattle.definition.specs.Document.{findings}
use Rattle.definition.specs.Account.{visited_starts, visited_ends, pairs_of, mismatches_of}
use Rattle.definition.specs.Outcome.{Lent, refusal, repeated, no_start}

-- a node by its fields: "kind, marker, start, len, link; flags 0"
pub record Row : Type 0 where
  pub kind : ℕ
  pub marker : ℕ
  pub start : ℕ
  pub len : ℕ
  pub link : ℕ

abbrev pub row : ℕ → ℕ → ℕ → ℕ → ℕ → Row
row kind marker start len link = record { kind = kind; marker = marker; start = start; len = len; link = link }

-- four bytes, the lowest first
abbrev pub four : ℕ → List ℕ
four n = n % 256 ∷ n / 256 % 256 ∷ n / 65536 % 256 ∷ n / 16777216 ∷ []

unfoldable pub tape_of : List Row → List ℕ
tape_of [] = []
tape_of (r ∷ rs) = (r.kind ∷ 0 ∷ r.marker % 256 ∷ r.marker / 256 ∷ []) ++ four r.start ++ four r.len ++ four r.link ++ tape_of rs

abbrev pub found : ℕ → ℕ → ℕ → ℕ → ℕ → ℕ → ℕ → ℕ → Finding
found severity code start len number form first second =
    record {
      severity = severity;
      code = code;
      start = start;
      len = len;
      node = number;
      form = form;
      first = first;
      second = second;
    }

pub record Example : Type 0 where
  pub source : List ℕ
  pub nodes : List Row
  pub wanted : List Finding

abbrev pub example : List ℕ → List Row → List Finding → Example
example source nodes wanted = record { source = source; nodes = nodes; wanted = wanted }

-- the table of all examples
unfoldable pub example_table : List ℕ
example_table =
    ascii "name=id\ncategory=identification\nrole=excluded\n"
    ++ ascii "name=c\ncategory=chapter\nrole=content\n"
    ++ ascii "name=v\ncategory=verse\nrole=content\n"
    ++ ascii "name=p\ncategory=paragraph\nrole=boundary\n"
    ++ ascii "name=add\ncategory=character\nrole=content\n"
    ++ ascii "name=fr\ncategory=character\nrole=content\n"
    ++ ascii "name=f\ncategory=note\nrole=content\n"
    ++ ascii "name=b\ncategory=paragraph\nrole=boundary\n"
    ++ ascii "name=fig\ncategory=character\nrole=content\n"
    ++ ascii "name=w\ncategory=character\nrole=content\n"
    ++ ascii "name=tr\ncategory=paragraph\nrole=boundary\n"
    ++ ascii "name=tc\ncategory=character\nrole=content\n"
    ++ ascii "name=ca\ncategory=character\nrole=content\n"
    ++ ascii "name=qt-s\ncategory=milestone\nrole=content\n"
    ++ ascii "name=qt-e\ncategory=milestone\nrole=content\n"

-- the listing's document
unfoldable pub example1 : Example
example1 =
    example (ascii "\\id GEN\n\\c 1\n\\p\n\\v 2 Word")
    (row root_kind 0 0 25 9
    ∷ row marker_open_kind 0 0 3 3
    ∷ row text_kind 0 3 5 0
    ∷ row block_end_kind 0 8 0 0
    ∷ row chapter_kind 1 8 5 1
    ∷ row marker_open_kind 3 13 2 8
    ∷ row verse_kind 2 16 5 2
    ∷ row text_kind 0 21 4 0
    ∷ row block_end_kind 3 25 0 0
    ∷ [])
    (found warning_severity invalid_verse_sequence 16 5 6 0 1 0
    ∷ [])

-- in order: nothing is found
unfoldable pub example2 : Example
example2 =
    example (ascii "\\id GEN\n\\c 1\n\\p\\v 1 Word")
    (row root_kind 0 0 24 9
    ∷ row marker_open_kind 0 0 3 3
    ∷ row text_kind 0 3 5 0
    ∷ row block_end_kind 0 8 0 0
    ∷ row chapter_kind 1 8 5 1
    ∷ row marker_open_kind 3 13 2 8
    ∷ row verse_kind 2 15 5 1
    ∷ row text_kind 0 20 4 0
    ∷ row block_end_kind 3 24 0 0
    ∷ [])
    ([])

-- a blank first Text of `\id` means no code
unfoldable pub example3 : Example
example3 =
    example (ascii "\\id \nXYZ\n\\c 1\n")
    (row root_kind 0 0 14 6
    ∷ row marker_open_kind 0 0 3 4
    ∷ row text_kind 0 3 2 0
    ∷ row text_kind 0 5 4 0
    ∷ row block_end_kind 0 9 0 0
    ∷ row chapter_kind 1 9 5 1
    ∷ [])
    ([])

-- a code in small letters; a second `\id`, whose code is no book's
unfoldable pub example4 : Example
example4 =
    example (ascii "\\id gen\n\\id XYZ\n\\c 1\n")
    (row root_kind 0 0 21 8
    ∷ row marker_open_kind 0 0 3 3
    ∷ row text_kind 0 3 5 0
    ∷ row block_end_kind 0 8 0 0
    ∷ row marker_open_kind 0 8 3 6
    ∷ row text_kind 0 11 5 0
    ∷ row block_end_kind 0 16 0 0
    ∷ row chapter_kind 1 16 5 1
    ∷ [])
    (found warning_severity invalid_book_code 0 3 1 0 0 0
    ∷ found error_severity duplicate_id 8 3 4 0 0 0
    ∷ found warning_severity invalid_book_code 8 3 4 1 0 0
    ∷ [])

-- the anchor is kept past a paragraph: the second `\ca` starts where the attached number does, and counts as attached
unfoldable pub example5 : Example
example5 =
    example (ascii "\\id GEN\n\\c 1\n\\ca 2\\ca*\\p 2\\ca*")
    (row root_kind 0 0 30 13
    ∷ row marker_open_kind 0 0 3 3
    ∷ row text_kind 0 3 5 0
    ∷ row block_end_kind 0 8 0 0
    ∷ row chapter_kind 1 8 5 1
    ∷ row marker_open_kind 12 13 3 7
    ∷ row text_kind 0 16 2 0
    ∷ row marker_close_kind 12 18 4 0
    ∷ row marker_open_kind 3 22 2 9
    ∷ row block_end_kind 3 24 0 0
    ∷ row marker_open_kind 12 13 3 12
    ∷ row text_kind 0 24 2 0
    ∷ row marker_close_kind 12 26 4 0
    ∷ [])
    ([])

-- a `\ca` after text is misplaced
unfoldable pub example6 : Example
example6 =
    example (ascii "\\id GEN\n\\c 1\nx\\ca 2\\ca*")
    (row root_kind 0 0 23 9
    ∷ row marker_open_kind 0 0 3 3
    ∷ row text_kind 0 3 5 0
    ∷ row block_end_kind 0 8 0 0
    ∷ row chapter_kind 1 8 5 1
    ∷ row text_kind 0 13 1 0
    ∷ row marker_open_kind 12 14 3 8
    ∷ row text_kind 0 17 2 0
    ∷ row marker_close_kind 12 19 4 0
    ∷ [])
    (found warning_severity misplaced_number_marker 14 3 6 0 0 0
    ∷ [])

-- a chapter's sequence depends on its link, and not on its label
unfoldable pub example7 : Example
example7 =
    example (ascii "\\id GEN\n\\c 2\n")
    (row root_kind 0 0 13 5
    ∷ row marker_open_kind 0 0 3 3
    ∷ row text_kind 0 3 5 0
    ∷ row block_end_kind 0 8 0 0
    ∷ row chapter_kind 1 8 5 1
    ∷ [])
    ([])

-- a chapter below a marker without an entry is not seen
unfoldable pub example8 : Example
example8 =
    example (ascii "\\id GEN\n\\zz\\c 1\n\\zz*\\c 1\n")
    (row root_kind 0 0 25 8
    ∷ row marker_open_kind 0 0 3 3
    ∷ row text_kind 0 3 5 0
    ∷ row block_end_kind 0 8 0 0
    ∷ row marker_open_kind 99 8 3 6
    ∷ row chapter_kind 1 11 5 1
    ∷ row marker_close_kind 99 16 4 0
    ∷ row chapter_kind 1 20 5 1
    ∷ [])
    ([])

-- an end takes the nearest start that is free, a further end finds none, and a last start stays unclosed
unfoldable pub example9 : Example
example9 =
    example (ascii "\\id GEN\n\\c 1\n\\qt-s\\*\\qt-s\\*\\qt-e\\*\\p\\qt-e\\*\\qt-e\\*\\qt-s\\*")
    (row root_kind 0 0 57 19
    ∷ row marker_open_kind 0 0 3 3
    ∷ row text_kind 0 3 5 0
    ∷ row block_end_kind 0 8 0 0
    ∷ row chapter_kind 1 8 5 1
    ∷ row marker_open_kind 13 13 5 6
    ∷ row marker_close_kind 13 18 2 0
    ∷ row marker_open_kind 13 20 5 8
    ∷ row marker_close_kind 13 25 2 0
    ∷ row marker_open_kind 14 27 5 10
    ∷ row marker_close_kind 14 32 2 0
    ∷ row marker_open_kind 3 34 2 18
    ∷ row marker_open_kind 14 36 5 13
    ∷ row marker_close_kind 14 41 2 0
    ∷ row marker_open_kind 14 43 5 15
    ∷ row marker_close_kind 14 48 2 0
    ∷ row marker_open_kind 13 50 5 17
    ∷ row marker_close_kind 13 55 2 0
    ∷ row block_end_kind 3 57 0 0
    ∷ [])
    (found error_severity milestone_mismatch 43 5 14 1 0 0
    ∷ found error_severity milestone_mismatch 50 5 16 0 0 0
    ∷ [])

-- a verse outside a paragraph gives one warning; 9a may follow 9, and 9 may not follow 9a
unfoldable pub example10 : Example
example10 =
    example (ascii "\\id GEN\n\\c 1\n\\v 1-9 \\v 9a \\v 9 ")
    (row root_kind 0 0 31 8
    ∷ row marker_open_kind 0 0 3 3
    ∷ row text_kind 0 3 5 0
    ∷ row block_end_kind 0 8 0 0
    ∷ row chapter_kind 1 8 5 1
    ∷ row verse_kind 2 13 7 19
    ∷ row verse_kind 2 20 6 9
    ∷ row verse_kind 2 26 5 9
    ∷ [])
    (found warning_severity verse_outside_paragraph 13 7 5 0 0 0
    ∷ found warning_severity invalid_verse_sequence 26 5 7 0 9 98
    ∷ [])

-- attributes: an empty value, a value without quotes and a key without a value
unfoldable pub example11 : Example
example11 =
    example (ascii "\\id GEN\n\\c 1\n\\p\\w x|lemma=\"\" a=b c\\w*")
    (row root_kind 0 0 37 11
    ∷ row marker_open_kind 0 0 3 3
    ∷ row text_kind 0 3 5 0
    ∷ row block_end_kind 0 8 0 0
    ∷ row chapter_kind 1 8 5 1
    ∷ row marker_open_kind 3 13 2 10
    ∷ row marker_open_kind 9 15 2 9
    ∷ row text_kind 0 17 2 0
    ∷ row attribute_kind 0 19 15 0
    ∷ row marker_close_kind 9 34 3 0
    ∷ row block_end_kind 3 37 0 0
    ∷ [])
    (found info_severity invalid_attributes 19 15 8 2 0 0
    ∷ found error_severity unquoted_attribute_value 19 15 8 0 0 0
    ∷ found error_severity invalid_attributes 19 15 8 1 0 0
    ∷ [])

-- a cell out of order, in a row
unfoldable pub example12 : Example
example12 =
    example (ascii "\\id GEN\n\\c 1\n\\tr\\tc1-2\\tc4")
    (row root_kind 0 0 26 11
    ∷ row marker_open_kind 0 0 3 3
    ∷ row text_kind 0 3 5 0
    ∷ row block_end_kind 0 8 0 0
    ∷ row chapter_kind 1 8 5 1
    ∷ row marker_open_kind 10 13 3 10
    ∷ row marker_open_kind 11 16 6 7
    ∷ row block_end_kind 11 22 0 0
    ∷ row marker_open_kind 11 22 4 9
    ∷ row block_end_kind 11 26 0 0
    ∷ row block_end_kind 10 26 0 0
    ∷ [])
    (found error_severity invalid_table_column_sequence 22 4 8 0 3 4
    ∷ [])

-- text before `\id`, a body paragraph before any chapter, and no chapter at all
unfoldable pub example13 : Example
example13 =
    example (ascii "x\\id GEN\n\\p")
    (row root_kind 0 0 11 7
    ∷ row text_kind 0 0 1 0
    ∷ row marker_open_kind 0 1 3 4
    ∷ row text_kind 0 4 5 0
    ∷ row block_end_kind 0 9 0 0
    ∷ row marker_open_kind 3 9 2 6
    ∷ row block_end_kind 3 11 0 0
    ∷ [])
    (found warning_severity text_before_id 0 1 1 0 0 0
    ∷ found error_severity body_paragraph_before_chapter 9 2 5 0 0 0
    ∷ found error_severity missing_chapter_marker 0 0 0 0 0 0
    ∷ [])

-- a chapter without `\id`; a label with a leading zero, glued to its marker
unfoldable pub example14 : Example
example14 =
    example (ascii "\\c01\n")
    (row root_kind 0 0 5 2
    ∷ row chapter_kind 1 0 5 1
    ∷ [])
    (found warning_severity missing_space_before_number 0 5 1 0 0 0
    ∷ found error_severity leading_zeros 0 5 1 0 0 0
    ∷ found error_severity missing_id_marker 0 0 0 0 0 0
    ∷ [])

-- `3-` is read as 3 and leaves 4 expected; after `9z`, 9 with the byte after `z` is expected
unfoldable pub example15 : Example
example15 =
    example (ascii "\\id GEN\n\\c 1\n\\p\\v 3-\\v 4\\v 9z\\v 9")
    (row root_kind 0 0 33 11
    ∷ row marker_open_kind 0 0 3 3
    ∷ row text_kind 0 3 5 0
    ∷ row block_end_kind 0 8 0 0
    ∷ row chapter_kind 1 8 5 1
    ∷ row marker_open_kind 3 13 2 10
    ∷ row verse_kind 2 15 5 0
    ∷ row verse_kind 2 20 4 0
    ∷ row verse_kind 2 24 5 0
    ∷ row verse_kind 2 29 4 0
    ∷ row block_end_kind 3 33 0 0
    ∷ [])
    (found warning_severity invalid_verse_sequence 15 5 6 0 1 0
    ∷ found warning_severity invalid_verse_sequence 24 5 8 0 5 0
    ∷ found warning_severity invalid_verse_sequence 29 4 9 0 9 123
    ∷ [])

-- a start that no end takes
unfoldable pub shorter_document : Example
shorter_document =
    example (ascii "\\id GEN\n\\c 1\n\\qt-s\\*")
    (row root_kind 0 0 20 7
    ∷ row marker_open_kind 0 0 3 3
    ∷ row text_kind 0 3 5 0
    ∷ row block_end_kind 0 8 0 0
    ∷ row chapter_kind 1 8 5 1
    ∷ row marker_open_kind 13 13 5 6
    ∷ row marker_close_kind 13 18 2 0
    ∷ [])
    (found error_severity milestone_mismatch 13 5 5 0 0 0
    ∷ [])

-- a document that begins like it, with an end that takes the start
unfoldable pub longer_document : Example
longer_document =
    example (ascii "\\id GEN\n\\c 1\n\\qt-s\\*\\qt-e\\*")
    (row root_kind 0 0 27 9
    ∷ row marker_open_kind 0 0 3 3
    ∷ row text_kind 0 3 5 0
    ∷ row block_end_kind 0 8 0 0
    ∷ row chapter_kind 1 8 5 1
    ∷ row marker_open_kind 13 13 5 6
    ∷ row marker_close_kind 13 18 2 0
    ∷ row marker_open_kind 14 20 5 8
    ∷ row marker_close_kind 14 25 2 0
    ∷ [])
    ([])

-- quotations of two bases, `qt` and `qt1`: nested, crossing and unclosed, and an end that finds no start
unfoldable pub quotations : Example
quotations =
    example (ascii "\\id GEN\n\\c 1\n\\p\\qt-s\\*\\qt1-s\\*\\qt-s\\*\\qt-e\\*\\qt-e\\*\\qt1-e\\*\\qt-e\\*\\qt1-s\\*\\qt1-s\\*")
    (row root_kind 0 0 82 25
    ∷ row marker_open_kind 0 0 3 3
    ∷ row text_kind 0 3 5 0
    ∷ row block_end_kind 0 8 0 0
    ∷ row chapter_kind 1 8 5 1
    ∷ row marker_open_kind 3 13 2 24
    ∷ row marker_open_kind 13 15 5 7
    ∷ row marker_close_kind 13 20 2 0
    ∷ row marker_open_kind 13 22 6 9
    ∷ row marker_close_kind 13 28 2 0
    ∷ row marker_open_kind 13 30 5 11
    ∷ row marker_close_kind 13 35 2 0
    ∷ row marker_open_kind 14 37 5 13
    ∷ row marker_close_kind 14 42 2 0
    ∷ row marker_open_kind 14 44 5 15
    ∷ row marker_close_kind 14 49 2 0
    ∷ row marker_open_kind 14 51 6 17
    ∷ row marker_close_kind 14 57 2 0
    ∷ row marker_open_kind 14 59 5 19
    ∷ row marker_close_kind 14 64 2 0
    ∷ row marker_open_kind 13 66 6 21
    ∷ row marker_close_kind 13 72 2 0
    ∷ row marker_open_kind 13 74 6 23
    ∷ row marker_close_kind 13 80 2 0
    ∷ row block_end_kind 3 82 0 0
    ∷ [])
    (found error_severity milestone_mismatch 59 5 18 1 0 0
    ∷ found error_severity milestone_mismatch 66 6 20 0 0 0
    ∷ found error_severity milestone_mismatch 74 6 22 0 0 0
    ∷ [])

unfoldable pub examples : List Example
examples =
    example1
    ∷ example2
    ∷ example3
    ∷ example4
    ∷ example5
    ∷ example6
    ∷ example7
    ∷ example8
    ∷ example9
    ∷ example10
    ∷ example11
    ∷ example12
    ∷ example13
    ∷ example14
    ∷ example15
    ∷ shorter_document
    ∷ longer_document
    ∷ quotations
    ∷ []

unfoldable pub findings_of : List Example → List (List Finding)
findings_of [] = []
findings_of (e ∷ es) = findings example_table (top e.source (tape_of e.nodes)) ∷ findings_of es

unfoldable pub wanted_findings : List Example → List (List Finding)
wanted_findings [] = []
wanted_findings (e ∷ es) = e.wanted ∷ wanted_findings es

-- an example lent to the check, with working lists of as many entries as it has nodes
abbrev pub lent_of : Example → Lent
lent_of e =
    record {
      table = example_table;
      source = e.source;
      tape = tape_of e.nodes;
      seen = repeated 0 (length e.nodes);
      open_starts = repeated no_start (length e.nodes);
      list = [];
    }

unfoldable pub refusals_of : List Example → List (Option Refusal)
refusals_of [] = []
refusals_of (e ∷ es) = refusal (lent_of e) ∷ refusals_of es

-- of each: none
unfoldable pub none_of : List Example → List (Option Refusal)
none_of [] = []
none_of (e ∷ es) = None ∷ none_of es

-- the account of a base in an example: its visited starts and ends, its pairs, its mismatches
abbrev pub account_of : List ℕ → Example → List ℕ
account_of base e =
    visited_starts base (visits example_table (top e.source (tape_of e.nodes)))
    ∷ visited_ends base (visits example_table (top e.source (tape_of e.nodes)))
    ∷ pairs_of base (marks (visits example_table (top e.source (tape_of e.nodes))))
    ∷ mismatches_of base (node_at e.source (tape_of e.nodes)) (findings example_table (top e.source (tape_of e.nodes)))
    ∷ []
