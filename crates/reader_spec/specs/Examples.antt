-- Worked examples of document 02, K5: texts under one small table, and what the reader gives for them.
use Rattle.std.specs.Prelude.{ℕ, List, [], ◌∷◌, ◌++◌}
use Rattle.std.specs.Prelude.{Option, Some, None}
use Rattle.text.specs.Literal.{ascii}
use Rattle.refusals.specs.Refusal.{Refusal, bad_table_layout, source_not_utf8, unknown_marker, unmatched_marker, node_list_too_short}
use Rattle.tape.specs.Nodes.{root_kind, marker_open_kind, marker_close_kind, chapter_kind, verse_kind, text_kind, attribute_kind, block_end_kind}
use Rattle.definition.specs.Outcome.{repeated}
use Rattle.definition.specs.Examples.{Row, row, example_table}
use Rattle.reader_spec.specs.Answer.{read_refusal, rows_read}

-- what the reader gives: the rows of a tape, or a number with its place
pub data ReadResult : Type 0 where
  rows : List Row → ReadResult
  number : ℕ → ℕ → ReadResult

abbrev pub result_by : Option Refusal → List Row → ReadResult
result_by (Some r) rs = number r.number r.place
result_by None rs = rows rs

pub record ReadExample : Type 0 where
  pub table : List ℕ
  pub text : List ℕ
  pub wanted : ReadResult

-- the markers of the other worked examples, and one of category other
unfoldable pub read_table : List ℕ
read_table = example_table ++ ascii "name=esb\ncategory=other\nrole=boundary\n"

abbrev pub read_example : List ℕ → ReadResult → ReadExample
read_example text wanted = record { table = read_table; text = text; wanted = wanted }

unfoldable pub read_examples : List ReadExample
read_examples =
    -- the listing's source, as document 01 has it
    read_example (ascii "\\id GEN\n\\c 1\n\\p\n\\v 2 Word")
    (rows (row root_kind 0 0 25 11
    ∷ row marker_open_kind 0 0 3 3
    ∷ row text_kind 0 3 5 0
    ∷ row block_end_kind 0 8 0 0
    ∷ row chapter_kind 1 8 4 1
    ∷ row text_kind 0 12 1 0
    ∷ row marker_open_kind 3 13 2 10
    ∷ row text_kind 0 15 1 0
    ∷ row verse_kind 2 16 4 2
    ∷ row text_kind 0 20 5 0
    ∷ row block_end_kind 3 25 0 0
    ∷ []))
    -- the empty text is one node
    ∷ read_example []
    (rows (row root_kind 0 0 0 1
    ∷ []))
    -- with nothing open a `|` is Text, with the run before it
    ∷ read_example (ascii "a|b")
    (rows (row root_kind 0 0 3 2
    ∷ row text_kind 0 0 3 0
    ∷ []))
    -- a Chapter ends a block, and what follows it stands at the top
    ∷ read_example (ascii "\\p text\\c 1 title\\p more")
    (rows (row root_kind 0 0 24 9
    ∷ row marker_open_kind 3 0 2 3
    ∷ row text_kind 0 2 5 0
    ∷ row block_end_kind 3 7 0 0
    ∷ row chapter_kind 1 7 4 1
    ∷ row text_kind 0 11 6 0
    ∷ row marker_open_kind 3 17 2 8
    ∷ row text_kind 0 19 5 0
    ∷ row block_end_kind 3 24 0 0
    ∷ []))
    -- an empty block
    ∷ read_example (ascii "\\p\\b")
    (rows (row root_kind 0 0 4 5
    ∷ row marker_open_kind 3 0 2 2
    ∷ row block_end_kind 3 2 0 0
    ∷ row marker_open_kind 7 2 2 4
    ∷ row block_end_kind 7 4 0 0
    ∷ []))
    -- blanks up to a backslash belong to the number node, line ends too
    ∷ read_example (ascii "\\c\n\n\\p")
    (rows (row root_kind 0 0 6 4
    ∷ row chapter_kind 1 0 4 0
    ∷ row marker_open_kind 3 4 2 3
    ∷ row block_end_kind 3 6 0 0
    ∷ []))
    -- without blanks there is no number word
    ∷ read_example (ascii "\\p \\v|3 y")
    (rows (row root_kind 0 0 9 6
    ∷ row marker_open_kind 3 0 2 5
    ∷ row text_kind 0 2 1 0
    ∷ row verse_kind 2 3 2 0
    ∷ row text_kind 0 5 4 0
    ∷ row block_end_kind 3 9 0 0
    ∷ []))
    -- a number word may hold `|` and `*`
    ∷ read_example (ascii "\\v 1|2*3 x")
    (rows (row root_kind 0 0 10 3
    ∷ row verse_kind 2 0 8 1
    ∷ row text_kind 0 8 2 0
    ∷ []))
    -- glued: the node ends with its name
    ∷ read_example (ascii "\\v1a x\\v3-5 y\\c2 z")
    (rows (row root_kind 0 0 18 7
    ∷ row verse_kind 2 0 4 1
    ∷ row text_kind 0 4 2 0
    ∷ row verse_kind 2 6 5 3
    ∷ row text_kind 0 11 2 0
    ∷ row chapter_kind 1 13 3 2
    ∷ row text_kind 0 16 2 0
    ∷ []))
    -- a glued one has no number word behind it
    ∷ read_example (ascii "\\v1 2 x")
    (rows (row root_kind 0 0 7 3
    ∷ row verse_kind 2 0 3 1
    ∷ row text_kind 0 3 4 0
    ∷ []))
    -- glued, with a letter of two bytes
    ∷ read_example (ascii "\\v1" ++ (0xC3 ∷ 0xA9 ∷ []) ++ ascii " x")
    (rows (row root_kind 0 0 7 3
    ∷ row verse_kind 2 0 5 1
    ∷ row text_kind 0 5 2 0
    ∷ []))
    -- a label without a number, one that is too large, and the largest
    ∷ read_example (ascii "\\v abc\\v 4294967296\\v 4294967295")
    (rows (row root_kind 0 0 32 4
    ∷ row verse_kind 2 0 6 0
    ∷ row verse_kind 2 6 13 0
    ∷ row verse_kind 2 19 13 4294967295
    ∷ []))
    -- U+3000 and U+00A0 are blanks
    ∷ read_example (ascii "\\v" ++ (0xE3 ∷ 0x80 ∷ 0x80 ∷ []) ++ ascii "3" ++ (0xC2 ∷ 0xA0 ∷ []) ++ ascii "x")
    (rows (row root_kind 0 0 9 3
    ∷ row verse_kind 2 0 6 3
    ∷ row text_kind 0 6 3 0
    ∷ []))
    -- a character inside its like
    ∷ read_example (ascii "\\add \\add x\\add*\\add*")
    (rows (row root_kind 0 0 21 7
    ∷ row marker_open_kind 4 0 4 6
    ∷ row text_kind 0 4 1 0
    ∷ row marker_open_kind 4 5 4 5
    ∷ row text_kind 0 9 2 0
    ∷ row marker_close_kind 4 11 5 0
    ∷ row marker_close_kind 4 16 5 0
    ∷ []))
    -- a Verse inside a character, in a block
    ∷ read_example (ascii "\\p \\add a\\v 2 b\\add*")
    (rows (row root_kind 0 0 20 9
    ∷ row marker_open_kind 3 0 2 8
    ∷ row text_kind 0 2 1 0
    ∷ row marker_open_kind 4 3 4 7
    ∷ row text_kind 0 7 2 0
    ∷ row verse_kind 2 9 4 2
    ∷ row text_kind 0 13 2 0
    ∷ row marker_close_kind 4 15 5 0
    ∷ row block_end_kind 3 20 0 0
    ∷ []))
    -- `+` is no part of a name: it isn't compared
    ∷ read_example (ascii "\\add x\\+w y\\w*\\add*")
    (rows (row root_kind 0 0 19 7
    ∷ row marker_open_kind 4 0 4 6
    ∷ row text_kind 0 4 2 0
    ∷ row marker_open_kind 9 6 3 5
    ∷ row text_kind 0 9 2 0
    ∷ row marker_close_kind 9 11 3 0
    ∷ row marker_close_kind 4 14 5 0
    ∷ []))
    -- an Attribute inside a character
    ∷ read_example (ascii "\\w a|lemma=\"x\"\\w*")
    (rows (row root_kind 0 0 17 5
    ∷ row marker_open_kind 9 0 2 4
    ∷ row text_kind 0 2 2 0
    ∷ row attribute_kind 0 4 10 0
    ∷ row marker_close_kind 9 14 3 0
    ∷ []))
    -- directly behind the name
    ∷ read_example (ascii "\\w|x\\w*")
    (rows (row root_kind 0 0 7 4
    ∷ row marker_open_kind 9 0 2 3
    ∷ row attribute_kind 0 2 2 0
    ∷ row marker_close_kind 9 4 3 0
    ∷ []))
    -- in a note, behind a character that is closed
    ∷ read_example (ascii "\\f + \\fr 1.1\\fr*|y\\f*")
    (rows (row root_kind 0 0 21 8
    ∷ row marker_open_kind 6 0 2 7
    ∷ row text_kind 0 2 3 0
    ∷ row marker_open_kind 5 5 3 5
    ∷ row text_kind 0 8 4 0
    ∷ row marker_close_kind 5 12 4 0
    ∷ row attribute_kind 0 16 2 0
    ∷ row marker_close_kind 6 18 3 0
    ∷ []))
    -- every backslash begins a marker or a close, in attributes too
    ∷ read_example (ascii "\\w a|b\\add c\\add*\\w*")
    (rows (row root_kind 0 0 20 8
    ∷ row marker_open_kind 9 0 2 7
    ∷ row text_kind 0 2 2 0
    ∷ row attribute_kind 0 4 2 0
    ∷ row marker_open_kind 4 6 4 6
    ∷ row text_kind 0 10 2 0
    ∷ row marker_close_kind 4 12 5 0
    ∷ row marker_close_kind 9 17 3 0
    ∷ []))
    -- a milestone
    ∷ read_example (ascii "\\qt-s\\*")
    (rows (row root_kind 0 0 7 3
    ∷ row marker_open_kind 13 0 5 2
    ∷ row marker_close_kind 13 5 2 0
    ∷ []))
    -- attributes that only blanks part from the name
    ∷ read_example (ascii "\\qt-s |sid=\"x\"\\*")
    (rows (row root_kind 0 0 16 5
    ∷ row marker_open_kind 13 0 5 4
    ∷ row text_kind 0 5 1 0
    ∷ row attribute_kind 0 6 8 0
    ∷ row marker_close_kind 13 14 2 0
    ∷ []))
    -- directly behind it, inside a block
    ∷ read_example (ascii "\\p\\qt-e|eid=\"x\"\\*a|b")
    (rows (row root_kind 0 0 20 7
    ∷ row marker_open_kind 3 0 2 6
    ∷ row marker_open_kind 14 2 5 4
    ∷ row attribute_kind 0 7 8 0
    ∷ row marker_close_kind 14 15 2 0
    ∷ row text_kind 0 17 3 0
    ∷ row block_end_kind 3 20 0 0
    ∷ []))
    -- levels: the marker is that of the name without its level, the close has it
    ∷ read_example (ascii "\\b1 x\\b1-2 y\\tc1 z\\tc1*")
    (rows (row root_kind 0 0 23 10
    ∷ row marker_open_kind 7 0 3 3
    ∷ row text_kind 0 3 2 0
    ∷ row block_end_kind 7 5 0 0
    ∷ row marker_open_kind 7 5 5 9
    ∷ row text_kind 0 10 2 0
    ∷ row marker_open_kind 11 12 4 8
    ∷ row text_kind 0 16 2 0
    ∷ row marker_close_kind 11 18 5 0
    ∷ row block_end_kind 7 23 0 0
    ∷ []))
    -- 16: unknown
    ∷ read_example (ascii "a\\zz b") (number unknown_marker 1)
    -- category other
    ∷ read_example (ascii "\\p x\\esb y") (number unknown_marker 4)
    -- also with a star behind the name, and before 17 at one place
    ∷ read_example (ascii "\\add x\\zz*") (number unknown_marker 6)
    -- of category other
    ∷ read_example (ascii "\\esb*") (number unknown_marker 0)
    -- an empty name: a backslash alone
    ∷ read_example (ascii "x\\") (number unknown_marker 1)
    -- before a blank
    ∷ read_example (ascii "\\ x") (number unknown_marker 0)
    -- before a star, with `+`
    ∷ read_example (ascii "\\+*") (number unknown_marker 0)
    -- only one `+` is dropped
    ∷ read_example (ascii "\\++add x") (number unknown_marker 0)
    -- U+200B is no blank, so the name goes on
    ∷ read_example (ascii "\\v" ++ (0xE2 ∷ 0x80 ∷ 0x8B ∷ []) ++ ascii "1") (number unknown_marker 0)
    -- 17: a close without its open
    ∷ read_example (ascii "\\add*") (number unmatched_marker 0)
    -- of another marker
    ∷ read_example (ascii "\\add x\\w*") (number unmatched_marker 6)
    -- not innermost
    ∷ read_example (ascii "\\add \\w x\\add*\\w*") (number unmatched_marker 9)
    -- of the table's name, where the open has a level
    ∷ read_example (ascii "\\tc1 a\\tc*") (number unmatched_marker 6)
    -- `\*` that no milestone has taken
    ∷ read_example (ascii "x\\*") (number unmatched_marker 1)
    -- no block, number or milestone has such a close
    ∷ read_example (ascii "\\p*") (number unmatched_marker 0)
    -- a glued Verse
    ∷ read_example (ascii "\\v1*") (number unmatched_marker 0)
    -- a milestone's name
    ∷ read_example (ascii "\\qt-s*") (number unmatched_marker 0)
    -- a milestone with blanks alone before `\*`: its own place
    ∷ read_example (ascii "\\p \\qt-s \\*") (number unmatched_marker 3)
    -- with text before its attributes
    ∷ read_example (ascii "\\qt-s x|y\\*") (number unmatched_marker 0)
    -- with another backslash before `\*`, which would be 16 at a later place
    ∷ read_example (ascii "\\p \\qt-s |x\\zz\\*") (number unmatched_marker 3)
    -- at the end
    ∷ read_example (ascii "\\qt-s") (number unmatched_marker 0)
    -- a paragraph marker met with a character open
    ∷ read_example (ascii "\\add x\\p y\\add*") (number unmatched_marker 6)
    -- an identification marker met with a note open
    ∷ read_example (ascii "\\f x\\id GEN") (number unmatched_marker 4)
    -- a Chapter met with a character open
    ∷ read_example (ascii "\\add x\\c 1") (number unmatched_marker 6)
    -- the end met with one open: the text's length
    ∷ read_example (ascii "\\p \\add x") (number unmatched_marker 9)
    -- 18: the whole count
    ∷ read_example (ascii "\\p\\p\\p\\p\\p\\p\\p\\p\\p\\p\\p\\p\\p") (number node_list_too_short 27)
    -- a fault comes before it
    ∷ read_example (ascii "\\p\\p\\p\\p\\p\\p\\p\\p\\p\\p\\p\\p\\p\\*") (number unmatched_marker 26)
    -- 3: the second byte begins no sequence
    ∷ read_example (ascii "a" ++ (0xFF ∷ []) ++ ascii "\\zz") (number source_not_utf8 1)
    -- 1: a triple is unfinished
    ∷ record { table = ascii "name=p\n"; text = ascii "\\zz"; wanted = number bad_table_layout 7 }
    ∷ []

-- a list of 24 nodes is lent
unfoldable pub results_of : List ReadExample → List ReadResult
results_of [] = []
results_of (e ∷ es) = result_by (read_refusal e.table e.text (repeated 0 384)) (rows_read e.table e.text) ∷ results_of es

unfoldable pub wanted_results : List ReadExample → List ReadResult
wanted_results [] = []
wanted_results (e ∷ es) = e.wanted ∷ wanted_results es
