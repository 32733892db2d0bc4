-- Answers of wrong functions contradict the promises: what the definitions answer, by computation, where such a function answers otherwise.
-- Assumes nothing.
use Prim.Native.Nat.{ℕ}
use mathlib.Core.Path.{◌≡◌, refl}
use mathlib.Core.Bool.{true, false}
use mathlib.Core.List.{List}
use Rattle.std.specs.Prelude.{None}
use Rattle.text.specs.Literal.{ascii}
use Rattle.text.specs.Pick.{in_any}
use Rattle.text.specs.Blank.{blank_ranges, blank}
use Rattle.text.specs.Utf8 as utf8
use Rattle.text.specs.Characters.{chars_past, bytes_before}
use Rattle.text.specs.Words.{word_from}
use Rattle.text.specs.Bytes.{equal, all, one_of}
use Rattle.tape.specs.Nodes.{half, word, nodes}
use Rattle.tape.specs.Forest.{runs}
use Rattle.table.specs.Lines as lines
use Rattle.table.specs.Entries as entries
use Rattle.cursor.specs.Names.{name_part}
use Rattle.attachment.specs.Attached.{among}
use Rattle.definition.specs.Examples.{example_table, tape_of, longer_document}
use Rattle.definition.specs.Sections.{numbers_of, is_border}
use Rattle.definition.specs.Carried.{number_too_large, list_too_long, bad_anchor, bad_start, anchor_node}
use Rattle.definition.specs.Carried as carried
use Rattle.carried.specs.Record.{bad_record}

-- a document with the top-level nodes 1, 4 (a Chapter), 5 (`\qt-s`) and 7 (`\qt-e`), each marker with its close behind it; the root's link is 9
abbrev s : List ℕ
s = longer_document.source

abbrev t : List ℕ
t = tape_of longer_document.nodes

abbrev carrying : ℕ → ℕ → ℕ → ℕ → ℕ → ℕ → carried.CarriedRecord
carrying place chapter verse seen opens anchor =
    record {
      place = place;
      has_id = true;
      has_chapter = true;
      has_verse = false;
      front_matter = false;
      verse_outside_warned = false;
      expected_chapter = chapter;
      expected_verse = record { number = verse; letter = None };
      seen_len = seen;
      open_len = opens;
      anchor = anchor;
    }

-- one that takes every node for a border, one that doesn't take the root's link, one that takes every place from there on
pub border-answers : (is_border s t 6 ≡ false) × (is_border s t 9 ≡ true) × (is_border s t 10 ≡ false)
unfolding ascii tape_of longer_document word nodes runs numbers_of among
border-answers = (refl, refl, refl)

-- one that refuses the number after 4,294,967,295, one that looks at the chapter alone
pub number-answers : (number_too_large (carrying 5 4294967296 4294967296 1 0 4) ≡ false) × (number_too_large (carrying 5 2 4294967297 1 0 4) ≡ true)
number-answers = (refl, refl)

-- one that refuses as many entries as the place says, one that looks at the chapters seen alone
pub list-answers : (list_too_long (carrying 5 2 1 5 5 4) ≡ false) × (list_too_long (carrying 5 2 1 1 6 4) ≡ true)
list-answers = (refl, refl)

-- one that refuses a record without an anchor, one that takes any node for an anchor, one that takes a node past the tape
pub anchor-answers : (bad_anchor t (carrying 5 2 1 1 0 0) ≡ false) × (bad_anchor t (carrying 5 2 1 1 0 1) ≡ true) × (bad_anchor t (carrying 5 2 1 1 0 4294967296) ≡ true)
unfolding ascii tape_of longer_document
anchor-answers = (refl, refl, refl)

-- one that refuses every start, one that looks at the node alone, one that takes ends for starts, one that takes a cleared entry, one that takes a node past the tape
pub start-answers : (bad_start example_table s t (record { node = 5; base_len = 2 }) ≡ false) × (bad_start example_table s t (record { node = 5; base_len = 3 }) ≡ true) × (bad_start example_table s t (record { node = 7; base_len = 2 }) ≡ true) × (bad_start example_table s t (record { node = 0; base_len = 0 }) ≡ true) × (bad_start example_table s t (record { node = 9; base_len = 2 }) ≡ true)
unfolding ascii example_table tape_of longer_document utf8.table3_7 utf8.begins utf8.width_by utf8.width_of utf8.decoded utf8.decode in_any blank_ranges blank chars_past bytes_before word_from half word equal all one_of lines.lines lines.categories lines.roles entries.position entries.entries_of entries.entries entries.nth name_part
start-answers = (refl, refl, refl, refl, refl)

-- one that refuses every record, one that doesn't look at the place, one that doesn't look at the anchor
pub record-answers : (bad_record s t (carrying 5 2 1 1 0 4) ≡ false) × (bad_record s t (carrying 6 2 1 1 0 4) ≡ true) × (bad_record s t (carrying 5 2 1 1 0 5) ≡ true)
unfolding ascii tape_of longer_document word nodes runs numbers_of among
record-answers = (refl, refl, refl)

-- one that gives no anchor, one that gives a node at the place, one that gives a node inside another
pub node-answers : (anchor_node s t (carrying 5 2 1 1 0 4) ≡ 4) × (anchor_node s t (carrying 4 2 1 1 0 4) ≡ 0) × (anchor_node s t (carrying 5 2 1 1 0 2) ≡ 0)
unfolding ascii tape_of longer_document word nodes runs numbers_of among
node-answers = (refl, refl, refl)
