-- Document 01, "Trial items": "Items 1 to 12 are collected in one table about the definitions and settled by one proof".
use Rattle.std.specs.Prelude.{ℕ, List, [], ◌∷◌}
use Rattle.std.specs.Prelude.{Option, Some, None}
use Rattle.text.specs.Literal.{ascii}
use Rattle.text.specs.Pick.{pick}
use Rattle.numbers.specs.Verse.{Position, PartReading, verse_part}
use Rattle.numbers.specs.Verse as reading
use Rattle.rows.specs.Cells.{ColumnRange, cell_columns}
use Rattle.findings.specs.Finding.{Kind, info_severity}
use Rattle.findings.specs.Codes.{invalid_attributes, empty_value_form}
use Rattle.attributes.specs.Attributes.{kind, attribute_kinds}
use Rattle.definition.specs.State.{first_verse}
use Rattle.definition.specs.Checks.{breaks, expected_after}

-- what an item can give
pub data Outcome : Type 0 where
  passes : Outcome
  finding : Outcome
  unread : Outcome
  position : ℕ → Option ℕ → Outcome
  columns : ℕ → ℕ → Outcome
  no_columns : Outcome
  kinds : List Kind → Outcome

abbrev pub verse : ℕ → Option ℕ → Position
verse n letter = record { number = n; letter = letter }

-- a label where a position is expected: the check of a verse gives InvalidVerseSequence exactly if the label breaks the sequence; a label that can't be read is neither in order nor out of it
abbrev pub order_by : PartReading → Position → Outcome
order_by (reading.position p) expected = pick (breaks (reading.position p) expected) finding passes
order_by reading.no_digits expected = unread
order_by reading.too_large expected = unread

abbrev pub order : Position → List ℕ → Outcome
order expected label = order_by (verse_part label) expected

abbrev pub position_outcome : Position → Outcome
position_outcome p = position p.number p.letter

-- the position expected after a label, where the first verse is expected before it
abbrev pub following : List ℕ → Outcome
following label = position_outcome (expected_after (verse_part label) label first_verse)

abbrev pub columns_by : Option ColumnRange → Outcome
columns_by None = no_columns
columns_by (Some r) = columns r.start r.end

abbrev pub cells : List ℕ → Outcome
cells name = columns_by (cell_columns name)

-- the findings of an Attribute's text under `\w`
abbrev pub attributes : List ℕ → Outcome
attributes text = kinds (attribute_kinds (ascii "w") text)

pub record Item : Type 0 where
  pub number : ℕ
  pub gives : Outcome
  pub wanted : Outcome

abbrev pub item : ℕ → Outcome → Outcome → Item
item n g w = record { number = n; gives = g; wanted = w }

unfoldable pub items : List Item
items =
    item 1 (order (verse 10 None) (ascii "9a")) passes
    ∷ item 2 (order (verse 10 None) (ascii "9")) finding
    ∷ item 3 (order (verse 9 (Some 0x62)) (ascii "10")) passes
    ∷ item 4 (order (verse 9 (Some 0x62)) (ascii "9")) finding
    ∷ item 5 (order (verse 10 None) (ascii "10a")) passes
    ∷ item 6 (following (ascii "3-5")) (position 6 None)
    ∷ item 7 (following (ascii "3-")) (position 4 None)
    ∷ item 8 (following (ascii "9z")) (position 9 (Some 123))
    ∷ item 9 (cells (ascii "tc1-2")) (columns 1 2)
    ∷ item 10 (cells (ascii "tc+1")) (columns 1 1)
    ∷ item 11 (attributes (ascii "=\"x\"")) (kinds [])
    ∷ item 12 (attributes (ascii "lemma=\"\"")) (kinds (kind info_severity invalid_attributes empty_value_form ∷ []))
    ∷ []

unfoldable pub outcomes_of : List Item → List Outcome
outcomes_of [] = []
outcomes_of (i ∷ is) = i.gives ∷ outcomes_of is

unfoldable pub wanted_outcomes : List Item → List Outcome
wanted_outcomes [] = []
wanted_outcomes (i ∷ is) = i.wanted ∷ wanted_outcomes is
