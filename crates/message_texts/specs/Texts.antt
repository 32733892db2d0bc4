-- Document 01, module 10: "The Rust's texts"; document 02, K6, has those of UnreadableVerseNumber. Each text once, with the values that it shows; a text's form is "the message's position among that code's messages in validate.rs, from 0".
use Rattle.std.specs.Prelude.{ℕ, List, [], ◌∷◌}
use Prim.Native.String.{String}
use Rattle.text.specs.Literal.{ascii}
use Rattle.findings.specs.Codes.{missing_id_marker, invalid_book_code, duplicate_id, text_before_id, missing_chapter_marker, invalid_chapter_sequence, duplicate_chapter, invalid_verse_sequence, verse_outside_paragraph, note_submarker_outside_note, non_empty_blank_line, leading_zeros, milestone_mismatch, invalid_attributes, missing_chapter_number, missing_verse_number, char_crosses_verse_boundary, empty_figure, unquoted_attribute_value, missing_required_attribute, body_paragraph_before_chapter, empty_word_marker, invalid_table_column_sequence, default_attribute_not_defined, misplaced_number_marker, missing_space_before_number, unreadable_verse_number}

-- what a text can show beside its own bytes
pub data Hole : Type 0 where
  -- nothing
  empty : Hole
  -- the finding's two numbers
  first : Hole
  second : Hole
  -- a verse position: the first number, and the letter that the second is
  position : Hole
  -- the table's name of the node's marker
  entry_name : Hole
  -- the source's name of the owner, whose node the first number is
  owner_name : Hole
  -- a chapter's or a verse's number as written
  label : Hole
  -- the same where it is glued to its marker, the name that it is glued to, and the name with it
  glued_label : Hole
  bare_name : Hole
  glued_name : Hole
  -- a milestone's
  base : Hole
  -- one of the four names of an alternate or a published number, the letter of its owner's marker, and what its owner is
  number_name : Hole
  owner : Hole
  unit : Hole
  book_code : Hole

-- where the values of a text stand, and its first value in capitals
abbrev pub v1 : List ℕ
v1 = 1 ∷ []

abbrev pub v2 : List ℕ
v2 = 2 ∷ []

abbrev pub v3 : List ℕ
v3 = 3 ∷ []

abbrev pub V1 : List ℕ
V1 = 4 ∷ []

abbrev pub say : String → List ℕ
say s = ascii s

-- a code, its three values, and its texts in order
pub record Code : Type 0 where
  pub code : ℕ
  pub h1 : Hole
  pub h2 : Hole
  pub h3 : Hole
  pub forms : List (List (List ℕ))

abbrev pub of : ℕ → Hole → Hole → Hole → List (List (List ℕ)) → Code
of code h1 h2 h3 forms = record { code = code; h1 = h1; h2 = h2; h3 = h3; forms = forms }

unfoldable pub document_texts : List Code
document_texts =
    of missing_id_marker empty empty empty ((say "document has chapters/verses but no \\id (book) marker" ∷ []) ∷ [])
    ∷ of invalid_book_code book_code empty empty ((say "book code \"" ∷ v1 ∷ say "\" should be uppercase: \"" ∷ V1 ∷ say "\"" ∷ []) ∷ (say "\"" ∷ v1 ∷ say "\" is not a valid USFM book code" ∷ []) ∷ [])
    ∷ of duplicate_id empty empty empty ((say "more than one \\id marker" ∷ []) ∷ [])
    ∷ of text_before_id empty empty empty ((say "text appears before the \\id marker" ∷ []) ∷ [])
    ∷ of missing_chapter_marker empty empty empty ((say "the document has no \\c (chapter) marker" ∷ []) ∷ [])
    ∷ []

unfoldable pub number_texts : List Code
number_texts =
    of invalid_chapter_sequence first second empty ((say "expected chapter " ∷ v1 ∷ say " but found " ∷ v2 ∷ []) ∷ [])
    ∷ of duplicate_chapter first second empty ((say "chapter " ∷ v1 ∷ say " appears more than once" ∷ []) ∷ [])
    ∷ of invalid_verse_sequence position label empty ((say "expected verse " ∷ v1 ∷ say " but found " ∷ v2 ∷ []) ∷ [])
    ∷ of verse_outside_paragraph empty empty empty ((say "\\v is not inside a body paragraph (e.g. \\c or \\s directly followed by \\v with no \\p)" ∷ []) ∷ [])
    ∷ of leading_zeros label empty empty ((say "chapter number `" ∷ v1 ∷ say "` has leading zeros" ∷ []) ∷ (say "verse number `" ∷ v1 ∷ say "` has leading zeros" ∷ []) ∷ [])
    ∷ of missing_chapter_number empty empty empty ((say "\\c is missing its chapter number" ∷ []) ∷ [])
    ∷ of missing_verse_number empty empty empty ((say "\\v is missing its verse number" ∷ []) ∷ [])
    ∷ of char_crosses_verse_boundary empty empty empty ((say "a character marker spans a verse boundary (\\v inside a \\char span)" ∷ []) ∷ [])
    ∷ of missing_space_before_number glued_name bare_name glued_label ((say "\\" ∷ v1 ∷ say " needs a space before its number; read as \\" ∷ v2 ∷ say " " ∷ v3 ∷ []) ∷ [])
    ∷ of unreadable_verse_number label empty empty ((say "verse label " ∷ v1 ∷ say " has no number" ∷ []) ∷ (say "verse label " ∷ v1 ∷ say " is too large" ∷ []) ∷ [])
    ∷ []

unfoldable pub marker_texts : List Code
marker_texts =
    of note_submarker_outside_note entry_name empty empty ((say "\\" ∷ v1 ∷ say " is only valid inside a note" ∷ []) ∷ [])
    ∷ of non_empty_blank_line empty empty empty ((say "\\b (blank line) must not contain content" ∷ []) ∷ [])
    ∷ of milestone_mismatch base empty empty ((say "milestone \\" ∷ v1 ∷ say "-s has no matching \\" ∷ v1 ∷ say "-e" ∷ []) ∷ (say "milestone \\" ∷ v1 ∷ say "-e has no matching \\" ∷ v1 ∷ say "-s" ∷ []) ∷ [])
    ∷ of empty_figure empty empty empty ((say "\\fig has no caption content" ∷ []) ∷ [])
    ∷ of missing_required_attribute entry_name empty empty ((say "\\" ∷ v1 ∷ say " is missing its required \"gloss\" attribute" ∷ []) ∷ [])
    ∷ of body_paragraph_before_chapter entry_name empty empty ((say "body paragraph \\" ∷ v1 ∷ say " appears before any \\c (chapter)" ∷ []) ∷ [])
    ∷ of empty_word_marker empty empty empty ((say "\\w has no text content or attributes" ∷ []) ∷ [])
    ∷ of invalid_table_column_sequence first second empty ((say "expected table column " ∷ v1 ∷ say " but found column " ∷ v2 ∷ []) ∷ [])
    ∷ of misplaced_number_marker number_name owner unit ((say "\\" ∷ v1 ∷ say " must directly follow its \\" ∷ v2 ∷ say " (at most once per " ∷ v3 ∷ say "); it is kept as character text" ∷ []) ∷ [])
    ∷ []

unfoldable pub attribute_texts : List Code
attribute_texts =
    of invalid_attributes empty empty empty
    ((say "empty attribute list after `|`" ∷ [])
    ∷ (say "attribute key without a `=\"value\"`" ∷ [])
    ∷ (say "attribute has an empty value (e.g. `lemma=\"\"`)" ∷ [])
    ∷ (say "unterminated quoted attribute value" ∷ [])
    ∷ [])
    ∷ of unquoted_attribute_value empty empty empty ((say "attribute value must be quoted" ∷ []) ∷ [])
    ∷ of default_attribute_not_defined owner_name empty empty ((say "\\" ∷ v1 ∷ say " has no default attribute; the value after `|` is invalid" ∷ []) ∷ [])
    ∷ []
