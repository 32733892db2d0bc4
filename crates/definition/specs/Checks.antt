-- The checks of one node, in the Rust's order: "Checks and findings stand in the Rust's order."
use Rattle.std.specs.Prelude.{ℕ, ◌+◌, Bool, true, false, not, ◌&&◌, ◌||◌, List, [], ◌∷◌, ◌++◌, eqb, ltb, length, get_or}
use Rattle.std.specs.Prelude.{Option, Some, None}
use Rattle.text.specs.Pick.{cut, pick, known}
use Rattle.text.specs.Words.{first_word, blank_text}
use Rattle.tape.specs.Nodes.{Node, chapter_kind, verse_kind, text_kind, attribute_kind}
use Rattle.tape.specs.Forest.{Forest, end, leaf, node, followed}
use Rattle.table.specs.Entries.{Entry, entries, nth, paragraph_category, character_category, boundary_role}
use Rattle.table.specs.Names.{front_matter, note_only}
use Rattle.table.specs.Books.{book_of}
use Rattle.cursor.specs.Names.{name_of}
use Rattle.cursor.specs.Info.{has_marker, only_for}
use Rattle.findings.specs.Finding.{Finding, warning_severity, error_severity}
use Rattle.findings.specs.Written.{only}
use Rattle.numbers.specs.Label.{is_glued, label_of, numbered}
use Rattle.numbers.specs.Verse.{Position, PartReading, position, no_digits, too_large, verse_part, verse_end, next, in_sequence}
use Rattle.attachment.specs.Attached.{among, is_attached}
use Rattle.definition.specs.Setters.{set_has_id, set_has_chapter, set_has_verse, set_front_matter, set_verse_outside_warned, set_expected_chapter, set_expected_verse, set_seen, set_verses}
use Rattle.definition.specs.State.{WalkState, first_verse, WalkContext, Anchor, NodeChecked}
use Rattle.findings.specs.Codes.{missing_space_before_number, leading_zeros, missing_chapter_number, verse_outside_paragraph, char_crosses_verse_boundary, missing_verse_number, duplicate_id, invalid_book_code, note_submarker_outside_note, non_empty_blank_line, body_paragraph_before_chapter, misplaced_number_marker, empty_figure, empty_word_marker, missing_required_attribute, duplicate_chapter, invalid_chapter_sequence, invalid_verse_sequence, unreadable_verse_number, no_digits_form, too_large_form, chapter_form, verse_form, should_be_uppercase, not_valid}
use Rattle.text.specs.Literal.{ascii}
use Rattle.text.specs.Bytes.{equal, one_of, upper}

-- a finding with the span of a node: severity, code, form, two numbers
abbrev pub about : Node → ℕ → ℕ → ℕ → ℕ → ℕ → Finding
about x severity code form first second =
    record {
      severity = severity;
      code = code;
      start = x.start;
      len = x.len;
      node = x.number;
      form = form;
      first = first;
      second = second;
    }

abbrev pub error : Node → ℕ → ℕ → Finding
error x code form = about x error_severity code form 0 0

abbrev pub warning : Node → ℕ → ℕ → Finding
warning x code form = about x warning_severity code form 0 0

-- the table entry of a node that bears a marker
abbrev pub entry_of : List ℕ → Node → Option Entry
entry_of table x = only_for (has_marker x.kind) (nth (entries table) x.marker)

-- a finding under its condition, and the findings whose conditions hold, in order
pub record Check : Type 0 where
  pub holds : Bool
  pub finding : Finding

abbrev pub when : Bool → Finding → Check
when b f = record { holds = b; finding = f }

unfoldable pub given : List Check → List Finding
given [] = []
given (c ∷ cs) = only c.holds c.finding ++ given cs

abbrev pub is_empty : List ℕ → Bool
is_empty s = eqb (length s) 0

-- MissingSpaceBeforeNumber, LeadingZeros ("0 chapter, 1 verse")
abbrev pub number_form : ℕ → Option Entry → Node → List Check
number_form form e x =
    when (is_glued e (name_of x.text)) (warning x missing_space_before_number 0)
    ∷ when (ltb 1 (length (label_of e x.text)) && eqb (get_or (label_of e x.text) 0 0) 0x30) (error x leading_zeros form)
    ∷ []

-- MissingChapterNumber, DuplicateChapter, InvalidChapterSequence; a chapter's number is its link
abbrev pub chapter_checks : Option Entry → WalkState → Node → List Check
chapter_checks e st x =
    when (is_empty (label_of e x.text)) (error x missing_chapter_number 0)
    ∷ when (among x.link st.seen) (about x warning_severity duplicate_chapter 0 x.link 0)
    ∷ when (not (eqb x.link st.expected_chapter)) (about x warning_severity invalid_chapter_sequence 0 st.expected_chapter x.link)
    ∷ number_form chapter_form e x

unfoldable pub after_chapter : WalkState → Node → WalkState
after_chapter st x = set_has_chapter true (set_expected_chapter (x.link + 1) (set_expected_verse first_verse (set_seen (x.link ∷ st.seen) st)))

abbrev pub letter_byte : Option ℕ → ℕ
letter_byte None = 0
letter_byte (Some b) = b

-- a start that is read and breaks the sequence
abbrev pub breaks : PartReading → Position → Bool
breaks (position p) expected = not (in_sequence expected p)
breaks no_digits expected = false
breaks too_large expected = false

-- document 02, K6: a start that "isn't read"; "Form is 0 for no digits and 1 for too large." A start that is read has no such finding
abbrev pub unread : PartReading → Bool
unread (position p) = false
unread no_digits = true
unread too_large = true

abbrev pub unread_form : PartReading → ℕ
unread_form (position p) = no_digits_form
unread_form no_digits = no_digits_form
unread_form too_large = too_large_form

-- "The end is read after the first `-`, else the start serves."
abbrev pub end_or : PartReading → Position → Position
end_or (position e) start = e
end_or no_digits start = start
end_or too_large start = start

-- a label that isn't read leaves the expected verse
abbrev pub expected_after : PartReading → List ℕ → Position → Position
expected_after (position p) label expected = next (end_or (verse_end label) p)
expected_after no_digits label expected = expected
expected_after too_large label expected = expected

-- VerseOutsideParagraph once, CharCrossesVerseBoundary, MissingVerseNumber, InvalidVerseSequence ("expected number, letter byte or 0"); document 02, K6: "For a visited Verse with a nonempty label whose start isn't read, the marker gives a warning with new code 35, UnreadableVerseNumber, where InvalidVerseSequence would stand"
abbrev pub verse_checks : Option Entry → WalkContext → WalkState → Node → List Check
verse_checks e o st x =
    when (not o.in_body_para && not st.verse_outside_warned) (warning x verse_outside_paragraph 0)
    ∷ when o.in_char (error x char_crosses_verse_boundary 0)
    ∷ when (is_empty (label_of e x.text)) (error x missing_verse_number 0)
    ∷ when (breaks (verse_part (label_of e x.text)) st.expected_verse) (about x warning_severity invalid_verse_sequence 0 st.expected_verse.number (letter_byte st.expected_verse.letter))
    ∷ when (not (is_empty (label_of e x.text)) && unread (verse_part (label_of e x.text))) (warning x unreadable_verse_number (unread_form (verse_part (label_of e x.text))))
    ∷ number_form verse_form e x

unfoldable pub after_verse : Option Entry → WalkContext → WalkState → Node → WalkState
after_verse e o st x =
    set_has_verse true
    (set_verse_outside_warned (st.verse_outside_warned || not o.in_body_para)
    (set_expected_verse (expected_after (verse_part (label_of e x.text)) (label_of e x.text) st.expected_verse)
    (set_verses (st.verses + 1) st)))

-- a Chapter, a Verse, or any other leaf, which has no check
unfoldable pub leaf_checked : List ℕ → WalkContext → WalkState → Node → NodeChecked
leaf_checked table o st x =
    record {
      findings = given (pick (eqb x.kind chapter_kind) (chapter_checks (entry_of table x) st x) (pick (eqb x.kind verse_kind) (verse_checks (entry_of table x) o st x) []));
      state = pick (eqb x.kind chapter_kind) (after_chapter st x) (pick (eqb x.kind verse_kind) (after_verse (entry_of table x) o st x) st);
    }

-- "The book code = first whitespace token of the `\id` line's text", its first Text; empty where there is none
unfoldable pub book_code : Forest → List ℕ
book_code end = []
book_code (leaf x r) = pick (eqb x.kind text_kind) (cut (first_word x.text) x.text) (book_code r)
book_code (node x c r) = book_code r

abbrev pub is_book : List ℕ → Bool
is_book code = known (book_of code)

-- `id`: DuplicateId, InvalidBookCode, by its forms (docs/DECISIONS.md): 0 should be uppercase, 1 not valid
abbrev pub id_checks : Bool → WalkState → List ℕ → Node → List Check
id_checks named st code x =
    when (named && st.has_id) (error x duplicate_id 0)
    ∷ when (named && (not (is_empty code) && not (is_book code))) (warning x invalid_book_code (pick (is_book (upper code)) should_be_uppercase not_valid))
    ∷ []

-- without a book code the front-matter flag doesn't change
abbrev pub front_by : List ℕ → Bool → Bool
front_by code before = pick (is_empty code) before (one_of front_matter code)

unfoldable pub after_id : Bool → WalkState → Forest → WalkState
after_id named st c = set_has_id (named || st.has_id) (set_front_matter (pick named (front_by (book_code c) st.front_matter) st.front_matter) st)

-- content of a `\b`: a Text that isn't blank or a marker, before any Verse or Chapter
unfoldable pub inline_content : Forest → Bool
inline_content end = false
inline_content (leaf x r) = pick (numbered x.kind) false (pick (eqb x.kind text_kind && not (blank_text x.text)) true (inline_content r))
inline_content (node x c r) = true

-- a leaf of the kind; one whose text is blank counts if the flag says so
unfoldable pub has_leaf : ℕ → Bool → Forest → Bool
has_leaf kind blank end = false
has_leaf kind blank (leaf x r) = (eqb x.kind kind && (blank || not (blank_text x.text))) || has_leaf kind blank r
has_leaf kind blank (node x c r) = has_leaf kind blank r

-- a Text that isn't blank
abbrev pub has_text : Forest → Bool
has_text f = has_leaf text_kind false f

abbrev pub has_attribute : Forest → Bool
has_attribute f = has_leaf attribute_kind true f

unfoldable pub has_markers : Forest → Bool
has_markers end = false
has_markers (leaf x r) = has_markers r
has_markers (node x c r) = true

-- ca, cp, va, vp
unfoldable pub number_markers : List (List ℕ)
number_markers =
    ascii "ca"
    ∷ ascii "cp"
    ∷ ascii "va"
    ∷ ascii "vp"
    ∷ []

-- of the siblings that follow the anchor, those passed since and those from here on
abbrev pub attached_to : Option Anchor → Forest → ℕ → Bool
attached_to None f at = false
attached_to (Some a) f at = is_attached a.kind (followed a.passed f) at

-- `id`, `b`, `fig`, `w`, `rb`, `tr`
abbrev pub id_name : List ℕ
id_name = ascii "id"

abbrev pub b_name : List ℕ
b_name = ascii "b"

abbrev pub fig_name : List ℕ
fig_name = ascii "fig"

abbrev pub w_name : List ℕ
w_name = ascii "w"

abbrev pub rb_name : List ℕ
rb_name = ascii "rb"

abbrev pub tr_name : List ℕ
tr_name = ascii "tr"

-- a paragraph that can hold verse text
abbrev pub is_body : Entry → Bool
is_body e = eqb e.category paragraph_category && eqb e.role boundary_role

-- NoteSubmarkerOutsideNote, NonEmptyBlankLine, BodyParagraphBeforeChapter, MisplacedNumberMarker: of a marker with its table name, the record after `id`, the anchor, its children and the siblings from it on
abbrev pub place_checks : List ℕ → Entry → WalkContext → Option Anchor → WalkState → Node → Forest → Forest → List Check
place_checks name e o a st x c f =
    when (eqb e.category character_category && (not o.in_note && one_of note_only name)) (error x note_submarker_outside_note 0)
    ∷ when (equal name b_name && inline_content c) (error x non_empty_blank_line 0)
    ∷ when (is_body e && (not st.has_chapter && not st.front_matter)) (error x body_paragraph_before_chapter 0)
    ∷ when (one_of number_markers name && (one_of number_markers (name_of x.text) && not (attached_to a f x.start))) (warning x misplaced_number_marker 0)
    ∷ []

-- EmptyFigure, EmptyWordMarker, MissingRequiredAttribute
abbrev pub content_checks : List ℕ → Node → Forest → List Check
content_checks name x c =
    when (equal name fig_name && not (has_text c)) (error x empty_figure 0)
    ∷ when (equal name w_name && not (has_text c || (has_attribute c || has_markers c))) (error x empty_word_marker 0)
    ∷ when (equal name rb_name && not (has_attribute c)) (error x missing_required_attribute 0)
    ∷ []
