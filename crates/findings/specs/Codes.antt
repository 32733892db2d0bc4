-- Document 01, "A finding": "code (position in `DiagnosticCode` from 0; the three reserved ones at its end get no number, so the last is 34)". The codes that the check gives, in this order, with their forms: "Form is the message's position among that code's messages in validate.rs, from 0".
use Rattle.std.specs.Prelude.{ℕ}

-- how many codes there are: document 02, K6, "Tally has 36 counts"
abbrev pub code_count : ℕ
code_count = 36

abbrev pub missing_id_marker : ℕ
missing_id_marker = 4

abbrev pub invalid_book_code : ℕ
invalid_book_code = 5

-- its forms: the code in capitals is one; it is none
abbrev pub should_be_uppercase : ℕ
should_be_uppercase = 0

abbrev pub not_valid : ℕ
not_valid = 1

abbrev pub duplicate_id : ℕ
duplicate_id = 6

abbrev pub text_before_id : ℕ
text_before_id = 7

abbrev pub missing_chapter_marker : ℕ
missing_chapter_marker = 8

abbrev pub invalid_chapter_sequence : ℕ
invalid_chapter_sequence = 9

abbrev pub duplicate_chapter : ℕ
duplicate_chapter = 10

abbrev pub invalid_verse_sequence : ℕ
invalid_verse_sequence = 11

abbrev pub verse_outside_paragraph : ℕ
verse_outside_paragraph = 12

abbrev pub note_submarker_outside_note : ℕ
note_submarker_outside_note = 13

abbrev pub non_empty_blank_line : ℕ
non_empty_blank_line = 14

abbrev pub leading_zeros : ℕ
leading_zeros = 15

-- "LeadingZeros: 0 chapter, 1 verse"
abbrev pub chapter_form : ℕ
chapter_form = 0

abbrev pub verse_form : ℕ
verse_form = 1

abbrev pub milestone_mismatch : ℕ
milestone_mismatch = 16

-- "MilestoneMismatch: 0 unclosed start, 1 end"
abbrev pub unclosed_start : ℕ
unclosed_start = 0

abbrev pub end_alone : ℕ
end_alone = 1

abbrev pub invalid_attributes : ℕ
invalid_attributes = 17

-- its forms: an empty list, a key without a value, an empty value, an unterminated quote
abbrev pub empty_list_form : ℕ
empty_list_form = 0

abbrev pub key_alone_form : ℕ
key_alone_form = 1

abbrev pub empty_value_form : ℕ
empty_value_form = 2

abbrev pub unterminated_form : ℕ
unterminated_form = 3

abbrev pub missing_chapter_number : ℕ
missing_chapter_number = 18

abbrev pub missing_verse_number : ℕ
missing_verse_number = 19

abbrev pub char_crosses_verse_boundary : ℕ
char_crosses_verse_boundary = 20

abbrev pub empty_figure : ℕ
empty_figure = 21

abbrev pub unquoted_attribute_value : ℕ
unquoted_attribute_value = 22

abbrev pub missing_required_attribute : ℕ
missing_required_attribute = 23

abbrev pub body_paragraph_before_chapter : ℕ
body_paragraph_before_chapter = 24

abbrev pub empty_word_marker : ℕ
empty_word_marker = 25

abbrev pub invalid_table_column_sequence : ℕ
invalid_table_column_sequence = 27

abbrev pub default_attribute_not_defined : ℕ
default_attribute_not_defined = 32

abbrev pub misplaced_number_marker : ℕ
misplaced_number_marker = 33

abbrev pub missing_space_before_number : ℕ
missing_space_before_number = 34

-- document 02, K6: "new code 35, UnreadableVerseNumber"
abbrev pub unreadable_verse_number : ℕ
unreadable_verse_number = 35

-- "Form is 0 for no digits and 1 for too large."
abbrev pub no_digits_form : ℕ
no_digits_form = 0

abbrev pub too_large_form : ℕ
too_large_form = 1
