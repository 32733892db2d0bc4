-- Each worked example gives what is wanted.
-- Assumes nothing.
use mathlib.Core.Path.{◌≡◌, refl}
use Rattle.text.specs.Literal.{ascii}
use Rattle.text.specs.Pick.{in_any}
use Rattle.text.specs.Blank.{blank_ranges, blank}
use Rattle.text.specs.Utf8 as utf8
use Rattle.text.specs.Characters.{chars_past, bytes_before, find_byte}
use Rattle.text.specs.Words.{trim_start, word_from}
use Rattle.text.specs.Number.{all_digits, value_from, digits_from, digits}
use Rattle.text.specs.Bytes.{equal, all, one_of}
use Rattle.table.specs.Lines as lines
use Rattle.table.specs.Entries.{position, entries_of, entries, nth}
use Rattle.table.specs.Names.{named_from, undigited, stripped_length, looked_up}
use Rattle.cursor.specs.Names.{name_part}
use Rattle.numbers.specs.Label.{label_of}
use Rattle.numbers.specs.Verse.{part_of, verse_part}
use Rattle.definition.specs.Outcome.{repeated}
use Rattle.definition.specs.Examples.{example_table}
use Rattle.reader_spec.specs.Pieces as pieces
use Rattle.reader_spec.specs.Pass.{piece_step, pass, outcome}
use Rattle.reader_spec.specs.Rows.{awaited, rows_from}
use Rattle.reader_spec.specs.Answer.{read_refusal}
use Rattle.reader_spec.specs.Examples as worked

pub read-examples : worked.results_of worked.read_examples ≡ worked.wanted_results worked.read_examples
unfolding ascii in_any blank_ranges blank utf8.table3_7 utf8.begins utf8.width_by utf8.width_of utf8.decoded utf8.decode utf8.after_width utf8.scan utf8.first_ill_formed chars_past bytes_before find_byte trim_start word_from all_digits value_from digits_from digits equal all one_of lines.lines lines.categories lines.roles lines.bad_from lines.bad_table position entries_of entries nth named_from undigited stripped_length looked_up name_part label_of part_of verse_part repeated example_table pieces.number_size pieces.number_link pieces.milestone_piece pieces.known_piece pieces.marker_piece pieces.run_piece pieces.piece_at pieces.pieces_past piece_step pass outcome awaited rows_from read_refusal worked.read_table worked.read_examples worked.results_of worked.wanted_results
read-examples = refl
