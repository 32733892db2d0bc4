-- Document 01's example of a listing, byte for byte, and one with Greek.
-- Assumes nothing.
use mathlib.Core.Path.{◌≡◌, refl}
use Rattle.text.specs.Literal.{ascii}
use Rattle.text.specs.Pick.{in_any}
use Rattle.text.specs.Blank.{blank_ranges, blank}
use Rattle.text.specs.Utf8 as utf8
use Rattle.text.specs.Characters.{chars_past, bytes_before, find_byte}
use Rattle.text.specs.Words.{trim_start, kept, trim, blank_text, word_from}
use Rattle.text.specs.Number.{all_digits, value_from, digits_from, digits, parsed}
use Rattle.tape.specs.Nodes.{half, word, nodes}
use Rattle.tape.specs.Forest.{followed, runs}
use Rattle.tape.specs.Reading as reading
use Rattle.refusals.specs.Refusal.{first_bad}
use Rattle.table.specs.Lines as lines
use Rattle.table.specs.Entries as entries
use Rattle.table.specs.Names as names
use Rattle.table.specs.Books as books
use Rattle.cursor.specs.Names.{name_part}
use Rattle.cursor.specs.Info.{info_at}
use Rattle.numbers.specs.Verse.{part_of, verse_part, verse_end, next, in_sequence}
use Rattle.numbers.specs.Label as label
use Rattle.numbers.specs.Label.{label_of}
use Rattle.rows.specs.Cells.{columns_in, cell_columns}
use Rattle.rows.specs.Row.{row_from}
use Rattle.attributes.specs.Attributes as attributes
use Rattle.attachment.specs.Attached.{is_alternate, is_published, plain, run_of, start_offsets, among}
use Rattle.definition.specs.Checks as checks
use Rattle.definition.specs.Milestones.{waits_by, without_by, after_milestone_by}
use Rattle.definition.specs.Walk.{open_checked_by, walk_by}
use Rattle.definition.specs.Outcome.{refusal, repeated}
use Rattle.definition.specs.Document.{text_before, unclosed, closing}
use Rattle.definition.specs.Examples as worked
use Rattle.text.specs.Bytes.{equal, all, one_of, upper}
use Rattle.buffer.specs.Decimal.{decimal, decimal_fuel}
use Rattle.definition.specs.Outcome.{of_severity}
use Rattle.message_texts.specs.Filled.{filled, joined, all_texts, code_of, form_of}
use Rattle.message_texts.specs.Texts.{document_texts, number_texts, marker_texts, attribute_texts}
use Rattle.messages.specs.Message.{shown_of, message_text}
use Rattle.messages.specs.Answer.{first_nine}
use Rattle.listing.specs.Lines.{name_at, severity_names, code_names, refused_lines, checked_lines, finding_lines, place_from, line_and_column}
use Rattle.listing.specs.Columns.{line_start, beginnings, count_between, column_at}
use Rattle.listing.specs.Listing.{listed_finding, listed_each, checked_listing, listing}
use Rattle.theorems.specs.ListingExample.{table_file, output, logos, phos, greek_source, greek_nodes, greek_output, unreadable_source, unreadable_nodes, unreadable_output}

pub listing-example : listing table_file (worked.example1).source (worked.tape_of (worked.example1).nodes) ≡ output
unfolding ascii worked.tape_of worked.example1 utf8.table3_7 utf8.begins utf8.width_by utf8.width_of utf8.decoded utf8.decode in_any blank_ranges blank chars_past bytes_before find_byte trim_start kept trim blank_text word_from all_digits value_from digits_from digits parsed half word nodes followed runs equal all one_of lines.lines lines.categories lines.roles entries.position entries.entries_of entries.entries entries.nth names.lemma_names names.default_name names.front_matter names.note_only books.book_codes books.code_from books.book_of attributes.scan_step attributes.attribute_scan attributes.attribute_kinds attributes.findings_at attributes.attributes_findings name_part part_of verse_part verse_end next in_sequence label_of columns_in cell_columns row_from is_alternate is_published plain run_of start_offsets among checks.given checks.after_chapter checks.after_verse checks.leaf_checked checks.book_code upper checks.after_id checks.inline_content checks.has_leaf checks.has_markers checks.number_markers waits_by without_by after_milestone_by open_checked_by walk_by text_before unclosed closing refusal repeated utf8.scan utf8.after_width utf8.first_ill_formed lines.bad_from lines.bad_table reading.step reading.read reading.tape_refusal first_bad label.splits label.label_refusal info_at decimal decimal_fuel first_nine message_text all_texts document_texts number_texts marker_texts attribute_texts code_of form_of joined filled shown_of name_at severity_names code_names refused_lines checked_lines finding_lines place_from line_start beginnings count_between column_at listed_finding listed_each checked_listing listing of_severity table_file output
listing-example = refl

pub listing-greek : listing table_file greek_source (worked.tape_of greek_nodes) ≡ greek_output
unfolding ascii worked.tape_of utf8.table3_7 utf8.begins utf8.width_by utf8.width_of utf8.decoded utf8.decode in_any blank_ranges blank chars_past bytes_before find_byte trim_start kept trim blank_text word_from all_digits value_from digits_from digits parsed half word nodes followed runs equal all one_of lines.lines lines.categories lines.roles entries.position entries.entries_of entries.entries entries.nth names.lemma_names names.default_name names.front_matter names.note_only books.book_codes books.code_from books.book_of attributes.scan_step attributes.attribute_scan attributes.attribute_kinds attributes.findings_at attributes.attributes_findings name_part part_of verse_part verse_end next in_sequence label_of columns_in cell_columns row_from is_alternate is_published plain run_of start_offsets among checks.given checks.after_chapter checks.after_verse checks.leaf_checked checks.book_code upper checks.after_id checks.inline_content checks.has_leaf checks.has_markers checks.number_markers waits_by without_by after_milestone_by open_checked_by walk_by text_before unclosed closing refusal repeated utf8.scan utf8.after_width utf8.first_ill_formed lines.bad_from lines.bad_table reading.step reading.read reading.tape_refusal first_bad label.splits label.label_refusal info_at decimal decimal_fuel first_nine message_text all_texts document_texts number_texts marker_texts attribute_texts code_of form_of joined filled shown_of name_at severity_names code_names refused_lines checked_lines finding_lines place_from line_start beginnings count_between column_at listed_finding listed_each checked_listing listing of_severity table_file logos phos greek_source greek_nodes greek_output
listing-greek = refl

pub listing-unreadable : listing table_file unreadable_source (worked.tape_of unreadable_nodes) ≡ unreadable_output
unfolding ascii worked.tape_of utf8.table3_7 utf8.begins utf8.width_by utf8.width_of utf8.decoded utf8.decode in_any blank_ranges blank chars_past bytes_before find_byte trim_start kept trim blank_text word_from all_digits value_from digits_from digits parsed half word nodes followed runs equal all one_of lines.lines lines.categories lines.roles entries.position entries.entries_of entries.entries entries.nth names.lemma_names names.default_name names.front_matter names.note_only books.book_codes books.code_from books.book_of attributes.scan_step attributes.attribute_scan attributes.attribute_kinds attributes.findings_at attributes.attributes_findings name_part part_of verse_part verse_end next in_sequence label_of columns_in cell_columns row_from is_alternate is_published plain run_of start_offsets among checks.given checks.after_chapter checks.after_verse checks.leaf_checked checks.book_code upper checks.after_id checks.inline_content checks.has_leaf checks.has_markers checks.number_markers waits_by without_by after_milestone_by open_checked_by walk_by text_before unclosed closing refusal repeated utf8.scan utf8.after_width utf8.first_ill_formed lines.bad_from lines.bad_table reading.step reading.read reading.tape_refusal first_bad label.splits label.label_refusal info_at decimal decimal_fuel first_nine message_text all_texts document_texts number_texts marker_texts attribute_texts code_of form_of joined filled shown_of name_at severity_names code_names refused_lines checked_lines finding_lines place_from line_start beginnings count_between column_at listed_finding listed_each checked_listing listing of_severity table_file unreadable_source unreadable_nodes unreadable_output
listing-unreadable = refl

-- line and column in bytes of the finding, its column, and the columns of the line's start, of the byte behind the first `λ` and of the source's end
pub greek-places : (line_and_column greek_source 32 ≡ record { line = 4; column = 17 }) × (column_at greek_source 32 ≡ 12) × (column_at greek_source 16 ≡ 1) × (column_at greek_source 23 ≡ 7) × (column_at greek_source 44 ≡ 20)
unfolding ascii logos phos greek_source place_from line_start beginnings count_between column_at chars_past utf8.table3_7 utf8.begins utf8.width_by utf8.width_of utf8.decoded utf8.decode
greek-places = (refl, refl, refl, refl, refl)
