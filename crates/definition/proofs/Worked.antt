-- Each worked example is accepted, and has the findings that document 01 gives it.
-- Assumes nothing.
use mathlib.Core.Path.{◌≡◌, refl}
use mathlib.Core.List.{[], ◌∷◌}
use Rattle.std.specs.Prelude.{None}
use Rattle.text.specs.Literal.{ascii}
use Rattle.text.specs.Pick.{in_any}
use Rattle.text.specs.Blank.{blank_ranges, blank}
use Rattle.text.specs.Utf8 as utf8
use Rattle.text.specs.Characters.{chars_past, bytes_before, find_byte}
use Rattle.text.specs.Words.{trim_start, kept, trim, blank_text, word_from}
use Rattle.text.specs.Number.{all_digits, value_from, digits_from, digits, parsed}
use Rattle.tape.specs.Nodes.{half, word, nodes}
use Rattle.tape.specs.Forest.{followed, runs}
use Rattle.tape.specs.Reading as reading
use Rattle.refusals.specs.Refusal.{first_bad}
use Rattle.table.specs.Lines as lines
use Rattle.table.specs.Entries as entries
use Rattle.table.specs.Names as names
use Rattle.table.specs.Books as books
use Rattle.cursor.specs.Names.{name_part}
use Rattle.cursor.specs.Info.{info_at}
use Rattle.numbers.specs.Verse.{part_of, verse_part, verse_end, next, in_sequence}
use Rattle.numbers.specs.Label as label
use Rattle.numbers.specs.Label.{label_of}
use Rattle.rows.specs.Cells.{columns_in, cell_columns}
use Rattle.rows.specs.Row.{row_from}
use Rattle.attributes.specs.Attributes as attributes
use Rattle.attachment.specs.Attached.{is_alternate, is_published, plain, run_of, start_offsets, among}
use Rattle.definition.specs.Checks as checks
use Rattle.definition.specs.Milestones.{waits_by, without_by, after_milestone_by, visits, taking_by, marks_from_by}
use Rattle.definition.specs.Walk.{open_checked_by, walk_by}
use Rattle.definition.specs.Outcome.{refusal, repeated}
use Rattle.definition.specs.Document.{text_before, unclosed, closing, those}
use Rattle.definition.specs.Examples as worked
use Rattle.text.specs.Bytes.{equal, all, one_of, upper}

pub worked-examples : worked.findings_of worked.examples ≡ worked.wanted_findings worked.examples
unfolding ascii worked.findings_of worked.wanted_findings worked.examples worked.example_table worked.tape_of worked.example1 worked.example2 worked.example3 worked.example4 worked.example5 worked.example6 worked.example7 worked.example8 worked.example9 worked.example10 worked.example11 worked.example12 worked.example13 worked.example14 worked.example15 worked.shorter_document worked.longer_document worked.quotations utf8.table3_7 utf8.begins utf8.width_by utf8.width_of utf8.decoded utf8.decode in_any blank_ranges blank chars_past bytes_before find_byte trim_start kept trim blank_text word_from all_digits value_from digits_from digits parsed half word nodes followed runs equal all one_of lines.lines lines.categories lines.roles entries.position entries.entries_of entries.entries entries.nth names.lemma_names names.default_name names.front_matter names.note_only books.book_codes books.code_from books.book_of attributes.scan_step attributes.attribute_scan attributes.attribute_kinds attributes.findings_at attributes.attributes_findings name_part part_of verse_part verse_end next in_sequence label_of columns_in cell_columns row_from is_alternate is_published plain run_of start_offsets among checks.given checks.after_chapter checks.after_verse checks.leaf_checked checks.book_code upper checks.after_id checks.inline_content checks.has_leaf checks.has_markers checks.number_markers waits_by without_by after_milestone_by open_checked_by walk_by text_before unclosed closing
worked-examples = refl

-- none of the numbers 1 to 10 turns an example back
pub worked-accepted : worked.refusals_of worked.examples ≡ worked.none_of worked.examples
unfolding ascii worked.examples worked.example1 worked.example2 worked.example3 worked.example4 worked.example5 worked.example6 worked.example7 worked.example8 worked.example9 worked.example10 worked.example11 worked.example12 worked.example13 worked.example14 worked.example15 worked.shorter_document worked.longer_document worked.quotations worked.example_table worked.tape_of utf8.table3_7 utf8.begins utf8.width_by utf8.width_of utf8.decoded utf8.decode in_any blank_ranges blank chars_past bytes_before find_byte trim_start kept trim blank_text word_from half word equal all one_of lines.lines lines.categories lines.roles entries.position entries.entries_of entries.entries entries.nth name_part worked.refusals_of worked.none_of refusal repeated utf8.scan utf8.after_width utf8.first_ill_formed lines.bad_from lines.bad_table reading.step reading.read reading.tape_refusal first_bad label.splits label.label_refusal info_at
worked-accepted = refl

-- the account of a document's two bases in numbers, and the document is accepted
pub quotation-example : (worked.account_of (ascii "qt") worked.quotations ≡ 2 ∷ 3 ∷ 2 ∷ 1 ∷ []) × (worked.account_of (ascii "qt1") worked.quotations ≡ 3 ∷ 1 ∷ 1 ∷ 2 ∷ []) × (refusal (worked.lent_of worked.quotations) ≡ None)
unfolding ascii worked.quotations worked.example_table worked.tape_of utf8.table3_7 utf8.begins utf8.width_by utf8.width_of utf8.decoded utf8.decode in_any blank_ranges blank chars_past bytes_before blank_text word_from half word equal all one_of lines.lines lines.categories lines.roles entries.position entries.entries_of entries.entries entries.nth name_part refusal repeated utf8.scan utf8.after_width utf8.first_ill_formed lines.bad_from lines.bad_table reading.step reading.read reading.tape_refusal first_bad label.splits label.label_refusal info_at nodes runs names.front_matter names.note_only books.book_codes books.code_from books.book_of attributes.attributes_findings label_of among checks.given checks.after_chapter checks.leaf_checked checks.book_code checks.after_id checks.number_markers waits_by without_by after_milestone_by open_checked_by walk_by text_before unclosed closing visits taking_by marks_from_by those
quotation-example = (refl, refl, refl)
