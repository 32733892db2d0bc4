-- The worked example of sections: the second `\ca` keeps its finding in a section of its own, and a section that ends inside a marker is turned back.
-- Assumes nothing.
use native.Mathlib.Omega.{arith}
use mathlib.Core.Path.{◌≡◌, refl}
use mathlib.Core.List.{[], ◌∷◌}
use Rattle.std.specs.Prelude.{None}
use Rattle.text.specs.Literal.{ascii}
use Rattle.text.specs.Pick.{in_any}
use Rattle.text.specs.Blank.{blank_ranges, blank}
use Rattle.text.specs.Utf8 as utf8
use Rattle.text.specs.Characters.{chars_past, bytes_before, find_byte}
use Rattle.text.specs.Words.{trim_start, kept, trim, blank_text, word_from}
use Rattle.text.specs.Bytes.{equal, all, one_of, upper}
use Rattle.tape.specs.Nodes.{half, word, nodes}
use Rattle.tape.specs.Forest.{followed, runs}
use Rattle.tape.specs.Reading as reading
use Rattle.refusals.specs.Refusal.{first_bad, refuse}
use Rattle.table.specs.Lines as lines
use Rattle.table.specs.Entries as entries
use Rattle.table.specs.Names as names
use Rattle.table.specs.Books as books
use Rattle.cursor.specs.Names.{name_part}
use Rattle.cursor.specs.Info.{info_at}
use Rattle.numbers.specs.Label as label
use Rattle.numbers.specs.Label.{label_of}
use Rattle.attributes.specs.Attributes as attributes
use Rattle.attachment.specs.Attached.{is_alternate, is_published, plain, run_of, start_offsets, among}
use Rattle.definition.specs.Checks as checks
use Rattle.definition.specs.Milestones.{after_milestone_by}
use Rattle.definition.specs.Walk.{open_checked_by, walk_by}
use Rattle.definition.specs.Document.{text_before, unclosed, closing}
use Rattle.definition.specs.Outcome.{refusal, repeated}
use Rattle.definition.specs.Examples.{example_table, tape_of, lent_of}
use Rattle.definition.specs.Sections.{numbers_of, sections, after_sections, close_findings, Covering}
use Rattle.definition.specs.Carried.{bad_starts}
use Rattle.definition.specs.Calls.{begun_record, section_refusal}
use Rattle.definition.specs.SectionsExample.{two_numbers, section_ends, example_sections, example_end}

pub sections-example : (example_sections ≡ [] ∷ [] ∷ two_numbers.wanted ∷ []) × (close_findings example_end ≡ [])
unfolding ascii example_table tape_of two_numbers utf8.table3_7 utf8.begins utf8.width_by utf8.width_of utf8.decoded utf8.decode in_any blank_ranges blank chars_past bytes_before find_byte trim_start kept trim blank_text word_from half word nodes followed runs equal all one_of lines.lines lines.categories lines.roles entries.position entries.entries_of entries.entries entries.nth names.front_matter names.note_only books.book_codes books.code_from books.book_of attributes.attributes_findings name_part label_of is_alternate is_published plain run_of start_offsets among checks.given checks.after_chapter checks.after_verse checks.leaf_checked checks.book_code upper checks.after_id checks.has_leaf checks.number_markers after_milestone_by open_checked_by walk_by text_before unclosed closing sections after_sections
sections-example = (refl, refl)

-- the sections cover it, a section that ends at node 6, inside the first `\ca`, is turned back at the record's place, and one that ends at node 5 is not
pub sections-example-borders : Covering two_numbers.source (tape_of two_numbers.nodes) section_ends × (section_refusal (lent_of two_numbers) begun_record 1 6 ≡ refuse 19 1) × (section_refusal (lent_of two_numbers) begun_record 1 5 ≡ None)
unfolding ascii example_table tape_of two_numbers utf8.table3_7 utf8.begins utf8.width_by utf8.width_of utf8.decoded utf8.decode in_any blank_ranges blank chars_past bytes_before word_from half word nodes runs equal all one_of lines.lines lines.categories lines.roles entries.position entries.entries_of entries.entries entries.nth name_part refusal repeated utf8.scan utf8.after_width utf8.first_ill_formed lines.bad_from lines.bad_table reading.step reading.read reading.tape_refusal first_bad label.splits label.label_refusal info_at numbers_of among bad_starts
sections-example-borders = ((omega arith, refl, (omega arith, refl, (omega arith, refl, refl))), refl, refl)
