-- Each trial item from 1 to 12 gives what document 01 says.
-- Assumes nothing.
use mathlib.Core.Path.{◌≡◌, refl}
use Rattle.text.specs.Literal.{ascii}
use Rattle.text.specs.Pick.{in_any}
use Rattle.text.specs.Blank.{blank_ranges, blank}
use Rattle.text.specs.Utf8.{table3_7, begins, width_by, width_of, decoded, decode}
use Rattle.text.specs.Characters.{chars_past, bytes_before, find_byte}
use Rattle.text.specs.Words.{trim_start, kept, trim}
use Rattle.text.specs.Number.{all_digits, value_from, digits_from, digits, parsed}
use Rattle.numbers.specs.Verse.{part_of, verse_part, verse_end, next, in_sequence}
use Rattle.rows.specs.Cells.{columns_in, cell_columns}
use Rattle.attributes.specs.Attributes.{scan_step, attribute_scan, attribute_kinds}
use Rattle.trial_items.specs.Items.{items, outcomes_of, wanted_outcomes}
use Rattle.text.specs.Bytes.{equal}

pub trial-items : outcomes_of items ≡ wanted_outcomes items
unfolding ascii items outcomes_of wanted_outcomes in_sequence verse_part verse_end next part_of trim_start kept trim digits digits_from all_digits value_from parsed find_byte chars_past bytes_before decode decoded width_of width_by begins table3_7 blank blank_ranges in_any columns_in cell_columns equal attribute_kinds attribute_scan scan_step
trial-items = refl
