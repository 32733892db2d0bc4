-- The two checks of markers that are missing, by name.
-- Assumes nothing.
use mathlib.Core.Bool.{not, ◌&&◌, ◌||◌}
use Rattle.definition.specs.Checks.{Check, when}
use Rattle.definition.specs.Document.{of_document}
use Rattle.state.specs.declared.State.{State}
use Rattle.findings.specs.Codes.{missing_id_marker, missing_chapter_marker}

abbrev pub no_id : State → Check
no_id r = when (not r.has_id && (r.has_chapter || r.has_verse)) (of_document missing_id_marker)

abbrev pub no_chapter : State → Check
no_chapter r = when ((r.has_id || r.has_verse) && (not r.has_chapter && not r.front_matter)) (of_document missing_chapter_marker)
