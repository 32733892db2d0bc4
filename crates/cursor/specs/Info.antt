-- "Marker metadata for marker-bearing nodes", as the Rust's `marker_info` gives it.
use Rattle.std.specs.Prelude.{ℕ, Bool, true, false, ◌||◌, List, eqb}
use Rattle.std.specs.Prelude.{Option, None}
use Rattle.text.specs.Pick.{within}
use Rattle.tape.specs.Nodes.{kind_at, marker_at, marker_open_kind, verse_kind, block_end_kind}
use Rattle.table.specs.Entries.{Entry, entries, nth}

-- MarkerOpen, MarkerClose, Chapter, Verse, BlockEnd
abbrev pub has_marker : ℕ → Bool
has_marker k = within marker_open_kind verse_kind k || eqb k block_end_kind

abbrev pub only_for : Bool → Option Entry → Option Entry
only_for true e = e
only_for false e = None

-- the entry of a node of tape t in the table
unfoldable pub info_at : List ℕ → List ℕ → ℕ → Option Entry
info_at table t i = only_for (has_marker (kind_at t i)) (nth (entries table) (marker_at t i))
