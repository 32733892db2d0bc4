-- A test of a marker. Where it holds, the marker has no finding and its children change nothing, which `skipped-marked` and, in `walk`, `visited-skipped` prove; it holds of most markers of a book.
use Rattle.std.specs.Prelude.{ℕ, Bool, true, false, not, ◌&&◌, ◌||◌, List, eqb}
use Rattle.text.specs.Pick.{cut, pick}
use Rattle.tape.specs.Forest.{Forest, end, leaf, node}
use Rattle.table.specs.Entries.{Entry, paragraph_category, character_category}
use Rattle.definition.specs.State as state
use Rattle.definition.specs.Checks.{number_markers, b_name, fig_name, id_name, rb_name, tr_name, w_name}
use Rattle.marker_checks.specs.InnerVisit.{children_at}
use Rattle.tape.specs.Nodes.{text_kind}
use Rattle.text.specs.Bytes.{equal, one_of}

-- a run of Texts
unfoldable pub only_texts : Forest → Bool
only_texts end = true
only_texts (leaf x r) = eqb x.kind text_kind && only_texts r
only_texts (node x c r) = false

-- a name for which there is a check
abbrev pub has_own_check : List ℕ → Bool
has_own_check name =
    (equal name b_name || equal name w_name) || ((equal name id_name || equal name rb_name) || ((equal name tr_name || equal name fig_name) || one_of number_markers name))

-- a paragraph behind a chapter, or a character marker in a note
abbrev pub placed : Entry → state.WalkContext → Bool → Bool
placed e o chapter = pick (eqb e.category paragraph_category) chapter (eqb e.category character_category && o.in_note)

-- by its name in the table, its context, whether a chapter comes before it, and its children
abbrev pub can_skip_marker : List ℕ → Entry → state.WalkContext → Bool → Forest → Bool
can_skip_marker name e o chapter c = placed e o chapter && (only_texts c && not (has_own_check name))

-- of node i with its table entry
abbrev pub can_skip_marker_at : List ℕ → List ℕ → List ℕ → state.WalkContext → Entry → ℕ → Bool → Bool
can_skip_marker_at table s t o e i chapter = can_skip_marker (cut e.name table) e o chapter (children_at s t i)
