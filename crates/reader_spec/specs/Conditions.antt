-- Document 02, K5, "Answers": when each number of the reader is given, and with which place. The conditions of 16 and 17 are read off the text at a place, and off the open characters and notes that the pass has there.
use Rattle.std.specs.Prelude.{ℕ, ◌+◌, ◌<◌, ◌≤◌, ◌≡◌, Bool, true, false, not, ◌&&◌, ◌||◌, List, [], ◌∷◌, ◌⊎◌, eqb, length, drop}
use Rattle.std.specs.Prelude.{Option, Some, None}
use Rattle.text.specs.Bytes.{equal}
use Rattle.text.specs.Utf8.{FirstIllFormed}
use Rattle.refusals.specs.Refusal.{Refusal, refuse, bad_table_layout, source_too_long, source_not_utf8, unknown_marker, unmatched_marker, node_list_too_short}
use Rattle.tape.specs.Nodes.{count}
use Rattle.table.specs.Lines.{bad_table}
use Rattle.table.specs.Entries.{Entry, entries, nth, category_of, identification_category, chapter_category, paragraph_category, milestone_category, other_category}
use Rattle.table.specs.Inner.{category_at}
use Rattle.table.specs.Conditions.{NumberOne}
use Rattle.table.specs.Names.{looked_up}
use Rattle.cursor.specs.Names.{name_of}
use Rattle.reader_spec.specs.Pieces.{size_of, backslash, star, byte_is, star_at, name_end, closed_after, piece_at}
use Rattle.reader_spec.specs.Pass.{ReadNode, OpenMarker, ReadState, nothing_open, goes, piece_step, passed, outcome}
use Rattle.reader_spec.specs.Rows.{node_count}
use Rattle.reader_spec.specs.Promise.{Legible}

-- the entry of the marker that the list begins with: "Markers are found by `lookup`."
abbrev pub entry_at : List ℕ → Option ℕ → Option Entry
entry_at t None = None
entry_at t (Some m) = nth (entries t) m

abbrev pub entry_found : List ℕ → List ℕ → Option Entry
entry_found t l = entry_at t (looked_up t (name_of l))

-- it has an entry of the category
abbrev pub of_category : ℕ → Option Entry → Bool
of_category c None = false
of_category c (Some e) = eqb (category_of (category_at e.category)) c

-- it has none, or one of category other
abbrev pub none_or_other : Option Entry → Bool
none_or_other None = true
none_or_other (Some e) = of_category other_category (Some e)

-- 16: "an unknown marker (`\*` is a close, no marker) or one of category other"
abbrev pub is_unknown : List ℕ → List ℕ → Bool
is_unknown t l = byte_is backslash l 0 && (not (byte_is star l 1) && none_or_other (entry_found t l))

-- the innermost open character or note has the name
abbrev pub innermost_is : List OpenMarker → List ℕ → Bool
innermost_is [] name = false
innermost_is (o ∷ os) name = equal o.name name

abbrev pub some_open : List OpenMarker → Bool
some_open [] = false
some_open (o ∷ os) = true

-- "a close without its open innermost": `\*` that no milestone has taken, or `\name*`
abbrev pub close_alone : List ℕ → List OpenMarker → Bool
close_alone l os = byte_is star l 1 || (byte_is star l (name_end l) && not (innermost_is os (name_of l)))

-- "a milestone not closed as above"
abbrev pub milestone_open : Option Entry → List ℕ → Bool
milestone_open e l = of_category milestone_category e && not (star_at l (name_end l) || closed_after l)

-- "a block marker, Chapter .. met with a character or note marker open"
abbrev pub block_inside : Option Entry → List OpenMarker → Bool
block_inside e os = some_open os && (of_category paragraph_category e || (of_category identification_category e || of_category chapter_category e))

-- 17, in the sentence's order. A star behind the name makes a close of any marker: the second and the third are of markers without one
abbrev pub is_unmatched : List ℕ → List ℕ → List OpenMarker → Bool
is_unmatched t l os =
    byte_is backslash l 0 && (close_alone l os || (not (byte_is star l (name_end l)) && (milestone_open (entry_found t l) l || block_inside (entry_found t l) os)))

-- the pass comes to a place with this block and these opens: no piece before it stops, so no earlier place has 16 or 17
pub data PassReaches (t s : List ℕ) : ℕ → ReadState → Type 0 where
  start : PassReaches t s 0 nothing_open
  next : {at to : ℕ} {st st' : ReadState} {ns : List ReadNode} → PassReaches t s at st → at < length s → piece_step st.block st.opened at (piece_at t (drop at s)) ≡ goes ns st' → to ≡ at + size_of (piece_at t (drop at s)) → PassReaches t s to st'

-- "place its backslash"
pub record UnknownAt (t s : List ℕ) (place : ℕ) : Type 0 where
  pub held : ReadState
  pub comes : PassReaches t s place held
  pub is : is_unknown t (drop place s) ≡ true

-- "place that backslash (for a milestone its own)"; "at one place 16"
pub record UnmatchedAt (t s : List ℕ) (place : ℕ) : Type 0 where
  pub held : ReadState
  pub comes : PassReaches t s place held
  pub known : is_unknown t (drop place s) ≡ false
  pub is : is_unmatched t (drop place s) held.opened ≡ true

-- "text's end met with a character or note marker open, place .. the text's length"
pub record EndsOpen (t s : List ℕ) (place : ℕ) : Type 0 where
  pub held : ReadState
  pub comes : PassReaches t s place held
  pub at_end : place ≡ length s
  pub is : some_open held.opened ≡ true

-- of these conditions just one holds: `read_number` in proofs/OneNumber.antt
pub data GivenRead (t s nodes : List ℕ) : Option Refusal → Type 0 where
  by1 : (place : ℕ) → NumberOne t place → GivenRead t s nodes (refuse bad_table_layout place)
  by2 : bad_table t ≡ None → 1048576 < length s → GivenRead t s nodes (refuse source_too_long 0)
  by3 : (place : ℕ) → bad_table t ≡ None → length s ≤ 1048576 → FirstIllFormed s place → GivenRead t s nodes (refuse source_not_utf8 place)
  by16 : (place : ℕ) → Legible t s → UnknownAt t s place → GivenRead t s nodes (refuse unknown_marker place)
  by17 : (place : ℕ) → Legible t s → UnmatchedAt t s place ⊎ EndsOpen t s place → GivenRead t s nodes (refuse unmatched_marker place)
  by18 : (xs : List ReadNode) → Legible t s → outcome t s ≡ passed xs → count nodes < node_count xs → GivenRead t s nodes (refuse node_list_too_short (node_count xs))
  by_none : (xs : List ReadNode) → Legible t s → outcome t s ≡ passed xs → node_count xs ≤ count nodes → GivenRead t s nodes None
