-- What the code's first pass keeps: the pass from a place on, the count of nodes, and the places of the open characters and notes.
use Rattle.std.specs.Prelude.{ℕ, ◌+◌, ◌%◌, ◌<◌, ◌≤◌, ◌≡◌, List, [], ◌∷◌, leb, length, get_or, drop}
use Rattle.std.specs.Prelude.{Some}
use Rattle.text.specs.Pick.{pick}
use Rattle.table.specs.Names.{looked_up}
use Rattle.cursor.specs.Names.{name_of}
use Rattle.reader_spec.specs.Pieces.{Piece, run, close, block, chapter, verse, inline, milestone, fault, size_of, pieces}
use Rattle.reader_spec.specs.Pass.{OpenMarker, ReadState, PassOutcome, passed, faulty, pass}
use Rattle.reader_spec.specs.Rows.{except_first}

-- the pass from a place of the text on
abbrev pub pass_at : List ℕ → List ℕ → ℕ → ReadState → PassOutcome
pass_at t s at st = pass at (pieces t (drop at s)) st

-- what the first pass says: a fault, or the number of nodes
pub data Count : Type 0 where
  nodes : ℕ → Count
  fault_at : ℕ → ℕ → Count

-- of what is left, when c nodes are counted
abbrev pub counted_on : ℕ → PassOutcome → Count
counted_on c (passed xs) = nodes (c + length xs)
counted_on c (faulty number place) = fault_at number place

-- the places of the open characters and notes, the innermost first: their names and markers are read again from the text
unfoldable pub PlacedOpens : List ℕ → List ℕ → List ℕ → List OpenMarker → Type 0
PlacedOpens t s [] [] = Unit {0}
PlacedOpens t s [] (o ∷ os) = ⊥
PlacedOpens t s (p ∷ ps) [] = ⊥
PlacedOpens t s (p ∷ ps) (o ∷ os) = (p < length s) × (o.name ≡ name_of (drop p s)) × (looked_up t (name_of (drop p s)) ≡ Some o.marker) × PlacedOpens t s ps os

-- the places after a piece at a place: neither names nor a state are needed for them
abbrev pub places_after : Piece → ℕ → List ℕ → List ℕ
places_after (run x y) at ps = ps
places_after (close name n) at ps = except_first ps
places_after (block m n) at ps = ps
places_after (chapter m n link) at ps = ps
places_after (verse m n link) at ps = ps
places_after (inline m name n) at ps = at ∷ ps
places_after (milestone m n x y) at ps = ps
places_after (fault number n) at ps = ps

-- those at a place `to`, from a place on where these are open: what a rescan finds again
unfoldable pub open_to : ℕ → ℕ → List Piece → List ℕ → List ℕ
open_to to at [] ps = ps
open_to to at (x ∷ xs) ps = pick (leb to at) ps (open_to to (at + size_of x) xs (places_after x at ps))

abbrev pub open_from : List ℕ → List ℕ → ℕ → ℕ → List ℕ → List ℕ
open_from t s to at ps = open_to to at (pieces t (drop at s)) ps

-- how many places a window keeps
abbrev pub window : ℕ
window = 8192

-- a window of places: the open with k others around it has its place at k mod the window's length, for as many k from low on as the window holds
unfoldable pub Kept : List ℕ → ℕ → List ℕ → Type 0
Kept w low [] = Unit {0}
Kept w low (p ∷ ps) = (low ≤ length ps → length ps < low + window → get_or w (length ps % window) 0 ≡ p) × Kept w low ps
