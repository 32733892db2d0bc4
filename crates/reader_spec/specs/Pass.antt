-- Document 02, K5: one pass over the pieces, which keeps the open block and the open characters and notes, and gives the nodes in their order or the first fault.
use Rattle.std.specs.Prelude.{ℕ, zero, suc, ◌+◌, List, [], ◌∷◌, ◌++◌}
use Rattle.std.specs.Prelude.{Option, Some, None}
use Rattle.text.specs.Pick.{pick}
use Rattle.text.specs.Bytes.{equal}
use Rattle.refusals.specs.Refusal.{unmatched_marker}
use Rattle.reader_spec.specs.Pieces.{Piece, run, close, block, chapter, verse, inline, milestone, fault, size_of, pieces}

-- a node after the root, without what the order of the nodes gives: its own number, and an open's link
pub data ReadNode : Type 0 where
  -- start, len
  text : ℕ → ℕ → ReadNode
  attribute : ℕ → ℕ → ReadNode
  -- marker, start, len, link
  chapter_at : ℕ → ℕ → ℕ → ℕ → ReadNode
  verse_at : ℕ → ℕ → ℕ → ℕ → ReadNode
  -- marker, start, len
  opens : ℕ → ℕ → ℕ → ReadNode
  closes : ℕ → ℕ → ℕ → ReadNode
  -- a BlockEnd: the marker of its block, and the start
  ends : ℕ → ℕ → ReadNode

-- an open character or note: its marker, and its name as written
pub record OpenMarker : Type 0 where
  pub marker : ℕ
  pub name : List ℕ

-- the marker of the open block, or none; the open characters and notes, the innermost first
pub record ReadState : Type 0 where
  pub block : Option ℕ
  pub opened : List OpenMarker

abbrev pub state_with : Option ℕ → List OpenMarker → ReadState
state_with b os = record { block = b; opened = os }

-- at the start of the text nothing is open
abbrev pub nothing_open : ReadState
nothing_open = state_with None []

-- what a piece does: nodes and a state after it, or a number with the place where the piece begins
pub data PieceStep : Type 0 where
  goes : List ReadNode → ReadState → PieceStep
  stops : ℕ → PieceStep

-- a Text, or an Attribute, of so many bytes before other nodes; of none it is no node
abbrev pub with_text : ℕ → ℕ → List ReadNode → List ReadNode
with_text at zero ns = ns
with_text at (suc n) ns = text at (suc n) ∷ ns

abbrev pub with_attribute : ℕ → ℕ → List ReadNode → List ReadNode
with_attribute at zero ns = ns
with_attribute at (suc n) ns = attribute at (suc n) ∷ ns

-- "From `|` to the next backslash is an Attribute inside an open character, note or milestone, and elsewhere one Text with any run before it. Other runs are Text."
abbrev pub run_nodes : List OpenMarker → ℕ → ℕ → ℕ → List ReadNode
run_nodes [] at x y = with_text at (x + y) []
run_nodes (o ∷ os) at x y = with_text at x (with_attribute (at + x) y [])

-- "the next such marker, a Chapter or the end closes it by BlockEnd. BlockEnd is empty, at the byte where the block stops"
abbrev pub with_block_end : Option ℕ → ℕ → List ReadNode → List ReadNode
with_block_end None at ns = ns
with_block_end (Some m) at ns = ends m at ∷ ns

-- "milestones [close] by `\*` directly after the name, or after attributes that only blanks part from it": Text over the blanks, Attribute from `|` on
abbrev pub milestone_nodes : ℕ → ℕ → ℕ → ℕ → ℕ → List ReadNode
milestone_nodes m at n x y = opens m at n ∷ with_text (at + n) x (with_attribute (at + n + x) y (closes m (at + n + x + y) 2 ∷ []))

-- of a block and opens, a place, and the piece there
unfoldable pub piece_step : Option ℕ → List OpenMarker → ℕ → Piece → PieceStep
piece_step b os at (run x y) = goes (run_nodes os at x y) (state_with b os)
-- "Character and note markers close by `\name*` of their own name"; 17 "for a close without its open innermost"
piece_step b [] at (close name n) = stops unmatched_marker
piece_step b (o ∷ os) at (close name n) = pick (equal o.name name) (goes (closes o.marker at n ∷ []) (state_with b os)) (stops unmatched_marker)
-- "A paragraph or identification marker opens a block; the next such marker, a Chapter or the end closes it by BlockEnd."; 17 for "a block marker, Chapter or text's end met with a character or note marker open"
piece_step b [] at (block m n) = goes (with_block_end b at (opens m at n ∷ [])) (state_with (Some m) [])
piece_step b (o ∷ os) at (block m n) = stops unmatched_marker
piece_step b [] at (chapter m n link) = goes (with_block_end b at (chapter_at m at n link ∷ [])) nothing_open
piece_step b (o ∷ os) at (chapter m n link) = stops unmatched_marker
-- a Verse stands anywhere, in characters and notes too
piece_step b os at (verse m n link) = goes (verse_at m at n link ∷ []) (state_with b os)
-- a character or note needs no block around it
piece_step b os at (inline m name n) = goes (opens m at n ∷ []) (state_with b (record { marker = m; name = name } ∷ os))
piece_step b os at (milestone m n x y) = goes (milestone_nodes m at n x y) (state_with b os)
piece_step b os at (fault number n) = stops number

-- the nodes in their order, or number 16 or 17 with its place
pub data PassOutcome : Type 0 where
  passed : List ReadNode → PassOutcome
  faulty : ℕ → ℕ → PassOutcome

abbrev pub with_nodes : List ReadNode → PassOutcome → PassOutcome
with_nodes ns (passed later) = passed (ns ++ later)
with_nodes ns (faulty number place) = faulty number place

-- "of 16 and 17 the earlier place": a piece that stops ends the pass
abbrev pub pass_on : PieceStep → ℕ → (ReadState → PassOutcome) → PassOutcome
pass_on (goes ns st) at rest = with_nodes ns (rest st)
pass_on (stops number) at rest = faulty number at

-- 17 for "text's end met with a character or note marker open, place .. the text's length"; an open block ends there
abbrev pub pass_end : Option ℕ → List OpenMarker → ℕ → PassOutcome
pass_end b [] at = passed (with_block_end b at [])
pass_end b (o ∷ os) at = faulty unmatched_marker at

-- the pieces from a place on
unfoldable pub pass : ℕ → List Piece → ReadState → PassOutcome
pass at [] st = pass_end st.block st.opened at
pass at (p ∷ ps) st = pass_on (piece_step st.block st.opened at p) at (pass (at + size_of p) ps)

-- of a table and a text
unfoldable pub outcome : List ℕ → List ℕ → PassOutcome
outcome t s = pass 0 (pieces t s) nothing_open
