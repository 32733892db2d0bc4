-- What the functions of the first pass need and promise.
use Rattle.std.specs.Prelude.{ℕ, ◌+◌, ◌-◌, ◌%◌, ◌<◌, ◌≤◌, ◌≡◌, Bool, true, false, ◌&&◌, List, [], eqb, ltb, leb, length, get_or, set, drop}
use Rattle.std.specs.Prelude.{Option, Some, None, Result, Ok, Err}
use Rattle.text.specs.Pick.{pick}
use Rattle.text.specs.Bytes.{equal}
use Rattle.text.specs.Characters.{find_byte}
use Rattle.cursor.specs.Names.{name_of}
use Rattle.refusals.specs.Reasons.{number_of}
use Rattle.refusals.specs.declared.Reason.{Reason}
use Rattle.refusals.specs.declared.Reason.TheVariants.{UnmatchedMarker}
use Rattle.refusals.specs.declared.Refusal.{Refusal}
use Rattle.reader_spec.specs.Pieces.{bar, piece_at}
use Rattle.reader_spec.specs.InnerSteps.{Count, nodes, fault_at, open_from, window, Kept}
use Rattle.pieces.specs.Closes.{is_inline, OwnClose}
use Rattle.pieces.specs.declared.Piece.{Piece}
use Rattle.pieces.specs.declared.Piece.TheVariants as found

-- what the answer of the first pass says: a fault with its place, or the number of nodes
abbrev pub count_of : Result ℕ Refusal → Count
count_of (Ok n) = nodes n
count_of (Err r) = fault_at (number_of r.reason) r.place

abbrev pub one : Bool → ℕ
one true = 1
one false = 0

-- how many nodes a run with the text l gives, where d characters and notes are open: with none one Text, else what stands before its first `|` and what stands from there on
abbrev pub run_count : ℕ → List ℕ → ℕ
run_count d l = pick (eqb d 0) 1 (one (ltb 0 (find_byte (eqb bar) l)) + one (ltb (find_byte (eqb bar) l) (length l)))

-- how many nodes a piece with the text l gives that is no fault: d characters and notes are open, and a block or none
abbrev pub nodes_in : ℕ → Bool → List ℕ → Piece → ℕ
nodes_in d block l (found.Run n) = run_count d l
nodes_in d block l (found.Close n) = 1
nodes_in d block l (found.Block m n) = one block + 1
nodes_in d block l (found.Chapter m n) = one block + 1
nodes_in d block l (found.Verse m n) = 1
nodes_in d block l (found.Inline m n) = 1
nodes_in d block l (found.Milestone m n x y) = 2 + one (ltb 0 x) + one (ltb 0 y)
nodes_in d block l (found.Fault k) = 0

-- whether a block is open behind a piece
abbrev pub block_after : Piece → Bool → Bool
block_after (found.Run n) b = b
block_after (found.Close n) b = b
block_after (found.Block m n) b = true
block_after (found.Chapter m n) b = false
block_after (found.Verse m n) b = b
block_after (found.Inline m n) b = b
block_after (found.Milestone m n x y) b = b
block_after (found.Fault k) b = b

-- the place of the innermost open, of d that are open
abbrev pub innermost_place : List ℕ → ℕ → ℕ
innermost_place w d = get_or w ((d - 1) % window) 0

-- a close at a place of the text: 17 where nothing is open, or the innermost has another name
abbrev pub close_fault : List ℕ → ℕ → List ℕ → ℕ → Option Reason
close_fault s at w d = pick (eqb d 0) (Some UnmatchedMarker) (pick (equal (name_of (drop (innermost_place w d) s)) (name_of (drop at s))) None (Some UnmatchedMarker))

-- a block marker or a Chapter: 17 where a character or note is open
abbrev pub block_fault : ℕ → Option Reason
block_fault d = pick (eqb d 0) None (Some UnmatchedMarker)

-- the reason that a piece is turned back with
abbrev pub piece_fault : List ℕ → ℕ → List ℕ → ℕ → Piece → Option Reason
piece_fault s at w d (found.Run n) = None
piece_fault s at w d (found.Close n) = close_fault s at w d
piece_fault s at w d (found.Block m n) = block_fault d
piece_fault s at w d (found.Chapter m n) = block_fault d
piece_fault s at w d (found.Verse m n) = None
piece_fault s at w d (found.Inline m n) = None
piece_fault s at w d (found.Milestone m n x y) = None
piece_fault s at w d (found.Fault r) = Some r

-- the window behind a piece: it keeps the place of a character or note marker that it reaches
abbrev pub place_kept : List ℕ → ℕ → ℕ → ℕ → Piece → List ℕ
place_kept w low d at (found.Run n) = w
place_kept w low d at (found.Close n) = w
place_kept w low d at (found.Block m n) = w
place_kept w low d at (found.Chapter m n) = w
place_kept w low d at (found.Verse m n) = w
place_kept w low d at (found.Inline m n) = pick (leb low d && ltb d (low + window)) (set w (d % window) at) w
place_kept w low d at (found.Milestone m n x y) = w
place_kept w low d at (found.Fault k) = w

-- at a place of the text d characters and notes are open, and the window keeps the places of those from low on
pub record Windowed (t s : List ℕ) (at d low : ℕ) (w : List ℕ) : Type 0 where
  pub long : length w ≡ window
  pub deep : length (open_from t s at 0 []) ≡ d
  pub from : low ≤ d
  pub reach : d ≤ low + window
  pub kept : Kept w low (open_from t s at 0 [])

-- the window is ready for a piece: it has the place of the innermost where a close asks for it, and room for one more
abbrev pub ReadyFor : Piece → ℕ → ℕ → Type 0
ReadyFor (found.Run n) d low = Unit {0}
ReadyFor (found.Close n) d low = 0 < d → low < d
ReadyFor (found.Block m n) d low = Unit {0}
ReadyFor (found.Chapter m n) d low = Unit {0}
ReadyFor (found.Verse m n) d low = Unit {0}
ReadyFor (found.Inline m n) d low = d < low + window
ReadyFor (found.Milestone m n x y) d low = Unit {0}
ReadyFor (found.Fault k) d low = Unit {0}

-- where the name of the innermost open is read for a close
abbrev pub Nameable : Piece → List ℕ → List ℕ → ℕ → Type 0
Nameable (found.Run n) s w d = Unit {0}
Nameable (found.Close n) s w d = 0 < d → innermost_place w d ≤ length s
Nameable (found.Block m n) s w d = Unit {0}
Nameable (found.Chapter m n) s w d = Unit {0}
Nameable (found.Verse m n) s w d = Unit {0}
Nameable (found.Inline m n) s w d = Unit {0}
Nameable (found.Milestone m n x y) s w d = Unit {0}
Nameable (found.Fault k) s w d = Unit {0}

-- a close of r bytes stands at a place, with the name of the innermost open, of d that are open; the window has its place
pub record InnermostClosed (s : List ℕ) (at : ℕ) (w : List ℕ) (d low r : ℕ) : Type 0 where
  pub some : low < d
  pub close : (t : List ℕ) → is_inline (piece_at t (drop (innermost_place w d) s)) ≡ true → OwnClose t (drop (innermost_place w d) s) (drop at s) r
