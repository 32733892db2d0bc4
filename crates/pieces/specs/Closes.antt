-- What is known of a piece before it is found: that it is no fault, or that a list begins with a character or note marker and another with its close.
use Rattle.std.specs.Prelude.{ℕ, ◌≡◌, Bool, true, false, List}
use Rattle.text.specs.Bytes.{equal}
use Rattle.cursor.specs.Names.{name_of}
use Rattle.reader_spec.specs.Pieces.{Piece, run, close, block, chapter, verse, inline, milestone, fault, piece_at}

abbrev pub is_fault : Piece → Bool
is_fault (run x y) = false
is_fault (close name n) = false
is_fault (block m n) = false
is_fault (chapter m n link) = false
is_fault (verse m n link) = false
is_fault (inline m name n) = false
is_fault (milestone m n x y) = false
is_fault (fault number n) = true

-- a character or note marker
abbrev pub is_inline : Piece → Bool
is_inline (run x y) = false
is_inline (close name n) = false
is_inline (block m n) = false
is_inline (chapter m n link) = false
is_inline (verse m n link) = false
is_inline (inline m name n) = true
is_inline (milestone m n x y) = false
is_inline (fault number n) = false

-- the list l begins with a close of r bytes, which has the name that the list o begins with
pub record OwnClose (t o l : List ℕ) (r : ℕ) : Type 0 where
  pub is : close (name_of l) r ≡ piece_at t l
  pub same : equal (name_of o) (name_of l) ≡ true
