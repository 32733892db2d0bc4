-- A piece that is found has as many bytes as the piece that it stands for, at least one and no more than there are; and no other answer stands for it.
-- Assumes nothing.
use Prim.Native.Nat.{ℕ, ◌+◌, ◌-◌, ◌<◌, ◌≤◌}
use mathlib.Core.Path.{◌≡◌, refl, sym, ap, ◌∙◌}
use mathlib.Core.List.{List, [], ◌∷◌}
use Rattle.std.specs.Prelude.{None}
use native.Mathlib.Omega.{arith}
use lib.Dec.{eqb}
use lib.ListN.{length, take, length-take, get_or}
use Rattle.text.specs.Utf8.{Made}
use Rattle.text.proofs.Chars.{byte_le}
use Rattle.text.proofs.WellFormed.{boundary-le}
use Rattle.table.specs.Lines.{bad_table}
use Rattle.reader_spec.specs.Pieces.{bar, run, close, block, chapter, verse, inline, milestone, fault, size_of, piece_at}
use Rattle.reader_spec.specs.Pieces as pieces
use Rattle.reader_spec.proofs.Cuts.{piece_cut, some_bytes}
use Rattle.refusals.specs.declared.Reason.{Reason}
use Rattle.refusals.specs.declared.Reason.TheVariants as reason
use Rattle.refusals.specs.Reasons.{number_of}
use Rattle.pieces.specs.declared.Piece.{Piece}
use Rattle.pieces.specs.declared.Piece.TheVariants as found
use Rattle.pieces.specs.Shown.{shown, bytes_of}
use Rattle.pieces.specs.Depth.{depth_after}

pub shown-size : (t l : List ℕ) (p : Piece) → size_of (shown t l p) ≡ bytes_of p (length l)
shown-size t l (found.Run n) = let h = byte_le (eqb bar) (take n l) in omega (arith, length-take n l)
shown-size t l (found.Close n) = refl
shown-size t l (found.Block m n) = refl
shown-size t l (found.Chapter m n) = refl
shown-size t l (found.Verse m n) = refl
shown-size t l (found.Inline m n) = refl
shown-size t l (found.Milestone m n x y) = refl
shown-size t l (found.Fault k) = refl

-- what `piece_at` finds
module _ (t l : List ℕ) (p : Piece) (is : shown t l p ≡ piece_at t l) where
  pub piece-size : bytes_of p (length l) ≡ size_of (piece_at t l)
  piece-size = sym (shown-size t l p) ∙ ap size_of is

  module _ (sound : bad_table t ≡ None) (made : Made l) (left : 0 < length l) where
    pub piece-some : 1 ≤ bytes_of p (length l)
    piece-some = rw piece-size (some_bytes t l (piece_at t l) (piece_cut t l sound made left).fair)

    pub piece_inside : bytes_of p (length l) ≤ length l
    piece_inside = rw piece-size (boundary-le l (size_of (piece_at t l)) (piece_cut t l sound made left).stops)

-- a piece opens one character or note at the most
pub depth-few : (p : Piece) (d : ℕ) → depth_after p d ≤ d + 1
depth-few (found.Run n) d = omega arith
depth-few (found.Close n) d = omega arith
depth-few (found.Block m n) d = omega arith
depth-few (found.Chapter m n) d = omega arith
depth-few (found.Verse m n) d = omega arith
depth-few (found.Inline m n) d = omega arith
depth-few (found.Milestone m n x y) d = omega arith
depth-few (found.Fault k) d = omega arith

-- the reason that has a number
abbrev reason_by : ℕ → Reason
reason_by n = get_or (reason.BadTableLayout ∷ reason.SourceTooLong ∷ reason.SourceNotUtf8 ∷ reason.BadTapeLength ∷ reason.BadNodeKind ∷ reason.BadNodeSpan ∷ reason.BrokenLinks ∷ reason.TooDeep ∷ reason.SplitLabel ∷ reason.WorkingListTooShort ∷ reason.BadTallyList ∷ reason.NoMessage ∷ reason.MessageListTooShort ∷ reason.CountTooLarge ∷ reason.NoVerses ∷ reason.UnknownMarker ∷ reason.UnmatchedMarker ∷ reason.NodeListTooShort ∷ []) (n - 1) reason.BadTableLayout

reason-again : (r : Reason) → reason_by (number_of r) ≡ r
reason-again reason.BadTableLayout = refl
reason-again reason.SourceTooLong = refl
reason-again reason.SourceNotUtf8 = refl
reason-again reason.BadTapeLength = refl
reason-again reason.BadNodeKind = refl
reason-again reason.BadNodeSpan = refl
reason-again reason.BrokenLinks = refl
reason-again reason.TooDeep = refl
reason-again reason.SplitLabel = refl
reason-again reason.WorkingListTooShort = refl
reason-again reason.BadTallyList = refl
reason-again reason.NoMessage = refl
reason-again reason.MessageListTooShort = refl
reason-again reason.CountTooLarge = refl
reason-again reason.NoVerses = refl
reason-again reason.UnknownMarker = refl
reason-again reason.UnmatchedMarker = refl
reason-again reason.NodeListTooShort = refl

-- the answer that stands for a piece
abbrev found_by : pieces.Piece → Piece
found_by (run x y) = found.Run (x + y)
found_by (close name n) = found.Close n
found_by (block m n) = found.Block m n
found_by (chapter m n link) = found.Chapter m n
found_by (verse m n link) = found.Verse m n
found_by (inline m name n) = found.Inline m n
found_by (milestone m n x y) = found.Milestone m n x y
found_by (fault k n) = found.Fault (reason_by k)

found-again : (t l : List ℕ) (p : Piece) → found_by (shown t l p) ≡ p
found-again t l (found.Run n) = ap found.Run (shown-size t l (found.Run n))
found-again t l (found.Close n) = refl
found-again t l (found.Block m n) = refl
found-again t l (found.Chapter m n) = refl
found-again t l (found.Verse m n) = refl
found-again t l (found.Inline m n) = refl
found-again t l (found.Milestone m n x y) = refl
found-again t l (found.Fault r) = ap found.Fault (reason-again r)

-- the contract of `piece_at` lets one answer through
pub one_answer : (t l : List ℕ) (p q : Piece) → shown t l p ≡ piece_at t l → shown t l q ≡ piece_at t l → p ≡ q
one_answer t l p q e f = sym (found-again t l p) ∙ ap found_by (e ∙ sym f) ∙ found-again t l q
