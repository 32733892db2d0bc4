-- A star behind a name makes a close of each marker that isn't a fault: the name has an entry, and none of category other.
-- Assumes nothing.
use Prim.Native.Nat.{ℕ, ◌+◌}
use mathlib.Core.Path.{◌≡◌, refl, sym, ◌∙◌}
use mathlib.Core.Bool.{Bool, true, false, false≢true}
use mathlib.Core.List.{List}
use Rattle.std.specs.Prelude.{Option, Some, None}
use lib.ListN.{length}
use Rattle.text.specs.Bytes.{equal}
use Rattle.text.specs.Pick.{pick}
use Rattle.text.proofs.Blocks.{equal-true}
use Rattle.table.specs.Entries.{Entry, entries, nth}
use Rattle.table.specs.Inner.{category_at}
use Rattle.table.specs.Names.{looked_up}
use Rattle.table.specs.declared.Category.{Category}
use Rattle.table.specs.declared.Category.TheVariants as category
use Rattle.cursor.specs.Names.{name_of}
use Rattle.refusals.specs.Refusal.{unmatched_marker}
use Rattle.reader_spec.specs.Pieces.{Piece, run, close, block, chapter, verse, inline, milestone, fault, backslash, star, byte_is, name_end, known_piece, entry_piece, found_piece, marker_piece, run_piece, piece_at}
use Rattle.pieces.specs.Closes.{is_fault, is_inline, OwnClose}

-- the name has an entry, and none of category other
pub record Usable (t name : List ℕ) : Type 0 where
  pub number : ℕ
  pub entry : Entry
  pub found : looked_up t name ≡ Some number
  pub there : nth (entries t) number ≡ Some entry
  pub usable : category_at entry.category ≡ category.Other → ⊥

module _ (t l : List ℕ) where
  pub marker-usable : is_fault (marker_piece t l) ≡ false → Usable t (name_of l)
  unfolding marker_piece known_piece
  marker-usable = go (looked_up t (name_of l)) refl
    where
      by : (k : ℕ) → looked_up t (name_of l) ≡ Some k → (x : Option Entry) → nth (entries t) k ≡ x → is_fault (entry_piece k x l) ≡ false → Usable t (name_of l)
      by k q None r h = absurd (false≢true (sym h))
      by k q (Some e) r h = record { number = k; entry = e; found = q; there = r; usable = λ z. false≢true (sym (rw z at h)) }

      go : (o : Option ℕ) → looked_up t (name_of l) ≡ o → is_fault (found_piece t o l) ≡ false → Usable t (name_of l)
      go None q h = absurd (false≢true (sym h))
      go (Some k) q h = by k q (nth (entries t) k) refl h

  known-star : (c : Category) (m : ℕ) (e : Entry) → (c ≡ category.Other → ⊥) → byte_is star l (name_end l) ≡ true → close (name_of l) (name_end l + 1) ≡ known_piece c m e l
  unfolding known_piece
  known-star category.Identification m e z h = rw h
  known-star category.Chapter m e z h = rw h
  known-star category.Verse m e z h = rw h
  known-star category.Paragraph m e z h = rw h
  known-star category.Character m e z h = rw h
  known-star category.Note m e z h = rw h
  known-star category.Milestone m e z h = rw h
  known-star category.Other m e z h = absurd (z refl)

  pub usable-close : Usable t (name_of l) → byte_is star l (name_end l) ≡ true → close (name_of l) (name_end l + 1) ≡ marker_piece t l
  unfolding marker_piece
  usable-close u h = rw (u.found, u.there) (known-star (category_at u.entry.category) u.number u.entry u.usable h)

-- a piece that is no fault
module _ (t l : List ℕ) (fair : is_fault (piece_at t l) ≡ false) (slash : byte_is backslash l 0 ≡ true) where
  pub no-star-next : byte_is star l 1 ≡ false
  unfolding piece_at
  no-star-next = go (byte_is star l 1) (rw slash at fair)
    where
      go : (y : Bool) → is_fault (pick y (fault unmatched_marker (length l)) (marker_piece t l)) ≡ false → y ≡ false
      go true h = absurd (false≢true (sym h))
      go false h = refl

  marker-here : marker_piece t l ≡ piece_at t l
  unfolding piece_at
  marker-here = rw (slash, no-star-next)

  pub faultless_close : (end : ℕ) → end ≡ name_end l → byte_is star l end ≡ true → close (name_of l) (end + 1) ≡ piece_at t l
  faultless_close end is h = rw is (usable-close t l (marker-usable t l (rw marker-here fair)) (rw is at h)) ∙ marker-here

  pub faultless_marker : (q : Piece) → q ≡ marker_piece t l → q ≡ piece_at t l
  faultless_marker q e = e ∙ marker-here

inline-fair : (p : Piece) → is_inline p ≡ true → is_fault p ≡ false
inline-fair (run x y) h = refl
inline-fair (close name n) h = refl
inline-fair (block m n) h = refl
inline-fair (chapter m n link) h = refl
inline-fair (verse m n link) h = refl
inline-fair (inline m name n) h = refl
inline-fair (milestone m n x y) h = refl
inline-fair (fault number n) h = absurd (false≢true h)

inline-usable : (t o : List ℕ) → is_inline (piece_at t o) ≡ true → Usable t (name_of o)
unfolding piece_at run_piece
inline-usable t o = go (byte_is backslash o 0) (byte_is star o 1)
  where
    go : (x y : Bool) → is_inline (pick x (pick y (fault unmatched_marker (length o)) (marker_piece t o)) (run_piece o)) ≡ true → Usable t (name_of o)
    go false y h = absurd (false≢true h)
    go true true h = absurd (false≢true h)
    go true false h = marker-usable t o (inline-fair (marker_piece t o) h)

-- a close with the name of an open character or note marker
pub own : (t o l : List ℕ) → byte_is backslash l 0 ≡ true → byte_is star l 1 ≡ false → (end : ℕ) → end ≡ name_end l → byte_is star l end ≡ true → equal (name_of o) (name_of l) ≡ true → is_inline (piece_at t o) ≡ true → OwnClose t o l (end + 1)
unfolding piece_at
own t o l slash next end is starred same inside =
    let usable : Usable t (name_of l) = rw (equal-true (name_of o) (name_of l) same) at (inline-usable t o inside) in
    record { is = rw (slash, next, is) (usable-close t l usable (rw is at starred)); same = same }
