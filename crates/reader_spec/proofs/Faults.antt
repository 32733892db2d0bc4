-- Which pieces stop the pass, by the text alone and what is open: 16 for an unknown marker, and 17 only where it isn't one.
-- Assumes nothing.
use Prim.Native.Nat.{ℕ, ◌+◌}
use mathlib.Core.Path.{◌≡◌, refl}
use mathlib.Core.Bool.{Bool, true, false, not, ◌&&◌, ◌||◌}
use mathlib.Core.List.{List, [], ◌∷◌}
use Rattle.std.specs.Prelude.{Option, Some, None}
use lib.ListN.{length}
use Rattle.text.specs.Pick.{pick}
use Rattle.text.specs.Bytes.{equal}
use Rattle.table.specs.Entries.{Entry, entries, nth}
use Rattle.table.specs.Inner.{category_at}
use Rattle.table.specs.Names.{looked_up}
use Rattle.table.specs.declared.Category.{Category}
use Rattle.table.specs.declared.Category.TheVariants as category
use Rattle.cursor.specs.Names.{name_of}
use Rattle.refusals.specs.Refusal.{unknown_marker, unmatched_marker}
use Rattle.reader_spec.specs.Pieces.{Piece, close, block, chapter, verse, inline, milestone, fault, backslash, star, byte_is, star_at, name_end, blanks_at, number_size, number_link, to_backslash, bar_at, closed_after, milestone_piece, known_piece, entry_piece, found_piece, marker_piece, backslash_piece, run_piece, piece_at}
use Rattle.reader_spec.specs.Pass.{closes, OpenMarker, state_with, PieceStep, goes, stops, piece_step}
use Rattle.reader_spec.specs.Conditions.{entry_at, entry_found, none_or_other, is_unknown, innermost_is, some_open, close_alone, milestone_open, block_inside, is_unmatched}

-- the number with which a piece stops, if it does
abbrev pub stop_of : PieceStep → Option ℕ
stop_of (goes ns st) = None
stop_of (stops number) = Some number

module _ (t l : List ℕ) (b : Option ℕ) (os : List OpenMarker) (at : ℕ) where
  abbrev stop : Piece → Option ℕ
  stop p = stop_of (piece_step b os at p)

  abbrev only17 : Bool → Option ℕ
  only17 x = pick x (Some unmatched_marker) None

  -- a close: of the innermost, or not
  close-stops : (name : List ℕ) (n : ℕ) → stop (close name n) ≡ only17 (not (innermost_is os name) || false)
  unfolding piece_step
  close-stops name n = go os
    where
      by_name : (o : OpenMarker) (os : List OpenMarker) (x : Bool) → stop_of (pick x (goes (closes o.marker at n ∷ []) (state_with b os)) (stops unmatched_marker)) ≡ only17 (not x || false)
      by_name o os true = refl
      by_name o os false = refl

      go : (os : List OpenMarker) → stop_of (piece_step b os at (close name n)) ≡ only17 (not (innermost_is os name) || false)
      go [] = refl
      go (o ∷ os) = by_name o os (equal o.name name)

  -- and a marker without a star behind it
  unless-star : (x y : Bool) (p : Piece) → stop p ≡ only17 y → stop (pick x (close (name_of l) (name_end l + 1)) p) ≡ only17 ((x && not (innermost_is os (name_of l))) || (not x && y))
  unless-star true y p h = close-stops (name_of l) (name_end l + 1)
  unless-star false y p h = h

  milestone-stops : (m : ℕ) (x y : Bool) → stop (pick x (milestone m (name_end l) 0 0) (pick y (milestone m (name_end l) (blanks_at l (name_end l)) (to_backslash l (bar_at l))) (fault unmatched_marker (length l)))) ≡ only17 (not (x || y) || (some_open os && false))
  unfolding piece_step
  milestone-stops m x y = go os x y
    where
      go : (os : List OpenMarker) (x y : Bool) → stop_of (piece_step b os at (pick x (milestone m (name_end l) 0 0) (pick y (milestone m (name_end l) (blanks_at l (name_end l)) (to_backslash l (bar_at l))) (fault unmatched_marker (length l))))) ≡ only17 (not (x || y) || (some_open os && false))
      go [] true y = refl
      go [] false true = refl
      go [] false false = refl
      go (o ∷ os) true y = refl
      go (o ∷ os) false true = refl
      go (o ∷ os) false false = refl

  block-stops : (m n : ℕ) → stop (block m n) ≡ only17 (some_open os && true)
  unfolding piece_step
  block-stops m n = go os
    where
      go : (os : List OpenMarker) → stop_of (piece_step b os at (block m n)) ≡ only17 (some_open os && true)
      go [] = refl
      go (o ∷ os) = refl

  chapter-stops : (m n link : ℕ) → stop (chapter m n link) ≡ only17 (some_open os && true)
  unfolding piece_step
  chapter-stops m n link = go os
    where
      go : (os : List OpenMarker) → stop_of (piece_step b os at (chapter m n link)) ≡ only17 (some_open os && true)
      go [] = refl
      go (o ∷ os) = refl

  -- a Verse, a character and a note stand anywhere
  goes_on : (p : Piece) → stop p ≡ None → stop p ≡ only17 (some_open os && false)
  goes_on p h = go os h
    where
      go : (os : List OpenMarker) → stop p ≡ None → stop p ≡ only17 (some_open os && false)
      go [] h = h
      go (o ∷ os) h = h

  abbrev Says : Option Entry → Piece → Type 0
  Says e p = stop p ≡ pick (none_or_other e) (Some unknown_marker) (only17 ((byte_is star l (name_end l) && not (innermost_is os (name_of l))) || (not (byte_is star l (name_end l)) && (milestone_open e l || block_inside e os))))

  known-says : (m : ℕ) (e : Entry) (c : Category) → category_at e.category ≡ c → Says (Some e) (known_piece c m e l)
  unfolding known_piece piece_step milestone_piece
  known-says m e category.Identification q = rw q (unless-star (byte_is star l (name_end l)) _ (block m (name_end l)) (block-stops m (name_end l)))
  known-says m e category.Chapter q = rw q (unless-star (byte_is star l (name_end l)) _ (chapter m (number_size e l) (number_link e l)) (chapter-stops m (number_size e l) (number_link e l)))
  known-says m e category.Verse q = rw q (unless-star (byte_is star l (name_end l)) _ (verse m (number_size e l) (number_link e l)) (goes_on (verse m (number_size e l) (number_link e l)) refl))
  known-says m e category.Paragraph q = rw q (unless-star (byte_is star l (name_end l)) _ (block m (name_end l)) (block-stops m (name_end l)))
  known-says m e category.Character q = rw q (unless-star (byte_is star l (name_end l)) _ (inline m (name_of l) (name_end l)) (goes_on (inline m (name_of l) (name_end l)) refl))
  known-says m e category.Note q = rw q (unless-star (byte_is star l (name_end l)) _ (inline m (name_of l) (name_end l)) (goes_on (inline m (name_of l) (name_end l)) refl))
  known-says m e category.Milestone q = rw q (unless-star (byte_is star l (name_end l)) _ (milestone_piece m l) (milestone-stops m (star_at l (name_end l)) (closed_after l)))
  known-says m e category.Other q = rw q refl

  entry-says : (m : ℕ) (e : Option Entry) → Says e (entry_piece m e l)
  unfolding piece_step
  entry-says m None = refl
  entry-says m (Some e) = known-says m e (category_at e.category) refl

  found-says : (o : Option ℕ) → Says (entry_at t o) (found_piece t o l)
  unfolding piece_step
  found-says None = refl
  found-says (Some m) = entry-says m (nth (entries t) m)

  slash-says : (x : Bool) → stop (pick x (fault unmatched_marker (length l)) (marker_piece t l)) ≡ pick (not x && none_or_other (entry_found t l)) (Some unknown_marker) (only17 ((x || (byte_is star l (name_end l) && not (innermost_is os (name_of l)))) || (not (byte_is star l (name_end l)) && (milestone_open (entry_found t l) l || block_inside (entry_found t l) os))))
  unfolding piece_step marker_piece
  slash-says true = refl
  slash-says false = found-says (looked_up t (name_of l))

  -- the number of the piece that the list begins with: "at one place 16"
  pub step-number : stop_of (piece_step b os at (piece_at t l)) ≡ pick (is_unknown t l) (Some unknown_marker) (pick (is_unmatched t l os) (Some unmatched_marker) None)
  unfolding piece_step piece_at run_piece
  step-number = go (byte_is backslash l 0)
    where
      go : (x : Bool) → stop (pick x (backslash_piece t l) (run_piece l)) ≡ pick (x && (not (byte_is star l 1) && none_or_other (entry_found t l))) (Some unknown_marker) (only17 (x && (close_alone l os || (not (byte_is star l (name_end l)) && (milestone_open (entry_found t l) l || block_inside (entry_found t l) os)))))
      go true = slash-says (byte_is star l 1)
      go false = refl
