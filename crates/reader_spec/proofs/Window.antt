-- The first pass of the code knows the innermost opens by their places: a window of these, filled again by a rescan.
-- Assumes nothing.
use Prim.Native.Nat.{ℕ, ◌+◌, ◌%◌, ◌<◌, ◌≤◌}
use native.Mathlib.Omega.{arith}
use mathlib.Core.Path.{◌≡◌, refl, ap, ◌∙◌}
use mathlib.Core.Bool.{Bool, true, false}
use mathlib.Core.List.{List, [], ◌∷◌}
use Rattle.std.specs.Prelude.{Option, None}
use lib.ListN.{length, get_or, set, drop, length-drop}
use lib.Seq.{drop-drop, get_or-set_same, get_or-set_other}
use borrow.Author.Tests.{le-leb, lt-leb}
use Rattle.text.specs.Utf8.{Made}
use Rattle.text.specs.Pick.{pick}
use Rattle.text.specs.Bytes.{equal}
use Rattle.table.specs.Lines.{bad_table}
use Rattle.refusals.specs.Refusal.{unmatched_marker}
use Rattle.reader_spec.specs.Pieces.{Piece, run, close, block, chapter, verse, inline, milestone, fault, size_of, piece_at, pieces}
use Rattle.reader_spec.specs.Pass.{closes, OpenMarker, state_with, PieceStep, goes, stops, piece_step}
use Rattle.reader_spec.specs.InnerSteps.{PlacedOpens, places_after, open_to, open_from, window, Kept}
use Rattle.reader_spec.proofs.Sound.{Fair}
use Rattle.reader_spec.proofs.Cuts.{next-pieces}
use Rattle.reader_spec.proofs.Steps.{here-some}

-- a piece that goes on keeps the places of what is open
abbrev PlacedStep : List ℕ → List ℕ → List ℕ → PieceStep → Type 0
PlacedStep t s ps (goes is st) = PlacedOpens t s ps st.opened
PlacedStep t s ps (stops k) = Unit {0}

pub placed-step : (t s : List ℕ) (at : ℕ) (b : Option ℕ) (os : List OpenMarker) (ps : List ℕ) (p : Piece) → at < length s → Fair t (drop at s) p → PlacedOpens t s ps os → PlacedStep t s (places_after p at ps) (piece_step b os at p)
unfolding piece_step PlacedOpens
placed-step t s at b os ps (run x y) h f k = k
placed-step t s at b [] ps (close name n) h f k = tt
placed-step t s at b (o ∷ os) [] (close name n) h f k = absurd k
placed-step t s at b (o ∷ os) (p ∷ ps) (close name n) h f k = by_name (equal o.name name)
  where
    by_name : (x : Bool) → PlacedStep t s ps (pick x (goes (closes o.marker at n ∷ []) (state_with b os)) (stops unmatched_marker))
    by_name true = k.3
    by_name false = tt
placed-step t s at b [] ps (block m n) h f k = k
placed-step t s at b (o ∷ os) ps (block m n) h f k = tt
placed-step t s at b [] ps (chapter m n x) h f k = k
placed-step t s at b (o ∷ os) ps (chapter m n x) h f k = tt
placed-step t s at b os ps (verse m n x) h f k = k
placed-step t s at b os ps (inline m name n) h f k = (h, f.2, f.3, k)
placed-step t s at b os ps (milestone m n x y) h f k = k
placed-step t s at b os ps (fault x n) h f k = tt

-- the places at a place further on: there, and one piece
open-there : (to at : ℕ) (ps : List Piece) (os : List ℕ) → to ≤ at → open_to to at ps os ≡ os
unfolding open_to
open-there to at [] os h = refl
open-there to at (p ∷ ps) os h = rw (le-leb to at h)

module _ (t s : List ℕ) (to at : ℕ) (os : List ℕ) where
  pub open_step : bad_table t ≡ None → Made (drop at s) → at < length s → at < to → open_from t s to at os ≡ open_from t s to (at + size_of (piece_at t (drop at s))) (places_after (piece_at t (drop at s)) at os)
  unfolding open_to
  open_step sound made inside below =
      let left : 0 < length (drop at s) = rw length-drop (omega arith) in
      ap (λ (ps : List Piece). open_to to at ps os) (next-pieces t (drop at s) left (here-some t s at sound made inside) ∙ ap (λ (l : List ℕ). piece_at t (drop at s) ∷ pieces t l) (drop-drop (size_of (piece_at t (drop at s))) at s))
      ∙ rw (lt-leb to at below)

  pub open-here : to ≤ at → open_from t s to at os ≡ os
  open-here h = open-there to at (pieces t (drop at s)) os h

-- these places are open at a place, to which a rescan from the text's start comes and goes on from there
abbrev pub Reached : List ℕ → List ℕ → ℕ → List ℕ → Type 0
Reached t s at ps = (to : ℕ) → at ≤ to → open_from t s to 0 [] ≡ open_from t s to at ps

pub reached-start : (t s : List ℕ) → Reached t s 0 []
reached-start t s to h = refl

module _ (t s : List ℕ) (at : ℕ) (ps : List ℕ) (r : Reached t s at ps) where
  pub reached-here : open_from t s at 0 [] ≡ ps
  reached-here = r at (omega arith) ∙ open-here t s at at ps (omega arith)

  pub reached-next : bad_table t ≡ None → Made (drop at s) → at < length s → Reached t s (at + size_of (piece_at t (drop at s))) (places_after (piece_at t (drop at s)) at ps)
  reached-next sound made inside to h =
      let some = here-some t s at sound made inside in
      r to (omega arith) ∙ open_step t s to at ps sound made inside (omega arith)

-- the window: nothing is open; one more is; the innermost is read and taken away; fewer are asked for
pub kept-none : (w : List ℕ) (low : ℕ) → Kept w low []
unfolding Kept
kept-none w low = tt

kept_set : (w : List ℕ) (low d p : ℕ) (ps : List ℕ) → length ps ≤ d → low ≤ d → d < low + window → Kept w low ps → Kept (set w (d % window) p) low ps
unfolding Kept
kept_set w low d p [] h a l k = tt
kept_set w low d p (q ∷ ps) h a l k =
    (λ b c. get_or-set_other w (d % window) (length ps % window) p 0 (λ e. omega arith) ∙ k.0 b c, kept_set w low d p ps (omega arith) a l k.1)

pub kept_push : (w : List ℕ) (low p : ℕ) (ps : List ℕ) → length w ≡ window → low ≤ length ps → length ps < low + window → Kept w low ps → Kept (set w (length ps % window) p) low (p ∷ ps)
unfolding Kept
kept_push w low p ps long a l k = (λ b c. get_or-set_same w (length ps % window) p 0 (omega arith), kept_set w low (length ps) p ps (omega arith) a l k)

pub kept_top : (w : List ℕ) (low p : ℕ) (ps : List ℕ) → low ≤ length ps → length ps < low + window → Kept w low (p ∷ ps) → get_or w (length ps % window) 0 ≡ p
unfolding Kept
kept_top w low p ps h l k = k.0 h l

pub kept-pop : (w : List ℕ) (low p : ℕ) (ps : List ℕ) → Kept w low (p ∷ ps) → Kept w low ps
unfolding Kept
kept-pop w low p ps k = k.1

pub kept-raise : (w : List ℕ) (low low' : ℕ) (ps : List ℕ) → low ≤ low' → length ps ≤ low + window → Kept w low ps → Kept w low' ps
unfolding Kept
kept-raise w low low' [] h l k = tt
kept-raise w low low' (p ∷ ps) h l k = (λ b c. k.0 (omega arith) (omega arith), kept-raise w low low' ps h (omega arith) k.1)

-- a place that the window doesn't reach
pub kept-over : (w : List ℕ) (low p : ℕ) (ps : List ℕ) → (low ≤ length ps → length ps < low + window → ⊥) → Kept w low ps → Kept w low (p ∷ ps)
unfolding Kept
kept-over w low p ps h k = (λ b c. absurd (h b c), k)
