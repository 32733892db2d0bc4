-- The window of places behind a piece, and while it is filled again from the text's start.
-- Assumes nothing.
use Prim.Native.Nat.{ℕ, ◌+◌, ◌-◌, ◌%◌, ◌<◌, ◌≤◌}
use mathlib.Core.Path.{◌≡◌, refl, sym, ◌∙◌}
use mathlib.Core.Bool.{Bool, true, false, ◌&&◌, false≢true}
use mathlib.Core.List.{List, [], ◌∷◌}
use native.Mathlib.Omega.{arith}
use lib.Dec.{leb, ltb}
use lib.ListN.{length, set, drop, take, length-set}
use borrow.Author.Tests.{le-leb, lt-ltb, leb-true, ltb-true}
use Rattle.text.specs.Pick.{pick}
use Rattle.text.specs.Utf8.{Made}
use Rattle.text.proofs.Exact.{utf8-exact}
use Rattle.reader_spec.specs.Pieces.{piece_at}
use Rattle.reader_spec.specs.Promise.{Legible}
use Rattle.reader_spec.specs.InnerSteps.{places_after, open_from, window, Kept}
use Rattle.reader_spec.proofs.Window.{open_step, open-here, kept-none, kept_push, kept-pop, kept-raise, kept-over}
use Rattle.pieces.specs.declared.Piece.{Piece}
use Rattle.pieces.specs.declared.Piece.TheVariants as found
use Rattle.pieces.specs.Shown.{shown, bytes_of}
use Rattle.pieces.specs.Depth.{depth_after}
use Rattle.pieces.proofs.Sizes.{depth-few}
use Rattle.pieces.proofs.Places.{found_here, here-size, goes_on, next-inside, next-made}
use Rattle.first_pass.specs.Counted.{place_kept, Windowed}

-- how many are open behind a piece
pub depth-piece : (t l : List ℕ) (at : ℕ) (p : Piece) (ps : List ℕ) → length (places_after (shown t l p) at ps) ≡ depth_after p (length ps)
depth-piece t l at (found.Run n) ps = refl
depth-piece t l at (found.Close n) [] = refl
depth-piece t l at (found.Close n) (q ∷ ps) = omega arith
depth-piece t l at (found.Block m n) ps = refl
depth-piece t l at (found.Chapter m n) ps = refl
depth-piece t l at (found.Verse m n) ps = refl
depth-piece t l at (found.Inline m n) ps = omega arith
depth-piece t l at (found.Milestone m n x y) ps = refl
depth-piece t l at (found.Fault k) ps = refl

-- the window keeps its length
pub kept-long : (w : List ℕ) (low d at : ℕ) (p : Piece) → length (place_kept w low d at p) ≡ length w
kept-long w low d at (found.Run n) = refl
kept-long w low d at (found.Close n) = refl
kept-long w low d at (found.Block m n) = refl
kept-long w low d at (found.Chapter m n) = refl
kept-long w low d at (found.Verse m n) = refl
kept-long w low d at (found.Inline m n) = go (leb low d && ltb d (low + window))
  where
    go : (x : Bool) → length (pick x (set w (d % window) at) w) ≡ length w
    go true = length-set w (d % window) at
    go false = refl
kept-long w low d at (found.Milestone m n x y) = refl
kept-long w low d at (found.Fault k) = refl

-- and it keeps what it reaches
pub kept_piece : (t l w : List ℕ) (low at : ℕ) (p : Piece) (ps : List ℕ) → length w ≡ window → Kept w low ps → Kept (place_kept w low (length ps) at p) low (places_after (shown t l p) at ps)
kept_piece t l w low at (found.Run n) ps long k = k
kept_piece t l w low at (found.Close n) [] long k = k
kept_piece t l w low at (found.Close n) (q ∷ ps) long k = kept-pop w low q ps k
kept_piece t l w low at (found.Block m n) ps long k = k
kept_piece t l w low at (found.Chapter m n) ps long k = k
kept_piece t l w low at (found.Verse m n) ps long k = k
kept_piece t l w low at (found.Inline m n) ps long k = go (leb low (length ps)) (ltb (length ps) (low + window)) refl refl
  where
    go : (x y : Bool) → leb low (length ps) ≡ x → ltb (length ps) (low + window) ≡ y → Kept (pick (x && y) (set w (length ps % window) at) w) low (at ∷ ps)
    go true true e f = kept_push w low at ps long (leb-true low (length ps) e) (ltb-true (length ps) (low + window) f) k
    go true false e f = kept-over w low at ps (λ a b. false≢true (sym f ∙ lt-ltb (length ps) (low + window) b)) k
    go false y e f = kept-over w low at ps (λ a b. false≢true (sym e ∙ le-leb low (length ps) a)) k
kept_piece t l w low at (found.Milestone m n x y) ps long k = k
kept_piece t l w low at (found.Fault k') ps long k = k

-- a piece of so many bytes at a place: it has some, and ends in the text
pub record Onward (s : List ℕ) (at n : ℕ) : Type 0 where
  pub some : 1 ≤ n
  pub next : at + n ≤ length s

pub onward : (t s : List ℕ) (at : ℕ) (p : Piece) → shown t (take (length s - at) (drop at s)) p ≡ piece_at t (take (length s - at) (drop at s)) → Legible t s → Made (drop at s) → at < length s → Onward s at (bytes_of p (length s - at))
onward t s at p is legible made inside =
    record { some = goes_on t s at p is legible.table made inside; next = next-inside t s at p is legible.table made inside }

-- the window is filled again up to a place `to`: the places ps are open at a place on the way
pub record Filling (t s : List ℕ) (to low : ℕ) (w : List ℕ) (at d : ℕ) : Type 0 where
  pub ps : List ℕ
  pub inside : at ≤ length s
  pub made : Made (drop at s)
  pub same : open_from t s to 0 [] ≡ open_from t s to at ps
  pub deep : length ps ≡ d
  pub few : d ≤ at
  pub long : length w ≡ window
  pub kept : Kept w low ps

module _ {t s : List ℕ} (legible : Legible t s) {to low : ℕ} where
  pub fill_start : {w : List ℕ} → length w ≡ window → Filling t s to low w 0 0
  fill_start {w} long = record { ps = []; inside = omega arith; made = (utf8-exact s).0 legible.utf8; same = refl; deep = refl; few = omega arith; long = long; kept = kept-none w low }

  module _ {w : List ℕ} {at d : ℕ} (f : Filling t s to low w at d) where
    pub fill_end : to ≤ at → Kept w low (open_from t s to 0 [])
    fill_end h = rw (f.same, open-here t s to at f.ps h) f.kept

    pub fill_step : at < to → to ≤ length s → (p : Piece) → shown t (take (length s - at) (drop at s)) p ≡ piece_at t (take (length s - at) (drop at s)) → Filling t s to low (place_kept w low d at p) (at + bytes_of p (length s - at)) (depth_after p d)
    fill_step below short p is =
        let inside : at < length s = omega arith in
        let sound = legible.table in
        let some = goes_on t s at p is sound f.made inside in
        let here = found_here t s at p is in
        let few = depth-few p d in
        let low-d = f.few in
        record {
          ps = places_after (piece_at t (drop at s)) at f.ps;
          inside = next-inside t s at p is sound f.made inside;
          made = next-made t s at p is sound f.made inside;
          same = f.same ∙ open_step t s to at f.ps sound f.made inside below ∙ rw (here-size t s at p is);
          deep = rw (← here, ← f.deep) (depth-piece t (drop at s) at p f.ps);
          few = omega arith;
          long = kept-long w low d at p ∙ f.long;
          kept = rw (← here, ← f.deep) (kept_piece t (drop at s) w low at p f.ps f.long f.kept);
        }

-- the outermost place given up, where the window is full
pub raised : (t s w : List ℕ) (at d low : ℕ) → Windowed t s at d low w → low + window ≤ d → Windowed t s at d (low + 1) w
raised t s w at d low h full =
    let r = h.reach in
    record { long = h.long; deep = h.deep; from = omega arith; reach = omega arith; kept = kept-raise w low (low + 1) (open_from t s at 0 []) (omega arith) (rw h.deep r) h.kept }
