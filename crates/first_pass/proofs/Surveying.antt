-- The first pass a piece at a time: what is left gives what the whole text gives.
-- Assumes nothing.
use Prim.Native.Nat.{ℕ, zero, suc, ◌+◌, ◌-◌, ◌*◌, ◌<◌, ◌≤◌}
use native.Mathlib.Omega.{arith}
use mathlib.Core.Path.{◌≡◌, refl, sym, ap, ◌∙◌}
use mathlib.Core.Bool.{Bool, true, false}
use mathlib.Core.List.{List, [], ◌∷◌}
use Rattle.std.specs.Prelude.{Option, Some, None}
use native.Mathlib.Decide.{dec_lt}
use lib.Dec.{eqb, ltb}
use lib.ListN.{length, take, drop}
use lib.Seq.{length-take-le}
use borrow.Author.Tests.{ne_eqb, lt-ltb, le-ltb}
use Rattle.text.specs.Pick.{pick}
use Rattle.text.specs.Bytes.{equal}
use Rattle.text.specs.Utf8.{Made}
use Rattle.text.specs.Characters.{find_byte}
use Rattle.text.proofs.Exact.{utf8-exact}
use Rattle.cursor.specs.Names.{name_of}
use Rattle.refusals.specs.Refusal.{unmatched_marker}
use Rattle.refusals.specs.Reasons.{number_of}
use Rattle.refusals.specs.declared.Reason.{Reason}
use Rattle.refusals.specs.declared.Reason.TheVariants.{UnmatchedMarker}
use Rattle.reader_spec.specs.Pieces.{bar, size_of, piece_at}
use Rattle.reader_spec.specs.Pieces as pieces
use Rattle.reader_spec.specs.Pass.{ReadNode, closes, OpenMarker, ReadState, state_with, nothing_open, PieceStep, goes, stops, with_text, with_attribute, with_block_end, milestone_nodes, piece_step, pass_on, pass_end, outcome}
use Rattle.reader_spec.specs.Promise.{Legible}
use Rattle.reader_spec.specs.InnerSteps.{pass_at, nodes, fault_at, counted_on, PlacedOpens, places_after, open_from, window, Kept}
use Rattle.reader_spec.proofs.Steps.{here-cut, pass_step, pass-end, count-goes}
use Rattle.reader_spec.proofs.Window.{placed-step, Reached, reached-start, reached-here, reached-next, kept-none, kept_top}
use Rattle.pieces.specs.declared.Piece.{Piece}
use Rattle.pieces.specs.declared.Piece.TheVariants as found
use Rattle.pieces.specs.Shown.{shown, bytes_of}
use Rattle.pieces.specs.Depth.{depth_after}
use Rattle.pieces.specs.Closes.{is_inline, OwnClose}
use Rattle.pieces.proofs.Sizes.{depth-few}
use Rattle.pieces.proofs.Places.{rest_is, rest-length, found_here, here-size, goes_on, next-inside, next-made}
use Rattle.first_pass.specs.Counted.{one, run_count, nodes_in, block_after, innermost_place, block_fault, piece_fault, place_kept, Windowed, ReadyFor, Nameable, InnermostClosed}
use Rattle.first_pass.proofs.Windows.{Onward, onward, depth-piece, kept-long, kept_piece}

abbrev pub is_some : Option ℕ → Bool
is_some None = false
is_some (Some m) = true

-- a piece goes on with so many nodes, and with a block open or none
pub record Goes (n : ℕ) (block : Bool) (x : PieceStep) : Type 0 where
  pub ns : List ReadNode
  pub st : ReadState
  pub is : x ≡ goes ns st
  pub many : length ns ≡ n
  pub blocks : is_some st.block ≡ block

-- what a piece does, by the reason that the code gives
abbrev pub Says : Option Reason → ℕ → Bool → PieceStep → Type 0
Says None n block x = Goes n block x
Says (Some r) n block x = x ≡ stops (number_of r)

-- how many nodes
text-one : (at k : ℕ) → 1 ≤ k → length (with_text at k []) ≡ 1
text-one at zero h = absurd (omega arith)
text-one at (suc k) h = refl

some_one : (k : ℕ) → one (ltb 0 (suc k)) ≡ 1
some_one k = rw (lt-ltb 0 (suc k) (omega arith))

both-many : (a x b y : ℕ) → length (with_text a x (with_attribute b y [])) ≡ one (ltb 0 x) + one (ltb 0 y)
both-many a zero b zero = refl
both-many a zero b (suc y) = rw (some_one y)
both-many a (suc x) b zero = rw (some_one x)
both-many a (suc x) b (suc y) = rw (some_one x, some_one y)

left_over : (x n : ℕ) → ltb 0 (n - x) ≡ ltb x n
left_over x n = go (dec_lt x n)
  where
    go : Dec (x < n) → ltb 0 (n - x) ≡ ltb x n
    go (yes h) = lt-ltb 0 (n - x) (omega arith) ∙ sym (lt-ltb x n h)
    go (no h) = le-ltb 0 (n - x) (omega arith) ∙ sym (le-ltb x n (omega arith))

module _ (t s : List ℕ) (at : ℕ) (w : List ℕ) (b : Option ℕ) (low : ℕ) where
  abbrev text : Piece → List ℕ
  text p = take (bytes_of p (length s - at)) (drop at s)

  -- a run has its own text
  run-nodes : (n : ℕ) → 1 ≤ n → n ≤ length s - at → (os : List OpenMarker) (ps : List ℕ) → PlacedOpens t s ps os → Says None (run_count (length ps) (take n (drop at s))) (is_some b) (piece_step b os at (shown t (drop at s) (found.Run n)))
  unfolding piece_step PlacedOpens
  run-nodes n more fits [] [] h =
      let x = find_byte (eqb bar) (take n (drop at s)) in
      record { ns = with_text at (x + (n - x)) []; st = state_with b []; is = refl; many = text-one at (x + (n - x)) (omega arith); blocks = refl }
  run-nodes n more fits [] (q ∷ ps) h = absurd h
  run-nodes n more fits (o ∷ os) [] h = absurd h
  run-nodes n more fits (o ∷ os) (q ∷ ps) h =
      let x = find_byte (eqb bar) (take n (drop at s)) in
      let long : length (take n (drop at s)) ≡ n = length-take-le n (drop at s) (rw (rest-length s at) fits) in
      record {
        ns = with_text at x (with_attribute (at + x) (n - x) []);
        st = state_with b (o ∷ os);
        is = refl;
        many = both-many at x (at + x) (n - x) ∙ rw (left_over x n, long, ne_eqb (suc (length ps)) 0 (λ z. omega arith));
        blocks = refl;
      }

  -- a close: its window has the place of the innermost
  close-says : (n : ℕ) (os : List OpenMarker) (ps : List ℕ) → PlacedOpens t s ps os → Kept w low ps → length ps ≤ low + window → (0 < length ps → low < length ps) → Says (piece_fault s at w (length ps) (found.Close n)) 1 (is_some b) (piece_step b os at (shown t (drop at s) (found.Close n)))
  unfolding piece_step PlacedOpens
  close-says n [] [] h k reach ready = refl
  close-says n [] (q ∷ ps) h k reach ready = absurd h
  close-says n (o ∷ os) [] h k reach ready = absurd h
  close-says n (o ∷ os) (q ∷ ps) h k reach ready =
      let r = ready (omega arith) in
      let less : suc (length ps) - 1 ≡ length ps = omega arith in
      let top : innermost_place w (suc (length ps)) ≡ q = rw less (kept_top w low q ps (omega arith) (omega arith) k) in
      rw (ne_eqb (suc (length ps)) 0 (λ z. omega arith), top, ← h.1) (by_name (equal o.name (name_of (drop at s))))
    where
      by_name : (x : Bool) → Says (pick x None (Some UnmatchedMarker)) 1 (is_some b) (pick x (goes (closes o.marker at n ∷ []) (state_with b os)) (stops unmatched_marker))
      by_name true = record { ns = closes o.marker at n ∷ []; st = state_with b os; is = refl; many = refl; blocks = refl }
      by_name false = refl

  end-many : (e : Option ℕ) (x : ReadNode) → length (with_block_end e at (x ∷ [])) ≡ one (is_some e) + 1
  end-many None x = refl
  end-many (Some m) x = refl

  -- a block marker or a Chapter: no character or note may be open
  block-says : (m n : ℕ) (os : List OpenMarker) (ps : List ℕ) → PlacedOpens t s ps os → Says (block_fault (length ps)) (one (is_some b) + 1) true (piece_step b os at (shown t (drop at s) (found.Block m n)))
  unfolding piece_step PlacedOpens
  block-says m n [] [] h = record { ns = _; st = _; is = refl; many = end-many b _; blocks = refl }
  block-says m n [] (q ∷ ps) h = absurd h
  block-says m n (o ∷ os) [] h = absurd h
  block-says m n (o ∷ os) (q ∷ ps) h = rw (ne_eqb (suc (length ps)) 0 (λ z. omega arith))

  chapter-says : (m n : ℕ) (os : List OpenMarker) (ps : List ℕ) → PlacedOpens t s ps os → Says (block_fault (length ps)) (one (is_some b) + 1) false (piece_step b os at (shown t (drop at s) (found.Chapter m n)))
  unfolding piece_step PlacedOpens
  chapter-says m n [] [] h = record { ns = _; st = _; is = refl; many = end-many b _; blocks = refl }
  chapter-says m n [] (q ∷ ps) h = absurd h
  chapter-says m n (o ∷ os) [] h = absurd h
  chapter-says m n (o ∷ os) (q ∷ ps) h = rw (ne_eqb (suc (length ps)) 0 (λ z. omega arith))

  milestone-many : (m n x y : ℕ) → length (milestone_nodes m at n x y) ≡ 2 + one (ltb 0 x) + one (ltb 0 y)
  milestone-many m n zero zero = refl
  milestone-many m n zero (suc y) = rw (some_one y)
  milestone-many m n (suc x) zero = rw (some_one x)
  milestone-many m n (suc x) (suc y) = rw (some_one x, some_one y)

  -- any piece that is found there
  step-says : (p : Piece) (os : List OpenMarker) (ps : List ℕ) → shown t (drop at s) p ≡ piece_at t (drop at s) → 1 ≤ bytes_of p (length s - at) → bytes_of p (length s - at) ≤ length s - at → PlacedOpens t s ps os → Kept w low ps → length ps ≤ low + window → ReadyFor p (length ps) low → Says (piece_fault s at w (length ps) p) (nodes_in (length ps) (is_some b) (text p) p) (block_after p (is_some b)) (piece_step b os at (shown t (drop at s) p))
  unfolding piece_step
  step-says (found.Run n) os ps is more fits h k reach ready = run-nodes n more fits os ps h
  step-says (found.Close n) os ps is more fits h k reach ready = close-says n os ps h k reach ready
  step-says (found.Block m n) os ps is more fits h k reach ready = block-says m n os ps h
  step-says (found.Chapter m n) os ps is more fits h k reach ready = chapter-says m n os ps h
  step-says (found.Verse m n) os ps is more fits h k reach ready = record { ns = _; st = _; is = refl; many = refl; blocks = refl }
  step-says (found.Inline m n) os ps is more fits h k reach ready = record { ns = _; st = _; is = refl; many = refl; blocks = refl }
  step-says (found.Milestone m n x y) os ps is more fits h k reach ready = record { ns = _; st = _; is = refl; many = milestone-many m n x y; blocks = refl }
  step-says (found.Fault f) os ps is more fits h k reach ready = refl

  -- where the code reads the name of the innermost open
  nameable : (p : Piece) (os : List OpenMarker) (ps : List ℕ) → PlacedOpens t s ps os → Kept w low ps → length ps ≤ low + window → ReadyFor p (length ps) low → Nameable p s w (length ps)
  unfolding PlacedOpens
  nameable (found.Run n) os ps h k reach ready = tt
  nameable (found.Close n) os [] h k reach ready = λ z. absurd (omega arith)
  nameable (found.Close n) [] (q ∷ ps) h k reach ready = absurd h
  nameable (found.Close n) (o ∷ os) (q ∷ ps) h k reach ready =
      λ z.
      let r = ready z in
      let less : suc (length ps) - 1 ≡ length ps = omega arith in
      let inside = h.0 in
      rw (less, kept_top w low q ps (omega arith) (omega arith) k) (omega arith)
  nameable (found.Block m n) os ps h k reach ready = tt
  nameable (found.Chapter m n) os ps h k reach ready = tt
  nameable (found.Verse m n) os ps h k reach ready = tt
  nameable (found.Inline m n) os ps h k reach ready = tt
  nameable (found.Milestone m n x y) os ps h k reach ready = tt
  nameable (found.Fault f) os ps h k reach ready = tt

-- at the place of each open stands a character or note marker
unfoldable pub Inlines : List ℕ → List ℕ → List ℕ → Type 0
Inlines t s [] = Unit {0}
Inlines t s (p ∷ ps) = (is_inline (piece_at t (drop p s)) ≡ true) × Inlines t s ps

inlines-after : (t s : List ℕ) (at : ℕ) (ps : List ℕ) (x : pieces.Piece) → piece_at t (drop at s) ≡ x → Inlines t s ps → Inlines t s (places_after x at ps)
unfolding Inlines
inlines-after t s at ps (pieces.run x y) e h = h
inlines-after t s at [] (pieces.close name n) e h = h
inlines-after t s at (q ∷ ps) (pieces.close name n) e h = h.1
inlines-after t s at ps (pieces.block m n) e h = h
inlines-after t s at ps (pieces.chapter m n link) e h = h
inlines-after t s at ps (pieces.verse m n link) e h = h
inlines-after t s at ps (pieces.inline m name n) e h = (ap is_inline e, h)
inlines-after t s at ps (pieces.milestone m n x y) e h = h
inlines-after t s at ps (pieces.fault number n) e h = h

-- so at the place of the innermost, which a window has
innermost-inline : (t s w : List ℕ) (low : ℕ) (ps : List ℕ) → Inlines t s ps → Kept w low ps → length ps ≤ low + window → low < length ps → is_inline (piece_at t (drop (innermost_place w (length ps)) s)) ≡ true
unfolding Inlines
innermost-inline t s w low [] h k reach held = absurd (omega arith)
innermost-inline t s w low (q ∷ ps) h k reach held =
    let less : suc (length ps) - 1 ≡ length ps = omega arith in
    rw (less, kept_top w low q ps (omega arith) (omega arith) k) h.0

-- a piece has at most four nodes
one-few : (b : Bool) → one b ≤ 1
one-few true = omega arith
one-few false = omega arith

nodes-few : (d : ℕ) (block : Bool) (l : List ℕ) (p : Piece) → nodes_in d block l p ≤ 4
nodes-few d block l (found.Run n) = go (eqb d 0)
  where
    go : (x : Bool) → pick x 1 (one (ltb 0 (find_byte (eqb bar) l)) + one (ltb (find_byte (eqb bar) l) (length l))) ≤ 4
    go true = omega arith
    go false = omega (arith, one-few (ltb 0 (find_byte (eqb bar) l)), one-few (ltb (find_byte (eqb bar) l) (length l)))
nodes-few d block l (found.Close n) = omega arith
nodes-few d block l (found.Block m n) = omega (arith, one-few block)
nodes-few d block l (found.Chapter m n) = omega (arith, one-few block)
nodes-few d block l (found.Verse m n) = omega arith
nodes-few d block l (found.Inline m n) = omega arith
nodes-few d block l (found.Milestone m n x y) = omega (arith, one-few (ltb 0 x), one-few (ltb 0 y))
nodes-few d block l (found.Fault k) = omega arith

pub nodes-low : (d : ℕ) (block : Bool) (l : List ℕ) (p : Piece) (r : ℕ) → r ≡ nodes_in d block l p → r ≤ 4
nodes-low d block l p r e = rw e (nodes-few d block l p)

-- before the piece at a place, so many nodes are counted, and what is left gives the rest of the whole text's
pub record Passing (t s : List ℕ) (at n d : ℕ) (block : Bool) : Type 0 where
  pub st : ReadState
  pub ps : List ℕ
  pub inside : at ≤ length s
  pub made : Made (drop at s)
  pub left : counted_on n (pass_at t s at st) ≡ counted_on 1 (outcome t s)
  pub placed : PlacedOpens t s ps st.opened
  pub reached : Reached t s at ps
  pub inlines : Inlines t s ps
  pub deep : length ps ≡ d
  pub blocks : is_some st.block ≡ block
  pub few : n ≤ 4 * at + 1
  pub shallow : d ≤ at

-- the end of the pass
open-ends : (t s : List ℕ) (n at : ℕ) (os : List OpenMarker) (ps : List ℕ) (b : Option ℕ) → PlacedOpens t s ps os → 0 < length ps → fault_at unmatched_marker at ≡ counted_on n (pass_end b os at)
unfolding PlacedOpens
open-ends t s n at os [] b h k = absurd (omega arith)
open-ends t s n at [] (q ∷ ps) b h k = absurd h
open-ends t s n at (o ∷ os) (q ∷ ps) b h k = refl

none-ends : (t s : List ℕ) (n at : ℕ) (block : Bool) (os : List OpenMarker) (ps : List ℕ) (b : Option ℕ) → PlacedOpens t s ps os → length ps ≡ 0 → is_some b ≡ block → nodes (n + one block) ≡ counted_on n (pass_end b os at)
unfolding PlacedOpens
none-ends t s n at block os (q ∷ ps) b h z e = absurd (omega arith)
none-ends t s n at block (o ∷ os) [] b h z e = absurd h
none-ends t s n at block [] [] None h z e = rw (← e)
none-ends t s n at block [] [] (Some m) h z e = rw (← e)

-- the window reaches what is open behind a piece
reaches-on : (p : Piece) (d low : ℕ) → low ≤ d → d ≤ low + window → ReadyFor p d low → (low ≤ depth_after p d) × (depth_after p d ≤ low + window)
reaches-on (found.Run n) d low a b r = (a, b)
reaches-on (found.Close n) zero low a b r = (omega arith, omega arith)
reaches-on (found.Close n) (suc d) low a b r = let h = r (omega arith) in (omega arith, omega arith)
reaches-on (found.Block m n) d low a b r = (a, b)
reaches-on (found.Chapter m n) d low a b r = (a, b)
reaches-on (found.Verse m n) d low a b r = (a, b)
reaches-on (found.Inline m n) d low a b r = (omega arith, omega arith)
reaches-on (found.Milestone m n x y) d low a b r = (a, b)
reaches-on (found.Fault k) d low a b r = (a, b)

module _ {t s : List ℕ} (legible : Legible t s) where
  pub pass-start : Passing t s 0 1 0 false
  unfolding outcome PlacedOpens Inlines
  pass-start = record { st = nothing_open; ps = []; inside = omega arith; made = (utf8-exact s).0 legible.utf8; left = refl; placed = tt; reached = reached-start t s; inlines = tt; deep = refl; blocks = refl; few = omega arith; shallow = omega arith }

  pub window-start : {w : List ℕ} → length w ≡ window → Windowed t s 0 0 0 w
  window-start {w} long =
      let none_open = reached-here t s 0 [] (reached-start t s) in
      record { long = long; deep = rw none_open; from = omega arith; reach = omega arith; kept = rw none_open (kept-none w 0) }

  module _ {at n d : ℕ} {block : Bool} (f : Passing t s at n d block) where
    opened-here : open_from t s at 0 [] ≡ f.ps
    opened-here = reached-here t s at f.ps f.reached

    -- at the text's end: a character or note is open, or none
    pub end-open : length s ≤ at → 0 < d → fault_at unmatched_marker at ≡ counted_on 1 (outcome t s)
    end-open h some-open = open-ends t s n at f.st.opened f.ps f.st.block f.placed (rw f.deep some-open) ∙ sym (ap (counted_on n) (pass-end t s at f.st h)) ∙ f.left

    pub end_none : length s ≤ at → d ≡ 0 → nodes (n + one block) ≡ counted_on 1 (outcome t s)
    end_none h none_open = none-ends t s n at block f.st.opened f.ps f.st.block f.placed (f.deep ∙ none_open) f.blocks ∙ sym (ap (counted_on n) (pass-end t s at f.st h)) ∙ f.left

    -- the place of the innermost open lies in the text
    pub innermost-inside : {low : ℕ} {w : List ℕ} → Windowed t s at d low w → low < d → innermost_place w d ≤ length s
    innermost-inside {low} {w} win held =
        let reach = win.reach in
        let deep = f.deep in
        rw (← deep) (nameable t s at w f.st.block low (found.Close 0) f.st.opened f.ps f.placed (rw opened-here at win.kept) (omega arith) (λ z. omega arith) (omega arith))

    module _ {low : ℕ} {w : List ℕ} (win : Windowed t s at d low w) (p : Piece) (is : shown t (take (length s - at) (drop at s)) p ≡ piece_at t (take (length s - at) (drop at s))) (before-end : at < length s) (ready : ReadyFor p d low) where
      here : shown t (drop at s) p ≡ piece_at t (drop at s)
      here = found_here t s at p is

      fits : bytes_of p (length s - at) ≤ length s - at
      fits = let h = next-inside t s at p is legible.table f.made before-end in omega arith

      says : Says (piece_fault s at w d p) (nodes_in d block (text t s at w f.st.block low p) p) (block_after p block) (piece_step f.st.block f.st.opened at (shown t (drop at s) p))
      says =
          let reach = win.reach in
          rw (← f.deep, ← f.blocks)
          (step-says t s at w f.st.block low p f.st.opened f.ps here (goes_on t s at p is legible.table f.made before-end) fits f.placed (rw opened-here at win.kept) (rw f.deep reach) (rw f.deep ready))

      pub has-name : Nameable p s w d
      has-name =
          let reach = win.reach in
          rw (← f.deep) (nameable t s at w f.st.block low p f.st.opened f.ps f.placed (rw opened-here at win.kept) (rw f.deep reach) (rw f.deep ready))

      stepped : counted_on n (pass_on (piece_step f.st.block f.st.opened at (shown t (drop at s) p)) at (pass_at t s (at + size_of (piece_at t (drop at s))))) ≡ counted_on 1 (outcome t s)
      stepped = rw here (sym (ap (counted_on n) (pass_step t s at legible.table f.made before-end f.st)) ∙ f.left)

      pub pass-stops : (r : Reason) → piece_fault s at w d p ≡ Some r → fault_at (number_of r) at ≡ counted_on 1 (outcome t s)
      pass-stops r e = rw (rw e at says) at stepped

      -- where it goes on: the place, the nodes and the window behind the piece
      abbrev next : ℕ
      next = at + bytes_of p (length s - at)

      abbrev counted : ℕ
      counted = n + nodes_in d block (text t s at w f.st.block low p) p

      next-reached : Reached t s next (places_after (piece_at t (drop at s)) at f.ps)
      next-reached = rw (here-size t s at p is) (reached-next t s at f.ps f.reached legible.table f.made before-end)

      next-deep : length (places_after (piece_at t (drop at s)) at f.ps) ≡ depth_after p d
      next-deep = rw (← here, ← f.deep) (depth-piece t (drop at s) at p f.ps)

      module _ (goes-on-here : piece_fault s at w d p ≡ None) where
        step : Goes (nodes_in d block (text t s at w f.st.block low p) p) (block_after p block) (piece_step f.st.block f.st.opened at (shown t (drop at s) p))
        step = rw goes-on-here at says

        next-left : counted_on counted (pass_at t s next step.st) ≡ counted_on 1 (outcome t s)
        next-left = rw (← step.many, here-size t s at p is) (sym (count-goes n at step.ns step.st (pass_at t s (at + size_of (piece_at t (drop at s))))) ∙ rw step.is at stepped)

        next-placed : PlacedOpens t s (places_after (piece_at t (drop at s)) at f.ps) step.st.opened
        next-placed = rw here at (rw (← here, step.is) at (placed-step t s at f.st.block f.st.opened f.ps (piece_at t (drop at s)) before-end (here-cut t s at legible.table f.made before-end).fair f.placed))

        pass-goes : Passing t s next counted (depth_after p d) (block_after p block)
        pass-goes =
            let more = goes_on t s at p is legible.table f.made before-end in
            let few = f.few in
            let shallow = f.shallow in
            record {
              st = step.st;
              ps = places_after (piece_at t (drop at s)) at f.ps;
              inside = next-inside t s at p is legible.table f.made before-end;
              made = next-made t s at p is legible.table f.made before-end;
              left = next-left;
              placed = next-placed;
              reached = next-reached;
              inlines = inlines-after t s at f.ps (piece_at t (drop at s)) refl f.inlines;
              deep = next-deep;
              blocks = step.blocks;
              few = omega (arith, nodes-few d block (text t s at w f.st.block low p) p);
              shallow = omega (arith, depth-few p d);
            }

      window-goes : Windowed t s next (depth_after p d) low (place_kept w low d at p)
      window-goes =
          let opened = reached-here t s next (places_after (piece_at t (drop at s)) at f.ps) next-reached in
          let bounds = reaches-on p d low win.from win.reach ready in
          record {
            long = kept-long w low d at p ∙ win.long;
            deep = rw opened next-deep;
            from = bounds.0;
            reach = bounds.1;
            kept = rw (opened, ← here, ← f.deep) (kept_piece t (drop at s) w low at p f.ps win.long (rw opened-here at win.kept));
          }

      -- from what the functions answer
      module _ {size more d' : ℕ} {block' : Bool} {w' : List ℕ} where
        pub pass-next : size ≡ bytes_of p (length s - at) → more ≡ nodes_in d block (take (at + size - at) (drop at s)) p → w' ≡ place_kept w low d at p → block' ≡ block_after p block → d' ≡ depth_after p d → piece_fault s at w d p ≡ None → Passing t s (at + size) (n + more) d' block' × Windowed t s (at + size) d' low w'
        pass-next a b e f g z =
            let whole : at + bytes_of p (length s - at) - at ≡ bytes_of p (length s - at) = omega arith in
            rw (b, e, f, g, a, whole) (pass-goes z, window-goes)

    -- a close of the innermost open, without a look at the piece
    module _ {low : ℕ} {w : List ℕ} (win : Windowed t s at d low w) (before-end : at < length s) {r : ℕ} (h : InnermostClosed s at w d low r) where
      own : OwnClose t (drop (innermost_place w d) s) (drop at s) r
      own =
          let reach = win.reach in
          let held = h.some in
          h.close t (rw (← f.deep) (innermost-inline t s w low f.ps f.inlines (rw opened-here at win.kept) (rw f.deep reach) (rw f.deep held)))

      is-close : shown t (take (length s - at) (drop at s)) (found.Close r) ≡ piece_at t (take (length s - at) (drop at s))
      is-close = rw (rest_is s at) own.is

      pub close-onward : Onward s at r
      close-onward = onward t s at (found.Close r) is-close legible f.made before-end

      no_fault : piece_fault s at w d (found.Close r) ≡ None
      no_fault =
          let held = h.some in
          rw (ne_eqb d 0 (λ z. omega arith), own.same)

      pub close-next : Passing t s (at + r) (n + 1) (d - 1) block × Windowed t s (at + r) (d - 1) low w
      close-next = pass-next win (found.Close r) is-close before-end (λ z. h.some) refl refl refl refl refl no_fault
