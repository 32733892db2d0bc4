-- Line and column of every place, written to two lists.
-- Assumes nothing.
use Prim.Native.Nat.{ℕ, zero, suc, ◌+◌, ◌-◌, ◌<◌, ◌≤◌}
use native.Mathlib.Omega.{arith}
use native.Mathlib.Nat.{add-zero, zero-add}
use native.Mathlib.Numerals.{add-one}
use mathlib.Core.Path.{◌≡◌, refl, sym, ap, ◌∙◌}
use mathlib.Core.List.{List, [], ◌∷◌}
use Rattle.std.specs.Prelude.{Option, Some, None}
use lib.Dec.{eqb}
use lib.ListN.{length, set, get_or, length-set}
use borrow.Author.Tests.{eq-eqb, ne_eqb}
use Rattle.text.specs.Pick.{pick}
use Rattle.text.specs.Utf8.{first_ill_formed}
use Rattle.refusals.specs.Refusal.{or_else, source_not_utf8}
use Rattle.refusals.proofs.First.{refused, neither}
use Rattle.buffer.specs.Over.{over}
use Rattle.buffer.proofs.Over.{over_none, over-set, length_over}
use Rattle.definition.specs.Outcome.{of1, of2, of3, of_tape, of9}
use Rattle.refusals.specs.Refusal.{at_place}
use Rattle.messages.specs.Answer.{document, first_nine}
use Rattle.listing.specs.Lines.{place_from, line_and_column}
use Rattle.listing.specs.Columns.{line_start, column_at}
use Rattle.listing.specs.LinesAndColumns.{each_from, lines_from, columns_from, PlacesOf}
use Rattle.listing.specs.Pieces.{Listable}
use Rattle.table.specs.Inner.{Indexed}
use Rattle.tape.specs.Forest.{Accepted}
use Rattle.listing.proofs.Columns.{after_line, place-on, count-nothing, column-break, column-further, column-low, column-high}

-- what is left to write of the first n places gives what the whole gives
pub record WritingEach (f : ℕ → ℕ) (n : ℕ) (l₀ l : List ℕ) (i : ℕ) : Type 0 where
  pub whole : over l i (each_from f i (n - i)) ≡ over l₀ 0 (each_from f 0 n)
  pub same : length l ≡ length l₀

module _ (f : ℕ → ℕ) (n : ℕ) (l₀ : List ℕ) where
  writing_start : WritingEach f n l₀ l₀ 0
  writing_start = let e : n - 0 ≡ n = omega arith in record { whole = rw e; same = refl }

  module _ (l : List ℕ) (i : ℕ) (t : WritingEach f n l₀ l i) where
    writing-on : i < n → n ≤ length l₀ → WritingEach f n l₀ (set l i (f i)) (i + 1)
    unfolding each_from
    writing-on h k =
        let e : n - i ≡ suc (n - (i + 1)) = omega arith in
        let room : i < length l = rw t.same (omega arith) in
        record {
          whole = sym (over-set l i (f i) (each_from f (i + 1) (n - (i + 1))) room) ∙ rw add-one (rw (e, add-one) at t.whole);
          same = length-set l i (f i) ∙ t.same;
        }

    writing-all : n ≤ i → l ≡ over l₀ 0 (each_from f 0 n)
    unfolding each_from
    writing-all h =
        let e : n - i ≡ 0 = omega arith in
        sym (over_none l i) ∙ rw e at t.whole

-- the places before one are written, and line and column are those of that place
pub record PlacesSoFar (s l₀ m₀ l m : List ℕ) (line column i : ℕ) : Type 0 where
  pub left : i ≤ length s
  pub line-is : (line_and_column s i).line ≡ line
  pub column-is : column_at s i ≡ column
  pub low : line ≤ i + 1
  pub near : column ≤ i + 1
  pub lines : WritingEach (λ k. (line_and_column s k).line) (length s + 1) l₀ l i
  pub columns : WritingEach (λ k. column_at s k) (length s + 1) m₀ m i

pub places-start : (s l m : List ℕ) → PlacesSoFar s l m l m 1 1 0
unfolding place_from column_at line_start
places-start s l m = record { left = omega arith; line-is = refl; column-is = ap suc (count-nothing 0 _); low = omega arith; near = omega arith; lines = writing_start _ _ _; columns = writing_start _ _ _ }

module _ (s l₀ m₀ l m : List ℕ) (line column i : ℕ) (y : PlacesSoFar s l₀ m₀ l m line column i) (h : length s < length l₀) (k : length s < length m₀) where
  writing-line : WritingEach (λ k. (line_and_column s k).line) (length s + 1) l₀ (set l i line) (i + 1)
  writing-line =
      let v = y.left in
      rw y.line-is at (writing-on _ _ _ l i y.lines (omega arith) (omega arith))

  writing-column : WritingEach (λ k. column_at s k) (length s + 1) m₀ (set m i column) (i + 1)
  writing-column =
      let v = y.left in
      rw y.column-is at (writing-on _ _ _ m i y.columns (omega arith) (omega arith))

  line_after : i < length s → (line_and_column s (i + 1)).line ≡ pick (eqb (get_or s i 0) 10) (line + 1) line
  line_after g = rw (add-one i, place-on (record { line = 1; column = 1 }) s i g, after_line (get_or s i 0) (line_and_column s i), y.line-is)

  pub places-break : i < length s → get_or s i 0 ≡ 10 → PlacesSoFar s l₀ m₀ (set l i line) (set m i column) (line + 1) 1 (i + 1)
  places-break g e =
      let v = y.low in
      record { left = omega arith; line-is = line_after g ∙ rw (eq-eqb (get_or s i 0) 10 e); column-is = column-break s i e; low = omega arith; near = omega arith; lines = writing-line; columns = writing-column }

  -- behind another byte, by the column there
  module _ (g : i < length s) (n : get_or s i 0 ≡ 10 → ⊥) where
    places-on : (next : ℕ) → column_at s (i + 1) ≡ next → next ≤ i + 2 → PlacesSoFar s l₀ m₀ (set l i line) (set m i column) line next (i + 1)
    places-on next e b =
        let v = y.low in
        record { left = omega arith; line-is = line_after g ∙ rw (ne_eqb (get_or s i 0) 10 n); column-is = e; low = omega arith; near = omega arith; lines = writing-line; columns = writing-column }

    module _ (f : first_ill_formed s ≡ None) where
      pub places-further : 0x80 ≤ get_or s i 0 → get_or s i 0 ≤ 0xBF → PlacesSoFar s l₀ m₀ (set l i line) (set m i column) line column (i + 1)
      places-further a b = let w = y.near in places-on column (column-further s f i g n a b ∙ y.column-is) (omega arith)

      pub places-low : get_or s i 0 < 0x80 → PlacesSoFar s l₀ m₀ (set l i line) (set m i column) line (column + 1) (i + 1)
      places-low a = let w = y.near in places-on (column + 1) (column-low s f i g n a ∙ ap (◌+ 1) y.column-is) (omega arith)

      pub places-high : 0xBF < get_or s i 0 → PlacesSoFar s l₀ m₀ (set l i line) (set m i column) line (column + 1) (i + 1)
      places-high a = let w = y.near in places-on (column + 1) (column-high s f i g n a ∙ ap (◌+ 1) y.column-is) (omega arith)

  module _ (g : length s ≤ i) where
    at-end : length s ≡ i
    at-end = let v = y.left in omega arith

    pub lines-written : set l (length s) line ≡ over l₀ 0 (lines_from s 0 (length s + 1))
    lines-written = ap (λ (n : ℕ). set l n line) at-end ∙ writing-all _ _ _ _ (i + 1) writing-line (omega arith)

    pub columns-written : set m (length s) column ≡ over m₀ 0 (columns_from s 0 (length s + 1))
    columns-written = ap (λ (n : ℕ). set m n column) at-end ∙ writing-all _ _ _ _ (i + 1) writing-column (omega arith)

-- an element of a list from its start on, and the i-th of the places from one on
get_d_over : (l w : List ℕ) (i : ℕ) → i < length l → i < length w → get_or (over l 0 w) i 0 ≡ get_or w i 0
unfolding over
get_d_over [] w i h k = absurd (omega arith)
get_d_over (x ∷ l) [] i h k = absurd (omega arith)
get_d_over (x ∷ l) (b ∷ w) zero h k = refl
get_d_over (x ∷ l) (b ∷ w) (suc i) h k = get_d_over l w i (omega arith) (omega arith)

module _ (f : ℕ → ℕ) where
  each-length : (i n : ℕ) → length (each_from f i n) ≡ n
  unfolding each_from
  each-length i zero = refl
  each-length i (suc n) = ap suc (each-length (suc i) n)

  each_at : (i n k : ℕ) → k < n → get_or (each_from f i n) k 0 ≡ f (i + k)
  unfolding each_from
  each_at i zero k h = absurd (omega arith)
  each_at i (suc n) zero h = rw add-zero
  each_at i (suc n) (suc k) h = let e : suc i + k ≡ i + suc k = omega arith in rw (← e) (each_at (suc i) n k (omega arith))

  at-place : (l : List ℕ) (n i : ℕ) → i < n → n ≤ length l → get_or (over l 0 (each_from f 0 n)) i 0 ≡ f i
  at-place l n i h k = get_d_over l (each_from f 0 n) i (omega arith) (rw (each-length 0 n) h) ∙ rw zero-add at (each_at 0 n i h)

-- what stands at a place of the two lists after `lines_and_columns`
module _ (s l : List ℕ) (i : ℕ) (h : i ≤ length s) (k : length s < length l) where
  pub line_at : get_or (over l 0 (lines_from s 0 (length s + 1))) i 0 ≡ (line_and_column s i).line
  line_at = at-place (λ k. (line_and_column s k).line) l (length s + 1) i (omega arith) (omega arith)

  pub column-at : get_or (over l 0 (columns_from s 0 (length s + 1))) i 0 ≡ column_at s i
  column-at = at-place (λ k. column_at s k) l (length s + 1) i (omega arith) (omega arith)

pub places_of : (s l m : List ℕ) → length s < length l → length s < length m → PlacesOf s (over l 0 (lines_from s 0 (length s + 1))) (over m 0 (columns_from s 0 (length s + 1)))
places_of s l m h k =
    record {
      lines_room = rw (length_over l 0 (lines_from s 0 (length s + 1))) h;
      columns_room = rw (length_over m 0 (columns_from s 0 (length s + 1))) k;
      lines_are = λ i low. line_at s l i low h;
      columns_are = λ i low. column-at s m i low k;
    }

-- what `put_findings` requires of a document, after `lines_and_columns`
pub listable : {table index : List ℕ} {entries : ℕ} {s t : List ℕ} (l m lines columns : List ℕ) → Indexed table index entries → Accepted s t → length s ≤ 1048576 → length s < length l → length s < length m → lines ≡ over l 0 (lines_from s 0 (length s + 1)) → columns ≡ over m 0 (columns_from s 0 (length s + 1)) → Listable table index entries s t lines columns
listable {s = s} l m lines columns i a short h k e f =
    record { indexed = i; accepted = a; short = short; places = rw (e, f) (places_of s l m h k) }

-- a source that numbers 1 to 9 pass is well-formed, which `lines_and_columns` requires
pub source-well-formed : (table s t : List ℕ) → first_nine table s t ≡ None → first_ill_formed s ≡ None
unfolding first_nine
source-well-formed table s t e =
    let d = document table s t in
    let rest = or_else (of_tape d) (of9 d) in
    go (first_ill_formed s) (neither (of3 d) rest (neither (of2 d) (or_else (of3 d) rest) (neither (of1 d) (or_else (of2 d) (or_else (of3 d) rest)) e).1).1).0
  where
    go : (x : Option ℕ) → at_place source_not_utf8 x ≡ None → x ≡ None
    go None z = refl
    go (Some at) z = refused _ z
