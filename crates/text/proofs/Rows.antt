-- What the rows of Table 3-7 say at a place of a list. The first ranges of the rows lie one above the other, so that a first byte picks its row.
-- Assumes nothing.
use mathlib.Core.Path.{◌≡◌, refl, sym, ap, ◌∙◌}
use mathlib.Core.Bool.{Bool, true, false, not, false≢true, ◌&&◌, and-false, and-true}
use mathlib.Core.List.{List, [], ◌∷◌, Memᴰ}
use Prim.Native.Nat.{ℕ, zero, suc, ◌+◌, ◌-◌, ◌<◌, ◌≤◌, zero-le, suc-le-suc}
use native.Mathlib.Nat.{not-suc-le-zero, le_of_suc-le-suc}
use native.Mathlib.Numerals.{add-one}
use native.Mathlib.Decide.{dec_lt}
use native.Mathlib.Omega.{arith}
use lib.Dec.{leb, ltb}
use lib.ListN.{length, get_or, drop, length-drop}
use lib.Seq.{drop-cons}
use borrow.Author.Tests.{le-leb, lt-leb, ltb-true, leb-true}
use Rattle.text.specs.Pick.{Range, range, within, pick}
use Rattle.text.specs.Utf8.{begins, width_by, table3_7, width_of}
use Rattle.text.proofs.Bool.{and_left, and_right}

pub within-lo : (lo hi b : ℕ) → within lo hi b ≡ true → lo ≤ b
within-lo lo hi b e = leb-true lo b (and_left (leb lo b) (leb b hi) e)

pub within-hi : (lo hi b : ℕ) → within lo hi b ≡ true → b ≤ hi
within-hi lo hi b e = leb-true b hi (and_right (leb lo b) (leb b hi) e)

pub within-above : (hi b : ℕ) → within 0 hi b ≡ false → hi < b
within-above hi b e = go (dec_lt hi b)
  where
    go : Dec (hi < b) → hi < b
    go (yes h) = h
    go (no h) = absurd (false≢true (sym e ∙ rw (le-leb 0 b zero-le, le-leb b hi (omega arith)) refl))

-- what stands at a place
pub place : (s : List ℕ) (at : ℕ) → at < length s → drop at s ≡ get_or s at 0 ∷ drop (at + 1) s
place s at h = rw (add-one, drop-cons s at 0)

pub begins-nil : (s : List ℕ) → begins [] s ≡ true
unfolding begins
begins-nil s = refl

-- one byte of a row at a place
pub begins-at : (r : Range) (rs : List Range) (s : List ℕ) (at : ℕ) → at < length s → begins (r ∷ rs) (drop at s) ≡ (within r.lo r.hi (get_or s at 0) && begins rs (drop (at + 1) s))
unfolding begins
begins-at r rs s at h = rw (place s at h)

pub begins-yes : (lo hi : ℕ) (rs : List Range) (s : List ℕ) (at : ℕ) → at < length s → within lo hi (get_or s at 0) ≡ true → begins (range lo hi ∷ rs) (drop at s) ≡ begins rs (drop (at + 1) s)
begins-yes lo hi rs s at h e = begins-at (range lo hi) rs s at h ∙ ap (λ (t : Bool). (t && begins rs (drop (at + 1) s))) e

pub begins-no : (lo hi : ℕ) (rs : List Range) (s : List ℕ) (at : ℕ) → at < length s → within lo hi (get_or s at 0) ≡ false → begins (range lo hi ∷ rs) (drop at s) ≡ false
begins-no lo hi rs s at h e = begins-at (range lo hi) rs s at h ∙ ap (λ (t : Bool). (t && begins rs (drop (at + 1) s))) e

-- the last byte of a row
pub begins-one : (lo hi : ℕ) (s : List ℕ) (at : ℕ) → at < length s → begins (range lo hi ∷ []) (drop at s) ≡ within lo hi (get_or s at 0)
begins-one lo hi s at h = begins-at (range lo hi) [] s at h ∙ rw (begins-nil (drop (at + 1) s)) (and-true (within lo hi (get_or s at 0)))

-- a sequence is no longer than the list that it is in
begun : (rs : List Range) (s : List ℕ) → begins rs s ≡ true → length rs ≤ length s
unfolding begins
begun [] s e = zero-le
begun (r ∷ rs) [] e = absurd (false≢true e)
begun (r ∷ rs) (b ∷ s) e = suc-le-suc (begun rs s (and_right (within r.lo r.hi b) (begins rs s) e))

pub begins-short : (rs : List Range) (s : List ℕ) (at : ℕ) → length s - at < length rs → begins rs (drop at s) ≡ false
begins-short rs s at h = go (begins rs (drop at s)) refl
  where
    go : (t : Bool) → begins rs (drop at s) ≡ t → t ≡ false
    go true e = absurd (omega (arith, begun rs (drop at s) e, length-drop at s))
    go false e = refl

pick-le : (t : Bool) (a b n : ℕ) → (t ≡ true → a ≤ n) → b ≤ n → pick t a b ≤ n
pick-le true a b n h k = h refl
pick-le false a b n h k = k

width-by-le : (rows : List (List Range)) (s : List ℕ) → width_by rows s ≤ length s
unfolding width_by
width-by-le [] s = zero-le
width-by-le (row ∷ rows) s = pick-le (begins row s) (length row) (width_by rows s) (length s) (begun row s) (width-by-le rows s)

pub width-le : (s : List ℕ) → width_of s ≤ length s
unfolding width_of
width-le s = width-by-le table3_7 s

-- what a test says of every row of the table, it says of each
unfoldable pub every : (List Range → Bool) → List (List Range) → Bool
every p [] = true
every p (row ∷ rows) = p row && every p rows

pub every_in : (p : List Range → Bool) (rows : List (List Range)) (row : List Range) → every p rows ≡ true → Memᴰ row rows → p row ≡ true
unfolding every
every_in p (q ∷ rows) row e (mathlib.Core.List.Memᴰ.head h) = rw h (and_left (p q) (every p rows) e)
every_in p (q ∷ rows) row e (mathlib.Core.List.Memᴰ.tail m) = every_in p rows row (and_right (p q) (every p rows) e) m
every_in p [] row e x'' = elim x'' [ ]

-- a row has from 1 to 4 bytes
sized : List Range → Bool
sized row = within 1 4 (length row)

table-sized : every sized table3_7 ≡ true
unfolding every sized table3_7
table-sized = refl

pub row-long : (row : List Range) → Memᴰ row table3_7 → 0 < length row
unfolding sized
row-long row m = within-lo 1 4 (length row) (every_in sized table3_7 row table-sized m)

pub row-short : (row : List Range) → Memᴰ row table3_7 → length row ≤ 4
unfolding sized
row-short row m = within-hi 1 4 (length row) (every_in sized table3_7 row table-sized m)

-- the width that a test picks
pub picked : (w n : ℕ) (t : Bool) → w ≡ pick t n 0 → not t ≡ false → w ≡ n
picked w n true e y = e
picked w n false e y = absurd (false≢true (sym y))

pub unpicked : (w n : ℕ) (t : Bool) → w ≡ pick t n 0 → not t ≡ true → w ≡ 0
unpicked w n true e y = absurd (false≢true y)
unpicked w n false e y = e

-- a row at a first byte below, above and in its first range
module _ (r : Range) (rs : List Range) (rows : List (List Range)) (b : ℕ) (s : List ℕ) where
  under : b < r.lo → width_by ((r ∷ rs) ∷ rows) (b ∷ s) ≡ width_by rows (b ∷ s)
  unfolding width_by begins
  under h = rw (lt-leb r.lo b h)

  over : r.hi < b → width_by ((r ∷ rs) ∷ rows) (b ∷ s) ≡ width_by rows (b ∷ s)
  unfolding width_by begins
  over h = rw (lt-leb b r.hi h, and-false (leb r.lo b))

  fits : r.lo ≤ b → b ≤ r.hi → width_by rows (b ∷ s) ≡ 0 → width_by ((r ∷ rs) ∷ rows) (b ∷ s) ≡ pick (begins rs s) (suc (length rs)) 0
  unfolding width_by begins
  fits h k e = rw (le-leb r.lo b h, le-leb b r.hi k, e)

-- each row has a first range, and it lies above the number
unfoldable above : ℕ → List (List Range) → Bool
above h [] = true
above h ([] ∷ rows) = false
above h ((r ∷ rs) ∷ rows) = ltb h r.lo && above h rows

-- the first ranges of the rows lie one above the other
unfoldable rising : List (List Range) → Bool
rising [] = true
rising ([] ∷ rows) = false
rising ((r ∷ rs) ∷ rows) = above r.hi rows && rising rows

table-rises : rising table3_7 ≡ true
unfolding rising above table3_7
table-rises = refl

under_all : (h : ℕ) (rows : List (List Range)) (b : ℕ) (s : List ℕ) → above h rows ≡ true → b ≤ h → width_by rows (b ∷ s) ≡ 0
unfolding above width_by
under_all h [] b s e l = refl
under_all h ([] ∷ rows) b s e l = absurd (false≢true e)
under_all h ((r ∷ rs) ∷ rows) b s e l =
    let low : h < r.lo = ltb-true h r.lo (and_left (ltb h r.lo) (above h rows) e) in
    under r rs rows b s (omega arith) ∙ under_all h rows b s (and_right (ltb h r.lo) (above h rows) e) l

-- each row has a first range, and it ends at the number or below it
unfoldable beneath : ℕ → List (List Range) → Bool
beneath h [] = true
beneath h ([] ∷ rows) = false
beneath h ((r ∷ rs) ∷ rows) = leb r.hi h && beneath h rows

over-all : (h : ℕ) (rows : List (List Range)) (b : ℕ) (s : List ℕ) → beneath h rows ≡ true → h < b → width_by rows (b ∷ s) ≡ 0
unfolding beneath width_by
over-all h [] b s e l = refl
over-all h ([] ∷ rows) b s e l = absurd (false≢true e)
over-all h ((r ∷ rs) ∷ rows) b s e l =
    let high : r.hi ≤ h = leb-true r.hi h (and_left (leb r.hi h) (beneath h rows) e) in
    over r rs rows b s (omega arith) ∙ over-all h rows b s (and_right (leb r.hi h) (beneath h rows) e) l

-- a row among those above a number starts above it
above_in : (h : ℕ) (rows : List (List Range)) (r : Range) (rs : List Range) → above h rows ≡ true → Memᴰ (r ∷ rs) rows → h < r.lo
unfolding above
above_in h ([] ∷ rows) r rs e m = absurd (false≢true e)
above_in h ((q ∷ qs) ∷ rows) r rs e (mathlib.Core.List.Memᴰ.head p) =
    let same : q ≡ r = cc in
    rw (← same) (ltb-true h q.lo (and_left (ltb h q.lo) (above h rows) e))
above_in h ((q ∷ qs) ∷ rows) r rs e (mathlib.Core.List.Memᴰ.tail m) = above_in h rows r rs (and_right (ltb h q.lo) (above h rows) e) m
above_in h [] r rs e m = elim m [ ]

row-among : (rows : List (List Range)) (r : Range) (rs : List Range) (b : ℕ) (s : List ℕ) → rising rows ≡ true → Memᴰ (r ∷ rs) rows → r.lo ≤ b → b ≤ r.hi → width_by rows (b ∷ s) ≡ pick (begins rs s) (suc (length rs)) 0
unfolding rising
row-among ([] ∷ rows) r rs b s e m g h = absurd (false≢true e)
row-among ((q ∷ qs) ∷ rows) r rs b s e (mathlib.Core.List.Memᴰ.head p) g h =
    let same : q ≡ r = cc in
    let rest : qs ≡ rs = cc in
    let high : above r.hi rows ≡ true = rw (← same) (and_left (above q.hi rows) (rising rows) e) in
    rw (same, rest) (fits r rs rows b s g h (under_all r.hi rows b s high h))
row-among ((q ∷ qs) ∷ rows) r rs b s e (mathlib.Core.List.Memᴰ.tail m) g h =
    let high : q.hi < r.lo = above_in q.hi rows r rs (and_left (above q.hi rows) (rising rows) e) m in
    over q qs rows b s (omega arith) ∙ row-among rows r rs b s (and_right (above q.hi rows) (rising rows) e) m g h
row-among [] r rs b s e m g h = elim m [ ]

-- a first byte in the first range of a row
pub row_in : (r : Range) (rs : List Range) (b : ℕ) (s : List ℕ) → Memᴰ (r ∷ rs) table3_7 → r.lo ≤ b → b ≤ r.hi → width_of (b ∷ s) ≡ pick (begins rs s) (suc (length rs)) 0
unfolding width_of
row_in r rs b s m g h = row-among table3_7 r rs b s table-rises m g h

-- the width of a list that begins with a row is the row's
pub row-begins : (row : List Range) (l : List ℕ) → Memᴰ row table3_7 → begins row l ≡ true → width_of l ≡ length row
unfolding begins
row-begins [] l m e = absurd (not-suc-le-zero (row-long [] m))
row-begins (r ∷ rs) [] m e = absurd (false≢true e)
row-begins (r ∷ rs) (b ∷ s) m e =
    let here : within r.lo r.hi b ≡ true = and_left (within r.lo r.hi b) (begins rs s) e in
    row_in r rs b s m (within-lo r.lo r.hi b here) (within-hi r.lo r.hi b here) ∙ rw (and_right (within r.lo r.hi b) (begins rs s) e)

row-there : (rows : List (List Range)) (k : ℕ) → k < length rows → Memᴰ (get_or rows k []) rows
row-there [] k h = absurd (not-suc-le-zero h)
row-there (row ∷ rows) zero h = mathlib.Core.List.Memᴰ.head refl
row-there (row ∷ rows) (suc k) h = mathlib.Core.List.Memᴰ.tail (row-there rows k (le_of_suc-le-suc h))

-- row number k, from 0, at a place
abbrev pub row_of : ℕ → List Range
row_of k = get_or table3_7 k []

module _ (s : List ℕ) (at : ℕ) (h : at < length s) where
  abbrev b : ℕ
  b = get_or s at 0

  pub row_at : (k : ℕ) (r : Range) (rs : List Range) → k < 9 → row_of k ≡ r ∷ rs → r.lo ≤ b → b ≤ r.hi → width_of (drop at s) ≡ pick (begins rs (drop (at + 1) s)) (suc (length rs)) 0
  unfolding table3_7
  row_at k r rs l e g t =
      let m : Memᴰ (r ∷ rs) table3_7 = rw e at (row-there table3_7 k l) in
      rw (place s at h) (row_in r rs b (drop (at + 1) s) m g t)

  -- between the rows of one byte and of two, and past the last
  pub row_low : 0x80 ≤ b → b < 0xC2 → width_of (drop at s) ≡ 0
  unfolding width_of table3_7 above
  row_low g t = rw (place s at h) (over (range 0x00 0x7F) [] _ b (drop (at + 1) s) (omega arith) ∙ under_all 0xC1 _ b (drop (at + 1) s) refl (omega arith))

  pub row-high : 0xF4 < b → width_of (drop at s) ≡ 0
  unfolding width_of table3_7 beneath
  row-high g = rw (place s at h) (over-all 0xF4 table3_7 b (drop (at + 1) s) refl g)
