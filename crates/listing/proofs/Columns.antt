-- The column of a place: in well-formed text the characters begin at the bytes outside 80 to BF, so that the column is counted by bytes.
-- Assumes nothing.
use Prim.Native.Nat.{ℕ, zero, suc, pred, ◌+◌, ◌-◌, ◌<◌, ◌≤◌}
use native.Mathlib.Nat.{add-zero}
use native.Mathlib.Numerals.{add-one}
use native.Mathlib.Decide.{dec_le}
use native.Mathlib.Omega.{arith}
use mathlib.Core.Path.{◌≡◌, refl, sym, ap, ◌∙◌}
use mathlib.Core.Bool.{Bool, true, false, ◌&&◌, and-false}
use mathlib.Core.List.{List, [], ◌∷◌, ◌++◌}
use Rattle.std.specs.Prelude.{None}
use lib.Dec.{eqb, leb, ltb}
use lib.ListN.{length, get_or, take, drop, length-drop, drop_of_length-le, get_or-eq_default}
use lib.Seq.{take-suc, take_all, get_or-drop, length-take-le}
use borrow.Author.Tests.{eq-eqb, ne_eqb, le-leb, lt-leb, lt-ltb, le-ltb, eqb-false}
use Rattle.text.specs.declared.Decoded.{Decoded}
use Rattle.text.specs.Pick.{pick, within, AllOf}
use Rattle.text.specs.Utf8.{first_ill_formed, Made, nothing, more, decode}
use Rattle.text.specs.Characters.{chars_past, chars}
use Rattle.text.proofs.Rows.{row-long}
use Rattle.text.proofs.Decode.{decode-width}
use Rattle.text.proofs.Chars.{chars-nil}
use Rattle.text.proofs.Shape.{row_first, row-further}
use Rattle.text.proofs.Exact.{fits-length, utf8-exact}
use Rattle.text.proofs.Boundary.{seq-decode, seq-chars}
use Rattle.listing.specs.Lines.{Place, after_byte, place_from, line_and_column}
use Rattle.listing.specs.Columns.{line_start, beginnings, count_between, column_at, line_before, outside80_bf, how_many}

-- ---- Where a line starts

start-le : (s : List ℕ) (at : ℕ) → line_start s at ≤ at
unfolding line_start
start-le s zero = omega arith
start-le s (suc n) = go (eqb (get_or s n 0) 10) (start-le s n)
  where
    go : (d : Bool) → line_start s n ≤ n → pick d (suc n) (line_start s n) ≤ suc n
    go true h = omega arith
    go false h = omega arith

module _ (s : List ℕ) (n : ℕ) where
  start-break : get_or s n 0 ≡ 10 → line_start s (suc n) ≡ suc n
  unfolding line_start
  start-break e = rw (eq-eqb (get_or s n 0) 10 e)

  start-on : (get_or s n 0 ≡ 10 → ⊥) → line_start s (suc n) ≡ line_start s n
  unfolding line_start
  start-on e = rw (ne_eqb (get_or s n 0) 10 e)

-- ---- Characters, and bytes outside 80 to BF

-- the places of the bytes outside 80 to BF, of a list that stands at a place
unfoldable places_outside : ℕ → List ℕ → List ℕ
places_outside at [] = []
places_outside at (b ∷ s) = pick (outside80_bf b) (at ∷ places_outside (suc at) s) (places_outside (suc at) s)

further-passed : (at : ℕ) (a t : List ℕ) → ((k : ℕ) → k < length a → within 0x80 0xBF (get_or a k 0) ≡ true) → places_outside at (a ++ t) ≡ places_outside (at + length a) t
unfolding places_outside
further-passed at [] t h = rw add-zero
further-passed at (b ∷ a) t h =
    let e : suc at + length a ≡ at + suc (length a) = omega arith in
    rw (h 0 (omega arith)) (further-passed (suc at) a t (λ k l. h (suc k) (omega arith)) ∙ rw e)

-- in well-formed text a character begins exactly at each byte outside 80 to BF
begin-outside : {s : List ℕ} → Made s → (at : ℕ) → beginnings at (chars s) ≡ places_outside at s
unfolding beginnings places_outside
begin-outside nothing at = rw chars-nil
begin-outside (more row [] m f r e) at = absurd (omega (arith, row-long row m, fits-length row [] f))
begin-outside (more row (b ∷ a) {s} {l} m f r e) at =
    let z : suc at + length a ≡ at + suc (length a) = omega arith in
    let rest : places_outside (suc at) (a ++ s) ≡ places_outside (at + suc (length a)) s = further-passed (suc at) a s (λ k h. row-further row b a k m f h) ∙ rw z in
    rw (e, seq-chars row b a s m f, seq-decode row b a s m f, row_first row b a m f, rest) (ap (at ∷◌) (begin-outside r (at + suc (length a))))

-- ---- Places between two

-- from where the count begins is no matter, if all places lie behind it
count-from : (a b to at : ℕ) (s : List ℕ) → a ≤ at → b ≤ at → count_between a to (places_outside at s) ≡ count_between b to (places_outside at s)
unfolding count_between places_outside
count-from a b to at [] h k = refl
count-from a b to at (x ∷ s) h k = go (outside80_bf x) (count-from a b to (suc at) s (omega arith) (omega arith))
  where
    go : (d : Bool) → count_between a to (places_outside (suc at) s) ≡ count_between b to (places_outside (suc at) s) → count_between a to (pick d (at ∷ places_outside (suc at) s) (places_outside (suc at) s)) ≡ count_between b to (pick d (at ∷ places_outside (suc at) s) (places_outside (suc at) s))
    go true e = rw (le-leb a at h, le-leb b at k, e)
    go false e = e

pub count-nothing : (a : ℕ) (ps : List ℕ) → count_between a a ps ≡ 0
unfolding count_between
count-nothing a [] = refl
count-nothing a (p ∷ ps) = go (dec_le a p) (count-nothing a ps)
  where
    go : Dec (a ≤ p) → count_between a a ps ≡ 0 → pick (leb a p && ltb p a) (suc (count_between a a ps)) (count_between a a ps) ≡ 0
    go (yes h) e = rw (le-leb a p h, le-ltb p a h, e)
    go (no h) e = rw (lt-leb a p (omega arith), e)

-- as many of the places of a list lie between two as the part from one to the other has bytes outside 80 to BF
count-part : (at from to i n : ℕ) (s : List ℕ) → from ≡ at + i → to ≡ from + n → count_between from to (places_outside at s) ≡ how_many outside80_bf (take n (drop i s))
unfolding count_between places_outside how_many
count-part at from to i n [] e f = rw (drop_of_length-le {A = ℕ} [] {i = i} (omega arith), take_all {A = ℕ} n [] (omega arith))
count-part at from to (suc i) n (b ∷ s) e f = go (outside80_bf b) (count-part (suc at) from to i n s (omega arith) f)
  where
    go : (d : Bool) → count_between from to (places_outside (suc at) s) ≡ how_many outside80_bf (take n (drop i s)) → count_between from to (pick d (at ∷ places_outside (suc at) s) (places_outside (suc at) s)) ≡ how_many outside80_bf (take n (drop i s))
    go true h = rw (lt-leb from at (omega arith)) h
    go false h = h
count-part at from to zero zero (b ∷ s) e f = let z : to ≡ from = omega arith in rw z (count-nothing from (places_outside at (b ∷ s)))
count-part at from to zero (suc n) (b ∷ s) e f = go (outside80_bf b) (count-from from (suc at) to (suc at) s (omega arith) (omega arith) ∙ count-part (suc at) (suc at) to zero n s (omega arith) (omega arith))
  where
    go : (d : Bool) → count_between from to (places_outside (suc at) s) ≡ how_many outside80_bf (take n s) → count_between from to (pick d (at ∷ places_outside (suc at) s) (places_outside (suc at) s)) ≡ pick d (suc (how_many outside80_bf (take n s))) (how_many outside80_bf (take n s))
    go true h = rw (le-leb from at (omega arith), lt-ltb at to (omega arith), h)
    go false h = h

-- ---- The column by bytes

-- the column is one plus the bytes outside 80 to BF from the line's start to the place
pub column-first-bytes : (s : List ℕ) → first_ill_formed s ≡ None → (at : ℕ) → column_at s at ≡ suc (how_many outside80_bf (line_before s at))
unfolding column_at
column-first-bytes s e at =
    let h = start-le s at in
    ap suc (rw (begin-outside ((utf8-exact s).0 e) 0) (count-part 0 (line_start s at) at (line_start s at) (at - line_start s at) s (omega arith) (omega arith)))

-- ---- One byte further

-- behind a byte: the line, and the column in bytes
pub after_line : (b : ℕ) (p : Place) → (after_byte b p).line ≡ pick (eqb b 10) (p.line + 1) p.line
after_line b p = go (eqb b 10)
  where
    go : (d : Bool) → (pick {A = Place} d (record { line = p.line + 1; column = 1 }) (record { line = p.line; column = p.column + 1 })).line ≡ pick d (p.line + 1) p.line
    go true = refl
    go false = refl

after-column : (b : ℕ) (p : Place) → (after_byte b p).column ≡ pick (eqb b 10) 1 (p.column + 1)
after-column b p = go (eqb b 10)
  where
    go : (d : Bool) → (pick {A = Place} d (record { line = p.line + 1; column = 1 }) (record { line = p.line; column = p.column + 1 })).column ≡ pick d 1 (p.column + 1)
    go true = refl
    go false = refl

pub place-on : (p : Place) (s : List ℕ) (i : ℕ) → i < length s → place_from p s (suc i) ≡ after_byte (get_or s i 0) (place_from p s i)
unfolding place_from
place-on p [] i h = absurd (omega arith)
place-on p (b ∷ s) zero h = refl
place-on p (b ∷ s) (suc i) h = place-on (after_byte b p) s i (omega arith)

many-snoc : (p : ℕ → Bool) (s : List ℕ) (b : ℕ) → how_many p (s ++ b ∷ []) ≡ pick (p b) (suc (how_many p s)) (how_many p s)
unfolding how_many
many-snoc p [] b = refl
many-snoc p (x ∷ s) b = rw (many-snoc p s b) (go (p x) (p b))
  where
    go : (d e : Bool) → pick d (suc (pick e (suc (how_many p s)) (how_many p s))) (pick e (suc (how_many p s)) (how_many p s)) ≡ pick e (suc (pick d (suc (how_many p s)) (how_many p s))) (pick d (suc (how_many p s)) (how_many p s))
    go true true = refl
    go true false = refl
    go false true = refl
    go false false = refl

before_on : (s : List ℕ) (i : ℕ) → i < length s → (get_or s i 0 ≡ 10 → ⊥) → line_before s (suc i) ≡ line_before s i ++ get_or s i 0 ∷ []
before_on s i h n =
    let from = line_start s i in
    let k = start-le s i in
    let e : suc i - from ≡ suc (i - from) = omega arith in
    let z : from + (i - from) ≡ i = omega arith in
    rw (start-on s i n, e, take-suc (drop from s) (i - from) 0 (omega (arith, length-drop from s)), get_or-drop from s (i - from) 0, z)

-- behind a byte 10 the column is 1
pub column-break : (s : List ℕ) (i : ℕ) → get_or s i 0 ≡ 10 → column_at s (i + 1) ≡ 1
unfolding column_at
column-break s i e = rw (add-one i, start-break s i e, count-nothing (suc i) (beginnings 0 (chars s)))

-- behind another byte it is the same or one more
module _ (s : List ℕ) (e : first_ill_formed s ≡ None) (i : ℕ) (h : i < length s) (n : get_or s i 0 ≡ 10 → ⊥) where
  column-on : column_at s (i + 1) ≡ pick (outside80_bf (get_or s i 0)) (suc (column_at s i)) (column_at s i)
  column-on =
      rw (add-one i, column-first-bytes s e (suc i), column-first-bytes s e i, before_on s i h n, many-snoc outside80_bf (line_before s i) (get_or s i 0))
      (go (outside80_bf (get_or s i 0)) (how_many outside80_bf (line_before s i)))
    where
      go : (d : Bool) (k : ℕ) → suc (pick d (suc k) k) ≡ pick d (suc (suc k)) (suc k)
      go true k = refl
      go false k = refl

  pub column-further : 0x80 ≤ get_or s i 0 → get_or s i 0 ≤ 0xBF → column_at s (i + 1) ≡ column_at s i
  column-further a b = column-on ∙ rw (le-leb 0x80 (get_or s i 0) a, le-leb (get_or s i 0) 0xBF b)

  pub column-low : get_or s i 0 < 0x80 → column_at s (i + 1) ≡ column_at s i + 1
  column-low a = column-on ∙ rw (lt-leb 0x80 (get_or s i 0) a) (sym (add-one _))

  pub column-high : 0xBF < get_or s i 0 → column_at s (i + 1) ≡ column_at s i + 1
  column-high a = column-on ∙ rw (lt-leb (get_or s i 0) 0xBF a, and-false (leb 0x80 (get_or s i 0))) (sym (add-one _))

-- ---- At the end, and past it

begin-at : (a b n m : ℕ) (cs : List Decoded) → a ≡ b → n ≡ m → AllOf (λ (p : ℕ). p < m) (beginnings b cs) → AllOf (λ (p : ℕ). p < n) (beginnings a cs)
begin-at a b n m cs e f t = rw (e, f) t

begin-before : (k at : ℕ) (s : List ℕ) → AllOf (λ (p : ℕ). p < at + length s) (beginnings (at + k) (chars_past k s))
unfolding beginnings chars_past
begin-before k at [] = tt
begin-before (suc k) at (b ∷ s) =
    let e : at + suc k ≡ suc at + k = omega arith in
    let f : at + suc (length s) ≡ suc at + length s = omega arith in
    rw (e, f) (begin-before k (suc at) s)
begin-before zero at (b ∷ s) =
    let w = (decode (b ∷ s)).width in
    let d = decode-width (b ∷ s) (omega arith) in
    (omega arith, begin-at _ _ _ _ _ (omega arith) (omega arith) (begin-before (pred w) (suc at) s))

count_past : (from a b n : ℕ) (ps : List ℕ) → AllOf (λ (p : ℕ). p < n) ps → n ≤ a → n ≤ b → count_between from a ps ≡ count_between from b ps
unfolding count_between
count_past from a b n [] h j k = refl
count_past from a b n (p ∷ ps) h j k = let l = h.0 in rw (lt-ltb p a (omega arith), lt-ltb p b (omega arith), count_past from a b n ps h.1 j k)

start-past : (s : List ℕ) (n : ℕ) → length s ≤ n → line_start s n ≡ line_start s (length s)
start-past s zero h = let z : length s ≡ 0 = omega arith in rw z
start-past s (suc n) h = go (dec_le (length s) n) (start-past s n)
  where
    go : Dec (length s ≤ n) → (length s ≤ n → line_start s n ≡ line_start s (length s)) → line_start s (suc n) ≡ line_start s (length s)
    go (yes l) ih = start-on s n (λ e. eqb-false 0 10 refl (sym (get_or-eq_default s 0 l) ∙ e)) ∙ ih l
    go (no l) ih = let z : suc n ≡ length s = omega arith in rw z

-- past the end of a text the column is that of its end
pub column-past : (s : List ℕ) (at : ℕ) → length s ≤ at → column_at s at ≡ column_at s (length s)
unfolding column_at
column-past s at h = rw (start-past s at h) (ap suc (count_past (line_start s (length s)) at (length s) (0 + length s) (beginnings 0 (chars s)) (begin-before 0 0 s) (omega arith) (omega arith)))

begin-few : (k at : ℕ) (s : List ℕ) → length (beginnings at (chars_past k s)) ≤ length s
unfolding beginnings chars_past
begin-few k at [] = omega arith
begin-few (suc k) at (b ∷ s) = omega (arith, begin-few k at s)
begin-few zero at (b ∷ s) = omega (arith, begin-few (pred (decode (b ∷ s)).width) (at + (decode (b ∷ s)).width) s)

count-le : (from to : ℕ) (ps : List ℕ) → count_between from to ps ≤ length ps
unfolding count_between
count-le from to [] = omega arith
count-le from to (p ∷ ps) = go (leb from p && ltb p to) (count-le from to ps)
  where
    go : (d : Bool) → count_between from to ps ≤ length ps → pick d (suc (count_between from to ps)) (count_between from to ps) ≤ suc (length ps)
    go true h = omega arith
    go false h = omega arith

-- no column is more than the text's length and one
pub column-few : (s : List ℕ) (at : ℕ) → column_at s at ≤ length s + 1
unfolding column_at
column-few s at = omega (arith, count-le (line_start s at) at (beginnings 0 (chars s)), begin-few 0 0 s)

-- ---- The column in bytes

module _ (s : List ℕ) where
  byte-column : (at : ℕ) → at ≤ length s → (line_and_column s at).column ≡ suc (at - line_start s at)
  unfolding place_from line_start
  byte-column zero h = refl
  byte-column (suc n) h =
      rw (place-on (record { line = 1; column = 1 }) s n h, after-column (get_or s n 0) (line_and_column s n)) (go (eqb (get_or s n 0) 10) (byte-column n (omega arith)) (start-le s n))
    where
      go : (d : Bool) → (line_and_column s n).column ≡ suc (n - line_start s n) → line_start s n ≤ n → pick d 1 ((line_and_column s n).column + 1) ≡ suc (suc n - pick d (suc n) (line_start s n))
      go true e l = omega arith
      go false e l = omega arith

  byte-length : (at : ℕ) → at ≤ length s → (line_and_column s at).column ≡ suc (length (line_before s at))
  byte-length at h =
      let k = start-le s at in
      byte-column at h ∙ ap suc (sym (length-take-le (at - line_start s at) (drop (line_start s at) s) (omega (arith, length-drop (line_start s at) s))))

many-le : (p : ℕ → Bool) (s : List ℕ) → how_many p s ≤ length s
unfolding how_many
many-le p [] = omega arith
many-le p (b ∷ s) = go (p b) (many-le p s)
  where
    go : (d : Bool) → how_many p s ≤ length s → pick d (suc (how_many p s)) (how_many p s) ≤ suc (length s)
    go true h = omega arith
    go false h = omega arith

many-ascii : (s : List ℕ) → AllOf (λ (b : ℕ). b < 0x80) s → how_many outside80_bf s ≡ length s
unfolding how_many
many-ascii [] h = refl
many-ascii (b ∷ s) h = rw (lt-leb 0x80 b h.0) (ap suc (many-ascii s h.1))

module _ (s : List ℕ) (e : first_ill_formed s ≡ None) (at : ℕ) (h : at ≤ length s) where
  pub column-at-most-bytes : column_at s at ≤ (line_and_column s at).column
  column-at-most-bytes = rw (column-first-bytes s e at, byte-length s at h) (omega (arith, many-le outside80_bf (line_before s at)))

  pub column-ascii : AllOf (λ (b : ℕ). b < 0x80) (line_before s at) → column_at s at ≡ (line_and_column s at).column
  column-ascii a = rw (column-first-bytes s e at, byte-length s at h) (ap suc (many-ascii (line_before s at) a))
