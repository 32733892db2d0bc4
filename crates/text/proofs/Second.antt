-- The rows of two, three and four bytes: a first byte picks its row, and the row's other ranges decide.
-- Assumes nothing.
use mathlib.Core.Path.{◌≡◌, refl, sym, ap, ◌∙◌}
use mathlib.Core.Bool.{Bool, true, false, false≢true, ◌&&◌, and-true}
use mathlib.Core.List.{List, [], ◌∷◌}
use mathlib.Core.Logic.{◌⊎◌, inl, inr}
use Prim.Native.Nat.{ℕ, suc, ◌+◌, ◌<◌, ◌≤◌}
use native.Mathlib.Decide.{ℕ_discrete, dec_lt}
use native.Mathlib.Omega.{arith}
use lib.Dec.{eqb}
use lib.ListN.{length, get_or, drop, take, length-drop}
use borrow.Author.Tests.{eq-eqb, ne_eqb, le-leb}
use Rattle.text.specs.Pick.{Range, range, within, pick}
use Rattle.text.specs.Utf8.{begins, table3_7, width_of}
use Rattle.text.proofs.Rows.{within-lo, within-hi, place, width-le, row_of, row_at, row_low, row-high, begins-one, begins-short}

-- a width that a test picks
picks : (t : Bool) (n : ℕ) → eqb (pick t (suc n) 0) (suc n) ≡ t
picks true n = eq-eqb (suc n) (suc n) refl
picks false n = ne_eqb 0 (suc n) (λ e. omega arith)

-- the range of third and fourth bytes
abbrev other : Range
other = range 0x80 0xBF

assoc : (x y z : Bool) → (x && (y && z)) ≡ ((x && y) && z)
assoc true y z = refl
assoc false y z = refl

-- what `t && u` computes to, by the way that it was reached
pub both_of : (t v x u : Bool) → t ≡ v → ((t ≡ true) × (x ≡ u)) ⊎ ((t ≡ false) × (x ≡ t)) → x ≡ (v && u)
both_of t v x u e (inl w) = rw (← e, w.0) w.1
both_of t v x u e (inr w) = rw (← e, w.0) (w.1 ∙ w.0)

-- a row looks at no more bytes than it has ranges
begins-take : (rs : List Range) (l : List ℕ) → begins rs (take (length rs) l) ≡ begins rs l
unfolding begins
begins-take [] l = refl
begins-take (r ∷ rs) [] = refl
begins-take (r ∷ rs) (b ∷ l) = ap (λ (t : Bool). within r.lo r.hi b && t) (begins-take rs l)

module _ (b : ℕ) where
  -- the ranges of a row after its first decide whether the width is the row's
  module _ (k : ℕ) (r : Range) (rest : List Range) (n : k < 9) (e : row_of k ≡ r ∷ rest) (low : r.lo ≤ b) (high : b ≤ r.hi) where
    row-tests : (l : List ℕ) → begins rest l ≡ eqb (width_of (b ∷ l)) (suc (length rest))
    row-tests l = rw (row_at (b ∷ l) 0 (omega arith) k r rest n e low high) (sym (picks (begins rest l) (length rest)))

    row-takes : (l : List ℕ) → width_of (b ∷ l) ≡ pick (eqb (width_of (b ∷ take (length rest) l)) (suc (length rest))) (suc (length rest)) 0
    row-takes l = row_at (b ∷ l) 0 (omega arith) k r rest n e low high ∙ ap (λ (t : Bool). pick t (suc (length rest)) 0) (sym (begins-take rest l) ∙ row-tests (take (length rest) l))

  -- a first byte below E0 begins a sequence of two bytes at most
  low-width : b < 0xE0 → (l : List ℕ) → width_of (b ∷ l) ≤ 2
  unfolding table3_7
  low-width h l = go (dec_lt b 0x80) (dec_lt b 0xC2)
    where
      most : (t : Bool) (n : ℕ) → n ≤ 2 → pick t n 0 ≤ 2
      most true n k = k
      most false n k = omega arith

      go : Dec (b < 0x80) → Dec (b < 0xC2) → width_of (b ∷ l) ≤ 2
      go (yes g) y = rw (row_at (b ∷ l) 0 (omega arith) 0 (range 0x00 0x7F) [] (omega arith) refl (omega arith) (omega arith)) (most (begins [] l) 1 (omega arith))
      go (no g) (yes y) = rw (row_low (b ∷ l) 0 (omega arith) (omega arith) y) (omega arith)
      go (no g) (no y) = rw (row_at (b ∷ l) 0 (omega arith) 1 (range 0xC2 0xDF) (other ∷ []) (omega arith) refl (omega arith) (omega arith)) (most (begins (other ∷ []) l) 2 (omega arith))

  -- the first three bytes decide from E0 to EF, the first four from F0 on
  three-taken : 0xE0 ≤ b → b ≤ 0xEF → (l : List ℕ) → width_of (b ∷ l) ≡ pick (eqb (width_of (b ∷ take 2 l)) 3) 3 0
  unfolding table3_7
  three-taken g k l = go (ℕ_discrete b 0xE0) (ℕ_discrete b 0xED) (dec_lt b 0xED)
    where
      go : Dec (b ≡ 0xE0) → Dec (b ≡ 0xED) → Dec (b < 0xED) → width_of (b ∷ l) ≡ pick (eqb (width_of (b ∷ take 2 l)) 3) 3 0
      go (yes e) y z = row-takes 2 (range 0xE0 0xE0) (range 0xA0 0xBF ∷ other ∷ []) (omega arith) refl (omega arith) (omega arith) l
      go (no n) (yes e) z = row-takes 4 (range 0xED 0xED) (range 0x80 0x9F ∷ other ∷ []) (omega arith) refl (omega arith) (omega arith) l
      go (no n) (no m) (yes x) = row-takes 3 (range 0xE1 0xEC) (other ∷ other ∷ []) (omega arith) refl (omega arith) (omega arith) l
      go (no n) (no m) (no x) = row-takes 5 (range 0xEE 0xEF) (other ∷ other ∷ []) (omega arith) refl (omega arith) (omega arith) l

  four-taken : 0xF0 ≤ b → (l : List ℕ) → width_of (b ∷ l) ≡ pick (eqb (width_of (b ∷ take 3 l)) 4) 4 0
  unfolding table3_7
  four-taken g l = go (ℕ_discrete b 0xF0) (ℕ_discrete b 0xF4) (dec_lt b 0xF4)
    where
      go : Dec (b ≡ 0xF0) → Dec (b ≡ 0xF4) → Dec (b < 0xF4) → width_of (b ∷ l) ≡ pick (eqb (width_of (b ∷ take 3 l)) 4) 4 0
      go (yes e) y z = row-takes 6 (range 0xF0 0xF0) (range 0x90 0xBF ∷ other ∷ other ∷ []) (omega arith) refl (omega arith) (omega arith) l
      go (no n) (yes e) z = row-takes 8 (range 0xF4 0xF4) (range 0x80 0x8F ∷ other ∷ other ∷ []) (omega arith) refl (omega arith) (omega arith) l
      go (no n) (no m) (yes x) = row-takes 7 (range 0xF1 0xF3) (other ∷ other ∷ other ∷ []) (omega arith) refl (omega arith) (omega arith) l
      go (no n) (no m) (no x) = row-high (b ∷ l) 0 (omega arith) (omega arith) ∙ sym (rw (row-high (b ∷ take 3 l) 0 (omega arith) (omega arith)) refl)

-- bytes of the text from a place on
next : (s : List ℕ) (at n : ℕ) → at < length s → take (suc n) (drop at s) ≡ get_or s at 0 ∷ take n (drop (at + 1) s)
next s at n h = ap (take (suc n)) (place s at h)

-- a width that a list is too short for
small : (w n : ℕ) (t : Bool) → w ≡ pick t n 0 → w < n → w ≡ 0
small w n true e h = absurd (omega arith)
small w n false e h = e

module _ (s : List ℕ) (at : ℕ) (h : at < length s) where
  abbrev b : ℕ
  b = get_or s at 0

  module _ (low : 0xE0 ≤ b) (high : b ≤ 0xEF) where
    three-here : width_of (drop at s) ≡ pick (eqb (width_of (b ∷ take 2 (drop (at + 1) s))) 3) 3 0
    three-here = rw (place s at h) (three-taken b low high (drop (at + 1) s))

    pub three-bytes : at + 2 < length s → width_of (drop at s) ≡ pick (eqb (width_of (b ∷ get_or s (at + 1) 0 ∷ get_or s (at + 2) 0 ∷ [])) 3) 3 0
    three-bytes m =
        let two : at + 1 + 1 ≡ at + 2 = omega arith in
        three-here ∙ rw (next s (at + 1) 1 (omega arith), two, next s (at + 2) 0 m) refl

    pub three-short : length s ≤ at + 2 → width_of (drop at s) ≡ 0
    three-short m = small (width_of (drop at s)) 3 (eqb (width_of (b ∷ take 2 (drop (at + 1) s))) 3) three-here (omega (arith, width-le (drop at s), length-drop at s))

  module _ (low : 0xF0 ≤ b) where
    four-here : width_of (drop at s) ≡ pick (eqb (width_of (b ∷ take 3 (drop (at + 1) s))) 4) 4 0
    four-here = rw (place s at h) (four-taken b low (drop (at + 1) s))

    pub four_bytes : at + 3 < length s → width_of (drop at s) ≡ pick (eqb (width_of (b ∷ get_or s (at + 1) 0 ∷ get_or s (at + 2) 0 ∷ get_or s (at + 3) 0 ∷ [])) 4) 4 0
    four_bytes m =
        let two : at + 1 + 1 ≡ at + 2 = omega arith in
        let three : at + 2 + 1 ≡ at + 3 = omega arith in
        four-here ∙ rw (next s (at + 1) 2 (omega arith), two, next s (at + 2) 1 (omega arith), three, next s (at + 3) 0 m) refl

    pub four-short : length s ≤ at + 3 → width_of (drop at s) ≡ 0
    four-short m = small (width_of (drop at s)) 4 (eqb (width_of (b ∷ take 3 (drop (at + 1) s))) 4) four-here (omega (arith, width-le (drop at s), length-drop at s))

-- the row of two
module _ (s : List ℕ) (at : ℕ) (h : at < length s) where
  pub not-two : 0x80 ≤ get_or s at 0 → get_or s at 0 ≤ 0xDF → within 0xC2 0xDF (get_or s at 0) ≡ false → width_of (drop at s) ≡ 0
  not-two g k e = go (dec_lt (get_or s at 0) 0xC2)
    where
      go : Dec (get_or s at 0 < 0xC2) → width_of (drop at s) ≡ 0
      go (yes l) = row_low s at h g l
      go (no l) = absurd (false≢true (sym e ∙ rw (le-leb 0xC2 (get_or s at 0) (omega arith), le-leb (get_or s at 0) 0xDF k) refl))

  module _ (e : within 0xC2 0xDF (get_or s at 0) ≡ true) where
    two-row : width_of (drop at s) ≡ pick (begins (other ∷ []) (drop (at + 1) s)) 2 0
    unfolding table3_7
    two-row = row_at s at h 1 (range 0xC2 0xDF) (other ∷ []) (omega arith) refl (within-lo 0xC2 0xDF (get_or s at 0) e) (within-hi 0xC2 0xDF (get_or s at 0) e)

    pub two_bytes : at + 1 < length s → width_of (drop at s) ≡ pick (within 0x80 0xBF (get_or s (at + 1) 0)) 2 0
    two_bytes m = two-row ∙ ap (λ (x : Bool). pick x 2 0) (begins-one 0x80 0xBF s (at + 1) m)

    pub two-short : length s ≤ at + 1 → width_of (drop at s) ≡ 0
    two-short m = two-row ∙ ap (λ (x : Bool). pick x 2 0) (begins-short (other ∷ []) s (at + 1) (omega arith))

-- the rows of three and of four, by a first byte in the first range of each
module _ (b c d : ℕ) where
  row-of-three : (k : ℕ) (r q : Range) → k < 9 → row_of k ≡ r ∷ q ∷ other ∷ [] → r.lo ≤ b → b ≤ r.hi → (within q.lo q.hi c && within 0x80 0xBF d) ≡ eqb (width_of (b ∷ c ∷ d ∷ [])) 3
  unfolding begins
  row-of-three k r q n e low high =
      ap (λ (t : Bool). within q.lo q.hi c && t) (sym (and-true (within 0x80 0xBF d))) ∙ row-tests b k r (q ∷ other ∷ []) n e low high (c ∷ d ∷ [])

  pub row-3 : 0xE0 ≤ b → b ≤ 0xE0 → (within 0xA0 0xBF c && within 0x80 0xBF d) ≡ eqb (width_of (b ∷ c ∷ d ∷ [])) 3
  unfolding table3_7
  row-3 = row-of-three 2 (range 0xE0 0xE0) (range 0xA0 0xBF) (omega arith) refl

  pub row-4 : 0xE1 ≤ b → b ≤ 0xEC → (within 0x80 0xBF c && within 0x80 0xBF d) ≡ eqb (width_of (b ∷ c ∷ d ∷ [])) 3
  unfolding table3_7
  row-4 = row-of-three 3 (range 0xE1 0xEC) other (omega arith) refl

  pub row-5 : 0xED ≤ b → b ≤ 0xED → (within 0x80 0x9F c && within 0x80 0xBF d) ≡ eqb (width_of (b ∷ c ∷ d ∷ [])) 3
  unfolding table3_7
  row-5 = row-of-three 4 (range 0xED 0xED) (range 0x80 0x9F) (omega arith) refl

  pub row-6 : 0xEE ≤ b → b ≤ 0xEF → (within 0x80 0xBF c && within 0x80 0xBF d) ≡ eqb (width_of (b ∷ c ∷ d ∷ [])) 3
  unfolding table3_7
  row-6 = row-of-three 5 (range 0xEE 0xEF) other (omega arith) refl

  module _ (f : ℕ) where
    row-of-four : (k : ℕ) (r q : Range) → k < 9 → row_of k ≡ r ∷ q ∷ other ∷ other ∷ [] → r.lo ≤ b → b ≤ r.hi → ((within q.lo q.hi c && within 0x80 0xBF d) && within 0x80 0xBF f) ≡ eqb (width_of (b ∷ c ∷ d ∷ f ∷ [])) 4
    unfolding begins
    row-of-four k r q n e low high =
        sym (assoc (within q.lo q.hi c) (within 0x80 0xBF d) (within 0x80 0xBF f))
        ∙ ap (λ (t : Bool). within q.lo q.hi c && (within 0x80 0xBF d && t)) (sym (and-true (within 0x80 0xBF f)))
        ∙ row-tests b k r (q ∷ other ∷ other ∷ []) n e low high (c ∷ d ∷ f ∷ [])

    pub row-7 : 0xF0 ≤ b → b ≤ 0xF0 → ((within 0x90 0xBF c && within 0x80 0xBF d) && within 0x80 0xBF f) ≡ eqb (width_of (b ∷ c ∷ d ∷ f ∷ [])) 4
    unfolding table3_7
    row-7 = row-of-four 6 (range 0xF0 0xF0) (range 0x90 0xBF) (omega arith) refl

    pub row-8 : 0xF1 ≤ b → b ≤ 0xF3 → ((within 0x80 0xBF c && within 0x80 0xBF d) && within 0x80 0xBF f) ≡ eqb (width_of (b ∷ c ∷ d ∷ f ∷ [])) 4
    unfolding table3_7
    row-8 = row-of-four 7 (range 0xF1 0xF3) other (omega arith) refl

    pub row-9 : 0xF4 ≤ b → b ≤ 0xF4 → ((within 0x80 0x8F c && within 0x80 0xBF d) && within 0x80 0xBF f) ≡ eqb (width_of (b ∷ c ∷ d ∷ f ∷ [])) 4
    unfolding table3_7
    row-9 = row-of-four 8 (range 0xF4 0xF4) (range 0x80 0x8F) (omega arith) refl

-- of no such row
module _ (b : ℕ) (l : List ℕ) where
  pub below-three : b < 0xE0 → false ≡ eqb (width_of (b ∷ l)) 3
  below-three h = sym (ne_eqb (width_of (b ∷ l)) 3 (λ e. omega (arith, low-width b h l)))

  pub above-three : 0xEF < b → false ≡ eqb (width_of (b ∷ l)) 3
  above-three h = rw (four-taken b (omega arith) l) (four (eqb (width_of (b ∷ take 3 l)) 4))
    where
      four : (t : Bool) → false ≡ eqb (pick t 4 0) 3
      four true = refl
      four false = refl

  pub below-four : b < 0xF0 → false ≡ eqb (width_of (b ∷ l)) 4
  below-four h = go (dec_lt b 0xE0)
    where
      three : (t : Bool) → false ≡ eqb (pick t 3 0) 4
      three true = refl
      three false = refl

      go : Dec (b < 0xE0) → false ≡ eqb (width_of (b ∷ l)) 4
      go (yes x) = sym (ne_eqb (width_of (b ∷ l)) 4 (λ e. omega (arith, low-width b x l)))
      go (no x) = rw (three-taken b (omega arith) (omega arith) l) (three (eqb (width_of (b ∷ take 2 l)) 3))

  pub above-four : 0xF4 < b → false ≡ eqb (width_of (b ∷ l)) 4
  above-four h = rw (row-high (b ∷ l) 0 (omega arith) h) refl
