-- Where a character may start: by the byte that stands there, and, in well-formed text, by the widths of the characters before.
-- Assumes nothing.
use mathlib.Core.Path.{◌≡◌, refl, sym, ap, ◌∙◌}
use mathlib.Core.Bool.{Bool, true, false, not, ◌&&◌, ◌||◌, or-false}
use mathlib.Core.List.{List, [], ◌∷◌, ◌++◌, Memᴰ}
use Prim.Native.Nat.{ℕ, zero, suc, ◌+◌, ◌-◌, ◌<◌, ◌≤◌}
use native.Mathlib.Nat.{not-suc-le-zero}
use native.Mathlib.Decide.{ℕ_discrete, dec_lt, dec_le}
use native.Mathlib.Omega.{arith}
use lib.Dec.{leb, ltb, eqb}
use lib.ListN.{length, get_or, length-append, get_or-append}
use lib.Seq.{drop-append_seam, get_or-append-add}
use borrow.Author.Tests.{eq-eqb, ne_eqb, le-leb, lt-leb, lt-ltb, le-ltb, eqb-true, eqb-false, leb-true, leb-false}
use Rattle.text.specs.Pick.{Range, within}
use Rattle.text.specs.Utf8.{table3_7, width_of, fits, Made, nothing, more, decoded, decode}
use Rattle.text.specs.Characters.{chars, between, is_boundary}
use Rattle.text.proofs.Rows.{row-long, row-short, row-begins}
use Rattle.text.proofs.Chars.{chars-nil, chars-cons}
use Rattle.text.proofs.Exact.{fits-length, fits-begins}
use Rattle.text.proofs.Shape.{row_first, row-further}

pub at_zero : (s : List ℕ) (at : ℕ) → at ≡ 0 → is_boundary s at ≡ true
at_zero s at e = rw (eq-eqb at 0 e)

pub past_end : (s : List ℕ) (at : ℕ) → length s ≤ at → is_boundary s at ≡ eqb at (length s)
past_end s at h = zero_or (eqb at 0) refl
  where
    go : (t : Bool) → eqb at (length s) ≡ t → (t || (leb at (length s) && not (within 0x80 0xBF (get_or s at 0)))) ≡ t
    go true e = refl
    go false e = let m = eqb-false at (length s) e in rw (lt-leb at (length s) (omega arith))

    zero_or : (t : Bool) → eqb at 0 ≡ t → is_boundary s at ≡ eqb at (length s)
    zero_or true e = rw (e, eq-eqb at (length s) (omega (arith, eqb-true at 0 e)))
    zero_or false e = rw e (go (eqb at (length s)) refl)

pub inside : (s : List ℕ) (at : ℕ) → (at ≡ 0 → ⊥) → at < length s → is_boundary s at ≡ not (within 0x80 0xBF (get_or s at 0))
inside s at n h = let m : at ≡ length s → ⊥ = λ e. omega arith in rw (ne_eqb at 0 n, ne_eqb at (length s) m, le-leb at (length s) (omega arith))

pub inside-low : (s : List ℕ) (at : ℕ) → at < length s → get_or s at 0 < 0x80 → is_boundary s at ≡ true
inside-low s at h l = go (eqb at 0) refl
  where
    go : (t : Bool) → eqb at 0 ≡ t → is_boundary s at ≡ true
    go true e = rw e
    go false e = inside s at (eqb-false at 0 e) h ∙ rw (lt-leb 0x80 (get_or s at 0) l)

pub inside-high : (s : List ℕ) (at : ℕ) → (at ≡ 0 → ⊥) → at < length s → 0x80 ≤ get_or s at 0 → is_boundary s at ≡ ltb 0xBF (get_or s at 0)
inside-high s at n h l = inside s at n h ∙ rw (le-leb 0x80 (get_or s at 0) l) (go (leb (get_or s at 0) 0xBF) refl)
  where
    go : (t : Bool) → leb (get_or s at 0) 0xBF ≡ t → not t ≡ ltb 0xBF (get_or s at 0)
    go true e = sym (le-ltb 0xBF (get_or s at 0) (leb-true (get_or s at 0) 0xBF e))
    go false e = sym (lt-ltb 0xBF (get_or s at 0) (leb-false (get_or s at 0) 0xBF e))

-- a sequence that is a row has the row's width as a character
seq-width : (w : ℕ) (l : List ℕ) → 0 < w → w ≤ 4 → (decoded w l).width ≡ w
unfolding decoded
seq-width zero l h k = absurd (not-suc-le-zero h)
seq-width (suc zero) l h k = refl
seq-width (suc (suc zero)) l h k = refl
seq-width (suc (suc (suc zero))) l h k = refl
seq-width (suc (suc (suc (suc zero)))) l h k = refl
seq-width (suc (suc (suc (suc (suc w))))) l h k = absurd (omega arith)

pub seq-decode : (row : List Range) (b : ℕ) (a t : List ℕ) → Memᴰ row table3_7 → fits row (b ∷ a) ≡ true → (decode (b ∷ a ++ t)).width ≡ suc (length a)
unfolding decode
seq-decode row b a t m f =
    let long : suc (length a) ≡ length row = fits-length row (b ∷ a) f in
    let wide : width_of (b ∷ a ++ t) ≡ suc (length a) = row-begins row (b ∷ a ++ t) m (fits-begins row (b ∷ a) t f) ∙ sym long in
    rw wide (seq-width (suc (length a)) (b ∷ a ++ t) (omega arith) (omega (arith, row-short row m)))

pub seq-chars : (row : List Range) (b : ℕ) (a t : List ℕ) → Memᴰ row table3_7 → fits row (b ∷ a) ≡ true → chars (b ∷ a ++ t) ≡ decode (b ∷ a ++ t) ∷ chars t
seq-chars row b a t m f =
    chars-cons (b ∷ a ++ t) (suc (length a)) (omega arith) (sym (seq-decode row b a t m f)) ∙ ap (λ (l : List ℕ). decode (b ∷ a ++ t) ∷ chars l) (drop-append_seam a t)

-- the first byte of a well-formed text is no further byte
made-first : {s : List ℕ} → Made s → 0 < length s → within 0x80 0xBF (get_or s 0 0) ≡ false
made-first nothing h = absurd (not-suc-le-zero h)
made-first (more row [] m f r e) h = absurd (omega (arith, row-long row m, fits-length row [] f))
made-first (more row (b ∷ a) m f r e) h = rw e (row_first row b a m f)

eqb-add : (n k m : ℕ) → eqb (n + k) (n + m) ≡ eqb k m
eqb-add n k m = go (ℕ_discrete k m)
  where
    go : Dec (k ≡ m) → eqb (n + k) (n + m) ≡ eqb k m
    go (yes e) = eq-eqb (n + k) (n + m) (omega arith) ∙ sym (eq-eqb k m e)
    go (no x) = ne_eqb (n + k) (n + m) (λ e. x (omega arith)) ∙ sym (ne_eqb k m x)

leb-add : (n k m : ℕ) → leb (n + k) (n + m) ≡ leb k m
leb-add n k m = go (dec_le k m)
  where
    go : Dec (k ≤ m) → leb (n + k) (n + m) ≡ leb k m
    go (yes e) = le-leb (n + k) (n + m) (omega arith) ∙ sym (le-leb k m e)
    go (no x) = lt-leb (n + k) (n + m) (omega arith) ∙ sym (lt-leb k m (omega arith))

-- past a sequence
shift : (a s : List ℕ) (k : ℕ) → 0 < length a → (0 < length s → within 0x80 0xBF (get_or s 0 0) ≡ false) → is_boundary (a ++ s) (length a + k) ≡ is_boundary s k
shift a s k h first =
    rw (ne_eqb (length a + k) 0 (λ e. omega arith), length-append a s, eqb-add (length a) k (length s), leb-add (length a) k (length s), get_or-append-add a s k 0)
    (go k s first)
  where
    go : (k : ℕ) (s : List ℕ) → (0 < length s → within 0x80 0xBF (get_or s 0 0) ≡ false) → (eqb k (length s) || (leb k (length s) && not (within 0x80 0xBF (get_or s k 0)))) ≡ is_boundary s k
    go zero [] f = refl
    go zero (b ∷ s) f = rw (ne_eqb 0 (suc (length s)) (λ e. omega arith), le-leb 0 (suc (length s)) (omega arith), f (omega arith))
    go (suc k) s f = rw (ne_eqb (suc k) 0 (λ e. omega arith))

-- in well-formed text the byte tells whether a place lies between two characters
pub boundary : {s : List ℕ} → Made s → (at : ℕ) → is_boundary s at ≡ between (chars s) at
unfolding between
boundary nothing at = rw chars-nil (go (eqb at 0) refl)
  where
    go : (t : Bool) → eqb at 0 ≡ t → (t || (t || (leb at 0 && not (within 0x80 0xBF (get_or [] at 0))))) ≡ t
    go true e = refl
    go false e = let n = eqb-false at 0 e in rw (lt-leb at 0 (omega arith))
boundary (more row [] m f r e) at = absurd (omega (arith, row-long row m, fits-length row [] f))
boundary (more row (b ∷ a) {s} {l} m f r e) at =
    rw (e, seq-chars row b a s m f, seq-decode row b a s m f) (go (dec_lt at (suc (length a))) (boundary r))
  where
    inner : (k : ℕ) → k < suc (length a) → is_boundary (b ∷ a ++ s) k ≡ eqb k 0
    inner zero h = refl
    inner (suc k) h =
        inside (b ∷ a ++ s) (suc k) (λ z. omega arith) (omega (arith, length-append a s))
        ∙ rw (get_or-append a s 0 k (omega arith), row-further row b a k m f (omega arith)) (sym (ne_eqb (suc k) 0 (λ z. omega arith)))

    go : Dec (at < suc (length a)) → ((k : ℕ) → is_boundary s k ≡ between (chars s) k) → is_boundary (b ∷ a ++ s) at ≡ (eqb at 0 || (leb (suc (length a)) at && between (chars s) (at - suc (length a))))
    go (yes h) ih = inner at h ∙ rw (lt-leb (suc (length a)) at h) (sym (or-false (eqb at 0)))
    go (no h) ih =
        let split : at ≡ suc (length a) + (at - suc (length a)) = omega arith in
        ap (is_boundary (b ∷ a ++ s)) split
        ∙ shift (b ∷ a) s (at - suc (length a)) (omega arith) (made-first r)
        ∙ ih (at - suc (length a))
        ∙ rw (ne_eqb at 0 (λ z. omega arith), le-leb (suc (length a)) at (omega arith))
