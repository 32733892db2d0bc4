-- A part of a well-formed text from one boundary to another is well-formed: its words, and what is left of it when it is trimmed. A search among its characters ends at a boundary, and a row of the table begins at each.
-- Assumes nothing.
use mathlib.Core.Path.{◌≡◌, refl, sym, ap, ◌∙◌}
use mathlib.Core.Bool.{Bool, true, false, not, false≢true, ◌&&◌, ◌||◌}
use mathlib.Core.List.{List, [], ◌∷◌, ◌++◌, Memᴰ}
use Prim.Native.Nat.{ℕ, zero, suc, ◌+◌, ◌-◌, ◌<◌, ◌≤◌}
use native.Mathlib.Nat.{add-zero, not-suc-le-zero}
use native.Mathlib.Decide.{ℕ_discrete, dec_le}
use native.Mathlib.Omega.{arith}
use lib.Dec.{leb, eqb}
use lib.ListN.{length, get_or, take, drop, length-drop}
use lib.Seq.{take-append-add, drop-append-add, get_or-drop}
use borrow.Author.Tests.{eq-eqb, ne_eqb, le-leb, lt-leb, eqb-true, leb-true}
use Rattle.text.specs.Pick.{Range, end, cut, within, pick}
use Rattle.text.specs.declared.Decoded.{Decoded}
use Rattle.text.specs.Utf8.{table3_7, width_of, fits, Made, nothing, more, decode}
use Rattle.text.specs.Blank.{blank}
use Rattle.text.specs.Characters.{chars, bytes_before, find, between, is_boundary}
use Rattle.text.specs.Words.{not_blank, kept_by, kept, trim, word_from, first_word, second_word}
use Rattle.text.proofs.Bool.{and_left}
use Rattle.text.proofs.Rows.{row-long, row-begins}
use Rattle.text.proofs.Scan.{ascii-one}
use Rattle.text.proofs.Decode.{decode-1}
use Rattle.text.proofs.Chars.{chars-nil, chars-cons}
use Rattle.text.proofs.Exact.{fits-length, fits-begins}
use Rattle.text.proofs.Boundary.{at_zero, boundary, seq-decode, seq-chars}

-- a text that begins with a row has the row's width
row-wide : (row : List Range) (a t : List ℕ) → Memᴰ row table3_7 → fits row a ≡ true → width_of (a ++ t) ≡ length a
row-wide row a t m f = row-begins row (a ++ t) m (fits-begins row a t f) ∙ sym (fits-length row a f)

-- a well-formed text that isn't empty begins with a row, so that its first character is no replacement
pub made-decodes : {s : List ℕ} → Made s → 0 < length s → 0 < width_of s
made-decodes nothing h = absurd (not-suc-le-zero h)
made-decodes (more row a {s} {l} m f r e) h = rw e (omega (arith, row-wide row a s m f, row-long row m, fits-length row a f))

-- a place between two characters cuts a well-formed text into two that are well-formed
pub made-split : {s : List ℕ} → Made s → (at : ℕ) → between (chars s) at ≡ true → Made (take at s) × Made (drop at s)
unfolding between
made-split nothing at y = let z : at ≡ 0 = eqb-true at 0 (rw chars-nil at y) in rw z (nothing, nothing)
made-split (more row [] m f r e) at y = absurd (omega (arith, row-long row m, fits-length row [] f))
made-split (more row (b ∷ a) {s} {l} m f r e) at y =
    rw e (go (eqb at 0) (leb (suc (length a)) at) refl refl (rw (e, seq-chars row b a s m f, seq-decode row b a s m f) at y) (made-split r (at - suc (length a))))
  where
    beyond : (k : ℕ) → at ≡ suc (length a) + k → Made (take k s) × Made (drop k s) → Made (take at (b ∷ a ++ s)) × Made (drop at (b ∷ a ++ s))
    beyond k z h = rw (z, take-append-add (b ∷ a) s k, drop-append-add (b ∷ a) s k) (more row (b ∷ a) m f h.0 refl, h.1)

    go : (t u : Bool) → eqb at 0 ≡ t → leb (suc (length a)) at ≡ u → (t || (u && between (chars s) (at - suc (length a)))) ≡ true → (between (chars s) (at - suc (length a)) ≡ true → Made (take (at - suc (length a)) s) × Made (drop (at - suc (length a)) s)) → Made (take at (b ∷ a ++ s)) × Made (drop at (b ∷ a ++ s))
    go true u p q y ih = let z : at ≡ 0 = eqb-true at 0 p in rw z (nothing, more row (b ∷ a) m f r refl)
    go false false p q y ih = absurd (false≢true y)
    go false true p q y ih = beyond (at - suc (length a)) (omega (arith, leb-true (suc (length a)) at q)) (ih y)

-- a boundary lies inside the text or at its end
pub boundary-le : (s : List ℕ) (at : ℕ) → is_boundary s at ≡ true → at ≤ length s
boundary-le s at y = go (eqb at 0) (eqb at (length s)) refl refl y
  where
    go : (t u : Bool) → eqb at 0 ≡ t → eqb at (length s) ≡ u → (t || (u || (leb at (length s) && not (within 0x80 0xBF (get_or s at 0))))) ≡ true → at ≤ length s
    go true u p q y = omega (arith, eqb-true at 0 p)
    go false true p q y = omega (arith, eqb-true at (length s) q)
    go false false p q y = leb-true at (length s) (and_left (leb at (length s)) _ y)

-- the tests of a place, by how far it lies past another
eqb-less : (i k n : ℕ) → i ≤ n → eqb (i + k) n ≡ eqb k (n - i)
eqb-less i k n h = go (ℕ_discrete (i + k) n)
  where
    go : Dec (i + k ≡ n) → eqb (i + k) n ≡ eqb k (n - i)
    go (yes e) = eq-eqb (i + k) n e ∙ sym (eq-eqb k (n - i) (omega arith))
    go (no x) = ne_eqb (i + k) n x ∙ sym (ne_eqb k (n - i) (λ e. x (omega arith)))

leb-less : (i k n : ℕ) → i ≤ n → leb (i + k) n ≡ leb k (n - i)
leb-less i k n h = go (dec_le (i + k) n)
  where
    go : Dec (i + k ≤ n) → leb (i + k) n ≡ leb k (n - i)
    go (yes e) = le-leb (i + k) n e ∙ sym (le-leb k (n - i) (omega arith))
    go (no x) = lt-leb (i + k) n (omega arith) ∙ sym (lt-leb k (n - i) (omega arith))

-- the boundaries of what stands from a boundary on
pub boundary-on : (s : List ℕ) (i k : ℕ) → is_boundary s i ≡ true → is_boundary s (i + k) ≡ is_boundary (drop i s) k
boundary-on s i zero y = rw add-zero y
boundary-on s i (suc k) y =
    let l = boundary-le s i y in
    rw (ne_eqb (i + suc k) 0 (λ e. omega arith), ne_eqb (suc k) 0 (λ e. omega arith), length-drop i s, get_or-drop i s (suc k) 0, eqb-less i (suc k) (length s) l, leb-less i (suc k) (length s) l)

module _ {s : List ℕ} (m : Made s) where
  -- what stands before a boundary, and from it on
  pub made-before : (at : ℕ) → is_boundary s at ≡ true → Made (take at s)
  made-before at y = (made-split m at (sym (boundary m at) ∙ y)).0

  pub made-from : (at : ℕ) → is_boundary s at ≡ true → Made (drop at s)
  made-from at y = (made-split m at (sym (boundary m at) ∙ y)).1

-- from one boundary to another
pub made-part : {s : List ℕ} → Made s → (a n : ℕ) → is_boundary s a ≡ true → is_boundary s (a + n) ≡ true → Made (take n (drop a s))
made-part {s} m a n y z = made-before (made-from m a y) n (sym (boundary-on s a n y) ∙ z)

-- a row begins at each boundary before the end
pub each-decodes : {s : List ℕ} → Made s → (at : ℕ) → is_boundary s at ≡ true → at < length s → 0 < width_of (drop at s)
each-decodes {s} m at y h = made-decodes (made-from m at y) (omega (arith, length-drop at s))

-- a place between characters, with one more character before them
past_one : (c : Decoded) (cs : List Decoded) (k : ℕ) → between cs k ≡ true → between (c ∷ cs) (c.width + k) ≡ true
unfolding between
past_one c cs k y = go (eqb (c.width + k) 0)
  where
    go : (t : Bool) → (t || (leb c.width (c.width + k) && between cs (c.width + k - c.width))) ≡ true
    go true = refl
    go false = let z : c.width + k - c.width ≡ k = omega arith in rw (le-leb c.width (c.width + k) (omega arith), z) y

-- before the first character
at_first : (cs : List Decoded) → between cs 0 ≡ true
unfolding between
at_first [] = refl
at_first (c ∷ cs) = refl

-- before the first character that passes a test, and after the last that isn't blank
between-before : (p : ℕ → Bool) (cs : List Decoded) → between cs (bytes_before p cs) ≡ true
unfolding bytes_before
between-before p [] = at_first []
between-before p (c ∷ cs) = go (p c.cp) (between-before p cs)
  where
    go : (t : Bool) → between cs (bytes_before p cs) ≡ true → between (c ∷ cs) (pick t 0 (c.width + bytes_before p cs)) ≡ true
    go true y = at_first (c ∷ cs)
    go false y = past_one c cs (bytes_before p cs) y

between-kept : (cs : List Decoded) → between cs (kept cs) ≡ true
unfolding kept
between-kept [] = at_first []
between-kept (c ∷ cs) = go (blank c.cp) (kept cs) (between-kept cs)
  where
    go : (t : Bool) (k : ℕ) → between cs k ≡ true → between (c ∷ cs) (kept_by t c.width k) ≡ true
    go true zero y = at_first (c ∷ cs)
    go true (suc k) y = past_one c cs (suc k) y
    go false k y = past_one c cs k y

-- a search among characters ends at a boundary
pub made-find : {s : List ℕ} → Made s → (p : ℕ → Bool) → is_boundary s (find p s) ≡ true
made-find {s} m p = boundary m (find p s) ∙ between-before p (chars s)

-- and so does one from a boundary on
pub made-find-from : {s : List ℕ} → Made s → (p : ℕ → Bool) (i : ℕ) → is_boundary s i ≡ true → is_boundary s (i + find p (drop i s)) ≡ true
made-find-from {s} m p i y = boundary-on s i (find p (drop i s)) y ∙ made-find (made-from m i y) p

-- the place past a character that starts at a boundary, and past an ASCII byte
pub made-next : {s : List ℕ} → Made s → (i w : ℕ) → is_boundary s i ≡ true → i < length s → w ≡ (decode (drop i s)).width → is_boundary s (i + w) ≡ true
made-next {s} m i w y h e =
    let l = drop i s in
    let z : w ≡ (decode l).width + 0 = omega arith in
    boundary-on s i w y
    ∙ boundary (made-from m i y) w
    ∙ ap (λ (cs : List Decoded). between cs w) (chars-cons l w (omega (arith, length-drop i s)) e)
    ∙ ap (between (decode l ∷ chars (drop w l))) z
    ∙ past_one (decode l) (chars (drop w l)) 0 (at_first (chars (drop w l)))

pub made-past-ascii : {s : List ℕ} → Made s → (i : ℕ) → is_boundary s i ≡ true → i < length s → get_or s i 0 < 0x80 → is_boundary s (i + 1) ≡ true
made-past-ascii {s} m i y h l = made-next m i 1 y h (ap (λ (d : Decoded). d.width) (decode-1 s i h (ascii-one s i h l)))

-- what is left of a text when it is trimmed
pub made-trim : {s : List ℕ} → Made s → Made (cut (trim s) s)
unfolding trim
made-trim {s} m =
    let f = find not_blank s in
    (made-split (made-from m f (made-find m not_blank)) (kept (chars (drop f s))) (between-kept (chars (drop f s)))).0

-- the word from a boundary on
pub made_word : {s : List ℕ} → Made s → (i : ℕ) → is_boundary s i ≡ true → Made (cut (word_from i s) s)
unfolding word_from
made_word {s} m i y =
    let a = i + find not_blank (drop i s) in
    let r = made-from m a (made-find-from m not_blank i y) in
    made-before r (find blank (drop a s)) (made-find r blank)

-- and its end
pub made-word-end : {s : List ℕ} → Made s → (i : ℕ) → is_boundary s i ≡ true → is_boundary s (end (word_from i s)) ≡ true
unfolding word_from
made-word-end {s} m i y = made-find-from m blank (i + find not_blank (drop i s)) (made-find-from m not_blank i y)

-- the first word and the second
pub made-first-word : {s : List ℕ} → Made s → Made (cut (first_word s) s)
made-first-word {s} m = made_word m 0 (at_zero s 0 refl)

pub made-second-word : {s : List ℕ} → Made s → Made (cut (second_word s) s)
made-second-word {s} m = made_word m (end (first_word s)) (made-word-end m 0 (at_zero s 0 refl))
