-- Equal lists of bytes, and lists compared by blocks.
-- Assumes nothing.
use mathlib.Core.Path.{◌≡◌, refl, sym, ap, ◌∙◌}
use mathlib.Core.Bool.{Bool, true, false, false≢true, ◌&&◌, and-false, and-true}
use mathlib.Core.List.{List, [], ◌∷◌}
use Prim.Native.Nat.{ℕ, zero, suc, ◌+◌, ◌-◌, ◌*◌, ◌<◌, ◌≤◌}
use native.Mathlib.Nat.{add_assoc}
use native.Mathlib.Omega.{arith}
use mir.Syntax.{w8}
use mir.Val.{Fits}
use lib.Dec.{eqb}
use lib.ListN.{length, get_or, take, drop, length-take, length-drop, drop_of_length-le}
use lib.Seq.{take-length, length-take-le, drop-drop}
use borrow.Author.Tests.{eq-eqb, ne_eqb, eqb-true, eqb-false}
use Rattle.std.specs.Cmp.Lexicographic.{pointwise}
use Rattle.text.specs.Bytes.{equal, starting, beyond}
use Rattle.text.specs.Inner.{four_bytes, eight_bytes}
use Rattle.text.proofs.Rows.{place}
use Rattle.text.proofs.Bool.{and_left, and_right}

pub equal-true : (a b : List ℕ) → equal a b ≡ true → a ≡ b
unfolding equal
equal-true [] [] e = refl
equal-true [] (y ∷ b) e = absurd (false≢true e)
equal-true (x ∷ a) [] e = absurd (false≢true e)
equal-true (x ∷ a) (y ∷ b) e =
    let first : x ≡ y = eqb-true x y (and_left (eqb x y) (equal a b) e) in
    let rest : a ≡ b = equal-true a b (and_right (eqb x y) (equal a b) e) in
    cc

-- `==` on slices of bytes
pub equal_eq : (a b : List ℕ) (r : Bool) → r ≡ pointwise eqb a b → r ≡ equal a b
unfolding equal
equal_eq [] [] r e = e
equal_eq [] (y ∷ b) r e = e
equal_eq (x ∷ a) [] r e = e
equal_eq (x ∷ a) (y ∷ b) r e = e ∙ ap (eqb x y &&◌) (equal_eq a b _ refl)

pub equal-apart : (a b : List ℕ) → (length a ≡ length b → ⊥) → equal a b ≡ false
equal-apart a b h = go (equal a b) refl
  where
    go : (t : Bool) → equal a b ≡ t → t ≡ false
    go true e = absurd (h (ap length (equal-true a b e)))
    go false e = refl

pub starts-short : (key s : List ℕ) → length s < length key → false ≡ starting key s
starts-short key s h = sym (equal-apart key (take (length key) s) (λ e. omega (arith, e, length-take (length key) s)))

pub starts-long : (key s : List ℕ) → starting key s ≡ true → length s ≡ length key + length (beyond key s)
starts-long key s e = omega (arith, ap length (equal-true key (take (length key) s) e), length-take (length key) s, length-drop (length key) s)

-- past an equal byte, at one that differs, and at the end
module _ (a b : List ℕ) (i : ℕ) where
  pub equal-past : i < length a → i < length b → get_or a i 0 ≡ get_or b i 0 → equal (drop i a) (drop i b) ≡ equal (drop (i + 1) a) (drop (i + 1) b)
  unfolding equal
  equal-past h k e = rw (place a i h, place b i k, eq-eqb _ _ e)

  pub equal-stops : i < length a → i < length b → (get_or a i 0 ≡ get_or b i 0 → ⊥) → equal (drop i a) (drop i b) ≡ false
  unfolding equal
  equal-stops h k e = rw (place a i h, place b i k, ne_eqb _ _ e)

  pub equal-ends : length a ≤ i → length b ≤ i → equal (drop i a) (drop i b) ≡ true
  unfolding equal
  equal-ends h k = rw (drop_of_length-le a h, drop_of_length-le b k)

-- the digits of a number are unique
digits : (a b x y : ℕ) → a < 256 → b < 256 → eqb (a + 256 * x) (b + 256 * y) ≡ (eqb a b && eqb x y)
digits a b x y h k = go (eqb a b) (eqb x y) refl refl
  where
    go : (t u : Bool) → eqb a b ≡ t → eqb x y ≡ u → eqb (a + 256 * x) (b + 256 * y) ≡ (t && u)
    go true true e f = eq-eqb (a + 256 * x) (b + 256 * y) (omega (arith, eqb-true a b e, eqb-true x y f))
    go true false e f = ne_eqb (a + 256 * x) (b + 256 * y) (λ z. eqb-false x y f (omega (arith, eqb-true a b e)))
    go false u e f = ne_eqb (a + 256 * x) (b + 256 * y) (λ z. eqb-false a b e (omega arith))

-- n bytes from a place on as a number, the first the lowest
unfoldable number : List ℕ → ℕ → ℕ → ℕ
number s at zero = 0
number s at (suc n) = get_or s at 0 + 256 * number s (at + 1) n

four_is : (s : List ℕ) (at : ℕ) → four_bytes s at ≡ number s at 4
unfolding number
four_is s at = simp add_assoc (omega arith)

eight_is : (s : List ℕ) (at : ℕ) → eight_bytes s at ≡ number s at 8
unfolding number
eight_is s at = simp add_assoc (omega arith)

-- the list is one of bytes, as it is known of a slice
abbrev pub Small : List ℕ → Type 0
Small s = (k : ℕ) → Fits w8 (get_or s k 0)

-- the numbers of bytes are equal exactly if the bytes are
module _ (a b : List ℕ) (p : Small a) (q : Small b) where
  same_number : (n i j : ℕ) → i + n ≤ length a → j + n ≤ length b → eqb (number a i n) (number b j n) ≡ equal (take n (drop i a)) (take n (drop j b))
  unfolding number equal
  same_number zero i j h k = refl
  same_number (suc n) i j h k =
      rw (place a i (omega arith), place b j (omega arith)) (digits (get_or a i 0) (get_or b j 0) (number a (i + 1) n) (number b (j + 1) n) (omega (arith, p i)) (omega (arith, q j)) ∙ rw (same_number n (i + 1) (j + 1) (omega arith) (omega arith)))

  pub same-four : (i j : ℕ) → i + 4 ≤ length a → j + 4 ≤ length b → eqb (four_bytes a i) (four_bytes b j) ≡ equal (take 4 (drop i a)) (take 4 (drop j b))
  same-four i j h k = rw (four_is a i, four_is b j) (same_number 4 i j h k)

  pub same-eight : (i j : ℕ) → i + 8 ≤ length a → j + 8 ≤ length b → eqb (eight_bytes a i) (eight_bytes b j) ≡ equal (take 8 (drop i a)) (take 8 (drop j b))
  same-eight i j h k = rw (eight_is a i, eight_is b j) (same_number 8 i j h k)

-- a word stands at the head exactly if its first n bytes do, and the others behind them
pub parts : (n : ℕ) (w l : List ℕ) → starting w l ≡ (starting (take n w) l && starting (drop n w) (drop n l))
unfolding equal
parts zero w l = refl
parts (suc n) [] l = refl
parts (suc n) (x ∷ w) [] = refl
parts (suc n) (x ∷ w) (y ∷ l) = go (eqb x y) (parts n w l)
  where
    go : (t : Bool) → starting w l ≡ (starting (take n w) l && starting (drop n w) (drop n l)) → (t && starting w l) ≡ ((t && starting (take n w) l) && starting (drop n w) (drop n l))
    go true e = e
    go false e = refl

-- a block of two lists of one length, and what follows it
whole : (a b : List ℕ) → length a ≡ length b → starting a b ≡ equal a b
whole a b e = rw (e, take-length b)

pub block : (a b : List ℕ) (i n : ℕ) → length a ≡ length b → i + n ≤ length a → equal (drop i a) (drop i b) ≡ (equal (take n (drop i a)) (take n (drop i b)) && equal (drop (i + n) a) (drop (i + n) b))
block a b i n e h =
    let k : n ≤ length (drop i a) = omega (arith, length-drop i a) in
    let f : (j : ℕ) → length (drop j a) ≡ length (drop j b) = λ j. simp length-drop (rw e) in
    sym (whole (drop i a) (drop i b) (f i)) ∙ parts n (drop i a) (drop i b) ∙
    rw (length-take-le n (drop i a) k, drop-drop n i a, drop-drop n i b, whole (drop (i + n) a) (drop (i + n) b) (f (i + n)))

-- what the ends of two lists of one length say of the lists
module _ (a b : List ℕ) (n : ℕ) (e : length a ≡ length b) where
  pub ending : n + 8 ≡ length a → equal (take 8 (drop n a)) (take 8 (drop n b)) ≡ equal (drop n a) (drop n b)
  ending h = sym (block a b n 8 e (omega arith) ∙ rw (equal-ends a b (n + 8) (omega arith) (omega arith)) (and-true _))

  pub ends-apart : n ≤ length a → equal (drop n a) (drop n b) ≡ false → equal a b ≡ false
  ends-apart h f =
      let z : 0 + n ≡ n = omega arith in
      (rw z at (block a b 0 n e (omega arith))) ∙ rw f (and-false (equal (take n a) (take n b)))

  pub ends_same : (i : ℕ) → n ≤ i → i ≤ length a → equal (drop n a) (drop n b) ≡ true → equal (drop i a) (drop i b) ≡ true
  ends_same i h k f =
      let m : n + (i - n) ≡ i = omega arith in
      and_right (equal (take (i - n) (drop n a)) (take (i - n) (drop n b))) _ (sym (rw m at (block a b n (i - n) e (omega arith))) ∙ f)

-- and their first n bytes
module _ (a b : List ℕ) (n : ℕ) (e : length a ≡ length b) (h : n ≤ length a) where
  front : equal a b ≡ (equal (take n a) (take n b) && equal (drop n a) (drop n b))
  front =
      let z : 0 + n ≡ n = omega arith in
      rw z at (block a b 0 n e (omega arith))

  pub fronts-apart : equal (take n a) (take n b) ≡ false → equal a b ≡ false
  fronts-apart f = front ∙ rw f

  pub fronts-same : equal (take n a) (take n b) ≡ true → equal a b ≡ equal (drop n a) (drop n b)
  fronts-same f = front ∙ rw f
