-- A text written run by run, its values in their places.
-- Assumes nothing.
use Prim.Native.Nat.{ℕ, suc, ◌+◌, ◌*◌, ◌<◌, ◌≤◌}
use native.Mathlib.Omega.{arith}
use native.Mathlib.Nat.{zero-add, suc-mul}
use native.Mathlib.Numerals.{add-one}
use mathlib.Core.Path.{◌≡◌, refl, sym, ap, ◌∙◌}
use mathlib.Core.Bool.{Bool, true, false, not, cond}
use mathlib.Core.List.{List, [], ◌∷◌, ◌++◌, append-nil, append_assoc}
use Rattle.std.specs.Prelude.{Some, None, position}
use Rattle.std.specs.List.{position_or_len}
use Rattle.std.proofs.lemmas.List.Quantifiers.{position-Some}
use borrow.Author.Tests.{ne_eqb, ltb-false}
use lib.Dec.{eqb, ltb}
use lib.ListN.{length, take, drop, get_or, length-append, length-drop, drop_of_length-le}
use lib.Seq.{drop-cons, take_all}
use Rattle.buffer.specs.Over.{over, Put, place_limit}
use Rattle.buffer.proofs.Over.{over-over, put_then}
use Rattle.message_texts.specs.Filled.{Values, byte_of, filled}
use Rattle.message_texts.specs.Inner.{values, Short, is_value}
use Rattle.message_texts.proofs.Capitals.{length-upper}
use Rattle.text.specs.Pick.{pick}

-- a byte that stands for no value stands for itself
pub itself : (n : ℕ) (v : Values) → (n ≡ 1 → ⊥) → (n ≡ 2 → ⊥) → (n ≡ 3 → ⊥) → (n ≡ 4 → ⊥) → byte_of n v ≡ n ∷ []
itself n v p q r s = rw (ne_eqb n 1 p, ne_eqb n 2 q, ne_eqb n 3 r, ne_eqb n 4 s)

pub pick-within : (m : ℕ) (t : Bool) (s u : List ℕ) → length s ≤ m → length u ≤ m → length (pick t s u) ≤ m
pick-within m true s u h k = h
pick-within m false s u h k = k

-- each byte of a text stands for itself or for one of the values
module _ (a b c : List ℕ) (m : ℕ) (h : 1 ≤ m) (x : length a ≤ m) (y : length b ≤ m) (z : length c ≤ m) where
  byte-within : (n : ℕ) → length (byte_of n (values a b c)) ≤ m
  byte-within n =
      pick-within m (eqb n 1) _ _ x (pick-within m (eqb n 2) _ _ y (pick-within m (eqb n 3) _ _ z (pick-within m (eqb n 4) _ _ (rw (length-upper a) x) h)))

  filled_within : (text : List ℕ) → length (filled text (values a b c)) ≤ length text * m
  unfolding filled
  filled_within [] = omega arith
  filled_within (n ∷ text) = rw (length-append, suc-mul) (omega (arith, byte-within n, filled_within text))

pub filled-room : (text a b c : List ℕ) → length (filled text (values a b c)) ≤ length text * (1 + length a + length b + length c)
filled-room text a b c = filled_within a b c (1 + length a + length b + length c) (omega arith) (omega arith) (omega arith) (omega arith) text

-- before the first byte that stands for a value, each is written as it is
run-filled : (text : List ℕ) (v : Values) → filled text v ≡ take (position_or_len is_value text) text ++ filled (drop (position_or_len is_value text) text) v
unfolding filled
run-filled [] v = refl
run-filled (x ∷ s) v = test (is_value x) refl (run-filled s v)
  where
    test : (t : Bool) → is_value x ≡ t → filled s v ≡ take (position_or_len is_value s) s ++ filled (drop (position_or_len is_value s) s) v → byte_of x v ++ filled s v ≡ take (cond (not t) (1 + position_or_len is_value s) 0) (x ∷ s) ++ filled (drop (cond (not t) (1 + position_or_len is_value s) 0) (x ∷ s)) v
    test true e more = refl
    test false e more =
        let z : 5 ≤ x = ltb-false x 5 e in
        let k : 1 + position_or_len is_value s ≡ suc (position_or_len is_value s) = omega arith in
        rw (k, itself x v (λ e. omega arith) (λ e. omega arith) (λ e. omega arith) (λ e. omega arith)) (ap (x ∷◌) more)

module _ (text : List ℕ) (v : Values) where
  -- there is none
  pub none-filled : None ≡ position is_value text → filled text v ≡ text
  unfolding filled
  none-filled e = test (ltb (position_or_len is_value text) (length text)) refl e
    where
      test : (t : Bool) → ltb (position_or_len is_value text) (length text) ≡ t → None ≡ cond t (Some (position_or_len is_value text)) None → filled text v ≡ text
      test true h g = cc
      test false h g =
          let far : length text ≤ position_or_len is_value text = ltb-false _ _ h in
          run-filled text v ∙ rw (take_all (position_or_len is_value text) text far, drop_of_length-le text {i = position_or_len is_value text} far) (append-nil text)

  -- there is one, at place n
  module _ (n : ℕ) (e : Some n ≡ position is_value text) where
    pub first-within : n < length text
    first-within = (position-Some is_value text n 0 (sym e)).0

    pub first-filled : filled text v ≡ take n text ++ (byte_of (get_or text n 0) v ++ filled (drop (n + 1) text) v)
    unfolding filled
    first-filled = test (ltb (position_or_len is_value text) (length text)) e
      where
        test : (t : Bool) → Some n ≡ cond t (Some (position_or_len is_value text)) None → filled text v ≡ take n text ++ (byte_of (get_or text n 0) v ++ filled (drop (n + 1) text) v)
        test true g =
            let z : n ≡ position_or_len is_value text = cc in
            let here : filled (drop n text) v ≡ byte_of (get_or text n 0) v ++ filled (drop (n + 1) text) v = rw (add-one n, drop-cons text n 0 first-within) in
            rw (← here, z) (run-filled text v)
        test false g = cc

-- what is left of the text gives what the whole gives
pub record Filling (text : List ℕ) (v : Values) (l₀ l : List ℕ) (at : ℕ) (rest : List ℕ) : Type 0 where
  pub left : length rest ≤ length text
  pub whole : over l at (filled rest v) ≡ over l₀ 0 (filled text v)
  pub ending : at + length (filled rest v) ≡ length (filled text v)
  pub same : length l ≡ length l₀

pub filling-start : (text : List ℕ) (v : Values) (l : List ℕ) → Filling text v l l 0 text
filling-start text v l = record { left = omega arith; whole = refl; ending = zero-add (length (filled text v)); same = refl }

module _ {text a b c l₀ l : List ℕ} {at : ℕ} {rest : List ℕ} (y : Filling text (values a b c) l₀ l at rest) where
  -- bytes that the text gives before what is left of it are written
  filling-by : {l' : List ℕ} {r : ℕ} (s u : List ℕ) → length l' ≡ length l → length u ≤ length rest → filled rest (values a b c) ≡ s ++ filled u (values a b c) → Put s l at l' r → Filling text (values a b c) l₀ l' r u
  filling-by s u e k here p =
      let more = filled u (values a b c) in
      let long : at + (length s + length more) ≡ length (filled text (values a b c)) = rw (← length-append s more, ← here) y.ending in
      let f = y.left in
      record {
        left = omega arith;
        whole = rw (p.list, p.end, over-over l at s more, ← here) y.whole;
        ending = rw p.end (omega arith);
        same = e ∙ y.same;
      }

  pub filling-low : length text ≤ 256 → Short a b c → at ≤ place_limit
  filling-low h z = omega (arith, y.ending, filled_within a b c 1048576 (omega arith) z.a_short z.b_short z.c_short text)

  -- a run of bytes and the value behind it
  module _ {n : ℕ} (first : Some n ≡ position is_value rest) {l₁ : List ℕ} {r₁ : ℕ} (p : Put (take n rest) l at l₁ r₁) where
    pub filling-between : length text ≤ 256 → Short a b c → r₁ ≤ place_limit
    filling-between h z =
        let w = y.ending in
        let q = p.end in
        let x = first-filled rest (values a b c) n first in
        omega (arith, ap length x, length-append (take n rest) (byte_of (get_or rest n 0) (values a b c) ++ filled (drop (n + 1) rest) (values a b c)), filled_within a b c 1048576 (omega arith) z.a_short z.b_short z.c_short text)

    pub filling-on : {l₂ u : List ℕ} {r₂ : ℕ} → u ≡ drop (n + 1) rest → length l₁ ≡ length l → length l₂ ≡ length l₁ → Put (byte_of (get_or rest n 0) (values a b c)) l₁ r₁ l₂ r₂ → Filling text (values a b c) l₀ l₂ r₂ u
    filling-on d e f q =
        let v = values a b c in
        let m = byte_of (get_or rest n 0) v in
        rw d (filling-by (take n rest ++ m) (drop (n + 1) rest) (f ∙ e) (rw length-drop (omega arith)) (first-filled rest v n first ∙ sym (append_assoc (take n rest) m (filled (drop (n + 1) rest) v))) (put_then p q))

  pub filling-end : None ≡ position is_value rest → {l' : List ℕ} {r : ℕ} → Put rest l at l' r → Put (filled text (values a b c)) l₀ 0 l' r
  filling-end none p =
      let e = none-filled rest (values a b c) none in
      record {
        list = p.list ∙ rw e at y.whole;
        end = p.end ∙ rw zero-add (rw e at y.ending);
      }
