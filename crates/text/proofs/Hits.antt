-- What stands where a search among characters ends, and a text of which nothing is left when it is trimmed.
-- Assumes nothing.
use mathlib.Core.Path.{◌≡◌, refl, sym, ◌∙◌}
use mathlib.Core.Bool.{Bool, true, false}
use mathlib.Core.List.{List, [], ◌∷◌}
use Prim.Native.Nat.{ℕ, zero, suc, ◌+◌, ◌<◌, ◌≤◌}
use native.Mathlib.Nat.{not-suc-le-zero, zero-add}
use native.Mathlib.Decide.{dec_lt}
use native.Mathlib.Omega.{arith}
use lib.Dec.{eqb}
use lib.ListN.{length, drop, length-drop, drop_of_length-le}
use lib.Seq.{drop-drop}
use borrow.Author.Tests.{eq-eqb, ne_eqb, not-true}
use Rattle.text.specs.Utf8.{decode}
use Rattle.text.specs.Blank.{blank}
use Rattle.text.specs.Characters.{chars, bytes_before, find}
use Rattle.text.specs.Words.{not_blank, kept, trim, blank_text}
use Rattle.text.proofs.Induction.{by_length}
use Rattle.text.proofs.Chars.{chars-nil, chars-cons, chars-at, in-text, past, stops, ends}
use Rattle.text.proofs.Decode.{decode-width}
use Rattle.text.proofs.Kept.{find-le}
use Rattle.text.specs.Pick.{pick}

-- a search that ends inside the text ends at a character that passes
module _ (p : ℕ → Bool) where
  abbrev Hits : List ℕ → Type 0
  Hits l = find p l < length l → p (decode (drop (find p l) l)).cp ≡ true

  hit-step : (l : List ℕ) → ((m : List ℕ) → length m < length l → Hits m) → Hits l
  unfolding bytes_before
  hit-step [] ih h = absurd (not-suc-le-zero h)
  hit-step (b ∷ s) ih h =
      let l = b ∷ s in
      let w = (decode l).width in
      let d = decode-width l (omega arith) in
      let e : find p l ≡ pick (p (decode l).cp) 0 (w + find p (drop w l)) = rw (chars-cons l w (omega arith) refl) in
      go w (p (decode l).cp) refl e d.0 (rw e at h)
    where
      go : (w : ℕ) (t : Bool) → p (decode (b ∷ s)).cp ≡ t → find p (b ∷ s) ≡ pick t 0 (w + find p (drop w (b ∷ s))) → 0 < w → pick t 0 (w + find p (drop w (b ∷ s))) < length (b ∷ s) → p (decode (drop (find p (b ∷ s)) (b ∷ s))).cp ≡ true
      go w true y e d h = rw e y
      go w false y e d h = rw (e, ← drop-drop (find p (drop w (b ∷ s))) w (b ∷ s)) (ih (drop w (b ∷ s)) (omega (arith, length-drop w (b ∷ s))) (omega (arith, length-drop w (b ∷ s))))

  pub find-hits : (l : List ℕ) → Hits l
  find-hits l = by_length Hits hit-step l

-- a search for less goes on where a search for more ends
module _ (p q : ℕ → Bool) (less : (c : ℕ) → q c ≡ false → p c ≡ false) (s : List ℕ) where
  abbrev On : ℕ → Type 0
  On i = i + find p (drop i s) ≡ i + find q (drop i s) + find p (drop (i + find q (drop i s)) s)

  on-here : (i : ℕ) → i + find q (drop i s) ≡ i → On i
  on-here i z = rw z

  on-by : (n i : ℕ) → length s ≤ i + n → On i
  on-by zero i h = on-here i (ends q s i (omega arith))
  on-by (suc n) i h = turn (dec_lt i (length s)) (q (decode (drop i s)).cp) refl (on-by n (i + (decode (drop i s)).width))
    where
      w : ℕ
      w = (decode (drop i s)).width

      turn : Dec (i < length s) → (v : Bool) → q (decode (drop i s)).cp ≡ v → (length s ≤ i + w + n → On (i + w)) → On i
      turn (no l) v y r = on-here i (ends q s i (omega arith))
      turn (yes l) true y r = on-here i (stops q s i l y)
      turn (yes l) false y r =
          let d = in-text s i l in
          rw (past q s i w l refl y) (past p s i w l refl (less (decode (drop i s)).cp y) ∙ r (omega arith))

  pub find-on : (i : ℕ) → On i
  find-on i = on-by (length s) i (omega arith)

kept-some : (s : List ℕ) (i : ℕ) → i < length s → blank (decode (drop i s)).cp ≡ false → eqb (kept (chars (drop i s))) 0 ≡ false
unfolding kept
kept-some s i h y =
    let w = (decode (drop i s)).width in
    let d = in-text s i h in
    rw (chars-at s i w h refl, y) (ne_eqb (w + kept (chars (drop (i + w) s))) 0 (omega arith))

pub blank-text : (s : List ℕ) (a : ℕ) → a ≡ 0 + find not_blank s → eqb a (length s) ≡ blank_text s
unfolding blank_text trim kept
blank-text s a e =
    let f : a ≡ find not_blank s = e ∙ zero-add _ in
    rw f (go (dec_lt (find not_blank s) (length s)) (find-le not_blank s))
  where
    go : Dec (find not_blank s < length s) → find not_blank s ≤ length s → eqb (find not_blank s) (length s) ≡ eqb (kept (chars (drop (find not_blank s) s))) 0
    go (yes h) l = rw (ne_eqb (find not_blank s) (length s) (omega arith)) (sym (kept-some s (find not_blank s) h (not-true _ (find-hits not_blank s h))))
    go (no h) l =
        let e : length s ≤ find not_blank s = omega arith in
        let end : drop (find not_blank s) s ≡ [] = drop_of_length-le s e in
        rw (eq-eqb (find not_blank s) (length s) (omega arith), end, chars-nil)
