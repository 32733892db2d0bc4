-- The characters of a text from one place to the next, and the first of them that passes a test.
-- Assumes nothing.
use mathlib.Core.Path.{◌≡◌, refl, sym, ap, ◌∙◌}
use mathlib.Core.Bool.{Bool, true, false, cond}
use mathlib.Core.List.{List, [], ◌∷◌}
use Prim.Native.Nat.{ℕ, zero, suc, pred, ◌+◌, ◌<◌, ◌≤◌}
use native.Mathlib.Nat.{add-zero, not-suc-le-zero, le_refl}
use native.Mathlib.Decide.{dec_lt}
use native.Mathlib.Omega.{arith}
use lib.Dec.{ltb}
use borrow.Author.Tests.{lt-ltb, le-ltb}
use Rattle.std.specs.Prelude.{Option, Some, None, unwrap_or}
use Rattle.std.specs.List.{position_or_len}
use Rattle.std.proofs.lemmas.List.Recursion.{is_position_or_len}
use lib.ListN.{length, get_or, drop, length-drop, drop_of_length-le}
use lib.Seq.{drop-drop}
use Rattle.text.specs.Pick.{pick}
use Rattle.text.specs.declared.Decoded.{Decoded}
use Rattle.text.specs.Utf8.{decode}
use Rattle.text.specs.Characters.{chars_past, chars, bytes_before, find, find_byte}
use Rattle.text.proofs.Rows.{place}
use Rattle.text.proofs.Decode.{decode-width}

skip : (k : ℕ) (s : List ℕ) → chars_past k s ≡ chars (drop k s)
unfolding chars_past
skip zero s = refl
skip (suc k) [] = refl
skip (suc k) (b ∷ s) = skip k s

pub chars-nil : chars [] ≡ []
unfolding chars_past
chars-nil = refl

pub chars-cons : (l : List ℕ) (w : ℕ) → 0 < length l → w ≡ (decode l).width → chars l ≡ decode l ∷ chars (drop w l)
unfolding chars_past
chars-cons [] w h e = absurd (not-suc-le-zero h)
chars-cons (b ∷ s) zero h e = absurd (omega (arith, decode-width (b ∷ s) h, e))
chars-cons (b ∷ s) (suc k) h e = ap (λ (n : ℕ). decode (b ∷ s) ∷ chars_past (pred n) s) (sym e) ∙ ap (decode (b ∷ s) ∷◌) (skip k s)

pub in-text : (s : List ℕ) (i : ℕ) → i < length s → (0 < (decode (drop i s)).width) × (i + (decode (drop i s)).width ≤ length s)
in-text s i h =
    let some : 0 < length (drop i s) = rw length-drop (omega arith) in
    let d = decode-width (drop i s) some in
    omega (arith, length-drop i s)

pub chars-at : (s : List ℕ) (i w : ℕ) → i < length s → w ≡ (decode (drop i s)).width → chars (drop i s) ≡ decode (drop i s) ∷ chars (drop (i + w) s)
chars-at s i w h e =
    let some : 0 < length (drop i s) = rw length-drop (omega arith) in
    chars-cons (drop i s) w some e ∙ ap (λ (l : List ℕ). decode (drop i s) ∷ chars l) (drop-drop w i s)

-- a test of the character at a place, by the steps that the code takes
pub tested-by : (p : ℕ → Bool) (s : List ℕ) (i : ℕ) (d : Decoded) (x v : Bool) → d ≡ decode (drop i s) → x ≡ p d.cp → x ≡ v → p (decode (drop i s)).cp ≡ v
tested-by p s i d x v e f h = ap (λ (z : Decoded). p z.cp) (sym e) ∙ sym f ∙ h

module _ (p : ℕ → Bool) (s : List ℕ) (i : ℕ) where
  -- past a character that does not pass, at one that does, and at the end
  pub past : (w : ℕ) → i < length s → w ≡ (decode (drop i s)).width → p (decode (drop i s)).cp ≡ false → i + find p (drop i s) ≡ i + w + find p (drop (i + w) s)
  unfolding bytes_before
  past w h e y = rw (chars-at s i w h e, y, ← e) (omega arith)

  pub stops : i < length s → p (decode (drop i s)).cp ≡ true → i + find p (drop i s) ≡ i
  unfolding bytes_before
  stops h y = rw (chars-at s i (decode (drop i s)).width h refl, y) (add-zero i)

  pub ends : length s ≤ i → i + find p (drop i s) ≡ i
  unfolding bytes_before
  ends h = rw (drop_of_length-le s h, chars-nil) (add-zero i)

-- the same of bytes
module _ (p : ℕ → Bool) (s : List ℕ) (i : ℕ) where
  pub byte_past : i < length s → p (get_or s i 0) ≡ false → i + find_byte p (drop i s) ≡ i + 1 + find_byte p (drop (i + 1) s)
  unfolding find_byte
  byte_past h y = rw (place s i h, y) (omega arith)

  pub byte-stops : i < length s → p (get_or s i 0) ≡ true → i + find_byte p (drop i s) ≡ i
  unfolding find_byte
  byte-stops h y = rw (place s i h, y) (add-zero i)

  pub byte-ends : length s ≤ i → i + find_byte p (drop i s) ≡ i
  unfolding find_byte
  byte-ends h = rw (drop_of_length-le s h) (add-zero i)

pub byte_le : (p : ℕ → Bool) (s : List ℕ) → find_byte p s ≤ length s
unfolding find_byte
byte_le p [] = le_refl 0
byte_le p (b ∷ s) = go (p b) (byte_le p s)
  where
    go : (t : Bool) → find_byte p s ≤ length s → pick t 0 (suc (find_byte p s)) ≤ suc (length s)
    go true h = omega arith
    go false h = omega arith

pub found-le : (p : ℕ → Bool) (s : List ℕ) (at : ℕ) → at ≡ find_byte p s → at ≤ length s
found-le p s at h = rw h (byte_le p s)

find_byte_is : (p : ℕ → Bool) (s : List ℕ) → find_byte p s ≡ position_or_len p s
unfolding find_byte
find_byte_is p s = is_position_or_len (find_byte p) p refl (λ b s. one (p b) (find_byte p s)) s
  where
    one : (t : Bool) (n : ℕ) → pick t 0 (suc n) ≡ cond t 0 (1 + n)
    one true n = refl
    one false n = omega arith

-- what `position` finds, or the length where it finds nothing
pub position-or-length : (p : ℕ → Bool) (s : List ℕ) (r : Option ℕ) → r ≡ cond (ltb (position_or_len p s) (length s)) (Some (position_or_len p s)) None → unwrap_or r (length s) ≡ find_byte p s
position-or-length p s r e = ap (λ (r : Option ℕ). unwrap_or r (length s)) e ∙ rw (← find_byte_is p s) (go (dec_lt (find_byte p s) (length s)))
  where
    go : Dec (find_byte p s < length s) → unwrap_or (cond (ltb (find_byte p s) (length s)) (Some (find_byte p s)) None) (length s) ≡ find_byte p s
    go (yes h) = rw (lt-ltb (find_byte p s) (length s) h)
    go (no h) =
        let z : find_byte p s ≡ length s = omega (arith, byte_le p s) in
        rw (z, le-ltb (length s) (length s) (le_refl (length s)))
