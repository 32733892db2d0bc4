-- What the code point at a place is, by the width of the sequence there.
-- Assumes nothing.
use mathlib.Core.Path.{◌≡◌, refl, ap, ◌∙◌}
use mathlib.Core.List.{List, [], ◌∷◌}
use Prim.Native.Nat.{ℕ, zero, suc, ◌+◌, ◌*◌, ◌%◌, ◌<◌, ◌≤◌}
use native.Mathlib.Nat.{add-zero, not-suc-le-zero}
use native.Mathlib.Omega.{arith}
use lib.ListN.{length, get_or, drop, drop_of_length-le}
use lib.Seq.{get_or-drop}
use Rattle.text.specs.declared.Decoded.{Decoded}
use Rattle.text.specs.Utf8.{width_of, decoded, decode}
use Rattle.text.proofs.Rows.{place, width-le}

abbrev four_bytes : List ℕ → Decoded
four_bytes l = record { cp = get_or l 0 0 % 8 * 262144 + get_or l 1 0 % 64 * 4096 + get_or l 2 0 % 64 * 64 + get_or l 3 0 % 64; width = 4 }

big : (w : ℕ) (l : List ℕ) → 4 ≤ w → decoded w l ≡ four_bytes l
unfolding decoded
big zero l h = absurd (omega arith)
big (suc zero) l h = absurd (omega arith)
big (suc (suc zero)) l h = absurd (omega arith)
big (suc (suc (suc zero))) l h = absurd (omega arith)
big (suc (suc (suc (suc k)))) l h = refl

-- what stands at a place, by the width of the sequence there
module _ (s : List ℕ) (at : ℕ) (h : at < length s) where
  abbrev l : List ℕ
  l = drop at s

  first : get_or l 0 0 ≡ get_or s at 0
  first = get_or-drop at s 0 0 ∙ ap (λ (i : ℕ). get_or s i 0) (add-zero at)

  here : decode l ≡ decoded (width_of l) l
  unfolding decode
  here = rw (place s at h)

  pub decode-0 : width_of l ≡ 0 → record { cp = 0xFFFD; width = 1 } ≡ decode l
  unfolding decoded
  decode-0 e = rw (here, e)

  pub decode-1 : width_of l ≡ 1 → record { cp = get_or s at 0; width = 1 } ≡ decode l
  unfolding decoded
  decode-1 e = rw (here, e, first)

  pub decode-2 : width_of l ≡ 2 → record { cp = get_or s at 0 % 32 * 64 + get_or s (at + 1) 0 % 64; width = 2 } ≡ decode l
  unfolding decoded
  decode-2 e = rw (here, e, first, get_or-drop at s 1 0)

  pub decode-3 : width_of l ≡ 3 → record { cp = get_or s at 0 % 16 * 4096 + get_or s (at + 1) 0 % 64 * 64 + get_or s (at + 2) 0 % 64; width = 3 } ≡ decode l
  unfolding decoded
  decode-3 e = rw (here, e, first, get_or-drop at s 1 0, get_or-drop at s 2 0)

  pub decode-4 : 4 ≤ width_of l → record { cp = get_or s at 0 % 8 * 262144 + get_or s (at + 1) 0 % 64 * 4096 + get_or s (at + 2) 0 % 64 * 64 + get_or s (at + 3) 0 % 64; width = 4 } ≡ decode l
  decode-4 e = rw (here, big (width_of l) l e, first, get_or-drop at s 1 0, get_or-drop at s 2 0, get_or-drop at s 3 0)

pub decode-end : (s : List ℕ) (at : ℕ) → length s ≤ at → record { cp = 0xFFFD; width = 0 } ≡ decode (drop at s)
unfolding decode
decode-end s at h = rw (drop_of_length-le s h)

-- a character has a byte, and no more than the list
wide : (w n : ℕ) (l : List ℕ) → w ≤ n → 0 < n → (0 < (decoded w l).width) × ((decoded w l).width ≤ n)
unfolding decoded
wide zero n l h k = (omega arith, omega arith)
wide (suc zero) n l h k = (omega arith, omega arith)
wide (suc (suc zero)) n l h k = (omega arith, omega arith)
wide (suc (suc (suc zero))) n l h k = (omega arith, omega arith)
wide (suc (suc (suc (suc w)))) n l h k = (omega arith, omega arith)

pub decode-width : (l : List ℕ) → 0 < length l → (0 < (decode l).width) × ((decode l).width ≤ length l)
unfolding decode
decode-width [] h = absurd (not-suc-le-zero h)
decode-width (b ∷ s) h = wide (width_of (b ∷ s)) (length (b ∷ s)) (b ∷ s) (width-le (b ∷ s)) h
