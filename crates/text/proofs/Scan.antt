-- How a scan of a text goes on from one place to the next.
-- Assumes nothing.
use mathlib.Core.Path.{◌≡◌, refl, sym, ap, ◌∙◌}
use mathlib.Core.List.{List, [], ◌∷◌}
use Rattle.std.specs.Prelude.{Some, None}
use Prim.Native.Nat.{ℕ, zero, suc, ◌+◌, ◌-◌, ◌<◌, ◌≤◌}
use native.Mathlib.Nat.{add-zero, not-suc-le-zero}
use native.Mathlib.Omega.{arith}
use lib.ListN.{length, get_or, drop, length-drop}
use lib.Seq.{drop-drop}
use Rattle.text.specs.Pick.{range}
use Rattle.text.specs.Utf8.{table3_7, begins, width_of, after_width, scan}
use Rattle.text.specs.Inner.{Ascii, Passed}
use Rattle.text.proofs.Rows.{row_at, width-le}

-- the bytes of a sequence that has begun are skipped
skip : (s : List ℕ) (k at : ℕ) → scan s k at ≡ scan (drop k s) 0 (at + k)
unfolding scan
skip s zero at = ap (scan s 0) (sym (add-zero at))
skip [] (suc k) at = refl
skip (b ∷ s) (suc k) at = skip s k (suc at) ∙ ap (scan (drop k s) 0) (omega arith)

pub over : (l : List ℕ) (w at : ℕ) → width_of l ≡ w → 0 < w → scan l 0 at ≡ scan (drop w l) 0 (at + w)
unfolding scan after_width
over l zero at e h = absurd (not-suc-le-zero h)
over [] (suc k) at e h = refl
over (b ∷ s) (suc k) at e h = rw e (skip s k (suc at) ∙ ap (scan (drop k s) 0) (omega arith))

-- past a well-formed sequence
pub past : (s : List ℕ) (at w : ℕ) → width_of (drop at s) ≡ w → 0 < w → scan (drop at s) 0 at ≡ scan (drop (at + w) s) 0 (at + w)
past s at w e h = over (drop at s) w at e h ∙ ap (λ (l : List ℕ). scan l 0 (at + w)) (drop-drop w at s)

pub bad : (l : List ℕ) (at : ℕ) → 0 < length l → width_of l ≡ 0 → scan l 0 at ≡ Some at
unfolding scan after_width
bad [] at h e = absurd (not-suc-le-zero h)
bad (b ∷ s) at h e = rw e

-- at an ill-formed sequence
pub stops : (s : List ℕ) (at : ℕ) → at < length s → width_of (drop at s) ≡ 0 → scan (drop at s) 0 at ≡ Some at
stops s at h e = bad (drop at s) at (rw length-drop (omega arith)) e

pub ended : (k at : ℕ) → scan [] k at ≡ None
unfolding scan
ended k at = refl

pub ends : (s : List ℕ) (at : ℕ) → length s ≤ at → scan (drop at s) 0 at ≡ None
ends s at h = rw (lib.ListN.drop_of_length-le s h) (ended 0 at)

pub within_text : (s : List ℕ) (at : ℕ) → at ≤ length s → at + width_of (drop at s) ≤ length s
within_text s at h = omega (arith, width-le (drop at s), length-drop at s)

pub ascii-one : (s : List ℕ) (at : ℕ) → at < length s → get_or s at 0 < 0x80 → width_of (drop at s) ≡ 1
unfolding table3_7 begins
ascii-one s at h l = row_at s at h 0 (range 0x00 0x7F) [] (omega arith) refl (omega arith) (omega arith)

-- past a run of ASCII
ascii_by : (n : ℕ) (s : List ℕ) (from to : ℕ) → to - from ≡ n → from ≤ to → to ≤ length s → Ascii s from to → scan (drop from s) 0 from ≡ scan (drop to s) 0 to
ascii_by zero s from to e h k low = let z : from ≡ to = omega arith in rw z
ascii_by (suc n) s from to e h k low =
    past s from 1 (ascii-one s from (omega arith) (low from (omega arith) (omega arith))) (omega arith)
    ∙ ascii_by n s (from + 1) to (omega arith) (omega arith) k (λ i g l. low i (omega arith) l)

pub ascii_run : (s : List ℕ) (from to : ℕ) → from ≤ to → to ≤ length s → Ascii s from to → scan (drop from s) 0 from ≡ scan (drop to s) 0 to
ascii_run s from to h k low = ascii_by (to - from) s from to refl h k low

-- a sequence is passed, or where none begins nothing; and a run of ASCII
pub passed-width : (s : List ℕ) (at w : ℕ) → at < length s → w ≡ width_of (drop at s) → Passed s at w
passed-width s at w h e = record { none = λ z. sym e ∙ z; some = λ g. past s at w (sym e) g; inside = omega (arith, within_text s at (omega arith)) }

pub passed-run : (s : List ℕ) (at r : ℕ) → at < length s → get_or s at 0 < 0x80 → at + 1 ≤ r → r ≤ length s → Ascii s (at + 1) r → Passed s at (r - at)
passed-run s at r h l g k low =
    let e : at + (r - at) ≡ r = omega arith in
    record {
      none = λ z. absurd (omega arith);
      some = λ x. rw e (past s at 1 (ascii-one s at h l) (omega arith) ∙ ascii_run s (at + 1) r g k low);
      inside = omega arith;
    }
