-- Words copied over a part of a list.
-- Assumes nothing.
use Rattle.std.proofs.Common.{◌≡◌, ℕ, zero, suc, ◌+◌, ◌-◌, ◌<◌, ◌≤◌, min, sym, ap, ◌∙◌, List, [], ◌∷◌, ◌++◌, length, take, drop, arith}
use native.Mathlib.Nat.{zero-add, suc-add}
use native.Mathlib.Decide.{dec_le}
use lib.Seq.{take_all, drop-drop}
use borrow.Rule.Slice.PartMut.{put_mid}
use lib.ListN.{drop_of_length-le}
use Rattle.buffer.specs.Over.{over}
use Rattle.buffer.proofs.Over.{over-is}

-- what is written over a list from a place on, in three parts
over-parts : (l : List ℕ) (at : ℕ) (s : List ℕ) → at ≤ length l → over l at s ≡ take at l ++ (take (length l - at) s ++ drop (at + length s) l)
unfolding over
over-parts l zero s h = let e : length l - 0 ≡ length l = omega arith in rw (e, zero-add) (over-is l s)
over-parts [] (suc at) s h = absurd (omega arith)
over-parts (x ∷ l) (suc at) s h =
    let e : suc (length l) - suc at ≡ length l - at = omega arith in
    rw (e, suc-add) (ap (x ∷◌) (over-parts l at s (omega arith)))

-- as many as there are, or as have room
as-many : (l : List ℕ) (at : ℕ) (s : List ℕ) (n : ℕ) → at < length l → n ≡ min (length s) (length l - at) → take at l ++ (take n s ++ drop (at + n) l) ≡ over l at s
as-many l at s n h e = sym (over-parts l at s (omega arith) ∙ ap (λ (m : List ℕ). take at l ++ m) (go (dec_le (length s) (length l - at))))
  where
    go : Dec (length s ≤ length l - at) → take (length l - at) s ++ drop (at + length s) l ≡ take n s ++ drop (at + n) l
    go (yes k) =
        let m : n ≡ length s = omega arith in
        rw (m, take_all (length l - at) s k, take_all (length s) s (omega arith))
    go (no k) =
        let m : n ≡ length l - at = omega arith in
        rw (m, drop_of_length-le l {i = at + length s} (omega arith), drop_of_length-le l {i = at + (length l - at)} (omega arith))

pub copied : (l : List ℕ) (at : ℕ) (s : List ℕ) (n : ℕ) (x : List ℕ) → at < length l → n ≡ min (length s) (length l - at) → x ≡ take n s → put_mid at (at + n - at) l x ≡ over l at s
copied l at s n x h e f =
    let k : at + n - at ≡ n = omega arith in
    rw (k, f, drop-drop n at l) (as-many l at s n h e)
