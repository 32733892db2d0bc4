-- Bytes written over a list one at a time.
-- Assumes nothing.
use Prim.Native.Nat.{ℕ, suc, ◌+◌, ◌-◌, ◌<◌, ◌≤◌, min}
use native.Mathlib.Decide.{dec_le}
use native.Mathlib.Omega.{arith}
use native.Mathlib.Nat.{add-zero, zero-add, add_assoc}
use native.Mathlib.Numerals.{add-one}
use mathlib.Core.Path.{◌≡◌, refl, sym, subst, ◌∙◌}
use mathlib.Core.List.{List}
use lib.ListN.{length, drop, set, get_or, length-set, drop_of_length-le}
use lib.Seq.{drop-cons}
use Rattle.buffer.specs.Over.{over}
use Rattle.buffer.proofs.Over.{over-past, over_none, over-set}

-- what is left to write gives what the whole gives
pub record Writing (s l₀ : List ℕ) (at : ℕ) (l : List ℕ) (i : ℕ) : Type 0 where
  pub left : i ≤ length s
  pub whole : over l (at + i) (drop i s) ≡ over l₀ at s
  pub same : length l ≡ length l₀

pub writing_start : (s l : List ℕ) (at : ℕ) → Writing s l at l 0
writing_start s l at = record { left = omega arith; whole = rw add-zero; same = refl }

module _ (s l₀ : List ℕ) (at : ℕ) (l : List ℕ) (i : ℕ) (y : Writing s l₀ at l i) where
  pub writing-on : i < length s → at + i < length l → Writing s l₀ at (set l (at + i) (get_or s i 0)) (i + 1)
  writing-on h k =
      record {
        left = omega arith;
        whole = rw (← add_assoc at i 1, add-one i) (sym (over-set l (at + i) (get_or s i 0) (drop (suc i) s) k) ∙ rw (← drop-cons s i 0 h) y.whole);
        same = length-set l (at + i) (get_or s i 0) ∙ y.same;
      }

  pub writing-full : length l ≤ at + i → l ≡ over l₀ at s
  writing-full h = sym (over-past l (at + i) (drop i s) h) ∙ y.whole

  pub writing-end : length s ≤ i → l ≡ over l₀ at s
  writing-end h = sym (over_none l (at + i)) ∙ rw (drop_of_length-le s {i = i} h) at y.whole

  -- all that has room is written
  pub writing-done : min (length s) (length l₀ - at) ≤ i → l ≡ over l₀ at s
  writing-done h = go (dec_le (length s) i)
    where
      go : Dec (length s ≤ i) → l ≡ over l₀ at s
      go (yes k) = writing-end k
      go (no k) = writing-full (let e = y.same in omega arith)

-- the same from the list's start
pub writing-first : (s l₀ l : List ℕ) (i : ℕ) → Writing s l₀ 0 l i → i < length s → i < length l → Writing s l₀ 0 (set l i (get_or s i 0)) (i + 1)
writing-first s l₀ l i y h k =
    let z : 0 + i ≡ i = zero-add i in
    subst (λ (n : ℕ). Writing s l₀ 0 (set l n (get_or s i 0)) (i + 1)) z (writing-on s l₀ 0 l i y h (rw z k))
