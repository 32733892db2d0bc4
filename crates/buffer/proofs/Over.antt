-- Laws of bytes written over a list.
-- Assumes nothing.
use Prim.Native.Nat.{ℕ, zero, suc, ◌+◌, ◌-◌, ◌<◌, ◌≤◌, min}
use native.Mathlib.Omega.{arith}
use native.Mathlib.Nat.{zero-add, suc-add}
use mathlib.Core.Path.{◌≡◌, refl, sym, ap, ◌∙◌}
use mathlib.Core.List.{List, [], ◌∷◌, ◌++◌}
use lib.ListN.{length, take, drop, set, get_or, length-append}
use lib.Seq.{take_all, drop-nil}
use Rattle.buffer.specs.Over.{over, Put}

-- to write bytes behind others is to write both at once
pub over-over : (l : List ℕ) (at : ℕ) (s u : List ℕ) → over (over l at s) (at + length s) u ≡ over l at (s ++ u)
unfolding over
over-over [] at s u = refl
over-over (x ∷ l) zero [] u = refl
over-over (x ∷ l) zero (b ∷ s) u = rw zero-add (ap (b ∷◌) (rw zero-add at (over-over l zero s u)))
over-over (x ∷ l) (suc at) s u = rw suc-add (ap (x ∷◌) (over-over l at s u))

pub over-is : (l s : List ℕ) → over l 0 s ≡ take (length l) s ++ drop (length s) l
unfolding over
over-is [] s = sym (drop-nil (length s))
over-is (x ∷ l) [] = refl
over-is (x ∷ l) (b ∷ s) = ap (b ∷◌) (over-is l s)

pub over-fits : (l s : List ℕ) → length s ≤ length l → over l 0 s ≡ s ++ drop (length s) l
over-fits l s h = over-is l s ∙ ap (◌++ drop (length s) l) (take_all (length l) s h)

-- the bytes that have room, n of them, between what stands before them and behind them
pub over-mid : (l : List ℕ) (at : ℕ) (s : List ℕ) (n : ℕ) → n ≡ min (length s) (length l - at) → over l at s ≡ take at l ++ (take n s ++ drop n (drop at l))
unfolding over
over-mid [] zero s n h = let z : n ≡ 0 = omega arith in rw z
over-mid [] (suc at) s n h = let z : n ≡ 0 = omega arith in rw z
over-mid (x ∷ l) zero [] n h = let z : n ≡ 0 = omega arith in rw z
over-mid (x ∷ l) zero (b ∷ s) zero h = absurd (omega arith)
over-mid (x ∷ l) zero (b ∷ s) (suc n) h = ap (b ∷◌) (over-mid l zero s n (omega arith))
over-mid (x ∷ l) (suc at) s n h = ap (x ∷◌) (over-mid l at s n (omega arith))

pub over-past : (l : List ℕ) (at : ℕ) (s : List ℕ) → length l ≤ at → over l at s ≡ l
unfolding over
over-past [] at s h = refl
over-past (x ∷ l) zero s h = absurd (omega arith)
over-past (x ∷ l) (suc at) s h = ap (x ∷◌) (over-past l at s (omega arith))

pub over_none : (l : List ℕ) (at : ℕ) → over l at [] ≡ l
unfolding over
over_none [] at = refl
over_none (x ∷ l) zero = refl
over_none (x ∷ l) (suc at) = ap (x ∷◌) (over_none l at)

pub length_over : (l : List ℕ) (at : ℕ) (s : List ℕ) → length (over l at s) ≡ length l
unfolding over
length_over [] at s = refl
length_over (x ∷ l) zero [] = refl
length_over (x ∷ l) zero (b ∷ s) = ap suc (length_over l zero s)
length_over (x ∷ l) (suc at) s = ap suc (length_over l at s)

-- one byte more stored
pub over-set : (l : List ℕ) (at b : ℕ) (s : List ℕ) → at < length l → over l at (b ∷ s) ≡ over (set l at b) (at + 1) s
unfolding over
over-set [] at b s h = absurd (omega arith)
over-set (x ∷ l) zero b s h = refl
over-set (x ∷ l) (suc at) b s h = rw suc-add (ap (x ∷◌) (over-set l at b s (omega arith)))

-- bytes written over others, from the start and no fewer, leave nothing of them
pub over-again : (l s u : List ℕ) → length s ≤ length u → over (over l 0 s) 0 u ≡ over l 0 u
unfolding over
over-again [] s u h = refl
over-again (x ∷ l) [] u h = refl
over-again (x ∷ l) (b ∷ s) [] h = absurd (omega arith)
over-again (x ∷ l) (b ∷ s) (d ∷ u) h = ap (d ∷◌) (over-again l s u (omega arith))

-- a store into what was written, and a load from it
pub set-over : (l s : List ℕ) (d b : ℕ) → d < length s → set (over l 0 s) d b ≡ over l 0 (set s d b)
unfolding over
set-over [] s d b h = refl
set-over (x ∷ l) [] d b h = absurd (omega arith)
set-over (x ∷ l) (y ∷ s) zero b h = refl
set-over (x ∷ l) (y ∷ s) (suc d) b h = ap (y ∷◌) (set-over l s d b (omega arith))

pub get_d_over : (l s : List ℕ) (d : ℕ) → d < length l → d < length s → get_or (over l 0 s) d 0 ≡ get_or s d 0
unfolding over
get_d_over [] s d h k = absurd (omega arith)
get_d_over (x ∷ l) [] d h k = absurd (omega arith)
get_d_over (x ∷ l) (y ∷ s) zero h k = refl
get_d_over (x ∷ l) (y ∷ s) (suc d) h k = get_d_over l s d (omega arith) (omega arith)

pub put_then : {s u l l' l'' : List ℕ} {at r q : ℕ} → Put s l at l' r → Put u l' r l'' q → Put (s ++ u) l at l'' q
put_then {s} {u} {l} {at = at} p w =
    record {
      list = w.list ∙ rw (p.list, p.end) (over-over l at s u);
      end = w.end ∙ (let e = p.end in omega (arith, length-append s u));
    }
