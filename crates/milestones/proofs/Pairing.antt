-- The open starts after a marker, by what it is.
-- Assumes nothing.
use Prim.Native.Nat.{ℕ, ◌+◌, ◌-◌, ◌<◌, ◌≤◌}
use native.Mathlib.Omega.{arith}
use mathlib.Core.Path.{◌≡◌, refl, sym, ap, ◌∙◌}
use mathlib.Core.List.{List}
use Rattle.std.specs.Prelude.{Some, None}
use lib.ListN.{length, get_or, set}
use Rattle.definition.specs.Outcome.{no_start}
use Rattle.definition.specs.declared.OpenStart.{OpenStart}
use Rattle.state.specs.Inner.{Opens}
use Rattle.std.specs.Prelude.{Option, Some, None}
use Rattle.milestones.specs.declared.MilestoneSide.{MilestoneSide}
use Rattle.milestones.specs.declared.MilestoneSide.TheVariants as code
use Rattle.milestones.specs.Inner.{Measured, Placed, base_at, step_means, nearest_in, removed, opens_by, paired_by}
use Rattle.milestones.proofs.Search.{entry, found_inside}

pub first_of : (at k : ℕ) → at < k → 1 ≤ k
first_of at k h = omega arith

-- the search: a turn at an entry, and the end
module _ (s t : List ℕ) (opens : List OpenStart) (k : ℕ) (o : Opens s t opens k) where
  pub inside : (j : ℕ) → 0 < j → j ≤ k → j - 1 < length opens
  inside j h l = let r = o.room in omega arith

  pub entry-fits : (j : ℕ) → 0 < j → j ≤ k → Measured s t (get_or opens (j - 1) no_start).node (get_or opens (j - 1) no_start).base_len
  entry-fits j h l = entry s t opens k (j - 1) o (omega arith)

-- the entries moved down: numbers of a turn
pub moves-first : (at k : ℕ) → at < k → at ≤ k - 1
moves-first at k h = omega arith

pub moves-room : (at k n : ℕ) → at < k → k ≤ n → k - 1 + 1 ≤ n
moves-room at k n h l = omega arith

pub next-inside : (i k n : ℕ) → i < k - 1 → k ≤ n → i + 1 < n
next-inside i k n h l = omega arith

pub here-inside : (i k n : ℕ) → i < k - 1 → k ≤ n → i < n
here-inside i k n h l = omega arith

-- by what the marker is
module _ (s t : List ℕ) (opens : List OpenStart) (k : ℕ) (x : Option MilestoneSide) where
  abbrev After : List OpenStart → Option ℕ → Type 0
  After ys p = (ys ≡ opens_by s t opens k (step_means s x)) × (p ≡ paired_by s t opens k (step_means s x))

  pub pair-neither : x ≡ None → After opens (Some k)
  pair-neither e = rw e (refl, refl)

  pub pair-start : (o : OpenStart) (ys : List OpenStart) → x ≡ Some (code.Start o) → ys ≡ set opens k o → After ys (Some (k + 1))
  pair-start o ys e w = rw e (w, refl)

  module _ (at len : ℕ) (e : x ≡ Some (code.End at len)) where
    pub placed : Placed s x → at + len ≤ length s
    placed h = rw e at h

    module _ (f : Option ℕ) (f-is : f ≡ nearest_in s t opens k (base_at s at len)) where
      pub pair_end : (j : ℕ) (ys zs : List OpenStart) → zs ≡ opens → f ≡ Some j → ys ≡ removed zs k j → After ys (Some (k - 1))
      pair_end j ys zs z at_j w =
          let n : nearest_in s t opens k (base_at s at len) ≡ Some j = sym f-is ∙ at_j in
          rw (e, n) (w ∙ ap (λ (l : List OpenStart). removed l k j) z, refl)

      pub pair-alone : (zs : List OpenStart) → zs ≡ opens → f ≡ None → After zs None
      pair-alone zs z nothing =
          let n : nearest_in s t opens k (base_at s at len) ≡ None = sym f-is ∙ nothing in
          rw (e, n) (z, refl)

      pub end-inside : (j : ℕ) → f ≡ Some j → j < k
      end-inside j at_j = found_inside s t opens (base_at s at len) k j (sym f-is ∙ at_j)

pub known-room : (s t : List ℕ) (opens zs : List OpenStart) (k : ℕ) → Opens s t opens k → length zs ≡ length opens → k ≤ length zs
known-room s t opens zs k o e = let r = o.room in omega arith
