-- Number 9 is given exactly under its own condition, over a tape of at least one node.
-- Assumes nothing.
use Prim.Native.Nat.{ℕ, ◌+◌, ◌-◌, ◌≤◌}
use native.Mathlib.Omega.{arith}
use mathlib.Core.Path.{◌≡◌, sym, subst}
use mathlib.Core.List.{List}
use mathlib.Core.Logic.{◌↔◌}
use Rattle.std.specs.Prelude.{Some, None}
use Rattle.tape.specs.Nodes.{count}
use Rattle.refusals.specs.Refusal.{Refusal, refuse, AllGood, First, split_label}
use Rattle.refusals.proofs.First.{first_of, none_of, all_none, first-is}
use Rattle.numbers.specs.Label.{bad_label, label_refusal}

module _ (table s t : List ℕ) (some-node : 1 ≤ count t) where
  all : 1 + (count t - 1) ≡ count t
  all = omega arith

  pub one-number-9 : (place : ℕ) → (label_refusal table s t ≡ refuse split_label place) ↔ First (bad_label table s t) 1 (count t) place
  unfolding label_refusal
  one-number-9 place = (
    λ e. subst (λ (n : ℕ). First (bad_label table s t) 1 n place) all (first_of split_label (bad_label table s t) (count t - 1) 1 (record { number = split_label; place = place }) e).1,
    λ f. first-is split_label (bad_label table s t) (count t - 1) 1 place (subst (λ (n : ℕ). First (bad_label table s t) 1 n place) (sym all) f),
  )

  -- and no other number is
  pub number-9-one : (r : Refusal) → label_refusal table s t ≡ Some r → r.number ≡ 9
  unfolding label_refusal
  number-9-one r e = (first_of split_label (bad_label table s t) (count t - 1) 1 r e).0

  pub number-9-none : (label_refusal table s t ≡ None) ↔ AllGood (bad_label table s t) 1 (count t)
  unfolding label_refusal
  number-9-none = (
    λ e. subst (λ (n : ℕ). AllGood (bad_label table s t) 1 n) all (none_of split_label (bad_label table s t) (count t - 1) 1 e),
    λ h. all_none split_label (bad_label table s t) (count t - 1) 1 (subst (λ (n : ℕ). AllGood (bad_label table s t) 1 n) (sym all) h),
  )
