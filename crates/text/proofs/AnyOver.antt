-- Whether one of three numbers is over the most allowed.
-- Assumes nothing.
use Prim.Native.Nat.{ℕ, ◌<◌, ◌≤◌}
use mathlib.Core.Path.{◌≡◌, refl}
use mathlib.Core.Bool.{Bool, true, false, ◌||◌}
use mathlib.Core.Logic.{◌⊎◌, inl, inr}
use lib.Dec.{ltb}
use borrow.Author.Tests.{lt-ltb, le-ltb, ltb-true, ltb-false}
use Rattle.text.specs.Pick.{any_over}
use Rattle.text.proofs.Bool.{or_parts}

module _ (most a b c : ℕ) where
  pub any-first : most < a → true ≡ any_over most a b c
  any-first h = rw (lt-ltb most a h)

  pub any-second : a ≤ most → most < b → true ≡ any_over most a b c
  any-second h g = rw (le-ltb most a h, lt-ltb most b g)

  pub any-third : a ≤ most → b ≤ most → ltb most c ≡ any_over most a b c
  any-third h g = rw (le-ltb most a h, le-ltb most b g)

  pub any-parts : any_over most a b c ≡ false → (a ≤ most) × ((b ≤ most) × (c ≤ most))
  any-parts h =
      let p = or_parts (ltb most a) (ltb most b || ltb most c) h in
      let q = or_parts (ltb most b) (ltb most c) p.1 in
      (ltb-false most a p.0, (ltb-false most b q.0, ltb-false most c q.1))

  pub any_of : any_over most a b c ≡ true → (most < a) ⊎ ((most < b) ⊎ (most < c))
  any_of = first (ltb most a) refl
    where
      second : (d : Bool) → ltb most b ≡ d → (d || ltb most c) ≡ true → (most < a) ⊎ ((most < b) ⊎ (most < c))
      second true e h = inr (inl (ltb-true most b e))
      second false e h = inr (inr (ltb-true most c h))

      first : (d : Bool) → ltb most a ≡ d → (d || (ltb most b || ltb most c)) ≡ true → (most < a) ⊎ ((most < b) ⊎ (most < c))
      first true e h = inl (ltb-true most a e)
      first false e h = second (ltb most b) refl h
