-- What a new array of open starts holds.
-- Assumes nothing.
use Prim.Native.Nat.{ℕ, zero, suc}
use mathlib.Core.Path.{◌≡◌, refl, ap, ◌∙◌}
use mathlib.Core.List.{List, ◌∷◌}
use lib.ListN.{replicate}
use Rattle.definition.specs.Outcome.{repeated}

replicate-is : {A : Type 0} (n : ℕ) (a : A) → replicate n a ≡ repeated a n
unfolding repeated
replicate-is zero a = refl
replicate-is (suc n) a = ap (a ∷◌) (replicate-is n a)

pub filled-with : {A : Type 0} (n : ℕ) (a : A) (xs : List A) → xs ≡ replicate n a → xs ≡ repeated a n
filled-with n a xs e = e ∙ replicate-is n a
