-- A working list whose first entries are made nothing.
-- Assumes nothing.
use Prim.Native.Nat.{ℕ}
use mathlib.Core.Path.{◌≡◌, ap}
use mathlib.Core.List.{List, ◌++◌}
use lib.ListN.{drop, replicate}
use Rattle.definition.specs.Outcome.{cleared}
use Rattle.definition.proofs.Filled.{filled-with}

pub cleared_by : {A : Type 0} (nothing : A) (n : ℕ) (l x : List A) → x ≡ replicate n nothing → x ++ drop n l ≡ cleared nothing n l
cleared_by {A = A} nothing n l x e = ap (λ (y : List A). y ++ drop n l) (filled-with n nothing x e)
