-- The root's link, and what is answered when all nodes are read.
-- Assumes nothing.
use mathlib.Core.Path.{◌≡◌, refl}
use mathlib.Core.Bool.{Bool, true, false, not, ◌&&◌, ◌||◌}
use mathlib.Core.List.{List}
use Rattle.std.specs.Prelude.{None, Ok}
use Prim.Native.Nat.{ℕ, zero, suc, ◌+◌, ◌-◌, ◌≤◌}
use native.Mathlib.Omega.{arith}
use lib.Dec.{eqb}
use borrow.Author.Tests.{eq-eqb, ne_eqb}
use Rattle.tape.specs.Nodes.{kind_at, link_at, is_close, marker_open_kind}
use Rattle.refusals.specs.Refusal.{Refusal, refuse, broken_links}
use Rattle.tape.specs.Reading.{opens_to}
use Rattle.tape.specs.Inner.{Depth, root_by, left_by, lastly}

module _ (t : List ℕ) (n root : ℕ) (taken : Bool) where
  abbrev good : Bool
  good = root_by root n (is_close (kind_at t root)) taken

  pub last-root : (x : Bool) (r : Depth) → x ≡ good → not x ≡ true → refuse broken_links 0 ≡ lastly t n root None taken r
  last-root x r e y = rw (← e, y)

  module _ (x : Bool) (e : x ≡ good) (y : not x ≡ false) where
    pub last-left : (r : Depth) → left_by n r ≡ lastly t n root None taken r
    last-left r = rw (← e, y)

    pub last-open : (depth : ℕ) → (depth ≡ 0 → ⊥) → refuse broken_links n ≡ lastly t n root None taken (Ok depth)
    last-open zero d = absurd (d refl)
    last-open (suc m) d = last-left (Ok (suc m))

    pub last-good : (depth : ℕ) → depth ≡ 0 → None ≡ lastly t n root None taken (Ok depth)
    last-good depth d = rw d (last-left (Ok 0))
