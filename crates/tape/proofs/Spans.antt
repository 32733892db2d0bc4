-- Where a span that is not bad ends, and the first bad one.
-- Assumes nothing.
use mathlib.Core.Path.{◌≡◌, refl, sym, ap, ◌∙◌}
use mathlib.Core.Bool.{Bool, true, false, not, false≢true, ◌&&◌, ◌||◌}
use mathlib.Core.List.{List}
use Prim.Native.Nat.{ℕ, zero, suc, ◌+◌, ◌/◌, ◌<◌, ◌≤◌}
use native.Mathlib.Omega.{arith}
use lib.Dec.{leb, eqb, ltb}
use lib.ListN.{length, get_or}
use borrow.Author.Tests.{lt-ltb, le-ltb, eq-eqb, eqb-true, eqb-false, leb-true, not-true}
use Rattle.text.specs.Pick.{within, pick}
use Rattle.text.specs.Characters.{is_boundary}
use Rattle.text.proofs.Boundary.{at_zero, past_end, inside}
use Rattle.tape.specs.Nodes.{start_at, len_at}
use Rattle.tape.specs.Reading.{bad_span}

-- a span that is not bad ends at a good place
pub end-clear : (s t : List ℕ) (i : ℕ) → bad_span s t i ≡ false → is_boundary s (start_at t i + len_at t i) ≡ true
end-clear s t i e = go (ltb (length s) (start_at t i + len_at t i)) (is_boundary s (start_at t i)) (is_boundary s (start_at t i + len_at t i)) e
  where
    go : (x y z : Bool) → (x || (not y || not z)) ≡ false → z ≡ true
    go false true true e = refl
    go false true false e = absurd (false≢true (sym e))
    go false false z e = absurd (false≢true (sym e))
    go true y z e = absurd (false≢true (sym e))

pub clear-end : (s : List ℕ) (at : ℕ) → at ≡ length s → is_boundary s at ≡ true
clear-end s at e = past_end s at (omega arith) ∙ eq-eqb at (length s) e
