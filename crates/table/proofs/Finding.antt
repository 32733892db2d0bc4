-- The three ways to look a name up.
-- Assumes nothing.
use mathlib.Core.Path.{◌≡◌, sym, ap, ◌∙◌}
use mathlib.Core.Bool.{Bool, true, false}
use mathlib.Core.List.{List}
use Rattle.std.specs.Prelude.{Option, Some, None}
use Prim.Native.Nat.{ℕ, ◌<◌, ◌≤◌}
use native.Mathlib.Omega.{arith}
use lib.ListN.{length, take}
use lib.Seq.{length-take-le}
use borrow.Author.Tests.{lt-ltb, le-ltb, ltb-true}
use Rattle.table.specs.Names.{entry_named, stripped_length, glued_digit, looked_up}
use Rattle.table.specs.Inner.{stripped, unglued}
use Rattle.table.proofs.Suffix.{stripped-le}
use Rattle.text.proofs.Bool.{and_left}

module _ (t s b : List ℕ) (is : b ≡ take (stripped_length s) s) where
  long : length b ≡ stripped_length s
  long = ap length is ∙ length-take-le (stripped_length s) s (stripped-le s)

module _ (t s : List ℕ) (g : Bool) (is : g ≡ glued_digit s) where
  pub glue-found : g ≡ true → entry_named t (take 1 s) ≡ unglued t s
  glue-found e = rw (← is, e)

module _ (t s : List ℕ) where
  pub look-first : (n : ℕ) → Some n ≡ entry_named t s → Some n ≡ looked_up t s
  unfolding looked_up
  look-first n e = rw (← e)

  pub look-second : (n : ℕ) → None ≡ entry_named t s → Some n ≡ stripped t s → Some n ≡ looked_up t s
  unfolding looked_up
  look-second n e f = rw (← e, ← f)

  pub look-third : (o : Option ℕ) → None ≡ entry_named t s → None ≡ stripped t s → o ≡ unglued t s → o ≡ looked_up t s
  unfolding looked_up
  look-third o e f g = rw (← e, ← f, ← g)
