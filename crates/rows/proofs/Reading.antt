-- Laws about the columns of a cell.
-- Assumes nothing.
use Prim.Native.Nat.{ℕ, ◌+◌, ◌-◌, ◌<◌, ◌≤◌}
use mathlib.Core.Path.{◌≡◌, refl, sym, ap, ap₂, ◌∙◌}
use mathlib.Core.Bool.{Bool, true, false, not, false≢true, ◌||◌}
use mathlib.Core.List.{List, [], ◌∷◌}
use Rattle.std.specs.Prelude.{Option, Some, None}
use native.Mathlib.Omega.{arith}
use borrow.Author.Tests.{lt-ltb, le-ltb, not-true, not-false}
use lib.ListN.{length, take, drop}
use Rattle.text.specs.Pick.{pick}
use Rattle.text.specs.Number.{parsed}
use Rattle.text.proofs.Cuts.{rest_all}
use Rattle.text.proofs.Blocks.{starts-long}
use Rattle.rows.specs.Cells.{ColumnRange, is_cell, is_aligned, after_letters, pair, hyphen, columns_in, cell_columns}
use Rattle.text.specs.Literal.{ascii}
use Rattle.text.specs.Bytes.{starting}

pub short-plain : (s : List ℕ) → length s ≤ 2 → false ≡ is_aligned s
short-plain [] h = refl
short-plain (a ∷ []) h = refl
short-plain (a ∷ b ∷ []) h = refl
short-plain (a ∷ b ∷ c ∷ s) h = absurd (omega arith)

pub aligned-long : (s : List ℕ) → is_aligned s ≡ true → 3 ≤ length s
aligned-long [] h = absurd (false≢true h)
aligned-long (a ∷ []) h = absurd (false≢true h)
aligned-long (a ∷ b ∷ []) h = absurd (false≢true h)
aligned-long (a ∷ b ∷ c ∷ s) h = omega arith

pub letters-cut : (s : List ℕ) (x v : Bool) → x ≡ is_aligned s → x ≡ v → take (length s - pick v 3 2) (drop (pick v 3 2) s) ≡ after_letters s
letters-cut s x v e h = rest_all s (pick v 3 2) ∙ ap (λ (w : Bool). drop (pick w 3 2) s) (sym h ∙ e)

-- a cell's name has two letters at least
pub cell-long : (s : List ℕ) → is_cell s ≡ true → 2 ≤ length s
unfolding ascii
cell-long s h = go (starting (0x74 ∷ 0x68 ∷ []) s) refl h
  where
    go : (v : Bool) → starting (0x74 ∷ 0x68 ∷ []) s ≡ v → (v || starting (0x74 ∷ 0x63 ∷ []) s) ≡ true → 2 ≤ length s
    go true e g = omega (arith, starts-long (0x74 ∷ 0x68 ∷ []) s e)
    go false e g = omega (arith, starts-long (0x74 ∷ 0x63 ∷ []) s g)

pub both-numbers : (a b : Option ℕ) (m n : ℕ) → a ≡ Some m → b ≡ Some n → Some (record { start = m; end = n }) ≡ pair a b
both-numbers a b m n p q = rw p (rw q refl)

module _ (s : List ℕ) (at : ℕ) (is : at ≡ hyphen s) where
  pub two-columns : (a b : Option ℕ) (x : Option ColumnRange) → at < length s → a ≡ parsed (take at s) → b ≡ parsed (take (length s - (at + 1)) (drop (at + 1) s)) → x ≡ pair a b → x ≡ columns_in s
  unfolding columns_in
  two-columns a b x l p q h = rw (← is) (rw (lt-ltb at (length s) l) (h ∙ ap₂ pair p (q ∙ ap parsed (rest_all s (at + 1)))))

  pub one-column : (a b : Option ℕ) (x : Option ColumnRange) → length s ≤ at → a ≡ parsed s → b ≡ parsed s → x ≡ pair a b → x ≡ columns_in s
  unfolding columns_in
  one-column a b x l p q h = rw (← is) (rw (le-ltb at (length s) l) (h ∙ ap₂ pair p q))

module _ (s : List ℕ) (x : Bool) (is : x ≡ is_cell s) where
  pub no_cell : not x ≡ true → None ≡ cell_columns s
  unfolding cell_columns
  no_cell h = let n : is_cell s ≡ false = sym is ∙ not-true x h in rw n

  pub is-cell : not x ≡ false → is_cell s ≡ true
  is-cell h = sym is ∙ not-false x h

  pub cell-by : (t : List ℕ) (y : Option ColumnRange) → not x ≡ false → t ≡ after_letters s → y ≡ columns_in t → y ≡ cell_columns s
  unfolding cell_columns
  cell-by t y h e g = rw (is-cell h) (g ∙ ap columns_in e)
