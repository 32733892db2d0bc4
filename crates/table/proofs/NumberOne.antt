-- Number 1's place: "first byte of the first bad line, or the text's length if a triple is unfinished".
-- Assumes nothing.
use mathlib.Core.Path.{◌≡◌, refl, ap, ◌∙◌}
use mathlib.Core.Bool.{Bool, true, false}
use mathlib.Core.List.{List, [], ◌∷◌, ◌++◌}
use mathlib.Core.Logic.{◌⊎◌, inl, inr, ⊎_elim}
use Rattle.std.specs.Prelude.{Some, None}
use Prim.Native.Nat.{ℕ, suc, ◌+◌, ◌%◌}
use native.Mathlib.Nat.{zero-add, add-zero}
use native.Mathlib.Omega.{arith}
use lib.Dec.{eqb}
use lib.ListN.{length}
use borrow.Author.Tests.{eqb-false, ne_eqb}
use Rattle.table.specs.Lines.{Line, lines, good_line, bad_from, bad_table}
use Rattle.table.specs.Conditions.{good_from, NumberOne}
use Rattle.text.specs.Pick.{pick}
use Rattle.text.proofs.Bool.{and_left, and_right}

-- the same of the lines from number k on
record Bad (k : ℕ) (ls : List Line) (p : ℕ) : Type 0 where
  before : List Line
  line : Line
  after : List Line
  all : ls ≡ before ++ (line ∷ after)
  good : good_from k before ≡ true
  bad : good_line (k + length before) line ≡ false
  place : line.at ≡ p

record Open (end k : ℕ) (ls : List Line) (p : ℕ) : Type 0 where
  good : good_from k ls ≡ true
  unfinished : (k + length ls) % 3 ≡ 0 → ⊥
  place : end ≡ p

one_further : (k n : ℕ) → suc k + n ≡ k + suc n
one_further k n = omega arith

tells : (end k : ℕ) (ls : List Line) (p : ℕ) → bad_from end k ls ≡ Some p → Bad k ls p ⊎ Open end k ls p
unfolding bad_from good_from
tells end k [] p e = go (eqb (k % 3) 0) refl e
  where
    go : (t : Bool) → eqb (k % 3) 0 ≡ t → pick t None (Some end) ≡ Some p → Bad k [] p ⊎ Open end k [] p
    go true f e = let z : ◌≡◌ {A = ℕ} 0 1 = cc in absurd (omega arith)
    go false f e = let z : end ≡ p = cc in inr (record { good = refl; unfinished = λ y. eqb-false (k % 3) 0 f (rw (add-zero k) at y); place = z })
tells end k (l ∷ ls) p e = go (good_line k l) refl e (tells end (suc k) ls p)
  where
    go : (t : Bool) → good_line k l ≡ t → pick t (bad_from end (suc k) ls) (Some l.at) ≡ Some p → (bad_from end (suc k) ls ≡ Some p → Bad (suc k) ls p ⊎ Open end (suc k) ls p) → Bad k (l ∷ ls) p ⊎ Open end k (l ∷ ls) p
    go true f e ih =
        ⊎_elim
        (λ r. inl (record {
          before = l ∷ r.before;
          line = r.line;
          after = r.after;
          all = ap (l ∷◌) r.all;
          good = rw f r.good;
          bad = rw (one_further k (length r.before)) at r.bad;
          place = r.place;
        }))
        (λ r. inr (record { good = rw f r.good; unfinished = λ y. r.unfinished (rw (one_further k (length ls)) y); place = r.place }))
        (ih e)
    go false f e ih =
        let z : l.at ≡ p = cc in
        inl (record { before = []; line = l; after = ls; all = refl; good = refl; bad = rw (add-zero k) f; place = z })

bad-there : (end k : ℕ) (before : List Line) (line : Line) (after : List Line) → good_from k before ≡ true → good_line (k + length before) line ≡ false → bad_from end k (before ++ (line ∷ after)) ≡ Some line.at
unfolding bad_from good_from
bad-there end k [] line after g b = let f : good_line k line ≡ false = rw (add-zero k) at b in rw f
bad-there end k (l ∷ ls) line after g b =
    let f : good_line k l ≡ true = and_left (good_line k l) (good_from (suc k) ls) g in
    rw f (bad-there end (suc k) ls line after (and_right (good_line k l) (good_from (suc k) ls) g) (rw (one_further k (length ls)) b))

open-there : (end k : ℕ) (ls : List Line) → good_from k ls ≡ true → ((k + length ls) % 3 ≡ 0 → ⊥) → bad_from end k ls ≡ Some end
unfolding bad_from good_from
open-there end k [] g o = rw (ne_eqb (k % 3) 0 (λ y. o (rw (add-zero k) y)))
open-there end k (l ∷ ls) g o =
    let f : good_line k l ≡ true = and_left (good_line k l) (good_from (suc k) ls) g in
    rw f (open-there end (suc k) ls (and_right (good_line k l) (good_from (suc k) ls) g) (λ y. o (rw (← one_further k (length ls)) y)))

module _ (t : List ℕ) (p : ℕ) where
  -- `bad_table` gives a place exactly if it is number 1's
  pub one-number-1 : bad_table t ≡ Some p → NumberOne t p
  unfolding bad_table
  one-number-1 e =
      ⊎_elim
      (λ r. inl (record { before = r.before; line = r.line; after = r.after; all = r.all; good = r.good; bad = rw (zero-add (length r.before)) at r.bad; place = r.place }))
      (λ r. inr (record { good = r.good; unfinished = λ y. r.unfinished (rw (zero-add (length (lines 0 t))) y); place = r.place }))
      (tells (length t) 0 (lines 0 t) p e)

  pub number-1-one : NumberOne t p → bad_table t ≡ Some p
  unfolding bad_table
  number-1-one (inl r) = rw r.all (bad-there (length t) 0 r.before r.line r.after r.good (rw (zero-add (length r.before)) r.bad) ∙ ap Some r.place)
  number-1-one (inr r) = open-there (length t) 0 (lines 0 t) r.good (λ y. r.unfinished (rw (zero-add (length (lines 0 t))) at y)) ∙ ap Some r.place
