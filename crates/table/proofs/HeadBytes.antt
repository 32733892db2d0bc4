-- The first eight bytes of a text.
-- Assumes nothing.
use mathlib.Core.Path.{◌≡◌, refl, sym, ◌∙◌}
use mathlib.Core.Bool.{Bool, true, false, ◌&&◌}
use mathlib.Core.List.{List, [], ◌∷◌}
use Prim.Native.Nat.{ℕ, zero, suc, ◌<◌, ◌≤◌}
use native.Mathlib.Omega.{arith}
use lib.Dec.{eqb, ltb}
use lib.ListN.{length}
use lib.Seq.{take-length}
use borrow.Author.Tests.{eq-eqb, ne_eqb, ltb-true, ltb-false, eqb-true}
use Rattle.text.specs.Pick.{pick}
use Rattle.text.specs.Inner.{eight_bytes}
use Rattle.table.specs.Inner.{head_of}
use Rattle.text.proofs.Blocks.{starts-short, same-eight, Small}
use Rattle.text.proofs.Bool.{and_left, and_right}
use Rattle.text.specs.Bytes.{all, starting}

-- eight bytes that a number other than 0 stands for
abbrev pub eight : List ℕ → Bool
eight h = eqb (length h) 8 && (all (λ (b : ℕ). ltb b 256) h && ltb 0 (eight_bytes h 0))

small : (h : List ℕ) → all (λ (b : ℕ). ltb b 256) h ≡ true → Small h
unfolding all
small [] e k = omega arith
small (x ∷ h) e zero = omega (arith, ltb-true x 256 (and_left (ltb x 256) (all (λ (b : ℕ). ltb b 256) h) e))
small (x ∷ h) e (suc k) = small h (and_right (ltb x 256) (all (λ (b : ℕ). ltb b 256) h) e) k

-- what the number of a text's first eight bytes tells
pub record HeadIs (s : List ℕ) (r : ℕ) : Type 0 where
  pub begins : (h : List ℕ) → eight h ≡ true → r ≡ eight_bytes h 0 → starting h s ≡ true
  pub differs : (h : List ℕ) → eight h ≡ true → (r ≡ eight_bytes h 0 → ⊥) → starting h s ≡ false
  pub long : 0 < r → 8 ≤ length s

module _ (s : List ℕ) (r : ℕ) (p : Small s) (is : r ≡ head_of s) where
  tested : (h : List ℕ) → eight h ≡ true → eqb (eight_bytes h 0) r ≡ starting h s
  tested h e = rw is (go (ltb (length s) 8) refl)
    where
      long : length h ≡ 8
      long = eqb-true (length h) 8 (and_left _ _ e)

      rest : (all (λ (b : ℕ). ltb b 256) h && ltb 0 (eight_bytes h 0)) ≡ true
      rest = and_right (eqb (length h) 8) _ e

      go : (t : Bool) → ltb (length s) 8 ≡ t → eqb (eight_bytes h 0) (pick t 0 (eight_bytes s 0)) ≡ starting h s
      go true f =
          let some : 0 < eight_bytes h 0 = ltb-true 0 (eight_bytes h 0) (and_right (all (λ (b : ℕ). ltb b 256) h) _ rest) in
          ne_eqb (eight_bytes h 0) 0 (omega arith) ∙ starts-short h s (omega (arith, long, ltb-true (length s) 8 f))
      go false f =
          let l : 8 ≤ length s = ltb-false (length s) 8 f in
          same-eight h s (small h (and_left _ (ltb 0 (eight_bytes h 0)) rest)) p 0 0 (omega (arith, long)) (omega arith) ∙ rw (← long, take-length h)

  pub head-is : HeadIs s r
  head-is =
      record {
        begins = λ h e f. sym (tested h e) ∙ eq-eqb (eight_bytes h 0) r (sym f);
        differs = λ h e f. sym (tested h e) ∙ ne_eqb (eight_bytes h 0) r (λ z. f (sym z));
        long = λ some. go (ltb (length s) 8) refl is some;
      }
    where
      go : (t : Bool) → ltb (length s) 8 ≡ t → r ≡ pick t 0 (eight_bytes s 0) → 0 < r → 8 ≤ length s
      go true f g h = absurd (omega arith)
      go false f g h = ltb-false (length s) 8 f
