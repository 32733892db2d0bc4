-- The whole check: number 4, the root's kind, and the rest.
-- Assumes nothing.
use mathlib.Core.Path.{◌≡◌, refl, ap}
use mathlib.Core.Bool.{Bool, true, false, not, ◌||◌, or-true}
use mathlib.Core.List.{List}
use Prim.Native.Nat.{ℕ, suc, ◌-◌, ◌%◌, ◌<◌, ◌≤◌}
use native.Mathlib.Omega.{arith}
use lib.Dec.{eqb, ltb}
use lib.ListN.{length}
use borrow.Author.Tests.{eq-eqb, ne_eqb, lt-ltb, le-ltb}
use Rattle.tape.specs.Nodes.{count, kind_at, root_kind}
use Rattle.refusals.specs.Refusal.{refuse, only_if, or_else, first_bad, bad_tape_length, bad_node_kind}
use Rattle.tape.specs.Reading.{bad_length, bad_kind, tape_refusal}
use Rattle.tape.specs.Inner.{Sized, from_one}

module _ (t : List ℕ) where
  short : count t ≡ 0 → bad_length t ≡ true
  short e = go (eqb (length t) 0) (eqb (length t % 16) 0) refl refl
    where
      go : (a b : Bool) → eqb (length t) 0 ≡ a → eqb (length t % 16) 0 ≡ b → (a || (not b || ltb 65535 (count t))) ≡ true
      go true b p q = refl
      go false false p q = refl
      go false true p q =
          let z = borrow.Author.Tests.eqb-true (length t % 16) 0 q in
          absurd (borrow.Author.Tests.eqb-false (length t) 0 p (omega arith))

  ragged : (length t % 16 ≡ 0 → ⊥) → bad_length t ≡ true
  ragged e = rw (ne_eqb (length t % 16) 0 e) (or-true (eqb (length t) 0))

  long : 65535 < count t → bad_length t ≡ true
  long h = rw (lt-ltb 65535 (count t) h, or-true (not (eqb (length t % 16) 0))) (or-true (eqb (length t) 0))

  good : (count t ≡ 0 → ⊥) → length t % 16 ≡ 0 → count t ≤ 65535 → bad_length t ≡ false
  good a b h = rw (ne_eqb (length t) 0 (λ z. a (omega arith)), eq-eqb (length t % 16) 0 b, le-ltb 65535 (count t) h)

module _ (s t : List ℕ) where
  refused-4 : bad_length t ≡ true → refuse bad_tape_length 0 ≡ tape_refusal s t
  unfolding tape_refusal
  refused-4 e = rw e

  pub check-short : count t ≡ 0 → refuse bad_tape_length 0 ≡ tape_refusal s t
  check-short e = refused-4 (short t e)

  pub check-ragged : (length t % 16 ≡ 0 → ⊥) → refuse bad_tape_length 0 ≡ tape_refusal s t
  check-ragged e = refused-4 (ragged t e)

  pub check-long : 65535 < count t → refuse bad_tape_length 0 ≡ tape_refusal s t
  check-long h = refused-4 (long t h)

  module _ (a : count t ≡ 0 → ⊥) (b : length t % 16 ≡ 0) (h : count t ≤ 65535) where
    pub check-sized : Sized t (count t)
    check-sized = record { whole = omega arith; some = omega arith; few = h }

    zeroth : first_bad bad_node_kind (bad_kind t) 0 (count t) ≡ or_else (only_if (bad_kind t 0) (refuse bad_node_kind 0)) (first_bad bad_node_kind (bad_kind t) 1 (count t - 1))
    unfolding first_bad
    zeroth = let e : count t ≡ suc (count t - 1) = omega arith in ap (first_bad bad_node_kind (bad_kind t) 0) e

    pub check-root : (kind_at t 0 ≡ 0 → ⊥) → refuse bad_node_kind 0 ≡ tape_refusal s t
    unfolding tape_refusal
    check-root k = rw (good t a b h, zeroth, ne_eqb (kind_at t 0) root_kind k)

    pub check-rest : kind_at t 0 ≡ 0 → from_one s t (count t) ≡ tape_refusal s t
    unfolding tape_refusal
    check-rest k = rw (good t a b h, zeroth, eq-eqb (kind_at t 0) root_kind k)
