-- The first of several refusals, and the first bad node.
-- Assumes nothing.
use Prim.Native.Nat.{ℕ, zero, suc, ◌+◌, ◌-◌, ◌<◌, ◌≤◌}
use native.Mathlib.Numerals.{add-one}
use native.Mathlib.Decide.{ℕ_discrete}
use native.Mathlib.Omega.{arith}
use mathlib.Core.Path.{◌≡◌, refl, sym, ap, ◌∙◌}
use mathlib.Core.Bool.{Bool, true, false}
use mathlib.Core.Logic.{◌⊎◌, inl, inr}
use Rattle.std.specs.Prelude.{Option, Some, None}
use Rattle.refusals.specs.Refusal.{Refusal, refuse, only_if, or_else, first_bad, AllGood, First}

-- a refusal is none
pub refused : {A : Type 0} (r : Refusal) → Some r ≡ None → A
refused r e = let z : ◌≡◌ {A = ℕ} 0 1 = cc in absurd (omega arith)

-- a refusal that comes from the first part, or else from the rest
pub which : (x y : Option Refusal) (r : Refusal) → or_else x y ≡ Some r → (x ≡ Some r) ⊎ ((x ≡ None) × (y ≡ Some r))
which None y r e = inr (refl, e)
which (Some q) y r e = inl e

pub neither : (x y : Option Refusal) → or_else x y ≡ None → (x ≡ None) × (y ≡ None)
neither None y e = (refl, e)
neither (Some q) y e = refused q e

-- a refusal by one test
pub only : (b : Bool) (number place : ℕ) (r : Refusal) → only_if b (refuse number place) ≡ Some r → (b ≡ true) × (r.number ≡ number) × (r.place ≡ place)
only true number place r e = let z : record { number = number; place = place } ≡ r = cc in (refl, ap (λ (q : Refusal). q.number) (sym z), ap (λ (q : Refusal). q.place) (sym z))
only false number place r e = refused r (sym e)

pub only-not : (b : Bool) (number place : ℕ) → only_if b (refuse number place) ≡ None → b ≡ false
only-not true number place e = refused _ e
only-not false number place e = refl

-- the first bad node
module _ (number : ℕ) (bad : ℕ → Bool) where
  pub first_of : (n a : ℕ) (r : Refusal) → first_bad number bad a n ≡ Some r → (r.number ≡ number) × First bad a (a + n) r.place
  unfolding first_bad
  first_of zero a r e = refused r (sym e)
  first_of (suc n) a r e = go (bad a) refl (which (only_if (bad a) (refuse number a)) (first_bad number bad (suc a) n) r e) (first_of n (suc a) r)
    where
      go : (b : Bool) → bad a ≡ b → (only_if (bad a) (refuse number a) ≡ Some r) ⊎ ((only_if (bad a) (refuse number a) ≡ None) × (first_bad number bad (suc a) n ≡ Some r)) → (first_bad number bad (suc a) n ≡ Some r → (r.number ≡ number) × First bad (suc a) (suc a + n) r.place) → (r.number ≡ number) × First bad a (a + suc n) r.place
      go b q (inl h) later =
          let o = only (bad a) number a r h in
          let z = o.2 in
          (o.1, record { from = omega arith; below = omega arith; is = rw z o.0; earlier = λ i g l. absurd (omega arith) })
      go b q (inr h) later =
          let f = later h.1 in
          let here = only-not (bad a) number a h.0 in
          let w = f.1 in
          let l = w.from in
          let k = w.below in
          (f.0, record { from = omega arith; below = omega arith; is = w.is; earlier = earlier here w.earlier })
        where
          earlier : bad a ≡ false → AllGood bad (suc a) r.place → AllGood bad a r.place
          earlier here good i g l = choose (ℕ_discrete i a)
            where
              choose : Dec (i ≡ a) → bad i ≡ false
              choose (yes z) = rw z here
              choose (no z) = good i (omega arith) l

  pub none_of : (n a : ℕ) → first_bad number bad a n ≡ None → AllGood bad a (a + n)
  unfolding first_bad
  none_of zero a e i g l = absurd (omega arith)
  none_of (suc n) a e i g l =
      let h = neither (only_if (bad a) (refuse number a)) (first_bad number bad (suc a) n) e in
      choose (ℕ_discrete i a) (only-not (bad a) number a h.0) (none_of n (suc a) h.1)
    where
      choose : Dec (i ≡ a) → bad a ≡ false → AllGood bad (suc a) (suc a + n) → bad i ≡ false
      choose (yes z) here good = rw z here
      choose (no z) here good = good i (omega arith) (omega arith)

  pub all_none : (n a : ℕ) → AllGood bad a (a + n) → first_bad number bad a n ≡ None
  unfolding first_bad
  all_none zero a h = refl
  all_none (suc n) a h = rw (h a (omega arith) (omega arith)) (all_none n (suc a) (λ i g l. h i (omega arith) (omega arith)))

  pub first-is : (n a place : ℕ) → First bad a (a + n) place → first_bad number bad a n ≡ refuse number place
  unfolding first_bad
  first-is zero a place f = let g = f.from in let l = f.below in absurd (omega arith)
  first-is (suc n) a place f = choose (ℕ_discrete a place) (first-is n (suc a) place)
    where
      choose : Dec (a ≡ place) → (First bad (suc a) (suc a + n) place → first_bad number bad (suc a) n ≡ refuse number place) → or_else (only_if (bad a) (refuse number a)) (first_bad number bad (suc a) n) ≡ refuse number place
      choose (yes z) later = rw (z, f.is)
      choose (no z) later =
          let g = f.from in
          let l = f.below in
          rw (f.earlier a (omega arith) (omega arith)) (later (record { from = omega arith; below = omega arith; is = f.is; earlier = λ i h k. f.earlier i (omega arith) k }))

-- the first bad node, one node at a time
module _ (number : ℕ) (bad : ℕ → Bool) (n i : ℕ) where
  pub first_step : i < n → first_bad number bad i (n - i) ≡ or_else (only_if (bad i) (refuse number i)) (first_bad number bad (i + 1) (n - (i + 1)))
  unfolding first_bad
  first_step h =
      let e : n - i ≡ suc (n - (i + 1)) = omega arith in
      rw (e, add-one)

  pub first-pass : i < n → bad i ≡ false → first_bad number bad i (n - i) ≡ first_bad number bad (i + 1) (n - (i + 1))
  first-pass h e = first_step h ∙ rw e

  pub first-hit : i < n → bad i ≡ true → first_bad number bad i (n - i) ≡ refuse number i
  first-hit h e = first_step h ∙ rw e

  pub first-end : n ≤ i → first_bad number bad i (n - i) ≡ None
  unfolding first_bad
  first-end h = let e : n - i ≡ 0 = omega arith in rw e
