-- The nodes around a node, by the tests that the code takes, and what they are in a run of siblings.
-- Assumes nothing.
use mathlib.Core.Path.{◌≡◌, refl, sym, ap, ◌∙◌}
use mathlib.Core.Bool.{Bool, true, false, not, false≢true, ◌&&◌, ◌||◌}
use mathlib.Core.List.{List}
use mathlib.Core.Logic.{◌⊎◌, inl, inr}
use Rattle.std.specs.Prelude.{Some, None}
use Prim.Native.Nat.{ℕ, ◌+◌, ◌<◌, ◌≤◌}
use native.Mathlib.Decide.{dec_lt}
use native.Mathlib.Omega.{arith}
use lib.Dec.{eqb, ltb}
use lib.ListN.{length}
use borrow.Author.Tests.{eq-eqb, ne_eqb, lt-ltb, le-ltb, ltb-false, eqb-true, not-true, not-false}
use Rattle.text.specs.Pick.{pick}
use Rattle.tape.specs.Nodes.{count, kind_at, start_at, len_at, link_at, is_close, root_kind, marker_open_kind}
use Rattle.tape.specs.Forest.{Nested, done, one, inner, next_at, Accepted}
use Rattle.tape.proofs.Nest.{nested-le}
use Rattle.cursor.specs.Inner.{Spanned}
use Rattle.cursor.specs.Steps.{holds_nodes, first_child, past_node, next_sibling, number_at}

module _ (t : List ℕ) (i k : ℕ) (x : Bool) (is-kind : k ≡ kind_at t i) (holds : x ≡ holds_nodes k) where
  -- the test as it stands in the definitions
  holds_as : (v : Bool) → x ≡ v → holds_nodes (kind_at t i) ≡ v
  holds_as v e = ap holds_nodes (sym is-kind) ∙ sym holds ∙ e

  pub child-none : not x ≡ true → None ≡ first_child t i
  unfolding first_child
  child-none y = rw (holds_as false (not-true x y))

  pub child-there : (l : ℕ) → not x ≡ false → l ≡ link_at t i → i + 1 < l → Some (i + 1) ≡ first_child t i
  unfolding first_child
  child-there l y e h = rw (holds_as true (not-false x y), ← e, lt-ltb (i + 1) l h)

  pub child-empty : (l : ℕ) → not x ≡ false → l ≡ link_at t i → l ≤ i + 1 → None ≡ first_child t i
  unfolding first_child
  child-empty l y e h = rw (holds_as true (not-false x y), ← e, le-ltb (i + 1) l h)

  pub past-inner : (l : ℕ) → x ≡ true → l ≡ link_at t i → l + 1 ≡ past_node t i
  past-inner l y e = rw (holds_as true y, e)

  pub past-leaf : x ≡ false → i + 1 ≡ past_node t i
  past-leaf y = rw (holds_as false y)

module _ (t : List ℕ) (i p : ℕ) (is-past : p ≡ past_node t i) where
  pub next-off : count t ≤ p → None ≡ next_sibling t i
  unfolding next_sibling
  next-off h = rw (← is-past, le-ltb p (count t) h)

  pub next-by : (k : ℕ) (x : Bool) → p < count t → k ≡ kind_at t p → x ≡ is_close k → pick (not x) (Some p) None ≡ next_sibling t i
  unfolding next_sibling
  next-by k x h e f = rw (← is-past, lt-ltb p (count t) h, ← e, ← f)

module _ (t : List ℕ) (i k : ℕ) (is-kind : k ≡ kind_at t i) where
  pub number-chapter : (l : ℕ) → k ≡ 3 → l ≡ link_at t i → Some l ≡ number_at t i
  unfolding number_at
  number-chapter l e z = rw (← is-kind, eq-eqb k 3 e, ← z)

  pub number-verse : (l : ℕ) → (k ≡ 3 → ⊥) → k ≡ 4 → l ≡ link_at t i → Some l ≡ number_at t i
  unfolding number_at
  number-verse l n e z = rw (← is-kind, ne_eqb k 3 n, eq-eqb k 4 e, ← z)

  pub number-none : (k ≡ 3 → ⊥) → (k ≡ 4 → ⊥) → None ≡ number_at t i
  unfolding number_at
  number-none n m = rw (← is-kind, ne_eqb k 3 n, ne_eqb k 4 m)

-- in a run of siblings that ends at a close or at the tape's end, the next sibling is the next node of the run, and after its last there is none
module _ (t : List ℕ) where
  pub past_next : (a : ℕ) → (kind_at t a ≡ root_kind → ⊥) → past_node t a ≡ next_at t a
  past_next a h = rw (ne_eqb (kind_at t a) root_kind h) (go (eqb (kind_at t a) marker_open_kind))
    where
      go : (b : Bool) → pick b (link_at t a + 1) (a + 1) ≡ pick b (link_at t a + 1) (a + 1)
      go true = refl
      go false = refl

  -- what ends a run: the tape's end, or a close
  abbrev Border : ℕ → Type 0
  Border b = (b ≡ count t) ⊎ ((b < count t) × (is_close (kind_at t b) ≡ true))

  -- a node of a run is no close
  no-close : {d a b : ℕ} → Nested t d a b → a < b → is_close (kind_at t a) ≡ false
  no-close (done e) l = absurd (omega arith)
  no-close (one h z r) l = z
  no-close {d} {a} (inner h z c r) l = let k = eqb-true (kind_at t a) marker_open_kind h in rw k

  pub next-nested : {d a b : ℕ} → Nested t d a b → a < b → Nested t d (next_at t a) b
  next-nested (done e) l = absurd (omega arith)
  next-nested (one h z r) l = rw h r
  next-nested (inner h z c r) l = rw h r

  pub next-in : {d a b : ℕ} → Nested t d a b → a < b → (kind_at t a ≡ root_kind → ⊥) → Border b → next_sibling t a ≡ pick (ltb (next_at t a) b) (Some (next_at t a)) None
  unfolding next_sibling
  next-in {d} {a} {b} n l k border =
      let p = past_next a k in
      let r = next-nested n l in
      let h = nested-le r in
      rw p (go (dec_lt (next_at t a) b) border r h)
    where
      inside : Border b → b ≤ count t
      inside (inl e) = omega arith
      inside (inr e) = omega (arith, e.0)

      go : Dec (next_at t a < b) → Border b → Nested t d (next_at t a) b → next_at t a ≤ b → pick (ltb (next_at t a) (count t) && not (is_close (kind_at t (next_at t a)))) (Some (next_at t a)) None ≡ pick (ltb (next_at t a) b) (Some (next_at t a)) None
      go (yes q) w r h = rw (lt-ltb (next_at t a) b q, lt-ltb (next_at t a) (count t) (omega (arith, inside w)), no-close r q)
      go (no q) (inl e) r h = rw (le-ltb (next_at t a) b (omega arith), le-ltb (next_at t a) (count t) (omega arith))
      go (no q) (inr e) r h =
          let z : next_at t a ≡ b = omega arith in
          rw (z, e.1, lt-ltb b (count t) e.0, le-ltb b b (omega arith))

-- every node but the root of an accepted tape has its text in the source
pub spanned : (s t : List ℕ) (i : ℕ) → Accepted s t → 1 ≤ i → i < count t → Spanned s t i
spanned s t i h g l = record { inside = l; fits = ltb-false (length s) (start_at t i + len_at t i) (left _ _ (h.spans i g l)) }
  where
    left : (a b : Bool) → (a || b) ≡ false → a ≡ false
    left true b e = absurd (false≢true (sym e))
    left false b e = refl
