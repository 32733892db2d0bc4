-- A run of siblings, a node at a time.
-- Assumes nothing.
use mathlib.Core.Path.{◌≡◌, refl, sym, ◌∙◌}
use mathlib.Core.Bool.{Bool, true, false, false≢true}
use mathlib.Core.List.{List}
use Prim.Native.Nat.{ℕ, zero, suc, ◌+◌, ◌-◌, ◌<◌, ◌≤◌}
use mathlib.Core.Logic.{◌⊎◌, inl, inr}
use native.Mathlib.Decide.{ℕ_discrete}
use native.Mathlib.Omega.{arith}
use Rattle.tape.specs.Nodes.{count, node_at, kind_at, link_at, is_open, is_close, root_kind}
use Rattle.tape.specs.Forest.{end, leaf, node, forest, Nested, done, one, inner, Accepted, next_at}
use Rattle.tape.proofs.OneNumber.{rooted}
use Rattle.tape.proofs.Nest.{close-no-open, nested-inside, nested-le, nested-open, nested-leaf, forest-done, forest-leaf, forest-node}
use Rattle.cursor.specs.Inner.{Spanned, Run}
use Rattle.cursor.specs.Steps.{past_node}
use Rattle.cursor.proofs.Around.{past_next, next-nested, spanned}

-- no node of an accepted tape but node 0 is of kind 0
kind-some : (s t : List ℕ) (i : ℕ) → Accepted s t → 1 ≤ i → i < count t → kind_at t i ≡ root_kind → ⊥
kind-some s t zero h g l e = absurd (omega arith)
kind-some s t (suc i) h g l e = false≢true (sym (h.kinds (suc i) l) ∙ rw e)

module _ (s t : List ℕ) (a b : ℕ) (run : Run s t a b) (more : a < b) where
  below : a < count t
  below = let i = run.inside in omega arith

  no-root : kind_at t a ≡ root_kind → ⊥
  no-root = kind-some s t a run.accepted run.from below

  pub run-spanned : Spanned s t a
  run-spanned = spanned s t a run.accepted run.from below

  pub run-below : a < count t
  run-below = below

  pub past_is : past_node t a ≡ next_at t a
  past_is = past_next t a no-root

  past-nested : Nested t run.depth (past_node t a) b
  past-nested = rw past_is (next-nested t run.nested more)

  -- past a leaf, and past an open node
  pub past-leaf : is_open (kind_at t a) ≡ false → past_node t a ≡ a + 1
  past-leaf h = past_is ∙ rw h

  pub past_open : is_open (kind_at t a) ≡ true → past_node t a ≡ link_at t a + 1
  past_open h = past_is ∙ rw h

  pub open-later : is_open (kind_at t a) ≡ true → (a < link_at t a) × (link_at t a < b)
  open-later h =
      let i = nested-open run.nested more h in
      let l = nested-le i.children in
      let m = nested-le i.after in
      (omega arith, omega arith)

  pub past-later : a < past_node t a
  past-later = go (is_open (kind_at t a)) refl
    where
      go : (v : Bool) → is_open (kind_at t a) ≡ v → a < past_node t a
      go true e = let p = past_open e in let l = open-later e in omega arith
      go false e = let p = past-leaf e in omega arith

  pub past-inside : past_node t a ≤ b
  past-inside = nested-le past-nested

  pub run-next : Run s t (past_node t a) b
  run-next = record { accepted = run.accepted; depth = run.depth; nested = past-nested; from = (let l = past-later in let f = run.from in omega arith); inside = run.inside }

  -- the run of the children of an open node
  pub run-children : is_open (kind_at t a) ≡ true → Run s t (a + 1) (link_at t a)
  run-children h =
      let i = nested-open run.nested more h in
      let l = open-later h in
      let f = run.from in
      let n = run.inside in
      record { accepted = run.accepted; depth = run.depth - 1; nested = i.children; from = omega arith; inside = omega (arith, l.1) }

  pub forest-at-leaf : is_open (kind_at t a) ≡ false → forest s t a b ≡ leaf (node_at s t a) (forest s t (past_node t a) b)
  forest-at-leaf h =
      let i = nested-leaf run.nested more h in
      rw (past-leaf h) (forest-leaf s t i.open_no i.close-no i.after)

  pub forest-at-open : is_open (kind_at t a) ≡ true → forest s t a b ≡ node (node_at s t a) (forest s t (a + 1) (link_at t a)) (forest s t (past_node t a) b)
  forest-at-open h =
      rw (past_open h) (inside run.nested more h)
    where
      inside : {d : ℕ} → Nested t d a b → a < b → is_open (kind_at t a) ≡ true → forest s t a b ≡ node (node_at s t a) (forest s t (a + 1) (link_at t a)) (forest s t (link_at t a + 1) b)
      inside (done e) l h = absurd (omega arith)
      inside (one k z r) l h = absurd (false≢true (sym k ∙ h))
      inside (inner k z c r) l h = forest-node s t k z c r

-- the first node of a run by itself
first-nested : {t : List ℕ} {d a b : ℕ} → Nested t d a b → a < b → Nested t d a (next_at t a)
first-nested (done e) l = absurd (omega arith)
first-nested (one h z r) l = rw h (one h z (done refl))
first-nested (inner h z c r) l = rw h (inner h z c (done refl))

module _ (s t : List ℕ) (d a b : ℕ) (ok : Accepted s t) (nested : Nested t d a b) (from : 1 ≤ a) (inside : b ≤ count t) (more : a < b) where
  run_of : Run s t a b
  run_of = record { accepted = ok; depth = d; nested = nested; from = from; inside = inside }

  past-here : past_node t a ≡ next_at t a
  past-here = past_next t a (kind-some s t a ok from (omega arith))

  pub one-nested : Nested t d a (past_node t a)
  one-nested = rw past-here (first-nested nested more)

  pub rest-nested : Nested t d (past_node t a) b
  rest-nested = rw past-here (next-nested t nested more)

  -- its forest, as a leaf and as an open node
  pub one-leaf : is_open (kind_at t a) ≡ false → forest s t a (past_node t a) ≡ leaf (node_at s t a) end
  one-leaf h =
      let run = run_of in
      let later = past-later s t a b run more in
      let within = past-inside s t a b run more in
      let first : Run s t a (past_node t a) = record { accepted = ok; depth = d; nested = one-nested; from = from; inside = omega arith } in
      forest-at-leaf s t a (past_node t a) first later h ∙ rw (forest-done s t (past_node t a) (past_node t a) (omega arith))

  pub one-open : is_open (kind_at t a) ≡ true → forest s t a (past_node t a) ≡ node (node_at s t a) (forest s t (a + 1) (link_at t a)) end
  one-open h =
      let run = run_of in
      let later = past-later s t a b run more in
      let within = past-inside s t a b run more in
      let first : Run s t a (past_node t a) = record { accepted = ok; depth = d; nested = one-nested; from = from; inside = omega arith } in
      forest-at-open s t a (past_node t a) first later h ∙ rw (forest-done s t (past_node t a) (past_node t a) (omega arith))

-- where the root's children end
root-end : (s t : List ℕ) → Accepted s t → (link_at t 0 ≤ count t) × ((i : ℕ) → i < count t → is_open (kind_at t i) ≡ true → i < link_at t 0)
root-end s t h = go (rooted s t h.sized h.root).place
  where
    go : (link_at t 0 ≡ count t) ⊎ ((link_at t 0 + 1 ≡ count t) × (is_close (kind_at t (link_at t 0)) ≡ true)) → (link_at t 0 ≤ count t) × ((i : ℕ) → i < count t → is_open (kind_at t i) ≡ true → i < link_at t 0)
    go (inl e) = (omega arith, λ i l q. omega arith)
    go (inr e) = (omega (arith, e.0), λ i l q. choose i l q (ℕ_discrete i (link_at t 0)))
      where
        choose : (i : ℕ) → i < count t → is_open (kind_at t i) ≡ true → Dec (i ≡ link_at t 0) → i < link_at t 0
        choose i l q (yes x) = absurd (false≢true (sym (close-no-open (kind_at t (link_at t 0)) e.1) ∙ rw (← x) q))
        choose i l q (no x) = omega (arith, e.0)

-- the root's children, and those of any open node of an accepted tape
pub run-top : (s t : List ℕ) → Accepted s t → Run s t 1 (link_at t 0)
run-top s t h = record { accepted = h; depth = 64; nested = h.nested; from = omega arith; inside = (root-end s t h).0 }

pub run_inside : (s t : List ℕ) (i : ℕ) → Accepted s t → 1 ≤ i → i < count t → is_open (kind_at t i) ≡ true → Run s t (i + 1) (link_at t i)
run_inside s t i h g l q =
    let e = root-end s t h in
    let n = nested-inside h.nested i g (e.1 i l q) q in
    record { accepted = h; depth = n.depth; nested = n.nested; from = omega arith; inside = omega (arith, e.0, n.within) }
