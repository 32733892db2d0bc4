-- The siblings of a run, a node at a time, and what is read off them.
-- Assumes nothing.
use Prim.Native.Nat.{ℕ, zero, suc, ◌+◌, ◌<◌, ◌≤◌}
use mathlib.Core.Path.{◌≡◌, refl, sym, ap, subst, ◌∙◌}
use mathlib.Core.Bool.{Bool, true, false, cond}
use mathlib.Core.List.{List, [], ◌∷◌}
use native.Mathlib.Decide.{dec_lt}
use native.Mathlib.Omega.{arith}
use lib.ListN.{length, get_or}
use Rattle.std.specs.Prelude.{Some}
use Rattle.std.specs.List.{find}
use Rattle.std.specs.Iterator.{YieldsFirst, CallableAtEachTurn}
use Rattle.std.proofs.lemmas.Iterator.Consumers.{YieldsList-from_first}
use Rattle.std.proofs.lemmas.Iterator.Adapters.{serves_from_places}
use Rattle.tape.specs.Nodes.{node_at, kind_at, is_open}
use Rattle.tape.specs.Forest.{Forest, end, leaf, node, forest, Nested, done, one, inner, next_at}
use Rattle.tape.proofs.Nest.{forest-done, forest-leaf, forest-node}
use Rattle.cursor.specs.Inner.{Run, Spanned}
use Rattle.cursor.specs.Steps.{past_node}
use Rattle.cursor.specs.declared.Siblings.{Siblings}
use Rattle.cursor.specs.InnerTurn.{numbers, siblings, SomeRun, left}
use Rattle.cursor.proofs.Runs.{run-spanned, run-next, past-later, past_is, forest-at-leaf, forest-at-open}

pub siblings-none : (t : List ℕ) (a b : ℕ) → b ≤ a → siblings t a b ≡ []
unfolding siblings numbers
siblings-none t a b h = rw (forest-done [] t a b h)

nested-first : {t : List ℕ} {d a b : ℕ} → Nested t d a b → a < b → siblings t a b ≡ a ∷ siblings t (next_at t a) b
unfolding siblings numbers
nested-first (done e) l = absurd (omega arith)
nested-first {t} (one k z r) l = rw (forest-leaf [] t k z r, k)
nested-first {t} (inner k z c r) l = rw (forest-node [] t k z c r, k)

-- the first, and those after it
pub siblings-first : (s t : List ℕ) (a b : ℕ) → Run s t a b → a < b → siblings t a b ≡ a ∷ siblings t (past_node t a) b
siblings-first s t a b run more = nested-first run.nested more ∙ ap (λ (i : ℕ). a ∷ siblings t i b) (sym (past_is s t a b run more))

pub some-next : (t : List ℕ) (a b p : ℕ) → SomeRun t a b → a < b → p ≡ past_node t a → SomeRun t p b
some-next t a b p some more e = rw e (record { source = some.source; run = run-next some.source t a b some.run more })

-- an iterator that has the rest of a run left, and a fact P of the node where that begins
pub record At (t : List ℕ) (b : ℕ) (P : ℕ → Type 0) (it : Siblings) : Type 0 where
  pub at : ℕ
  pub items : left it ≡ siblings t at b
  pub fact : P at

-- a turn: the item is that node, and the nodes past it are left
pub record Turn (s t : List ℕ) (b : ℕ) (P : ℕ → Type 0) (i : ℕ) (is : List ℕ) : Type 0 where
  pub fact : P i
  pub more : i < b
  pub spanned : Spanned s t i
  pub rest : is ≡ siblings t (past_node t i) b

module _ {s t : List ℕ} {b : ℕ} {P : ℕ → Type 0} {it : Siblings} (run : (i : ℕ) → P i → Run s t i b) (p : At t b P it) where
  pub turn : {i : ℕ} {is : List ℕ} → left it ≡ i ∷ is → Turn s t b P i is
  turn {i = i} {is = is} e = go (dec_lt p.at b)
    where
      go : Dec (p.at < b) → Turn s t b P i is
      go (yes more) =
          let f = siblings-first s t p.at b (run p.at p.fact) more in
          let g = p.items in
          let item : p.at ≡ i = cc in
          let here : Turn s t b P p.at is = record { fact = p.fact; more = more; spanned = run-spanned s t p.at b (run p.at p.fact) more; rest = cc } in
          rw item at here
      go (no n) =
          let f = siblings-none t p.at b (omega arith) in
          let g = p.items in
          absurd (cc)

  pub last-turn : left it ≡ [] → b ≤ p.at
  last-turn e = go (dec_lt p.at b)
    where
      go : Dec (p.at < b) → b ≤ p.at
      go (yes more) =
          let f = siblings-first s t p.at b (run p.at p.fact) more in
          let g = p.items in
          absurd (cc)
      go (no n) = omega arith

-- a fact of a run, from its end back
module _ (s t : List ℕ) (b : ℕ) (P : ℕ → Type 0) (ends : (a : ℕ) → b ≤ a → P a) (before : (a : ℕ) → Run s t a b → a < b → P (past_node t a) → P a) where
  in-steps : (n a : ℕ) → b ≤ a + n → Run s t a b → P a
  in-steps zero a h run = ends a (omega arith)
  in-steps (suc n) a h run = go (λ l r. in-steps n (past_node t a) l r) (dec_lt a b)
    where
      go : (b ≤ past_node t a + n → Run s t (past_node t a) b → P (past_node t a)) → Dec (a < b) → P a
      go rest (yes more) = let l = past-later s t a b run more in before a run more (rest (omega arith) (run-next s t a b run more))
      go rest (no e) = ends a (omega arith)

  pub along : (a : ℕ) → Run s t a b → P a
  along a run = in-steps b a (omega arith) run

-- each sibling is a node whose text lies in the source
pub sibling-spanned : (s t : List ℕ) (a b : ℕ) → Run s t a b → (k d : ℕ) → k < length (siblings t a b) → Spanned s t (get_or (siblings t a b) k d)
sibling-spanned s t a b run = along s t b P at-end at-node a run
  where
    P : ℕ → Type 0
    P i = (k d : ℕ) → k < length (siblings t i b) → Spanned s t (get_or (siblings t i b) k d)

    at-end : (i : ℕ) → b ≤ i → P i
    at-end i h k d l = let e = ap length (siblings-none t i b h) in absurd (omega arith)

    at-node : (i : ℕ) → Run s t i b → i < b → P (past_node t i) → P i
    at-node i r more h zero d l = rw (siblings-first s t i b r more) (run-spanned s t i b r more)
    at-node i r more h (suc k) d l = let e = ap length (siblings-first s t i b r more) in rw (siblings-first s t i b r more) (h k d (omega arith))

-- so is the first that passes a test
pub found-spanned : (s t : List ℕ) (test : ℕ → Bool) (a b : ℕ) → Run s t a b → (i : ℕ) → find test (siblings t a b) ≡ Some i → Spanned s t i
found-spanned s t test a b run = along s t b P at-end at-node a run
  where
    P : ℕ → Type 0
    P a = (i : ℕ) → find test (siblings t a b) ≡ Some i → Spanned s t i

    at-end : (a : ℕ) → b ≤ a → P a
    at-end a h i e = let n = rw (siblings-none t a b h) at e in absurd (cc)

    at-node : (a : ℕ) → Run s t a b → a < b → P (past_node t a) → P a
    at-node a r more rest i e = go (test a) (rw (siblings-first s t a b r more) at e)
      where
        go : (v : Bool) → cond v (Some a) (find test (siblings t (past_node t a) b)) ≡ Some i → Spanned s t i
        go true e = let same : a ≡ i = cc in rw same at (run-spanned s t a b r more)
        go false e = rest i e

-- what is read off a forest is what is read off the list of its siblings, if the two agree at each node
module _ {A : Type 0} (read : Forest → A) (list : List ℕ → A) (s t : List ℕ) where
  pub reads-list :
      read end ≡ list [] →
      ((i : ℕ) (f : Forest) (is : List ℕ) → is_open (kind_at t i) ≡ false → read f ≡ list is → read (leaf (node_at s t i) f) ≡ list (i ∷ is)) →
      ((i : ℕ) (c f : Forest) (is : List ℕ) → is_open (kind_at t i) ≡ true → read f ≡ list is → read (node (node_at s t i) c f) ≡ list (i ∷ is)) →
      (a b : ℕ) → Run s t a b → read (forest s t a b) ≡ list (siblings t a b)
  reads-list none at-leaf at-node a b run = along s t b (λ i. read (forest s t i b) ≡ list (siblings t i b)) last here a run
    where
      last : (i : ℕ) → b ≤ i → read (forest s t i b) ≡ list (siblings t i b)
      last i h = rw (forest-done s t i b h, siblings-none t i b h) none

      here : (i : ℕ) → Run s t i b → i < b → read (forest s t (past_node t i) b) ≡ list (siblings t (past_node t i) b) → read (forest s t i b) ≡ list (siblings t i b)
      here i r more e = go (is_open (kind_at t i)) refl
        where
          go : (v : Bool) → is_open (kind_at t i) ≡ v → read (forest s t i b) ≡ list (siblings t i b)
          go true o = ap read (forest-at-open s t i b r more o) ∙ at-node i _ _ _ o e ∙ sym (ap list (siblings-first s t i b r more))
          go false o = ap read (forest-at-leaf s t i b r more o) ∙ at-leaf i _ _ o e ∙ sym (ap list (siblings-first s t i b r more))

-- a closure that takes any node whose text lies in the source may be called on each sibling
pub serves_from_siblings : {s t : List ℕ} {a b : ℕ} {it : Siblings} {F : Type 0} {R : F → ℕ → F → Type 0} {Q : F → ℕ → Type 0} {f : F} → Run s t a b → left it ≡ siblings t a b → ((i : ℕ) (q : F) → R f i q → q ≡ f) → ((i : ℕ) → Spanned s t i → Q f i) → CallableAtEachTurn (YieldsFirst left) R Q it f
serves_from_siblings {s = s} {t = t} {a = a} {b = b} run is same takes =
    serves_from_places (YieldsList-from_first (λ i. i) left (siblings t a b) is) same (λ i k l e. takes i (subst (Spanned s t) (sym e) (sibling-spanned s t a b run k i l)))
