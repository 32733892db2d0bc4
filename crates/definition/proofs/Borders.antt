-- Borders between nodes: a run is cut at each of them into whole nodes, and they are found by going from node to node.
-- Assumes nothing.
use Prim.Native.Nat.{ℕ, ◌+◌, ◌<◌, ◌≤◌}
use native.Mathlib.Nat.{le_refl}
use native.Mathlib.Omega.{arith}
use mathlib.Core.Path.{◌≡◌, refl, sym, ap, subst, ◌∙◌}
use mathlib.Core.Bool.{Bool, true, false, false≢true, ◌||◌}
use mathlib.Core.List.{List, [], ◌∷◌}
use lib.Dec.{eqb}
use borrow.Author.Tests.{eqb-true, eq-eqb, ne_eqb}
use Rattle.attachment.specs.Attached.{among}
use Rattle.tape.specs.Nodes.{kind_at, link_at, is_open}
use Rattle.tape.specs.Forest.{Forest, end, leaf, node, followed, forest, Nested, done, one, inner, Accepted}
use Rattle.tape.proofs.Nest.{nested-le, forest-done, forest-leaf, forest-node, forest-join}
use Rattle.cursor.specs.Inner.{Run}
use Rattle.cursor.specs.Steps.{past_node}
use Rattle.cursor.proofs.Runs.{forest-at-leaf, forest-at-open}
use Rattle.definition.specs.Sections.{numbers_of, border_of, is_border}

or_right : (v b : Bool) → b ≡ true → (v || b) ≡ true
or_right true b h = refl
or_right false b h = h

pub last-border : (b p : ℕ) → among p (b ∷ []) ≡ true → b ≡ p
unfolding among
last-border b p h = test (eqb b p) refl h
  where
    test : (v : Bool) → eqb b p ≡ v → (v || false) ≡ true → b ≡ p
    test true e k = eqb-true b p e
    test false e k = absurd (false≢true k)

module _ (s t : List ℕ) where
  -- the nodes before a border and those from it on; the borders of a run from there on are borders of the rest
  pub record Cut (d a b p : ℕ) : Type 0 where
    pub before : Nested t d a p
    pub behind : Nested t d p b
    pub later : (q : ℕ) → p ≤ q → border_of (forest s t a b) b q ≡ true → border_of (forest s t p b) b q ≡ true

  -- at the first node of a run, or among those after it
  cut-first : {d a b : ℕ} (p m : ℕ) → Nested t d a b → a < m → (Nested t d m p → Nested t d a p) → numbers_of (forest s t a b) ≡ a ∷ numbers_of (forest s t m b) → border_of (forest s t a b) b p ≡ true → (border_of (forest s t m b) b p ≡ true → Cut d m b p) → Cut d a b p
  unfolding among
  cut-first {d} {a} {b} p m whole more longer is h rest = test (eqb a p) refl (rw is at h)
    where
      test : (v : Bool) → eqb a p ≡ v → (v || border_of (forest s t m b) b p) ≡ true → Cut d a b p
      test true e k =
          let l = eqb-true a p e in
          record { before = done l; behind = subst (λ (x : ℕ). Nested t d x b) l whole; later = λ q g y. subst (λ (x : ℕ). border_of (forest s t x b) b q ≡ true) l y }
      test false e k =
          let c = rest k in
          let l = nested-le c.before in
          record { before = longer c.before; behind = c.behind; later = λ q g y. c.later q g (rw (is, ne_eqb a q (λ z. omega arith)) at y) }

  pub cut_at : {d a b : ℕ} (p : ℕ) → Nested t d a b → border_of (forest s t a b) b p ≡ true → Cut d a b p
  unfolding numbers_of
  cut_at {d} {a} {b} p (done e) h =
      let k = last-border b p (rw (forest-done s t a b (omega arith)) at h) in
      let l : a ≡ p = omega arith in
      record { before = done l; behind = done (sym k); later = λ q g y. subst (λ (x : ℕ). border_of (forest s t x b) b q ≡ true) l y }
  cut_at {d} {a} p (one i j r) h = cut-first p (a + 1) (one i j r) (omega arith) (λ n. one i j n) (ap numbers_of (forest-leaf s t i j r)) h (λ k. cut_at p r k)
  cut_at {a} p (inner {d} i j c r) h =
      let l = nested-le c in
      cut-first p (link_at t a + 1) (inner i j c r) (omega arith) (λ n. inner i j c n) (ap numbers_of (forest-node s t i j c r)) h (λ k. cut_at p r k)

  -- what lies between two borders is a range of whole nodes
  pub between : Accepted s t → (p q : ℕ) → is_border s t p ≡ true → is_border s t q ≡ true → p ≤ q → Nested t 64 p q
  between accepted p q h k l = let c = cut_at p accepted.nested h in (cut_at q c.behind (c.later q l k)).before

  -- where whole nodes end and whole nodes start is a border
  numbers-then : (f g : Forest) (p b : ℕ) → border_of g b p ≡ true → border_of (followed f g) b p ≡ true
  unfolding numbers_of among followed
  numbers-then end g p b h = h
  numbers-then (leaf x r) g p b h = or_right (eqb x.number p) _ (numbers-then r g p b h)
  numbers-then (node x c r) g p b h = or_right (eqb x.number p) _ (numbers-then r g p b h)

  starts-border : {d a b : ℕ} → Nested t d a b → border_of (forest s t a b) b a ≡ true
  unfolding numbers_of among
  starts-border {d} {a} {b} (done e) = rw (forest-done s t a b (omega arith), eq-eqb b a (sym e))
  starts-border {d} {a} (one i j r) = rw (forest-leaf s t i j r, eq-eqb a a refl)
  starts-border {a} (inner i j c r) = rw (forest-node s t i j c r, eq-eqb a a refl)

  pub meets-border : {d e a : ℕ} → Nested t d 1 a → Nested t e a (link_at t 0) → is_border s t a ≡ true
  meets-border {d} {e} {a} p q = rw (forest-join s t p q) (numbers-then (forest s t 1 a) (forest s t a (link_at t 0)) a (link_at t 0) (starts-border q))

  -- a test of a border that goes from node to node: at a node, at the run's end, and past the place
  pub border-at : {a b : ℕ} (p : ℕ) → Run s t a b → a < b → border_of (forest s t a b) b p ≡ (eqb a p || border_of (forest s t (past_node t a) b) b p)
  unfolding numbers_of among
  border-at {a} {b} p run more = test (is_open (kind_at t a)) refl
    where
      test : (v : Bool) → is_open (kind_at t a) ≡ v → border_of (forest s t a b) b p ≡ (eqb a p || border_of (forest s t (past_node t a) b) b p)
      test true e = ap (λ (f : Forest). border_of f b p) (forest-at-open s t a b run more e)
      test false e = ap (λ (f : Forest). border_of f b p) (forest-at-leaf s t a b run more e)

  pub border-end : (b p : ℕ) → border_of (forest s t b b) b p ≡ eqb b p
  unfolding numbers_of among
  border-end b p = ap (λ (f : Forest). border_of f b p) (forest-done s t b b (le_refl b)) ∙ test (eqb b p)
    where
      test : (v : Bool) → (v || false) ≡ v
      test true = refl
      test false = refl

  pub border-past : {d a b : ℕ} (p : ℕ) → Nested t d a b → p < a → border_of (forest s t a b) b p ≡ false
  border-past {d} {a} {b} p n l = test (border_of (forest s t a b) b p) refl
    where
      test : (v : Bool) → border_of (forest s t a b) b p ≡ v → v ≡ false
      test true e = absurd (let k = nested-le (cut_at p n e).before in omega arith)
      test false e = refl
