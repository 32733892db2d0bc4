-- Laws of a run of nodes that nests: its forest, a node at a time.
-- Assumes nothing.
use Prim.Native.Nat.{ℕ, zero, suc, ◌+◌, ◌-◌, ◌<◌, ◌≤◌}
use native.Mathlib.Numerals.{add-one}
use native.Mathlib.Decide.{dec_lt, ℕ_discrete}
use native.Mathlib.Omega.{arith}
use mathlib.Core.Path.{◌≡◌, refl, sym, ap, ap₂, subst, ◌∙◌}
use mathlib.Core.Bool.{Bool, true, false, false≢true}
use mathlib.Core.List.{List, [], ◌∷◌, ◌++◌, append-nil, append_assoc}
use lib.Dec.{eqb}
use borrow.Author.Tests.{eqb-true}
use Rattle.tape.specs.Nodes.{Node, node_at, nodes, kind_at, link_at, is_open, is_close}
use Rattle.tape.specs.Forest.{Forest, end, leaf, node, followed, join_node, runs, innermost, forest, Nested, done, one, inner}

pub close-no-open : (k : ℕ) → is_close k ≡ true → is_open k ≡ false
close-no-open k e = go (eqb k 1) refl
  where
    go : (b : Bool) → eqb k 1 ≡ b → b ≡ false
    go true q = absurd (false≢true (sym (let z = eqb-true k 1 q in rw z) ∙ e))
    go false q = refl

pub nested-le : {t : List ℕ} {d a b : ℕ} → Nested t d a b → a ≤ b
nested-le (done e) = omega arith
nested-le (one h z r) = let l = nested-le r in omega arith
nested-le (inner h z c r) = let l = nested-le r in let m = nested-le c in omega arith

pub then-end : (f : Forest) → followed f end ≡ f
unfolding followed
then-end end = refl
then-end (leaf x r) = ap (leaf x) (then-end r)
then-end (node x c r) = ap (node x c) (then-end r)

pub then-assoc : (f g h : Forest) → followed (followed f g) h ≡ followed f (followed g h)
unfolding followed
then-assoc end g h = refl
then-assoc (leaf x r) g h = ap (leaf x) (then-assoc r g h)
then-assoc (node x c r) g h = ap (node x c) (then-assoc r g h)

-- a run of siblings before the first of the runs
abbrev onto : Forest → List Forest → List Forest
onto f [] = []
onto f (g ∷ gs) = followed f g ∷ gs

runs-nil : runs [] ≡ end ∷ []
unfolding runs
runs-nil = refl

onto-end : (fs : List Forest) → onto end fs ≡ fs
unfolding followed
onto-end [] = refl
onto-end (f ∷ fs) = refl

module _ (s t : List ℕ) where
  nodes-empty : (a b : ℕ) → b ≤ a → nodes s t a (b - a) ≡ []
  unfolding nodes
  nodes-empty a b h = let e : b - a ≡ 0 = omega arith in rw e

  pub nodes-step : (a b : ℕ) → a < b → nodes s t a (b - a) ≡ node_at s t a ∷ nodes s t (a + 1) (b - (a + 1))
  unfolding nodes
  nodes-step a b h = let e : b - a ≡ suc (b - (a + 1)) = omega arith in rw (e, add-one)

  by_length : (n a m b : ℕ) → m - a ≡ n → a ≤ m → m ≤ b → nodes s t a (b - a) ≡ nodes s t a (m - a) ++ nodes s t m (b - m)
  by_length zero a m b e h k = let z : a ≡ m = omega arith in rw (nodes-empty a m (omega arith), z)
  by_length (suc n) a m b e h k =
      rw (nodes-step a b (omega arith), nodes-step a m (omega arith)) (ap (node_at s t a ∷◌) (by_length n (a + 1) m b (omega arith) (omega arith) k))

  pub nodes-split : (a m b : ℕ) → a ≤ m → m ≤ b → nodes s t a (b - a) ≡ nodes s t a (m - a) ++ nodes s t m (b - m)
  nodes-split a m b h k = by_length (m - a) a m b refl h k

  -- the forest that a proof of nesting shows
  tree : {d a b : ℕ} → Nested t d a b → Forest
  tree (done e) = end
  tree {d} {a} (one h z r) = leaf (node_at s t a) (tree r)
  tree {d} {a} (inner h z c r) = node (node_at s t a) (tree c) (tree r)

  around : (x : Node) (c f : Forest) (fs : List Forest) → is_open x.kind ≡ true → join_node (is_open x.kind) (is_close x.kind) x (followed c end ∷ onto f fs) ≡ onto (node x c f) fs
  unfolding followed
  around x c f [] h = rw h
  around x c f (g ∷ gs) h = rw (h, then-end c)

  runs-nested : {d a b : ℕ} (n : Nested t d a b) (xs : List Node) → runs (nodes s t a (b - a) ++ xs) ≡ onto (tree n) (runs xs)
  unfolding runs followed tree
  runs-nested {d} {a} {b} (done e) xs = rw (nodes-empty a b (omega arith)) (sym (onto-end (runs xs)))
  runs-nested {d} {a} {b} (one h z r) xs =
      let l = nested-le r in
      rw (nodes-step a b (omega arith), h, z, runs-nested r xs) (go (runs xs))
    where
      go : (fs : List Forest) → join_node false false (node_at s t a) (onto (tree r) fs) ≡ onto (leaf (node_at s t a) (tree r)) fs
      go [] = refl
      go (f ∷ fs) = refl
  runs-nested {a} {b} (inner {d} h z c r) xs =
      let l = nested-le r in
      let m = nested-le c in
      let link = link_at t a in
      let rest = nodes s t (link + 1) (b - (link + 1)) in
      let shape : nodes s t a (b - a) ≡ node_at s t a ∷ (nodes s t (a + 1) (link - (a + 1)) ++ node_at s t link ∷ rest) =
      nodes-step a b (omega arith) ∙ ap (node_at s t a ∷◌) (nodes-split (a + 1) link b (omega arith) (omega arith) ∙ ap (nodes s t (a + 1) (link - (a + 1)) ++◌) (nodes-step link b (omega arith))) in
      let closing : runs (node_at s t link ∷ (rest ++ xs)) ≡ end ∷ onto (tree r) (runs xs) = rw (close-no-open (kind_at t link) z, z, runs-nested r xs) in
      rw (shape, append_assoc (nodes s t (a + 1) (link - (a + 1))) (node_at s t link ∷ rest) xs, runs-nested c (node_at s t link ∷ (rest ++ xs)), closing) (around (node_at s t a) (tree c) (tree r) (runs xs) h)

  forest-is : {d a b : ℕ} (n : Nested t d a b) → forest s t a b ≡ tree n
  unfolding runs
  forest-is {d} {a} {b} n = ap (λ (xs : List Node). innermost (runs xs)) (sym (append-nil (nodes s t a (b - a)))) ∙ rw (runs-nested n []) (then-end (tree n))

  -- the forest of a run at its end, at a leaf and at an open node
  pub forest-done : (a b : ℕ) → b ≤ a → forest s t a b ≡ end
  unfolding runs
  forest-done a b h = rw (nodes-empty a b h)

  pub forest-leaf : {d a b : ℕ} → is_open (kind_at t a) ≡ false → is_close (kind_at t a) ≡ false → Nested t d (a + 1) b → forest s t a b ≡ leaf (node_at s t a) (forest s t (a + 1) b)
  unfolding tree
  forest-leaf {d} {a} h z r = forest-is (one h z r) ∙ ap (leaf (node_at s t a)) (sym (forest-is r))

  pub forest-node : {d a b : ℕ} → is_open (kind_at t a) ≡ true → is_close (kind_at t (link_at t a)) ≡ true → Nested t d (a + 1) (link_at t a) → Nested t (suc d) (link_at t a + 1) b → forest s t a b ≡ node (node_at s t a) (forest s t (a + 1) (link_at t a)) (forest s t (link_at t a + 1) b)
  unfolding tree
  forest-node {d} {a} h z c r = forest-is (inner h z c r) ∙ ap₂ (node (node_at s t a)) (sym (forest-is c)) (sym (forest-is r))

  -- the forest of a run is the forest of its beginning followed by that of the rest
  pub forest-join : {d e a m b : ℕ} → Nested t d a m → Nested t e m b → forest s t a b ≡ followed (forest s t a m) (forest s t m b)
  forest-join {d} {e} {a} {m} {b} x y =
      let l = nested-le x in
      let k = nested-le y in
      rw (nodes-split a m b l k, runs-nested x (nodes s t m (b - m)), forest-is x) (go (runs (nodes s t m (b - m))) (some y))
    where
      some : Nested t e m b → (f : Forest) × (runs (nodes s t m (b - m)) ≡ f ∷ [])
      some y = (followed (tree y) end, ap runs (sym (append-nil (nodes s t m (b - m)))) ∙ runs-nested y [] ∙ ap (onto (tree y)) runs-nil)

      go : (fs : List Forest) → (f : Forest) × (fs ≡ f ∷ []) → innermost (onto (tree x) fs) ≡ followed (tree x) (innermost fs)
      go fs (f, q) = rw q

-- what two tapes with the same nodes give
pub nodes-same : (s s' t t' : List ℕ) (a n : ℕ) → ((i : ℕ) → a ≤ i → i < a + n → node_at s t i ≡ node_at s' t' i) → nodes s t a n ≡ nodes s' t' a n
unfolding nodes
nodes-same s s' t t' a zero h = refl
nodes-same s s' t t' a (suc n) h = ap₂ ◌∷◌ (h a (omega arith) (omega arith)) (nodes-same s s' t t' (suc a) n (λ i g l. h i (omega arith) (omega arith)))

pub forest-same : (s s' t t' : List ℕ) (a b : ℕ) → ((i : ℕ) → a ≤ i → i < b → node_at s t i ≡ node_at s' t' i) → forest s t a b ≡ forest s' t' a b
forest-same s s' t t' a b h = ap (λ (xs : List Node). innermost (runs xs)) (nodes-same s s' t t' a (b - a) (λ i g l. h i g (omega arith)))

-- two runs that nest, one after the other
pub nested-join : {t : List ℕ} {d a m b : ℕ} → Nested t d a m → Nested t d m b → Nested t d a b
nested-join {t} {d} {a} {m} {b} (done e) y = subst (λ (x : ℕ). Nested t d x b) (sym e) y
nested-join (one h z r) y = one h z (nested-join r y)
nested-join (inner h z c r) y = inner h z c (nested-join r y)

-- an open node of a run: its children nest one less deep
pub record Inside (t : List ℕ) (d a b : ℕ) : Type 0 where
  pub deeper : 0 < d
  pub closes : is_close (kind_at t (link_at t a)) ≡ true
  pub children : Nested t (d - 1) (a + 1) (link_at t a)
  pub after : Nested t d (link_at t a + 1) b

pred-suc : (d : ℕ) → d ≡ suc d - 1
pred-suc d = omega arith

pub nested-open : {t : List ℕ} {d a b : ℕ} → Nested t d a b → a < b → is_open (kind_at t a) ≡ true → Inside t d a b
nested-open (done e) l q = absurd (omega arith)
nested-open (one h z r) l q = absurd (false≢true (sym h ∙ q))
nested-open {t} (inner {d} {a} h z c r) l q = record { deeper = omega arith; closes = z; children = subst (λ (x : ℕ). Nested t x (a + 1) (link_at t a)) (pred-suc d) c; after = r }

-- any other node of a run is a leaf
pub record Leaf (t : List ℕ) (d a b : ℕ) : Type 0 where
  pub open_no : is_open (kind_at t a) ≡ false
  pub close-no : is_close (kind_at t a) ≡ false
  pub after : Nested t d (a + 1) b

pub nested-leaf : {t : List ℕ} {d a b : ℕ} → Nested t d a b → a < b → is_open (kind_at t a) ≡ false → Leaf t d a b
nested-leaf (done e) l q = absurd (omega arith)
nested-leaf (one h z r) l q = record { open_no = h; close-no = z; after = r }
nested-leaf (inner h z c r) l q = absurd (false≢true (sym q ∙ h))

-- the children of any open node of a run are a run
pub record Children (t : List ℕ) (i b : ℕ) : Type 0 where
  pub depth : ℕ
  pub later : i < link_at t i
  pub within : link_at t i < b
  pub nested : Nested t depth (i + 1) (link_at t i)

pub nested-inside : {t : List ℕ} {d a b : ℕ} → Nested t d a b → (i : ℕ) → a ≤ i → i < b → is_open (kind_at t i) ≡ true → Children t i b
nested-inside (done e) i g l q = absurd (omega arith)
nested-inside {t} {d} {a} {b} (one h z r) i g l q = choose (ℕ_discrete a i) (λ k. nested-inside r i k l q)
  where
    choose : Dec (a ≡ i) → (a + 1 ≤ i → Children t i b) → Children t i b
    choose (yes x) later = absurd (false≢true (sym h ∙ rw x q))
    choose (no x) later = later (omega arith)
nested-inside {t} {a} {b} (inner {d} h z c r) i g l q =
    choose (ℕ_discrete a i) (dec_lt i (link_at t a)) (ℕ_discrete i (link_at t a)) (nested-le c) (nested-le r) (λ j k. nested-inside c i j k q) (λ k. nested-inside r i k l q)
  where
    choose : Dec (a ≡ i) → Dec (i < link_at t a) → Dec (i ≡ link_at t a) → a + 1 ≤ link_at t a → link_at t a + 1 ≤ b → (a + 1 ≤ i → i < link_at t a → Children t i (link_at t a)) → (link_at t a + 1 ≤ i → Children t i b) → Children t i b
    choose (yes x) u v m n f k =
        subst (λ (j : ℕ). Children t j b) x (record { depth = d; later = omega arith; within = omega arith; nested = c })
    choose (no x) (yes u) v m n f k =
        let w = f (omega arith) u in
        let y = w.within in
        record { depth = w.depth; later = w.later; within = omega arith; nested = w.nested }
    choose (no x) (no u) (yes v) m n f k = absurd (false≢true (sym (close-no-open (kind_at t (link_at t a)) z) ∙ rw (← v) q))
    choose (no x) (no u) (no v) m n f k = k (omega arith)
