-- K7: the anchor in numbers, and as the walk has it, after a run of top-level nodes.
-- Assumes nothing.
use Prim.Native.Nat.{ℕ, zero, suc, ◌+◌, ◌<◌, ◌≤◌}
use native.Mathlib.Nat.{le_refl}
use native.Mathlib.Omega.{arith}
use mathlib.Core.Path.{◌≡◌, refl, sym, ap, subst, ◌∙◌}
use mathlib.Core.Bool.{Bool, true, false, not, false≢true, ◌&&◌, ◌||◌}
use mathlib.Core.List.{List}
use Rattle.std.specs.Prelude.{Option, Some, None}
use Rattle.std.proofs.lemmas.Option.{none-some, same_Some}
use lib.Dec.{eqb, ltb}
use borrow.Author.Tests.{eqb-true, ne_eqb, lt-ltb}
use Rattle.text.specs.Pick.{pick}
use Rattle.tape.specs.Nodes.{Node, node_at, kind_at, link_at, is_open, is_close, chapter_kind, verse_kind}
use Rattle.tape.specs.Forest.{Forest, end, leaf, node, forest, Nested, done, one, inner}
use Rattle.tape.proofs.Nest.{nested-le, nested-join, forest-done, forest-leaf, forest-node, forest-join}
use Rattle.table.specs.Entries.{Entry}
use Rattle.cursor.specs.Steps.{holds_nodes, past_node}
use Rattle.numbers.specs.Label.{numbered}
use Rattle.definition.specs.State.{WalkState, WalkContext, Anchor, past}
use Rattle.definition.specs.Checks.{entry_of, leaf_checked}
use Rattle.definition.specs.Walk.{open_checked, inside, after_node, then_walk, by_entry, walk_by, walk}
use Rattle.definition.specs.Sections.{is_border}
use Rattle.definition.specs.Carried.{anchor_at}
use Rattle.definition.specs.Calls.{last_anchor}
use Rattle.definition.proofs.Borders.{meets-border}

pub numbered-leaf : (k : ℕ) → numbered k ≡ true → holds_nodes k ≡ false
numbered-leaf k h = test (eqb k chapter_kind) refl (eqb k verse_kind) refl h
  where
    test : (b : Bool) → eqb k chapter_kind ≡ b → (v : Bool) → eqb k verse_kind ≡ v → (b || v) ≡ true → holds_nodes k ≡ false
    test true e v g z = rw (eqb-true k chapter_kind e)
    test false e true g z = rw (eqb-true k verse_kind g)
    test false e false g z = absurd (false≢true z)

module _ (table s t : List ℕ) where
  -- none, or a Chapter or Verse among the top-level nodes before the place
  pub data Known (d : ℕ) : ℕ → ℕ → Type 0 where
    nowhere : {a : ℕ} → Known d 0 a
    behind : {n a : ℕ} → numbered (kind_at t (suc n)) ≡ true → is_border s t (suc n) ≡ true → suc n < a → Nested t d (past_node t (suc n)) a → Known d (suc n) a

  -- one sibling more is passed
  known_past : {d n a b : ℕ} → Known d n a → a ≤ b → Nested t d a b → (Known d n b) × (past (anchor_at s t n a) (forest s t a b) ≡ anchor_at s t n b)
  known_past nowhere l q = (nowhere, refl)
  known_past {a} {b} (behind {n} k i h r) l q = let f : suc n < b = omega arith in (behind k i f (nested-join r q), ap (λ (f : Forest). Some (record { kind = kind_at t (suc n); passed = f })) (sym (forest-join s t r q)))

  -- a Chapter or Verse is the new anchor
  known-here : (d n a : ℕ) → a ≡ n → 1 ≤ n → numbered (kind_at t a) ≡ true → is_border s t a ≡ true → (Known d n (a + 1)) × (◌≡◌ {A = Option Anchor} (Some (record { kind = kind_at t a; passed = end })) (anchor_at s t n (a + 1)))
  known-here d zero a e l k i = absurd (omega arith)
  known-here d (suc n) a e l k i =
      let p : past_node t (suc n) ≡ a + 1 = rw (← e, numbered-leaf (kind_at t a) k) in
      let l : suc n < a + 1 = omega arith in (
        behind (subst (λ (x : ℕ). numbered (kind_at t x) ≡ true) e k) (subst (λ (x : ℕ). is_border s t x ≡ true) e i) l (done p),
        rw p (rw (forest-done s t (a + 1) (a + 1) (le_refl (a + 1)), e)),
      )

  -- a leaf alone, and a marker with its children
  leaf-alone : (a : ℕ) → is_open (kind_at t a) ≡ false → is_close (kind_at t a) ≡ false → forest s t a (a + 1) ≡ leaf (node_at s t a) end
  leaf-alone a i j =
      let e : Nested t 0 (a + 1) (a + 1) = done refl in
      forest-leaf s t i j e ∙ ap (leaf (node_at s t a)) (forest-done s t (a + 1) (a + 1) (le_refl (a + 1)))

  node-alone : {d : ℕ} (a : ℕ) → is_open (kind_at t a) ≡ true → is_close (kind_at t (link_at t a)) ≡ true → Nested t d (a + 1) (link_at t a) → forest s t a (link_at t a + 1) ≡ node (node_at s t a) (forest s t (a + 1) (link_at t a)) end
  node-alone {d} a i j c =
      let e : Nested t (suc d) (link_at t a + 1) (link_at t a + 1) = done refl in
      forest-node s t i j c e ∙ ap (node (node_at s t a) (forest s t (a + 1) (link_at t a))) (forest-done s t (link_at t a + 1) (link_at t a + 1) (le_refl (link_at t a + 1)))

  -- after a run of top-level nodes
  pub record Anchored (d n a b : ℕ) (o : WalkContext) (st : WalkState) : Type 0 where
    pub known : Known d (last_anchor n (forest s t a b)) b
    pub is : (walk table o (anchor_at s t n a) (forest s t a b) st).anchor ≡ anchor_at s t (last_anchor n (forest s t a b)) b

  pub anchor-kept : {d a b : ℕ} (n : ℕ) → Known d n a → Nested t d 1 a → Nested t d a b → Nested t d b (link_at t 0) → (o : WalkContext) (st : WalkState) → Anchored d n a b o st
  unfolding walk_by last_anchor
  anchor-kept {d} {a} {b} n k p (done e) q o st =
      let f = forest-done s t a b (omega arith) in
      record { known = rw f (subst (λ (x : ℕ). Known d n x) e k); is = rw f (ap (λ (x : ℕ). anchor_at s t n x) e) }
  anchor-kept {d} {a} {b} n k p (one i j r) q o st =
      let f = forest-leaf s t i j r in
      let h = test (numbered (kind_at t a)) refl (λ m y st'. anchor-kept m y (nested-join p (one i j (done refl))) r q o st') in
      record { known = rw f h.0; is = rw f h.1 }
    where
      x : Node
      x = node_at s t a

      rest : Forest
      rest = forest s t (a + 1) b

      st₁ : WalkState
      st₁ = (leaf_checked table o st x).state

      test : (v : Bool) → numbered (kind_at t a) ≡ v → ((m : ℕ) → Known d m (a + 1) → (st' : WalkState) → Anchored d m (a + 1) b o st') → (Known d (last_anchor (pick v a n) rest) b) × ((walk table o (pick v (Some (record { kind = kind_at t a; passed = end })) (past (anchor_at s t n a) (leaf x end))) rest st₁).anchor ≡ anchor_at s t (last_anchor (pick v a n) rest) b)
      test true e later =
          let h = known-here d a a refl (nested-le p) e (meets-border s t p (nested-join (one i j r) q)) in
          let l = later a h.0 st₁ in
          (l.known, ap (λ (z : Option Anchor). (walk table o z rest st₁).anchor) h.1 ∙ l.is)
      test false e later =
          let h = known_past k (omega arith) (one i j (done refl)) in
          let l = later n h.0 st₁ in
          (l.known, ap (λ (z : Option Anchor). (walk table o z rest st₁).anchor) (ap (past (anchor_at s t n a)) (sym (leaf-alone a i j)) ∙ h.1) ∙ l.is)
  anchor-kept {a} {b} n k p (inner {d} i j c r) q o st =
      let g = nested-le c in
      let h = known_past k (omega arith) (inner i j c (done refl)) in
      let e : past (anchor_at s t n a) (node (node_at s t a) (forest s t (a + 1) (link_at t a)) end) ≡ anchor_at s t n (link_at t a + 1) = ap (past (anchor_at s t n a)) (sym (node-alone a i j c)) ∙ h.1 in
      let f = forest-node s t i j c r in
      let later : (st' : WalkState) → Anchored (suc d) n (link_at t a + 1) b o st' = λ st'. anchor-kept n h.0 (nested-join p (inner i j c (done refl))) r q o st' in
      record { known = rw f (later st).known; is = rw f (test (entry_of table (node_at s t a)) (λ st'. ap (λ (z : Option Anchor). (walk table o z (forest s t (link_at t a + 1) b) st').anchor) e ∙ (later st').is)) }
    where
      x : Node
      x = node_at s t a

      children : Forest
      children = forest s t (a + 1) (link_at t a)

      rest : Forest
      rest = forest s t (link_at t a + 1) b

      test : (z : Option Entry) → ((st' : WalkState) → (walk table o (past (anchor_at s t n a) (node x children end)) rest st').anchor ≡ anchor_at s t (last_anchor n rest) b) → (by_entry z (walk table o (past (anchor_at s t n a) (node x children end)) rest st) (λ y. after_node (open_checked table o (anchor_at s t n a) st y x children (node x children rest)) (λ st₁. then_walk (walk table (inside o y) None children st₁) (walk table o (past (anchor_at s t n a) (node x children end)) rest)))).anchor ≡ anchor_at s t (last_anchor n rest) b
      test None later = later st
      test (Some y) later = later (walk table (inside o y) None children (open_checked table o (anchor_at s t n a) st y x children (node x children rest)).state).state

  pub node_kept : {d n a : ℕ} → Known d n a → pick (is_border s t n && ltb n a) n 0 ≡ n
  node_kept {d} {n} {a} nowhere = test (is_border s t 0 && ltb 0 a)
    where
      test : (v : Bool) → ◌≡◌ {A = ℕ} (pick v 0 0) 0
      test true = refl
      test false = refl
  node_kept (behind {n} {a} k i l r) = rw (i, lt-ltb (suc n) a l)

  pub anchor-good : {d n a : ℕ} → Known d n a → (not (eqb n 0) && not (numbered (kind_at t n))) ≡ false
  anchor-good nowhere = refl
  anchor-good (behind {n} k i l r) = rw (k, ne_eqb (suc n) 0 (λ z. omega arith))

  -- the anchor that a number means is no other number's
  unfoldable first_number : Forest → ℕ → ℕ
  first_number end b = b
  first_number (leaf x r) b = x.number
  first_number (node x c r) b = x.number

  first-is : {d a b : ℕ} → Nested t d a b → first_number (forest s t a b) b ≡ a
  unfolding first_number
  first-is {d} {a} {b} (done e) = rw (forest-done s t a b (omega arith)) (sym e)
  first-is (one i j r) = rw (forest-leaf s t i j r)
  first-is (inner i j c r) = rw (forest-node s t i j c r)

  pub same-anchor : (d e n m a : ℕ) → (1 ≤ n → Nested t e (past_node t n) a) → Known d m a → anchor_at s t n a ≡ anchor_at s t m a → n ≡ m
  same-anchor d e zero m a rest nowhere h = refl
  same-anchor d e (suc n) m a rest nowhere h = absurd (none-some _ (sym h))
  same-anchor d e zero m a rest (behind k i l r) h = absurd (none-some _ h)
  same-anchor d e (suc x) m a rest (behind {n} k i l r) h =
      let q = same_Some _ _ h in
      let kind : kind_at t (suc x) ≡ kind_at t (suc n) = ap (λ (z : Anchor). z.kind) q in
      let past-n : past_node t (suc n) ≡ suc n + 1 = rw (numbered-leaf (kind_at t (suc n)) k) in
      let past-x : past_node t (suc x) ≡ suc x + 1 = rw (kind, numbered-leaf (kind_at t (suc n)) k) in
      let firsts = sym (first-is (rest (omega arith))) ∙ ap (λ (z : Anchor). first_number z.passed a) q ∙ first-is r in
      let z : suc x + 1 ≡ suc n + 1 = sym past-x ∙ firsts ∙ past-n in
      omega arith
