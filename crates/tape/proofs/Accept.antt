-- A tape is accepted exactly if it reads as a forest, properly nested, at most 64 deep, with the root's link as document 01 has it.
-- Assumes nothing.
use Prim.Native.Nat.{ℕ, zero, suc, ◌+◌, ◌-◌, ◌<◌, ◌≤◌}
use native.Mathlib.Omega.{arith}
use mathlib.Core.Path.{◌≡◌, refl, sym, ap, subst, ◌∙◌}
use mathlib.Core.Bool.{Bool, true, false}
use mathlib.Core.List.{List, [], ◌∷◌}
use mathlib.Core.Logic.{◌⊎◌, inl, inr}
use Rattle.std.specs.Prelude.{None}
use lib.Dec.{ltb, eqb}
use lib.ListN.{length}
use borrow.Author.Tests.{lt-ltb, eq-eqb, ne_eqb, ltb-true, eqb-true}
use Rattle.text.specs.Pick.{pick}
use Rattle.refusals.proofs.First.{refused}
use Rattle.tape.specs.Nodes.{kind_at, link_at, is_open, is_close}
use Rattle.refusals.specs.Refusal.{refuse, broken_links, too_deep}
use Rattle.tape.specs.Reading.{Step, go, stop, closed, step, resume, read}
use Rattle.tape.specs.Forest.{Nested, done, one, inner}
use Rattle.tape.proofs.Nest.{nested-le, close-no-open}
use Rattle.tape.proofs.Machine.{read_step}

-- what the reading may have done at a node when it goes on
data Came (t : List ℕ) (i : ℕ) (s s' : List ℕ) : Type 0 where
  by-leaf : is_open (kind_at t i) ≡ false → is_close (kind_at t i) ≡ false → s ≡ s' → Came t i s s'
  by-open : is_open (kind_at t i) ≡ true → length s < 64 → link_at t i ∷ s ≡ s' → Came t i s s'
  by-close : is_close (kind_at t i) ≡ true → s ≡ i ∷ s' → Came t i s s'
  by-root : is_close (kind_at t i) ≡ true → s ≡ [] → s' ≡ [] → i ≡ link_at t 0 → Came t i s s'

stopped : {A : Type 0} (n : ℕ) (s : List ℕ) → stop n ≡ go s → A
stopped n s e = let z : ◌≡◌ {A = ℕ} 0 1 = cc in absurd (omega arith)

module _ (t : List ℕ) (i : ℕ) (s' : List ℕ) where
  closes : (s : List ℕ) → is_close (kind_at t i) ≡ true → closed (link_at t 0) i s ≡ go s' → Came t i s s'
  closes [] k e = test (eqb i (link_at t 0)) refl e
    where
      test : (b : Bool) → eqb i (link_at t 0) ≡ b → pick b (go []) (stop broken_links) ≡ go s' → Came t i [] s'
      test true q e = let z : s' ≡ [] = cc in by-root k refl z (eqb-true i (link_at t 0) q)
      test false q e = stopped broken_links s' e
  closes (x ∷ s) k e = test (eqb i x) refl e
    where
      test : (b : Bool) → eqb i x ≡ b → pick b (go s) (stop broken_links) ≡ go s' → Came t i (x ∷ s) s'
      test true q e = let h = eqb-true i x q in let z : s ≡ s' = cc in by-close k (cc)
      test false q e = stopped broken_links s' e

  came : (s : List ℕ) → step t i s ≡ go s' → Came t i s s'
  unfolding step
  came s e = test (is_open (kind_at t i)) (is_close (kind_at t i)) (ltb (length s) 64) refl refl refl e
    where
      test : (a b c : Bool) → is_open (kind_at t i) ≡ a → is_close (kind_at t i) ≡ b → ltb (length s) 64 ≡ c → pick a (pick c (go (link_at t i ∷ s)) (stop too_deep)) (pick b (closed (link_at t 0) i s) (go s)) ≡ go s' → Came t i s s'
      test true b true p q r e = let z : link_at t i ∷ s ≡ s' = cc in by-open p (ltb-true (length s) 64 r) z
      test true b false p q r e = stopped too_deep s' e
      test false true c p q r e = closes s q e
      test false false c p q r e = let z : s ≡ s' = cc in by-leaf p q z

module _ (t : List ℕ) (i : ℕ) where
  step-wrong : (x : ℕ) (s : List ℕ) → is_close (kind_at t i) ≡ true → (i ≡ x → ⊥) → step t i (x ∷ s) ≡ stop 7
  unfolding step
  step-wrong x s k h = rw (close-no-open (kind_at t i) k, k, ne_eqb i x h)

  pub step-top : (s : List ℕ) → is_close (kind_at t i) ≡ true → step t i (i ∷ s) ≡ go s
  unfolding step
  step-top s k = rw (close-no-open (kind_at t i) k, k, eq-eqb i i refl)

  pub step-root : is_close (kind_at t i) ≡ true → i ≡ link_at t 0 → step t i [] ≡ go []
  unfolding step
  step-root k h = rw (close-no-open (kind_at t i) k, k, eq-eqb i (link_at t 0) h)

  pub step-opens : (s : List ℕ) → is_open (kind_at t i) ≡ true → length s < 64 → step t i s ≡ go (link_at t i ∷ s)
  unfolding step
  step-opens s k h = rw (k, lt-ltb (length s) 64 h)

  pub step_other : (s : List ℕ) → is_open (kind_at t i) ≡ false → is_close (kind_at t i) ≡ false → step t i s ≡ go s
  unfolding step
  step_other s k h = rw (k, h)

-- the run up to the close on top of the awaited links nests, and the run after that close up to the next, and so on to the root's link
abbrev Frames : List ℕ → ℕ → ℕ → ℕ → List ℕ → Type 0
Frames t m d i [] = Nested t d i m
Frames t m d i (x ∷ s) = Nested t d i x × (is_close (kind_at t x) ≡ true) × Frames t m (suc d) (x + 1) s

frames-leaf : (t : List ℕ) (m d i : ℕ) (s : List ℕ) → is_open (kind_at t i) ≡ false → is_close (kind_at t i) ≡ false → Frames t m d (i + 1) s → Frames t m d i s
frames-leaf t m d i [] h z f = one h z f
frames-leaf t m d i (x ∷ s) h z f = (one h z f.0, f.1, f.2)

frames-open : (t : List ℕ) (m d i : ℕ) (s : List ℕ) → is_open (kind_at t i) ≡ true → Frames t m d (i + 1) (link_at t i ∷ s) → Frames t m (suc d) i s
frames-open t m d i [] h f = inner h f.1 f.0 f.2
frames-open t m d i (x ∷ s) h f = (inner h f.1 f.0 f.2.0, f.2.1, f.2.2)

-- the root's link is the number of nodes, or the last node, a close that no open has for its link
pub record Rooted (t : List ℕ) (n : ℕ) : Type 0 where
  pub place : (link_at t 0 ≡ n) ⊎ ((link_at t 0 + 1 ≡ n) × (is_close (kind_at t (link_at t 0)) ≡ true))
  pub alone : link_at t 0 + 1 ≡ n → (i : ℕ) → 1 ≤ i → i < n → is_open (kind_at t i) ≡ true → link_at t i ≡ link_at t 0 → ⊥

-- no awaited link is the root's, unless that is past the last node
abbrev Apart : List ℕ → ℕ → List ℕ → Type 0
Apart t n [] = Unit {0}
Apart t n (x ∷ s) = (link_at t 0 + 1 ≡ n → x ≡ link_at t 0 → ⊥) × Apart t n s

module _ (t : List ℕ) (n : ℕ) (root : Rooted t n) where
  abbrev m : ℕ
  m = link_at t 0

  m-le : m ≤ n
  m-le = go root.place
    where
      go : (m ≡ n) ⊎ ((m + 1 ≡ n) × (is_close (kind_at t m) ≡ true)) → m ≤ n
      go (inl e) = omega arith
      go (inr e) = omega (arith, e.0)

  -- at the root's link nothing is awaited
  sound-end : (d : ℕ) (s : List ℕ) → Apart t n s → read t (n - m) m s ≡ None → Frames t m d m s
  unfolding read
  sound-end d s a e = go root.place s a e
    where
      go : (m ≡ n) ⊎ ((m + 1 ≡ n) × (is_close (kind_at t m) ≡ true)) → (s : List ℕ) → Apart t n s → read t (n - m) m s ≡ None → Frames t m d m s
      go q [] a e = done refl
      go (inl q) (x ∷ s) a e = let z : n - m ≡ 0 = omega arith in refused _ (rw z at e)
      go (inr q) (x ∷ s) a e =
          let wrong = step-wrong t m x s q.1 (λ z. a.0 q.0 (sym z)) in
          let is : read t (n - m) m (x ∷ s) ≡ refuse broken_links m = read_step t m n (x ∷ s) (omega (arith, q.0)) ∙ rw wrong in
          refused _ (sym is ∙ e)

  -- a step, from what holds after it
  sound-step : (i d : ℕ) (s s' : List ℕ) → 1 ≤ i → i < m → Came t i s s' → d + length s ≡ 64 → Apart t n s → ((d' : ℕ) → d' + length s' ≡ 64 → Apart t n s' → Frames t m d' (i + 1) s') → Frames t m d i s
  sound-step i d s s' g l (by-leaf h z e) q a after =
      let k = ap length e in
      rw e (frames-leaf t m d i s' h z (after d (omega arith) (rw e at a)))
  sound-step i d s s' g l (by-open h b e) q a after =
      let k : suc (length s) ≡ length s' = ap length e in
      let apart : Apart t n (link_at t i ∷ s) = (λ w z. root.alone w i g (omega (arith, m-le)) h z, a) in
      let f : Frames t m (d - 1) (i + 1) s' = after (d - 1) (omega arith) (subst (Apart t n) e apart) in
      let z : suc (d - 1) ≡ d = omega arith in
      subst (λ (x : ℕ). Frames t m x i s) z (frames-open t m (d - 1) i s h (subst (λ (x : List ℕ). Frames t m (d - 1) (i + 1) x) (sym e) f))
  sound-step i d s s' g l (by-close h e) q a after =
      let k : length s ≡ suc (length s') = ap length e in
      let apart : Apart t n (i ∷ s') = rw e at a in
      rw e (done refl, h, after (suc d) (omega arith) apart.1)
  sound-step i d s s' g l (by-root h e f z) q a after = absurd (omega arith)

  sound : (k i d : ℕ) (s : List ℕ) → i + k ≡ m → 1 ≤ i → d + length s ≡ 64 → Apart t n s → read t (n - i) i s ≡ None → Frames t m d i s
  sound zero i d s p g q a e =
      let z : i ≡ m = omega arith in
      subst (λ (x : ℕ). Frames t m d x s) (sym z) (sound-end d s a (subst (λ (x : ℕ). read t (n - x) x s ≡ None) z e))
  sound (suc k) i d s p g q a e = test (λ d' s' q' a' e'. sound k (i + 1) d' s' (omega arith) (omega arith) q' a' e') (step t i s) refl (sym (read_step t i n s (omega (arith, m-le))) ∙ e)
    where
      test : ((d' : ℕ) (s' : List ℕ) → d' + length s' ≡ 64 → Apart t n s' → read t (n - (i + 1)) (i + 1) s' ≡ None → Frames t m d' (i + 1) s') → (r : Step) → step t i s ≡ r → resume r i (read t (n - (i + 1)) (i + 1)) ≡ None → Frames t m d i s
      test after (stop number) w e = refused _ e
      test after (go s') w e = sound-step i d s s' g (omega arith) (came t i s' s w) q a (λ d' q' a'. after d' s' q' a' e)

  pub reads-nested : 1 ≤ m → read t (n - 1) 1 [] ≡ None → Nested t 64 1 m
  reads-nested g e = sound (m - 1) 1 64 [] (omega arith) (omega arith) refl tt e

  -- a run that nests is passed, whatever is awaited
  complete : {d a b : ℕ} → Nested t d a b → (s : List ℕ) → d + length s ≤ 64 → b ≤ n → read t (n - a) a s ≡ read t (n - b) b s
  complete (done e) s h l = rw e
  complete {d} {a} {b} (one p z r) s h l =
      let k = nested-le r in
      read_step t a n s (omega arith) ∙ rw (step_other t a s p z) (complete r s h l)
  complete {a} {b} (inner {d} p z c r) s h l =
      let k = nested-le r in
      let j = nested-le c in
      read_step t a n s (omega arith)
      ∙ rw (step-opens t a s p (omega arith)) (complete c (link_at t a ∷ s) (omega arith) (omega arith))
      ∙ read_step t (link_at t a) n (link_at t a ∷ s) (omega arith)
      ∙ rw (step-top t (link_at t a) s z) (complete r s h l)

  pub nested-reads : Nested t 64 1 m → read t (n - 1) 1 [] ≡ None
  unfolding read
  nested-reads h = complete h [] (omega arith) m-le ∙ go root.place
    where
      go : (m ≡ n) ⊎ ((m + 1 ≡ n) × (is_close (kind_at t m) ≡ true)) → read t (n - m) m [] ≡ None
      go (inl e) = let z : n - m ≡ 0 = omega arith in rw z
      go (inr e) =
          let z : n - (m + 1) ≡ 0 = omega (arith, e.0) in
          read_step t m n [] (omega (arith, e.0)) ∙ rw (step-root t m e.1 refl, z)
