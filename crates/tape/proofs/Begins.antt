-- Two documents that begin alike: the longer's forest is the shorter's with more siblings after it.
-- Assumes nothing.
use Prim.Native.Nat.{ℕ, suc, ◌+◌, ◌*◌, ◌<◌, ◌≤◌}
use native.Mathlib.Decide.{dec_lt, ℕ_discrete}
use native.Mathlib.Omega.{arith}
use mathlib.Core.Path.{◌≡◌, refl, sym, ap, subst, ◌∙◌}
use mathlib.Core.Bool.{Bool, true, false, false≢true, ◌||◌}
use mathlib.Core.List.{List, ◌++◌}
use mathlib.Core.Logic.{◌⊎◌, inl, inr}
use lib.ListN.{length, take, drop, length-drop}
use lib.Seq.{take-append-le, drop-append-le}
use borrow.Author.Tests.{ltb-false}
use Rattle.text.specs.Pick.{Part, cut}
use Rattle.tape.specs.Nodes.{node_at, half, word, count, kind_at, start_at, len_at, link_at, span, is_open, is_close}
use Rattle.tape.specs.Forest.{followed, forest, Nested, done, one, inner, Accepted, top}
use Rattle.tape.specs.Alike.{Alike}
use Rattle.tape.proofs.Nest.{close-no-open, nested-le, forest-join, forest-same}
use Rattle.tape.proofs.OneNumber.{rooted}

-- kinds and links that are the same nest alike
pub nested_same : {t t' : List ℕ} {d a b : ℕ} → Nested t d a b → ((i : ℕ) → a ≤ i → i < b → (kind_at t i ≡ kind_at t' i) × (link_at t i ≡ link_at t' i)) → Nested t' d a b
nested_same (done e) same = done e
nested_same {t} {t'} {d} {a} {b} (one h z r) same =
    let l = nested-le r in
    let k = (same a (omega arith) (omega arith)).0 in
    one (ap is_open (sym k) ∙ h) (ap is_close (sym k) ∙ z) (nested_same r (λ i g q. same i (omega arith) q))
nested_same {t} {t'} {a} {b} (inner {d} h z c r) same =
    let l = nested-le r in
    let m = nested-le c in
    let e = same a (omega arith) (omega arith) in
    let q = (same (link_at t a) (omega arith) (omega arith)).0 in
    let c' : Nested t' d (a + 1) (link_at t a) = nested_same c (λ i g k. same i (omega arith) (omega arith)) in
    let r' : Nested t' (suc d) (link_at t a + 1) b = nested_same r (λ i g k. same i (omega arith) k) in
    inner (ap is_open (sym e.0) ∙ h) (ap (λ (n : ℕ). is_close (kind_at t' n)) (sym e.1) ∙ ap is_close (sym q) ∙ z) (subst (λ (n : ℕ). Nested t' d (a + 1) n) e.1 c') (subst (λ (n : ℕ). Nested t' (suc d) (n + 1) b) e.1 r')

-- what is left of a run after a beginning of it
pub nested-rest : {t : List ℕ} {d e a m b : ℕ} → Nested t e a m → Nested t d a b → m ≤ b → Nested t d m b
nested-rest {t} {d} {e} {a} {m} {b} (done q) y l = subst (λ (i : ℕ). Nested t d i b) q y
nested-rest (one h z r) (done q) l = let k = nested-le r in absurd (omega arith)
nested-rest (one h z r) (one h' z' r') l = nested-rest r r' l
nested-rest (one h z r) (inner h' z' c' r') l = absurd (false≢true (sym h ∙ h'))
nested-rest (inner h z c r) (done q) l =
    let k = nested-le r in
    let j = nested-le c in
    absurd (omega arith)
nested-rest (inner h z c r) (one h' z' r') l = absurd (false≢true (sym h' ∙ h))
nested-rest (inner h z c r) (inner h' z' c' r') l = nested-rest r r' l

-- a close of a run is the link of an open of it
pub record ClosedBy (t : List ℕ) (a i : ℕ) : Type 0 where
  pub opener : ℕ
  pub from : a ≤ opener
  pub earlier : opener < i
  pub opens : is_open (kind_at t opener) ≡ true
  pub links : link_at t opener ≡ i

pub nested-close : {t : List ℕ} {d a b : ℕ} → Nested t d a b → (i : ℕ) → a ≤ i → i < b → is_close (kind_at t i) ≡ true → ClosedBy t a i
nested-close (done e) i g l q = absurd (omega arith)
nested-close {t} {d} {a} {b} (one h z r) i g l q = choose (ℕ_discrete a i) (λ k. nested-close r i k l q)
  where
    choose : Dec (a ≡ i) → (a + 1 ≤ i → ClosedBy t (a + 1) i) → ClosedBy t a i
    choose (yes x) later = absurd (false≢true (sym z ∙ rw x q))
    choose (no x) later =
        let w = later (omega arith) in
        let f = w.from in
        record { opener = w.opener; from = omega arith; earlier = w.earlier; opens = w.opens; links = w.links }
nested-close {t} {a} {b} (inner {d} h z c r) i g l q =
    choose (ℕ_discrete a i) (dec_lt i (link_at t a)) (ℕ_discrete i (link_at t a)) (nested-le c) (nested-le r) (λ j k. nested-close c i j k q) (λ k. nested-close r i k l q)
  where
    choose : Dec (a ≡ i) → Dec (i < link_at t a) → Dec (i ≡ link_at t a) → a + 1 ≤ link_at t a → link_at t a + 1 ≤ b → (a + 1 ≤ i → i < link_at t a → ClosedBy t (a + 1) i) → (link_at t a + 1 ≤ i → ClosedBy t (link_at t a + 1) i) → ClosedBy t a i
    choose (yes x) u v m n f k = absurd (false≢true (sym (close-no-open (kind_at t a) (rw x q)) ∙ h))
    choose (no x) (yes u) v m n f k =
        let w = f (omega arith) u in
        let y = w.from in
        record { opener = w.opener; from = omega arith; earlier = w.earlier; opens = w.opens; links = w.links }
    choose (no x) (no u) (yes v) m n f k = record { opener = a; from = omega arith; earlier = omega arith; opens = h; links = sym v }
    choose (no x) (no u) (no v) m n f k =
        let w = k (omega arith) in
        let y = w.from in
        record { opener = w.opener; from = omega arith; earlier = w.earlier; opens = w.opens; links = w.links }

-- a part of a text is the same part of a longer one
cut-append : (p : Part) (s more : List ℕ) → p.start + p.len ≤ length s → cut p (s ++ more) ≡ cut p s
cut-append p s more h =
    ap (take p.len) (drop-append-le p.start s more (omega arith)) ∙ take-append-le p.len (drop p.start s) more (omega (arith, length-drop p.start s))

module _ (s t s' t' : List ℕ) (short : Accepted s t) (long : Accepted s' t') (alike : Alike s t s' t') where
  abbrev m : ℕ
  m = link_at t 0

  same_half : (k : ℕ) → 16 ≤ k → k + 1 < 16 * m → half t k ≡ half t' k
  unfolding half
  same_half k g l = rw (alike.nodes k (omega arith) (omega arith), alike.nodes (k + 1) (omega arith) (omega arith))

  same_word : (k : ℕ) → 16 ≤ k → k + 3 < 16 * m → word t k ≡ word t' k
  unfolding word
  same_word k g l =
      rw (alike.nodes k (omega arith) (omega arith), alike.nodes (k + 1) (omega arith) (omega arith), alike.nodes (k + 2) (omega arith) (omega arith), alike.nodes (k + 3) (omega arith) (omega arith))

  same_kind : (i : ℕ) → 1 ≤ i → i < m → kind_at t i ≡ kind_at t' i
  same_kind i g l = alike.nodes (16 * i) (omega arith) (omega arith)

  same-link : (i : ℕ) → 1 ≤ i → i < m → link_at t i ≡ link_at t' i
  same-link i g l = same_word (16 * i + 12) (omega arith) (omega arith)

  -- the shorter's run nests in the longer
  beginning : Nested t' 64 1 m
  beginning = nested_same short.nested (λ i g l. (same_kind i g l, same-link i g l))

  -- it ends no later than the longer's run
  pub top-later : m ≤ link_at t' 0
  top-later = go (rooted s' t' long.sized long.root).place (rooted s' t' long.sized long.root).alone
    where
      go : (link_at t' 0 ≡ count t') ⊎ ((link_at t' 0 + 1 ≡ count t') × (is_close (kind_at t' (link_at t' 0)) ≡ true)) → (link_at t' 0 + 1 ≡ count t' → (i : ℕ) → 1 ≤ i → i < count t' → is_open (kind_at t' i) ≡ true → link_at t' i ≡ link_at t' 0 → ⊥) → m ≤ link_at t' 0
      go (inl e) alone = let l = alike.longer in omega arith
      go (inr e) alone = choose (dec_lt (link_at t' 0) m)
        where
          choose : Dec (link_at t' 0 < m) → m ≤ link_at t' 0
          choose (no x) = omega arith
          choose (yes x) =
              let h = nested-le long.nested in
              let w = nested-close beginning (link_at t' 0) h x e.1 in
              absurd (alone e.0 w.opener w.from (omega (arith, w.earlier, e.0)) w.opens w.links)

  same_text : (i : ℕ) → 1 ≤ i → i < m → cut (span t i) s ≡ cut (span t i) s'
  same_text i g l =
      let r = (rooted s t short.sized short.root).place in
      let inside : i < count t = below r in
      let fits = ltb-false (length s) (start_at t i + len_at t i) (left _ _ (short.spans i g inside)) in
      rw alike.source (sym (cut-append (span t i) s alike.added fits))
    where
      left : (a b : Bool) → (a || b) ≡ false → a ≡ false
      left true b e = absurd (false≢true (sym e))
      left false b e = refl

      below : (link_at t 0 ≡ count t) ⊎ ((link_at t 0 + 1 ≡ count t) × (is_close (kind_at t (link_at t 0)) ≡ true)) → i < count t
      below (inl e) = omega arith
      below (inr e) = omega (arith, e.0)

  same-node : (i : ℕ) → 1 ≤ i → i < m → node_at s t i ≡ node_at s' t' i
  same-node i g l =
      let k = same_kind i g l in
      let mk = same_half (16 * i + 2) (omega arith) (omega arith) in
      let st = same_word (16 * i + 4) (omega arith) (omega arith) in
      let ln = same_word (16 * i + 8) (omega arith) (omega arith) in
      let lk = same-link i g l in
      let tx = same_text i g l in
      rw (tx, k, mk, st, ln, lk)

  -- what the longer has after the shorter's nodes
  pub rest-nested : Nested t' 64 m (link_at t' 0)
  rest-nested = nested-rest beginning long.nested top-later

  pub top-longer : top s' t' ≡ followed (top s t) (forest s' t' m (link_at t' 0))
  top-longer = forest-join s' t' beginning rest-nested ∙ ap (λ f. followed f (forest s' t' m (link_at t' 0))) (sym (forest-same s s' t t' 1 m (λ i g l. same-node i g l)))
