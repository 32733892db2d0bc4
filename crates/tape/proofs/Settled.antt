-- The two quick passes: kinds and spans that show that they are good, opens and closes that pair, and what follows for the whole.
-- Assumes nothing.
use mathlib.Core.Path.{◌≡◌, refl, sym, ap, ◌∙◌}
use mathlib.Core.Bool.{Bool, true, false, not, ◌&&◌, ◌||◌, false≢true}
use mathlib.Core.List.{List, [], ◌∷◌}
use mathlib.Core.Logic.{◌⊎◌, inl, inr}
use Rattle.std.specs.Prelude.{None}
use Prim.Native.Nat.{ℕ, zero, suc, ◌+◌, ◌-◌, ◌<◌, ◌≤◌}
use native.Mathlib.Numerals.{add-one}
use native.Mathlib.Decide.{ℕ_discrete}
use native.Mathlib.Omega.{arith}
use lib.Dec.{eqb}
use lib.ListN.{length, get_or, set, drop, length-set, length-drop}
use lib.Seq.{get_or-set_other}
use borrow.Author.Tests.{eqb-true, eqb-false, ne_eqb, not-false}
use Rattle.text.specs.Pick.{within, pick}
use Rattle.tape.specs.Nodes.{count, kind_at, link_at, is_open, is_close, marker_open_kind}
use Rattle.refusals.specs.Refusal.{first_bad, bad_node_kind, bad_node_span, broken_links}
use Rattle.tape.specs.Reading.{bad_kind, bad_span, opens_to, good_root, go, step, read}
use Rattle.tape.specs.Inner.{Sized, stacked, root_by, from_one, Clear, Apart, Paired}
use Rattle.tape.proofs.Nest.{close-no-open}
use Rattle.tape.proofs.Machine.{read_step}
use Rattle.tape.proofs.Accept.{step-top, step-root, step-opens, step_other}
use Rattle.tape.proofs.Stack.{stacked-length, stacked-set, stacked-push, stacked-pop}
use Rattle.refusals.proofs.First.{first-pass, first-end}
use Rattle.tape.proofs.Whole.{kind-step, count-is, root_by_lem}
use Rattle.text.proofs.Bool.{or_parts}

-- kinds and spans, a node at a time
module _ (s t : List ℕ) (n i : ℕ) where
  pub clear-turn : (kind : ℕ) (x : Bool) → 1 ≤ i → i < n → kind ≡ kind_at t i → x ≡ not (within 1 8 kind) → x ≡ false → bad_span s t i ≡ false → Clear s t n (i + 1) → Clear s t n i
  clear-turn kind x a h e f test g c =
      record {
        kinds = first-pass bad_node_kind (bad_kind t) n i h (kind-step t i kind x false a e f test) ∙ c.kinds;
        spans = first-pass bad_node_span (bad_span s t) n i h g ∙ c.spans;
      }

  pub clear-done : n ≤ i → Clear s t n i
  clear-done h = record { kinds = first-end bad_node_kind (bad_kind t) n i h; spans = first-end bad_node_span (bad_span s t) n i h }

-- an array without its lowest element
drop-set : (xs : List ℕ) (k v : ℕ) → drop 1 (set xs (k + 1) v) ≡ set (drop 1 xs) k v
drop-set [] k v = refl
drop-set (x ∷ xs) k v = rw add-one refl

drop_get : (xs : List ℕ) (k : ℕ) → (k ≡ 0 → ⊥) → get_or (drop 1 xs) (k - 1) 0 ≡ get_or xs k 0
drop_get xs zero h = absurd (h refl)
drop_get [] (suc k) h = refl
drop_get (x ∷ xs) (suc k) h = let e : suc k - 1 ≡ k = omega arith in rw e

-- what holds at each turn
pub record Pairing (t : List ℕ) (n root : ℕ) (stack : List ℕ) (depth i : ℕ) : Type 0 where
  pub after : 1 ≤ i
  pub within : i ≤ 1 + (root - 1)
  pub room : length stack ≡ 66
  pub low : depth ≤ 64
  pub bottom : get_or stack 0 0 ≡ 0
  pub paired : Paired t n root i (stacked (drop 1 stack) depth)

module _ (t : List ℕ) (n root : ℕ) where
  pub pairing-start : (stack : List ℕ) → length stack ≡ 66 → get_or stack 0 0 ≡ 0 → Pairing t n root stack 0 1
  pairing-start stack room bottom = record { after = omega arith; within = omega arith; room = room; low = omega arith; bottom = bottom; paired = record { opens = λ x. refl; reading = refl } }

  pub pairing-end : (stack : List ℕ) (depth i : ℕ) → Pairing t n root stack depth i → root ≤ i → eqb depth 0 ≡ true → Paired t n root (1 + (root - 1)) []
  pairing-end stack depth i g h e =
      let after = g.after in
      let within = g.within in
      let z : i ≡ 1 + (root - 1) = omega arith in
      rw (z, eqb-true depth 0 e) at g.paired

  -- a node whose step goes on
  paired-on : (i : ℕ) (awaited awaited' : List ℕ) → Paired t n root i awaited → i < n → (Apart root awaited' → (opens_to t root i ≡ false) × Apart root awaited) → step t i awaited ≡ go awaited' → Paired t n root (i + 1) awaited'
  paired-on i awaited awaited' p h f e =
      record { opens = λ x. sym (first-pass broken_links (opens_to t root) n i h (f x).0) ∙ p.opens (f x).1; reading = sym (read_step t i n awaited h ∙ rw e) ∙ p.reading }

  no-open : (i : ℕ) → is_open (kind_at t i) ≡ false → opens_to t root i ≡ false
  no-open i o = rw o

-- a turn of the loop: so many opens, so many closes
pub record Turned (t : List ℕ) (n root : ℕ) (stack : List ℕ) (depth i link up down : ℕ) : Type 0 where
  pub enough : down ≤ depth + up
  pub again : Pairing t n root (set stack (depth + 1) link) (depth + up - down) (i + 1)

module _ (t : List ℕ) (n root : ℕ) (stack : List ℕ) (depth i : ℕ) (g : Pairing t n root stack depth i) (below : i < root) (inside : root ≤ n) where
  abbrev next : List ℕ
  next = set stack (depth + 1) (link_at t i)

  abbrev awaited : List ℕ
  awaited = stacked (drop 1 stack) depth

  pushed : (k : ℕ) → k ≤ depth → stacked (drop 1 next) k ≡ stacked (drop 1 stack) k
  pushed k h = rw (drop-set stack depth (link_at t i)) (stacked-set (drop 1 stack) depth (link_at t i) k h)

  kept : (depth' : ℕ) → depth' ≤ 64 → Paired t n root (i + 1) (stacked (drop 1 next) depth') → Pairing t n root next depth' (i + 1)
  kept depth' low p =
      record {
        after = omega arith;
        within = omega arith;
        room = simp length-set g.room;
        low = low;
        bottom = get_or-set_other stack (depth + 1) 0 (link_at t i) 0 (omega arith) ∙ g.bottom;
        paired = p;
      }

  at_open : is_open (kind_at t i) ≡ true → (depth ≡ 64 → ⊥) → Pairing t n root next (depth + 1) (i + 1)
  at_open o d =
      let low = g.low in
      let room = g.room in
      let long = length-drop 1 stack in
      let e = step-opens t i awaited o (rw (stacked-length (drop 1 stack) depth) (omega arith)) in
      kept (depth + 1) (omega arith) (rw (drop-set stack depth (link_at t i), stacked-push (drop 1 stack) depth (link_at t i) (omega arith)) (paired-on t n root i awaited (link_at t i ∷ awaited) g.paired (omega arith) (λ x. (rw (o, ne_eqb (link_at t i) root x.0), x.1)) e))

  -- the lowest element is no node from 1 on
  some-awaited : get_or stack depth 0 ≡ i → depth ≡ 0 → ⊥
  some-awaited e z =
      let b : get_or stack depth 0 ≡ 0 = ap (λ (k : ℕ). get_or stack k 0) z ∙ g.bottom in
      let after = g.after in
      omega arith

  at-close : is_close (kind_at t i) ≡ true → get_or stack depth 0 ≡ i → Pairing t n root next (depth - 1) (i + 1)
  at-close c e =
      let low = g.low in
      let d = some-awaited e in
      let rest = stacked (drop 1 stack) (depth - 1) in
      let top : awaited ≡ i ∷ rest = stacked-pop (drop 1 stack) depth d ∙ rw (drop_get stack depth d, e) in
      kept (depth - 1) (omega arith) (rw (pushed (depth - 1) (omega arith)) (paired-on t n root i (i ∷ rest) rest (rw top at g.paired) (omega arith) (λ x. (no-open t n root i (close-no-open (kind_at t i) c), (λ z. omega arith, x))) (step-top t i rest c)))

  at_other : is_open (kind_at t i) ≡ false → is_close (kind_at t i) ≡ false → Pairing t n root next depth (i + 1)
  at_other o c = kept depth g.low (rw (pushed depth (omega arith)) (paired-on t n root i awaited awaited g.paired (omega arith) (λ x. (no-open t n root i o, x)) (step_other t i awaited o c)))

  abbrev fails : Bool → Bool → Bool
  fails opens closes = (closes && not (eqb (get_or stack depth 0) i)) || (opens && eqb depth 64)

  turned : (opens closes : Bool) → is_open (kind_at t i) ≡ opens → is_close (kind_at t i) ≡ closes → fails opens closes ≡ false → Turned t n root stack depth i (link_at t i) (pick opens 1 0) (pick closes 1 0)
  turned true true o c e = absurd (false≢true (sym (close-no-open (kind_at t i) c) ∙ o))
  turned true false o c e =
      let z : depth + 1 - 0 ≡ depth + 1 = omega arith in
      record { enough = omega arith; again = rw z (at_open o (eqb-false depth 64 e)) }
  turned false true o c e =
      let top = eqb-true (get_or stack depth 0) i (not-false _ (or_parts _ false e).0) in
      let d = some-awaited top in
      let z : depth + 0 - 1 ≡ depth - 1 = omega arith in
      record { enough = omega arith; again = rw z (at-close c top) }
  turned false false o c e =
      let z : depth + 0 - 0 ≡ depth = omega arith in
      record { enough = omega arith; again = rw z (at_other o c) }

  pub pairing-turn : (kind link : ℕ) (closes : Bool) (up down : ℕ) → kind ≡ kind_at t i → link ≡ link_at t i → closes ≡ is_close kind → up ≡ pick (eqb kind marker_open_kind) 1 0 → down ≡ pick closes 1 0 → ((closes && not (eqb (get_or stack depth 0) i)) || (eqb kind marker_open_kind && eqb depth 64)) ≡ false → Turned t n root stack depth i link up down
  pairing-turn kind link closes up down k l c u d e = rw (u, d, c, k, l) (turned (is_open (kind_at t i)) (is_close (kind_at t i)) refl refl (rw (c, k) at e))

-- the root's link, where no open is known to have it, and the rest
module _ (s t : List ℕ) (n root : ℕ) (size : Sized t n) (link : root ≡ link_at t 0) (good : root_by root n (is_close (kind_at t root)) false ≡ true) where
  root-place : (root ≡ n) ⊎ ((root + 1 ≡ n) × (is_close (kind_at t root) ≡ true))
  root-place = choose (eqb root n) (eqb (root + 1) n) (is_close (kind_at t root)) refl refl refl good
    where
      choose : (a b x : Bool) → eqb root n ≡ a → eqb (root + 1) n ≡ b → is_close (kind_at t root) ≡ x → (a || (b && (x && true))) ≡ true → (root ≡ n) ⊎ ((root + 1 ≡ n) × (is_close (kind_at t root) ≡ true))
      choose true b x p q u e = inl (eqb-true root n p)
      choose false true true p q u e = inr (eqb-true (root + 1) n q, u)
      choose false true false p q u e = absurd (false≢true e)
      choose false false x p q u e = absurd (false≢true e)

  ended_at : (i : ℕ) → n ≤ i → Paired t n root i [] → Clear s t n 1 → from_one s t n ≡ None
  unfolding read
  ended_at i h p c =
      let z : n - i ≡ 0 = omega arith in
      let alone : first_bad broken_links (opens_to t root) 1 (n - 1) ≡ None = sym (p.opens tt) ∙ first-end broken_links (opens_to t root) n i h in
      let root-good : good_root t ≡ true = root_by_lem t n root false (count-is t n size) link (rw alone) ∙ good in
      rw (c.kinds, c.spans, root-good) (sym p.reading ∙ rw z)

  pub settled : Clear s t n 1 → Paired t (count t) root (1 + (root - 1)) [] → from_one s t n ≡ None
  settled c p = choose root-place (ℕ_discrete root 0) (rw (count-is t n size) at p)
    where
      choose : (root ≡ n) ⊎ ((root + 1 ≡ n) × (is_close (kind_at t root) ≡ true)) → Dec (root ≡ 0) → Paired t n root (1 + (root - 1)) [] → from_one s t n ≡ None
      choose (inl e) d w = ended_at (1 + (root - 1)) (omega arith) w c
      choose (inr e) (yes d) w = ended_at (1 + (root - 1)) (omega (arith, e.0)) w c
      choose (inr e) (no d) w =
          let y : 1 + (root - 1) ≡ root = omega arith in
          ended_at (root + 1) (omega (arith, e.0)) (paired-on t n root root [] [] (rw y at w) (omega (arith, e.0)) (λ x. (no-open t n root root (close-no-open (kind_at t root) e.1), x)) (step-root t root e.1 link)) c
