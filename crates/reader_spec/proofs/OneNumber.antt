-- Document 02, K5: each number of the reader is given exactly under its own condition.
-- Assumes nothing.
use Prim.Native.Nat.{ℕ, zero, suc, ◌+◌, ◌<◌, ◌≤◌}
use native.Mathlib.Decide.{dec_lt}
use native.Mathlib.Omega.{arith}
use mathlib.Core.Path.{◌≡◌, refl, sym, ap, subst, ◌∙◌}
use mathlib.Core.Bool.{Bool, true, false}
use mathlib.Core.List.{List, [], ◌∷◌}
use mathlib.Core.Logic.{◌↔◌, ◌⊎◌, inl, inr}
use Rattle.std.specs.Prelude.{Option, Some, None}
use lib.Dec.{ltb}
use lib.ListN.{length, drop, length-drop}
use borrow.Author.Tests.{ltb-true, ltb-false, lt-ltb, le-ltb}
use Rattle.text.specs.Pick.{pick}
use Rattle.text.specs.Utf8.{Made, first_ill_formed}
use Rattle.text.proofs.Bool.{and_left}
use Rattle.text.proofs.Exact.{utf8-exact, utf8-place}
use Rattle.refusals.specs.Refusal.{Refusal, refuse, only_if, or_else, bad_table_layout, source_too_long, source_not_utf8, unknown_marker, unmatched_marker, node_list_too_short}
use Rattle.tape.specs.Nodes.{count}
use Rattle.table.specs.Lines.{bad_table}
use Rattle.table.proofs.NumberOne.{one-number-1, number-1-one}
use Rattle.refusals.specs.Refusal.{at_place}
use Rattle.reader_spec.specs.Pieces.{backslash, byte_is, size_of, piece_at}
use Rattle.reader_spec.specs.Pass.{ReadNode, OpenMarker, ReadState, nothing_open, PieceStep, goes, stops, piece_step, PassOutcome, passed, faulty, with_nodes, pass_on, pass_end, outcome}
use Rattle.reader_spec.specs.Rows.{node_count}
use Rattle.reader_spec.specs.Answer.{pass_refusal, read_refusal}
use Rattle.reader_spec.specs.Promise.{Legible}
use Rattle.reader_spec.specs.Conditions.{is_unknown, is_unmatched, some_open, PassReaches, start, next, UnknownAt, UnmatchedAt, EndsOpen, GivenRead, by1, by2, by3, by16, by17, by18, by_none}
use Rattle.reader_spec.specs.InnerSteps.{pass_at}
use Rattle.reader_spec.proofs.Below.{byte-there}
use Rattle.reader_spec.proofs.Faults.{stop_of, step-number}
use Rattle.reader_spec.proofs.Steps.{here-some, here-inside, here-made, pass_step, pass-end}

-- which of two numbers it is
which-number : (k : ℕ) (x y : Bool) → Some k ≡ pick x (Some unknown_marker) (pick y (Some unmatched_marker) None) → ((k ≡ unknown_marker) × (x ≡ true)) ⊎ ((k ≡ unmatched_marker) × (x ≡ false) × (y ≡ true))
which-number k true y e = let z : k ≡ unknown_marker = cc in inl (z, refl)
which-number k false true e = let z : k ≡ unmatched_marker = cc in inr (z, refl, refl)
which-number k false false e = let z : ◌≡◌ {A = ℕ} 0 1 = cc in absurd (omega arith)

stop_is : (x : PieceStep) (k : ℕ) → stop_of x ≡ Some k → x ≡ stops k
stop_is (goes ns st) k e = let z : ◌≡◌ {A = ℕ} 0 1 = cc in absurd (omega arith)
stop_is (stops n) k e = let z : n ≡ k = cc in ap stops z

module _ (t s : List ℕ) (legible : Legible t s) where
  -- what a fault of the pass is
  abbrev Fault : ℕ → ℕ → Type 0
  Fault k p = ((k ≡ unknown_marker) × UnknownAt t s p) ⊎ ((k ≡ unmatched_marker) × (UnmatchedAt t s p ⊎ EndsOpen t s p))

  text-made : Made s
  text-made = (utf8-exact s).0 legible.utf8

  stopping : (at : ℕ) (st : ReadState) (k : ℕ) → PassReaches t s at st → piece_step st.block st.opened at (piece_at t (drop at s)) ≡ stops k → Fault k at
  stopping at st k r q = go (which-number k (is_unknown t (drop at s)) (is_unmatched t (drop at s) st.opened) (sym (ap stop_of q) ∙ step-number t (drop at s) st.block st.opened at))
    where
      go : ((k ≡ unknown_marker) × (is_unknown t (drop at s) ≡ true)) ⊎ ((k ≡ unmatched_marker) × (is_unknown t (drop at s) ≡ false) × (is_unmatched t (drop at s) st.opened ≡ true)) → Fault k at
      go (inl e) = inl (e.0, record { held = st; comes = r; is = e.1 })
      go (inr e) = inr (e.0, inl (record { held = st; comes = r; known = e.1; is = e.2 }))

  ending : (at : ℕ) (st : ReadState) (k p : ℕ) → at ≡ length s → PassReaches t s at st → pass_at t s at st ≡ faulty k p → Fault k p
  ending at st k p h r e = go st.opened refl (sym (pass-end t s at st (omega arith)) ∙ e)
    where
      go : (os : List OpenMarker) → st.opened ≡ os → pass_end st.block os at ≡ faulty k p → Fault k p
      go [] q e = let z : ◌≡◌ {A = ℕ} 0 1 = cc in absurd (omega arith)
      go (o ∷ os) q e =
          let a : unmatched_marker ≡ k = cc in
          let b : at ≡ p = cc in
          inr (sym a, inr (record { held = st; comes = rw b at r; at_end = sym b ∙ h; is = rw q }))

  later-fault : (ns : List ReadNode) (o : PassOutcome) (k p : ℕ) → with_nodes ns o ≡ faulty k p → o ≡ faulty k p
  later-fault ns (passed xs) k p e = let z : ◌≡◌ {A = ℕ} 0 1 = cc in absurd (omega arith)
  later-fault ns (faulty n q) k p e = e

  found : (fuel at : ℕ) (st : ReadState) (k p : ℕ) → length s ≤ at + fuel → at ≤ length s → Made (drop at s) → PassReaches t s at st → pass_at t s at st ≡ faulty k p → Fault k p
  found zero at st k p f h m r e = let z : at ≡ length s = omega arith in ending at st k p z r e
  found (suc fuel) at st k p f h m r e = turn (dec_lt at (length s)) (λ at' st' a b c d x. found fuel at' st' k p a b c d x)
    where
      turn : Dec (at < length s) → ((at' : ℕ) (st' : ReadState) → length s ≤ at' + fuel → at' ≤ length s → Made (drop at' s) → PassReaches t s at' st' → pass_at t s at' st' ≡ faulty k p → Fault k p) → Fault k p
      turn (no n) later = let z : at ≡ length s = omega arith in ending at st k p z r e
      turn (yes i) later = go (piece_step st.block st.opened at (piece_at t (drop at s))) refl (sym (pass_step t s at legible.table m i st) ∙ e)
        where
          go : (x : PieceStep) → piece_step st.block st.opened at (piece_at t (drop at s)) ≡ x → pass_on x at (pass_at t s (at + size_of (piece_at t (drop at s)))) ≡ faulty k p → Fault k p
          go (goes ns st') q e =
              let size = here-some t s at legible.table m i in
              let bound : length s ≤ at + size_of (piece_at t (drop at s)) + fuel = omega arith in
              later (at + size_of (piece_at t (drop at s))) st' bound (here-inside t s at legible.table m i) (here-made t s at legible.table m i) (next r i q refl) (later-fault ns _ k p e)
          go (stops n) q e =
              let a : n ≡ k = cc in
              let b : at ≡ p = cc in
              rw (a, b) at (stopping at st n r q)

  -- a fault of the pass is one of the conditions
  fault-there : (k p : ℕ) → outcome t s ≡ faulty k p → Fault k p
  unfolding outcome
  fault-there k p e = found (length s) 0 nothing_open k p (omega arith) (omega arith) text-made start e

  -- and each condition is a fault of the pass
  reach-made : {at : ℕ} {st : ReadState} → PassReaches t s at st → Made (drop at s)
  reach-made start = text-made
  reach-made (next r i q e) = rw e (here-made t s _ legible.table (reach-made r) i)

  back : {at : ℕ} {st : ReadState} (k p : ℕ) → PassReaches t s at st → pass_at t s at st ≡ faulty k p → outcome t s ≡ faulty k p
  unfolding outcome
  back k p start e = e
  back k p (next {at} {to} {st} {st'} {ns} r i q z) e =
      back k p r (pass_step t s at legible.table (reach-made r) i st ∙ rw (q, ← z, e))

  stop-back : (k p : ℕ) (st : ReadState) → PassReaches t s p st → byte_is backslash (drop p s) 0 ≡ true → stop_of (piece_step st.block st.opened p (piece_at t (drop p s))) ≡ Some k → outcome t s ≡ faulty k p
  stop-back k p st r b e =
      let i = (byte-there backslash (drop p s) 0 (omega arith) b).inside in
      let inside : p < length s = omega (arith, length-drop p s) in
      back k p r (pass_step t s p legible.table (reach-made r) inside st ∙ ap (λ (x : PieceStep). pass_on x p (pass_at t s (p + size_of (piece_at t (drop p s))))) (stop_is (piece_step st.block st.opened p (piece_at t (drop p s))) k e))

  unknown-back : (p : ℕ) → UnknownAt t s p → outcome t s ≡ faulty unknown_marker p
  unknown-back p f = stop-back unknown_marker p f.held f.comes (and_left _ _ f.is) (step-number t (drop p s) f.held.block f.held.opened p ∙ rw f.is)

  unmatched-back : (p : ℕ) → UnmatchedAt t s p → outcome t s ≡ faulty unmatched_marker p
  unmatched-back p f = stop-back unmatched_marker p f.held f.comes (and_left _ _ f.is) (step-number t (drop p s) f.held.block f.held.opened p ∙ rw (f.known, f.is))

  open-back : (p : ℕ) → EndsOpen t s p → outcome t s ≡ faulty unmatched_marker p
  open-back p f = let z = f.at_end in back unmatched_marker p f.comes (pass-end t s p f.held (omega arith) ∙ go f.held.opened f.is)
    where
      go : (os : List OpenMarker) → some_open os ≡ true → pass_end f.held.block os p ≡ faulty unmatched_marker p
      go [] h = let z : ◌≡◌ {A = ℕ} 0 1 = cc in absurd (omega arith)
      go (o ∷ os) h = refl

-- the numbers in checking order
module _ (t s nodes : List ℕ) where
  fault-given : (k p : ℕ) (l : Legible t s) → Fault t s l k p → GivenRead t s nodes (refuse k p)
  fault-given k p l (inl f) = rw f.0 (by16 p l f.1)
  fault-given k p l (inr f) = rw f.0 (by17 p l f.1)

  given : GivenRead t s nodes (read_refusal t s nodes)
  unfolding read_refusal
  given = first (bad_table t) refl
    where
      fourth : Legible t s → (o : PassOutcome) → outcome t s ≡ o → GivenRead t s nodes (pass_refusal (count nodes) o)
      fourth l (faulty k p) q = fault-given k p l (fault-there t s l k p q)
      fourth l (passed xs) q = room (ltb (count nodes) (node_count xs)) refl
        where
          room : (x : Bool) → ltb (count nodes) (node_count xs) ≡ x → GivenRead t s nodes (only_if x (refuse node_list_too_short (node_count xs)))
          room true e = by18 xs l q (ltb-true (count nodes) (node_count xs) e)
          room false e = by_none xs l q (ltb-false (count nodes) (node_count xs) e)

      third : bad_table t ≡ None → length s ≤ 1048576 → (x : Option ℕ) → first_ill_formed s ≡ x → GivenRead t s nodes (or_else (at_place source_not_utf8 x) (pass_refusal (count nodes) (outcome t s)))
      third g h (Some p) e = by3 p g h ((utf8-place s p).0 e)
      third g h None e = fourth (record { table = g; short = h; utf8 = e }) (outcome t s) refl

      second : bad_table t ≡ None → (x : Bool) → ltb 1048576 (length s) ≡ x → GivenRead t s nodes (or_else (only_if x (refuse source_too_long 0)) (or_else (at_place source_not_utf8 (first_ill_formed s)) (pass_refusal (count nodes) (outcome t s))))
      second g true e = by2 g (ltb-true 1048576 (length s) e)
      second g false e = third g (ltb-false 1048576 (length s) e) (first_ill_formed s) refl

      first : (x : Option ℕ) → bad_table t ≡ x → GivenRead t s nodes (or_else (at_place bad_table_layout x) (or_else (only_if (ltb 1048576 (length s)) (refuse source_too_long 0)) (or_else (at_place source_not_utf8 (first_ill_formed s)) (pass_refusal (count nodes) (outcome t s)))))
      first (Some p) e = by1 p (one-number-1 t p e)
      first None e = second e (ltb 1048576 (length s)) refl

  past_three : Legible t s → read_refusal t s nodes ≡ pass_refusal (count nodes) (outcome t s)
  unfolding read_refusal
  past_three l = rw (l.table, le-ltb 1048576 (length s) l.short, l.utf8)

  given_back : (o : Option Refusal) → GivenRead t s nodes o → read_refusal t s nodes ≡ o
  unfolding read_refusal
  given_back _ (by1 p g) = rw (number-1-one t p g)
  given_back _ (by2 g h) = rw (g, lt-ltb 1048576 (length s) h)
  given_back _ (by3 p g h u) = rw (g, le-ltb 1048576 (length s) h, (utf8-place s p).1 u)
  given_back _ (by16 p l f) = past_three l ∙ rw (unknown-back t s l p f)
  given_back _ (by17 p l (inl f)) = past_three l ∙ rw (unmatched-back t s l p f)
  given_back _ (by17 p l (inr f)) = past_three l ∙ rw (open-back t s l p f)
  given_back _ (by18 xs l q h) = past_three l ∙ rw (q, lt-ltb (count nodes) (node_count xs) h)
  given_back _ (by_none xs l q h) = past_three l ∙ rw (q, le-ltb (count nodes) (node_count xs) h)

  pub read_number : (o : Option Refusal) → (read_refusal t s nodes ≡ o) ↔ GivenRead t s nodes o
  read_number o = (λ e. subst (GivenRead t s nodes) e given, given_back o)
