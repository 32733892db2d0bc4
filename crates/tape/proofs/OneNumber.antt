-- Each of the numbers 4 to 8 is given exactly under its own condition, and none exactly for an accepted tape.
-- Assumes nothing.
use Prim.Native.Nat.{ℕ, zero, suc, ◌+◌, ◌-◌, ◌%◌, ◌<◌, ◌≤◌}
use native.Mathlib.Nat.{zero-add}
use native.Mathlib.Numerals.{add-one}
use native.Mathlib.Decide.{ℕ_discrete}
use native.Mathlib.Omega.{arith}
use mathlib.Core.Path.{◌≡◌, refl, sym, subst, ◌∙◌}
use mathlib.Core.Bool.{Bool, true, false, not, false≢true, ◌&&◌, ◌||◌}
use mathlib.Core.List.{List, [], ◌∷◌}
use mathlib.Core.Logic.{◌↔◌, ◌⊎◌, inl, inr}
use Rattle.std.specs.Prelude.{Option, Some, None}
use lib.Dec.{eqb}
use lib.ListN.{length}
use borrow.Author.Tests.{eqb-true, eqb-false, eq-eqb, not-true, not-false}
use Rattle.tape.specs.Nodes.{count, kind_at, link_at, is_open, is_close, root_kind}
use Rattle.refusals.specs.Refusal.{Refusal, refuse, only_if, or_else, first_bad, is_none, First, bad_tape_length, bad_node_kind, bad_node_span, broken_links, too_deep}
use Rattle.tape.specs.Reading.{bad_length, bad_kind, bad_span, opens_to, good_root, Step, go, stop, step, resume, read, tape_refusal}
use Rattle.tape.specs.Conditions.{Reaches, start, next, Stops, LeftOpen, GoodNodes, Gives4, Gives5, Gives6, Gives7, Gives8}
use Rattle.tape.specs.Forest.{Accepted}
use Rattle.tape.proofs.Machine.{read_step, step-odd}
use Rattle.refusals.proofs.First.{which, neither, only, only-not, first_of, none_of, all_none, first-is}
use Rattle.tape.proofs.Accept.{Rooted, reads-nested, nested-reads}
use Rattle.text.proofs.Bool.{or_parts}

-- where the reading stops, and with which number
module _ (t : List ℕ) where
  Ends : ℕ → ℕ → Option Refusal → Type 0
  Ends n i None = Unit {0}
  Ends n i (Some r) = ((r.place < n) × ((s : List ℕ) × Reaches t r.place s × (step t r.place s ≡ stop r.number))) ⊎ ((r.number ≡ 7) × (r.place ≡ n) × ((x : ℕ) × ((s : List ℕ) × Reaches t n (x ∷ s))))

  ends : (k n i : ℕ) (s : List ℕ) → i + k ≡ n → Reaches t i s → Ends n i (read t k i s)
  unfolding read Ends
  ends zero n i [] e h = tt
  ends zero n i (x ∷ s) e h = let z : i ≡ n = omega arith in inr (refl, z, (x, (s, rw z at h)))
  ends (suc k) n i s e h = by (step t i s) refl (λ s' w. ends k n (suc i) s' (omega arith) (next h w))
    where
      by : (r : Step) → step t i s ≡ r → ((s' : List ℕ) → step t i s ≡ go s' → Ends n (suc i) (read t k (suc i) s')) → Ends n i (resume r i (read t k (suc i)))
      by (stop number) w later = inl (omega arith, (s, h, w))
      by (go s') w later = same (read t k (suc i) s') (later s' w)
        where
          same : (x : Option Refusal) → Ends n (suc i) x → Ends n i x
          same None u = u
          same (Some r) u = u

  -- the reading from a node that it comes to
  reaches-read : {i : ℕ} {s : List ℕ} → Reaches t i s → (n : ℕ) → i ≤ n → read t (n - 1) 1 [] ≡ read t (n - i) i s
  reaches-read start n l = refl
  reaches-read (next {i = j} {s} {s'} h w) n l = reaches-read h n (omega arith) ∙ read_step t j n s (omega arith) ∙ rw (w, add-one)

  read-stops : (n number place : ℕ) → n ≡ count t → Stops t number place → read t (n - 1) 1 [] ≡ refuse number place
  read-stops n number place e h =
      let l = h.below in
      reaches-read h.comes n (omega arith) ∙ read_step t place n h.awaited (omega arith) ∙ rw h.is

  read-open : (n place : ℕ) → n ≡ count t → LeftOpen t place → read t (n - 1) 1 [] ≡ refuse broken_links place
  unfolding read
  read-open n place e h =
      let z : n - count t ≡ 0 = omega arith in
      reaches-read h.comes n (omega arith) ∙ rw (z, h.at_end)

-- the parts of the refusal, in checking order
module _ (s t : List ℕ) where
  abbrev n : ℕ
  n = count t

  abbrev part4 : Option Refusal
  part4 = only_if (bad_length t) (refuse bad_tape_length 0)

  abbrev part5 : Option Refusal
  part5 = first_bad bad_node_kind (bad_kind t) 0 n

  abbrev part6 : Option Refusal
  part6 = first_bad bad_node_span (bad_span s t) 1 (n - 1)

  abbrev part_r : Option Refusal
  part_r = only_if (not (good_root t)) (refuse broken_links 0)

  abbrev part7 : Option Refusal
  part7 = read t (n - 1) 1 []

  pub some-nodes : bad_length t ≡ false → 1 ≤ n
  some-nodes e =
      let a = or_parts (eqb (length t) 0) _ e in
      let b = or_parts (not (eqb (length t % 16) 0)) _ a.1 in
      let c = eqb-true (length t % 16) 0 (not-false _ b.0) in
      let d = eqb-false (length t) 0 a.0 in
      omega arith

  -- a refusal comes from one of the parts, those before it giving none
  data From (r : Refusal) : Type 0 where
    from4 : part4 ≡ Some r → From r
    from5 : part4 ≡ None → part5 ≡ Some r → From r
    from6 : part4 ≡ None → part5 ≡ None → part6 ≡ Some r → From r
    from_r : part4 ≡ None → part5 ≡ None → part6 ≡ None → part_r ≡ Some r → From r
    from7 : part4 ≡ None → part5 ≡ None → part6 ≡ None → part_r ≡ None → part7 ≡ Some r → From r

  from : (r : Refusal) → tape_refusal s t ≡ Some r → From r
  unfolding tape_refusal
  from r e = a (which part4 (or_else part5 (or_else part6 (or_else part_r part7))) r e)
    where
      d : part4 ≡ None → part5 ≡ None → part6 ≡ None → (part_r ≡ Some r) ⊎ ((part_r ≡ None) × (part7 ≡ Some r)) → From r
      d p q u (inl x) = from_r p q u x
      d p q u (inr x) = from7 p q u x.0 x.1

      c : part4 ≡ None → part5 ≡ None → (part6 ≡ Some r) ⊎ ((part6 ≡ None) × (or_else part_r part7 ≡ Some r)) → From r
      c p q (inl x) = from6 p q x
      c p q (inr x) = d p q x.0 (which part_r part7 r x.1)

      b : part4 ≡ None → (part5 ≡ Some r) ⊎ ((part5 ≡ None) × (or_else part6 (or_else part_r part7) ≡ Some r)) → From r
      b p (inl x) = from5 p x
      b p (inr x) = c p x.0 (which part6 (or_else part_r part7) r x.1)

      a : (part4 ≡ Some r) ⊎ ((part4 ≡ None) × (or_else part5 (or_else part6 (or_else part_r part7)) ≡ Some r)) → From r
      a (inl x) = from4 x
      a (inr x) = b x.0 (which part5 (or_else part6 (or_else part_r part7)) r x.1)

  -- none of the parts before a number
  plain_of : part4 ≡ None → part5 ≡ None → part6 ≡ None → GoodNodes s t
  plain_of p q u =
      let e = only-not (bad_length t) 4 0 p in
      let l = some-nodes e in
      let z : 1 + (n - 1) ≡ n = omega arith in
      record { sized = e; kinds = λ i g k. none_of bad_node_kind (bad_kind t) n 0 q i g (omega arith); spans = λ i g k. none_of bad_node_span (bad_span s t) (n - 1) 1 u i g (omega arith) }

  module _ (h : GoodNodes s t) where
    plain4 : part4 ≡ None
    plain4 = rw h.sized

    plain5 : part5 ≡ None
    plain5 = all_none bad_node_kind (bad_kind t) n 0 (λ i g l. h.kinds i g (omega arith))

    plain6 : part6 ≡ None
    plain6 = let l = some-nodes h.sized in all_none bad_node_span (bad_span s t) (n - 1) 1 (λ i g k. h.spans i g (omega arith))

  -- the numbers of the parts
  number4 : (r : Refusal) → part4 ≡ Some r → r.number ≡ 4
  number4 r e = (only (bad_length t) 4 0 r e).1

  number5 : (r : Refusal) → part5 ≡ Some r → r.number ≡ 5
  number5 r e = (first_of bad_node_kind (bad_kind t) n 0 r e).0

  number6 : (r : Refusal) → part6 ≡ Some r → r.number ≡ 6
  number6 r e = (first_of bad_node_span (bad_span s t) (n - 1) 1 r e).0

  number_r : (r : Refusal) → part_r ≡ Some r → r.number ≡ 7
  number_r r e = (only (not (good_root t)) 7 0 r e).1

  -- the reading's refusal: where it stops, or an open left
  end7 : (r : Refusal) → 1 ≤ n → part7 ≡ Some r → Stops t r.number r.place ⊎ ((r.number ≡ 7) × LeftOpen t r.place)
  unfolding Ends
  end7 r l e = go (subst (Ends t n 1) e (ends t (n - 1) n 1 [] (omega arith) start))
    where
      go : Ends t n 1 (Some r) → Stops t r.number r.place ⊎ ((r.number ≡ 7) × LeftOpen t r.place)
      go (inl (k, (w, h, z))) = inl (record { awaited = w; comes = h; below = k; is = z })
      go (inr (k, z, (x, (w, h)))) = inr (k, record { link = x; awaited = w; comes = h; at_end = z })

  number7 : (r : Refusal) → 1 ≤ n → part7 ≡ Some r → (r.number ≡ 7) ⊎ (r.number ≡ 8)
  number7 r l e = go (end7 r l e)
    where
      go : Stops t r.number r.place ⊎ ((r.number ≡ 7) × LeftOpen t r.place) → (r.number ≡ 7) ⊎ (r.number ≡ 8)
      go (inl h) = rw h.is at (step-odd t r.place h.awaited)
      go (inr h) = inl h.0

  -- a number that is neither 7 nor 8 is none of the reading's
  not-7 : {A : Type 0} (r : Refusal) → r.number < 7 → part4 ≡ None → part7 ≡ Some r → A
  not-7 r h p x = go (number7 r (some-nodes (only-not (bad_length t) 4 0 p)) x)
    where
      go : {A : Type 0} → (r.number ≡ 7) ⊎ (r.number ≡ 8) → A
      go (inl e) = absurd (omega arith)
      go (inr e) = absurd (omega arith)

  pub one-number-4 : (place : ℕ) → (tape_refusal s t ≡ refuse bad_tape_length place) ↔ Gives4 s t place
  unfolding tape_refusal
  one-number-4 place = (λ e. there (from (record { number = bad_tape_length; place = place }) e), λ h. rw (h.0, h.1))
    where
      there : From (record { number = bad_tape_length; place = place }) → Gives4 s t place
      there (from4 x) = let o = only (bad_length t) 4 0 _ x in (o.0, o.2)
      there (from5 p x) = absurd (omega (arith, number5 _ x))
      there (from6 p q x) = absurd (omega (arith, number6 _ x))
      there (from_r p q u x) = absurd (omega (arith, number_r _ x))
      there (from7 p q u v x) = not-7 _ (omega arith) p x

  pub one-number-5 : (place : ℕ) → (tape_refusal s t ≡ refuse bad_node_kind place) ↔ Gives5 s t place
  unfolding tape_refusal
  one-number-5 place = (λ e. there (from (record { number = bad_node_kind; place = place }) e), back)
    where
      there : From (record { number = bad_node_kind; place = place }) → Gives5 s t place
      there (from4 x) = absurd (omega (arith, number4 _ x))
      there (from5 p x) = (only-not (bad_length t) 4 0 p, subst (λ (m : ℕ). First (bad_kind t) 0 m place) (zero-add n) (first_of bad_node_kind (bad_kind t) n 0 _ x).1)
      there (from6 p q x) = absurd (omega (arith, number6 _ x))
      there (from_r p q u x) = absurd (omega (arith, number_r _ x))
      there (from7 p q u v x) = not-7 _ (omega arith) p x

      back : Gives5 s t place → tape_refusal s t ≡ refuse bad_node_kind place
      back h = rw (h.0, first-is bad_node_kind (bad_kind t) n 0 place (subst (λ (m : ℕ). First (bad_kind t) 0 m place) (sym (zero-add n)) h.1))

  pub one-number-6 : (place : ℕ) → (tape_refusal s t ≡ refuse bad_node_span place) ↔ Gives6 s t place
  unfolding tape_refusal
  one-number-6 place = (λ e. there (from (record { number = bad_node_span; place = place }) e), back)
    where
      whole : bad_length t ≡ false → 1 + (n - 1) ≡ n
      whole e = let l = some-nodes e in omega arith

      there : From (record { number = bad_node_span; place = place }) → Gives6 s t place
      there (from4 x) = absurd (omega (arith, number4 _ x))
      there (from5 p x) = absurd (omega (arith, number5 _ x))
      there (from6 p q x) =
          let e = only-not (bad_length t) 4 0 p in
          (e, λ i g k. none_of bad_node_kind (bad_kind t) n 0 q i g (omega arith), subst (λ (m : ℕ). First (bad_span s t) 1 m place) (whole e) (first_of bad_node_span (bad_span s t) (n - 1) 1 _ x).1)
      there (from_r p q u x) = absurd (omega (arith, number_r _ x))
      there (from7 p q u v x) = not-7 _ (omega arith) p x

      back : Gives6 s t place → tape_refusal s t ≡ refuse bad_node_span place
      back h = rw (h.0, all_none bad_node_kind (bad_kind t) n 0 (λ i g l. h.1 i g (omega arith)), first-is bad_node_span (bad_span s t) (n - 1) 1 place (subst (λ (m : ℕ). First (bad_span s t) 1 m place) (sym (whole h.0)) h.2))

  -- the root's link turns back, or does not
  root-bad : (r : Refusal) → part_r ≡ Some r → (good_root t ≡ false) × (r.place ≡ 0)
  root-bad r x = let o = only (not (good_root t)) 7 0 r x in (not-true (good_root t) o.0, o.2)

  root-good : part_r ≡ None → good_root t ≡ true
  root-good x = not-false (good_root t) (only-not (not (good_root t)) 7 0 x)

  pub one-number-7 : (place : ℕ) → (tape_refusal s t ≡ refuse broken_links place) ↔ Gives7 s t place
  unfolding tape_refusal
  one-number-7 place = (λ e. there (from (record { number = broken_links; place = place }) e), λ h. back h.0 h.1)
    where
      there : From (record { number = broken_links; place = place }) → Gives7 s t place
      there (from4 x) = absurd (omega (arith, number4 _ x))
      there (from5 p x) = absurd (omega (arith, number5 _ x))
      there (from6 p q x) = absurd (omega (arith, number6 _ x))
      there (from_r p q u x) = (plain_of p q u, inl (root-bad _ x))
      there (from7 p q u v x) = (plain_of p q u, inr (root-good v, which-end (end7 _ (some-nodes (only-not (bad_length t) 4 0 p)) x)))
        where
          which-end : Stops t broken_links place ⊎ ((◌≡◌ {A = ℕ} 7 7) × LeftOpen t place) → Stops t broken_links place ⊎ LeftOpen t place
          which-end (inl h) = inl h
          which-end (inr h) = inr h.1

      back : GoodNodes s t → ((good_root t ≡ false) × (place ≡ 0)) ⊎ ((good_root t ≡ true) × (Stops t broken_links place ⊎ LeftOpen t place)) → tape_refusal s t ≡ refuse broken_links place
      back h (inl x) = rw (plain4 h, plain5 h, plain6 h, x.0, x.1)
      back h (inr (x, inl y)) = rw (plain4 h, plain5 h, plain6 h, x) (read-stops t n broken_links place refl y)
      back h (inr (x, inr y)) = rw (plain4 h, plain5 h, plain6 h, x) (read-open t n place refl y)

  pub one-number-8 : (place : ℕ) → (tape_refusal s t ≡ refuse too_deep place) ↔ Gives8 s t place
  unfolding tape_refusal
  one-number-8 place = (λ e. there (from (record { number = too_deep; place = place }) e), back)
    where
      there : From (record { number = too_deep; place = place }) → Gives8 s t place
      there (from4 x) = absurd (omega (arith, number4 _ x))
      there (from5 p x) = absurd (omega (arith, number5 _ x))
      there (from6 p q x) = absurd (omega (arith, number6 _ x))
      there (from_r p q u x) = absurd (omega (arith, number_r _ x))
      there (from7 p q u v x) = (plain_of p q u, root-good v, which-end (end7 _ (some-nodes (only-not (bad_length t) 4 0 p)) x))
        where
          which-end : Stops t too_deep place ⊎ ((◌≡◌ {A = ℕ} 8 7) × LeftOpen t place) → Stops t too_deep place
          which-end (inl h) = h
          which-end (inr h) = absurd (omega (arith, h.0))

      back : Gives8 s t place → tape_refusal s t ≡ refuse too_deep place
      back h = rw (plain4 h.0, plain5 h.0, plain6 h.0, h.1) (read-stops t n too_deep place refl h.2)

  -- the root's link, in words
  pub rooted : bad_length t ≡ false → good_root t ≡ true → Rooted t n
  rooted l e = go (eqb (link_at t 0) n) (eqb (link_at t 0 + 1) n) (is_close (kind_at t (link_at t 0))) (is_none (first_bad broken_links (opens_to t (link_at t 0)) 1 (n - 1))) refl refl refl refl e
    where
      apart : is_none (first_bad broken_links (opens_to t (link_at t 0)) 1 (n - 1)) ≡ true → (i : ℕ) → 1 ≤ i → i < n → is_open (kind_at t i) ≡ true → link_at t i ≡ link_at t 0 → ⊥
      apart q i g k o z =
          let f : first_bad broken_links (opens_to t (link_at t 0)) 1 (n - 1) ≡ None = none_is _ q in
          let w = none_of broken_links (opens_to t (link_at t 0)) (n - 1) 1 f i g (omega arith) in
          false≢true (sym w ∙ rw (o, eq-eqb (link_at t i) (link_at t 0) z))
        where
          none_is : (x : Option Refusal) → is_none x ≡ true → x ≡ None
          none_is None q = refl
          none_is (Some r) q = absurd (false≢true q)

      go : (a b c d : Bool) → eqb (link_at t 0) n ≡ a → eqb (link_at t 0 + 1) n ≡ b → is_close (kind_at t (link_at t 0)) ≡ c → is_none (first_bad broken_links (opens_to t (link_at t 0)) 1 (n - 1)) ≡ d → (a || (b && (c && d))) ≡ true → Rooted t n
      go true b c d p q u v e = let z = eqb-true (link_at t 0) n p in record { place = inl z; alone = λ w i g k o x. omega arith }
      go false true true true p q u v e = record { place = inr (eqb-true (link_at t 0 + 1) n q, u); alone = λ w. apart v }
      go false true true false p q u v e = absurd (false≢true e)
      go false true false d p q u v e = absurd (false≢true e)
      go false false c d p q u v e = absurd (false≢true e)

  link-some : bad_length t ≡ false → bad_kind t 0 ≡ false → good_root t ≡ true → 1 ≤ link_at t 0
  link-some l k e = go (rooted l e).place (some-nodes l)
    where
      go : (link_at t 0 ≡ n) ⊎ ((link_at t 0 + 1 ≡ n) × (is_close (kind_at t (link_at t 0)) ≡ true)) → 1 ≤ n → 1 ≤ link_at t 0
      go (inl z) h = omega arith
      go (inr z) h = choose (ℕ_discrete (link_at t 0) 0)
        where
          choose : Dec (link_at t 0 ≡ 0) → 1 ≤ link_at t 0
          choose (no x) = omega arith
          choose (yes x) = absurd (false≢true (sym (let r = eqb-true (kind_at t 0) root_kind (not-false _ k) in rw (x, r)) ∙ z.1))

  -- a tape is accepted exactly if it reads as a forest
  pub accepted : (tape_refusal s t ≡ None) ↔ Accepted s t
  unfolding tape_refusal
  accepted = (there, back)
    where
      there : tape_refusal s t ≡ None → Accepted s t
      there e =
          let a = neither part4 (or_else part5 (or_else part6 (or_else part_r part7))) e in
          let b = neither part5 (or_else part6 (or_else part_r part7)) a.1 in
          let c = neither part6 (or_else part_r part7) b.1 in
          let d = neither part_r part7 c.1 in
          let h = plain_of a.0 b.0 c.0 in
          let g = root-good d.0 in
          let l = some-nodes h.sized in
          record {
            sized = h.sized;
            kinds = λ i k. h.kinds i (omega arith) k;
            spans = h.spans;
            root = g;
            nested = reads-nested t n (rooted h.sized g) (link-some h.sized (h.kinds 0 (omega arith) (omega arith)) g) d.1;
          }

      back : Accepted s t → tape_refusal s t ≡ None
      back h =
          let p : GoodNodes s t = record { sized = h.sized; kinds = λ i g k. h.kinds i k; spans = h.spans } in
          rw (plain4 p, plain5 p, plain6 p, h.root) (nested-reads t n (rooted h.sized h.root) h.nested)
