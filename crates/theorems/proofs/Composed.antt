-- Which number is given, from what each part of the check gives by itself.
-- Assumes nothing.
use Prim.Native.Nat.{ℕ, zero, suc, ◌+◌, ◌-◌, ◌<◌, ◌≤◌}
use native.Mathlib.Nat.{zero-add}
use native.Mathlib.Decide.{dec_lt}
use native.Mathlib.Omega.{arith}
use mathlib.Core.Path.{◌≡◌, refl, sym, ap, subst, ◌∙◌}
use mathlib.Core.Bool.{Bool, true, false, not, false≢true, ◌||◌}
use mathlib.Core.List.{List, [], ◌∷◌}
use mathlib.Core.Logic.{◌↔◌, ◌⊎◌, inl, inr}
use Rattle.std.specs.Prelude.{Option, Some, None}
use lib.Dec.{ltb}
use lib.ListN.{length}
use borrow.Author.Tests.{ltb-true, lt-ltb, not-false}
use Rattle.text.specs.Utf8.{first_ill_formed}
use Rattle.text.proofs.Exact.{utf8-place}
use Rattle.tape.specs.Nodes.{count}
use Rattle.tape.specs.Reading.{bad_length, bad_kind, bad_span, good_root, Step, go, stop, step, resume, read, tape_refusal}
use Rattle.tape.specs.Conditions.{GoodNodes}
use Rattle.refusals.proofs.First.{refused, which, neither, only, only-not, first_of, none_of, first-is}
use Rattle.tape.proofs.Machine.{Odd, step-odd}
use Rattle.tape.proofs.OneNumber.{some-nodes, one-number-7, one-number-8, accepted}
use Rattle.table.specs.Lines.{bad_table}
use Rattle.table.proofs.NumberOne.{one-number-1, number-1-one}
use Rattle.numbers.proofs.NumberNine.{one-number-9, number-9-one}
use Rattle.definition.specs.Outcome.{Lent, of1, of2, of3, of_tape, of9, of10, short_list, refusal}
use Rattle.refusals.specs.Refusal.{at_place}
use Rattle.theorems.specs.Conditions.{conditions, condition_of, Condition}
use Rattle.refusals.specs.Refusal.{Refusal, refuse, only_if, or_else, first_bad, First}

-- no number from a on and before b has its condition
abbrev NoneFrom : Lent → ℕ → ℕ → Type 0
NoneFrom l a b = (number place : ℕ) → a ≤ number → number < b → Condition l number place → ⊥

-- a part of the check that gives the numbers from a on and before b, each under its condition
record Part (l : Lent) (x : Option Refusal) (a b : ℕ) : Type 0 where
  given : (r : Refusal) → x ≡ Some r → (a ≤ r.number) × (r.number < b) × Condition l r.number r.place × NoneFrom l a r.number
  back : (number place : ℕ) → a ≤ number → number < b → Condition l number place → NoneFrom l a number → x ≡ refuse number place
  clear : x ≡ None → NoneFrom l a b

-- the numbers that have a condition are 1 to 10
within-length : (cs : List (ℕ → Type 0)) (k place : ℕ) → condition_of cs k place → k < length cs
within-length (c ∷ cs) zero place h = omega arith
within-length (c ∷ cs) (suc k) place h = let l = within-length cs k place h in omega arith
within-length [] k place h = elim h [ ]

within-ten : (l : Lent) (number place : ℕ) → Condition l number place → (1 ≤ number) × (number < 11)
within-ten l (suc k) place h = let w : k < 10 = within-length (conditions l) k place h in (omega arith, omega arith)
within-ten l zero place h = elim h [ ]

-- a refusal by its number and place
same-refusal : (x : Option Refusal) (r : Refusal) (number place : ℕ) → x ≡ Some r → r.number ≡ number → r.place ≡ place → x ≡ refuse number place
same-refusal x r number place e n p = e ∙ ap Some (λ i. record { number = n i; place = p i })

-- a part before another
module _ (l : Lent) (y : Option Refusal) (a b c : ℕ) (ab : a ≤ b) (bc : b ≤ c) where
  joined : (x : Option Refusal) → Part l x a b → (x ≡ None → Part l y b c) → Part l (or_else x y) a c
  joined (Some q) p later =
      record {
        given = λ r e. let g = p.given r e in let lt = g.1 in (g.0, omega arith, g.2, g.3);
        back = λ number place ge lt h no-earlier. choose number place ge h no-earlier (dec_lt number b);
        clear = λ e. refused q e;
      }
    where
      choose : (number place : ℕ) → a ≤ number → Condition l number place → NoneFrom l a number → Dec (number < b) → Some q ≡ refuse number place
      choose number place ge h no-earlier (yes k) = p.back number place ge k h no-earlier
      choose number place ge h no-earlier (no k) =
          let g = p.given q refl in
          let lt = g.1 in
          absurd (no-earlier q.number q.place g.0 (omega arith) g.2)
  joined None p later =
      record {
        given = λ r e. let g = (later refl).given r e in let ge = g.0 in (omega arith, g.1, g.2, λ number place from lt h. either number place from h (dec_lt number b) (λ k. g.3 number place k lt h));
        back = λ number place ge lt h no-earlier. choose number place ge lt h no-earlier (dec_lt number b);
        clear = λ e number place from lt h. either number place from h (dec_lt number b) (λ k. (later refl).clear e number place k lt h);
      }
    where
      either : (number place : ℕ) → a ≤ number → Condition l number place → Dec (number < b) → (b ≤ number → ⊥) → ⊥
      either number place from h (yes k) rest = p.clear refl number place from k h
      either number place from h (no k) rest = rest (omega arith)

      choose : (number place : ℕ) → a ≤ number → number < c → Condition l number place → NoneFrom l a number → Dec (number < b) → y ≡ refuse number place
      choose number place ge lt h no-earlier (yes k) = refused _ (sym (p.back number place ge k h no-earlier))
      choose number place ge lt h no-earlier (no k) = (later refl).back number place (omega arith) lt h (λ m q from less. no-earlier m q (omega arith) less)

-- a part that gives one number
module _ (l : Lent) (x : Option Refusal) (k : ℕ) (is : (r : Refusal) → x ≡ Some r → r.number ≡ k) (under : (place : ℕ) → (x ≡ refuse k place) ↔ Condition l k place) where
  single : Part l x k (suc k)
  single =
      record {
        given = λ r e. let n = is r e in (omega arith, omega arith, rw n ((under r.place).0 (same-refusal x r k r.place e n refl)), λ number place from lt. absurd (omega arith));
        back = λ number place ge lt h no-earlier. let n : number ≡ k = omega arith in rw n ((under place).1 (rw n at h));
        clear = λ e number place ge lt h. let n : number ≡ k = omega arith in refused _ (sym ((under place).1 (rw n at h)) ∙ e);
      }

-- a part that gives a place or none
at-place : (k : ℕ) (x : Option ℕ) (r : Refusal) → at_place k x ≡ Some r → (r.number ≡ k) × (x ≡ Some r.place)
at-place k None r e = refused r (sym e)
at-place k (Some place) r e = let o = only true k place r e in (o.1, ap Some (sym o.2))

-- every number that the reading gives is 7 or 8
read_number : (t : List ℕ) (k i : ℕ) (s : List ℕ) (r : Refusal) → read t k i s ≡ Some r → (r.number ≡ 7) ⊎ (r.number ≡ 8)
unfolding read
read_number t zero i [] r e = refused r (sym e)
read_number t zero i (x ∷ s) r e = inl (only true 7 i r e).1
read_number t (suc k) i s r e = by (step t i s) (step-odd t i s) e (read_number t k (suc i))
  where
    by : (q : Step) → Odd q → resume q i (read t k (suc i)) ≡ Some r → ((s' : List ℕ) (r : Refusal) → read t k (suc i) s' ≡ Some r → (r.number ≡ 7) ⊎ (r.number ≡ 8)) → (r.number ≡ 7) ⊎ (r.number ≡ 8)
    by (go s') o w later = later s' r w
    by (stop n) (inl z) w later = inl ((only true n i r w).1 ∙ z)
    by (stop n) (inr z) w later = inr ((only true n i r w).1 ∙ z)

-- two numbers
differ : (number number' place place' : ℕ) → (number ≡ number' → ⊥) → refuse number place ≡ refuse number' place' → ⊥
differ number number' place place' n e = n (sym (only true number place (record { number = number'; place = place' }) e).1)

-- one test or another
either_true : (a b n : ℕ) → (ltb a n || ltb b n) ≡ true → (a < n) ⊎ (b < n)
either_true a b n e = choose (ltb a n) (ltb b n) refl refl e
  where
    choose : (p q : Bool) → ltb a n ≡ p → ltb b n ≡ q → (p || q) ≡ true → (a < n) ⊎ (b < n)
    choose true q x y z = inl (ltb-true a n x)
    choose false true x y z = inr (ltb-true b n y)
    choose false false x y z = absurd (false≢true z)

true-either : (a b n : ℕ) → (a < n) ⊎ (b < n) → (ltb a n || ltb b n) ≡ true
true-either a b n (inl h) = rw (lt-ltb a n h)
true-either a b n (inr h) = rw (lt-ltb b n h) (choose (ltb a n))
  where
    choose : (p : Bool) → (p || true) ≡ true
    choose true = refl
    choose false = refl

module _ (l : Lent) where
  abbrev s : List ℕ
  s = l.source

  abbrev t : List ℕ
  t = l.tape

  abbrev n : ℕ
  n = count l.tape

  abbrev part4 : Option Refusal
  part4 = only_if (bad_length t) (refuse 4 0)

  abbrev part5 : Option Refusal
  part5 = first_bad 5 (bad_kind t) 0 n

  abbrev part6 : Option Refusal
  part6 = first_bad 6 (bad_span s t) 1 (n - 1)

  abbrev part78 : Option Refusal
  part78 = or_else (only_if (not (good_root t)) (refuse 7 0)) (read t (n - 1) 1 [])

  gives-1 : Part l (of1 l) 1 2
  gives-1 = single l (of1 l) 1 (λ r e. (at-place 1 (bad_table l.table) r e).0) (λ place. (λ e. (one-number-1 l.table place (at-place 1 (bad_table l.table) _ e).1), λ h. rw (number-1-one l.table place h)))

  gives-2 : Part l (of2 l) 2 3
  gives-2 = single l (of2 l) 2 (λ r e. (only (ltb 1048576 (length s)) 2 0 r e).1) (λ place. (λ e. let o = only (ltb 1048576 (length s)) 2 0 _ e in (ltb-true 1048576 (length s) o.0, o.2), λ h. rw (lt-ltb 1048576 (length s) h.0, h.1)))

  gives-3 : Part l (of3 l) 3 4
  gives-3 = single l (of3 l) 3 (λ r e. (at-place 3 (first_ill_formed s) r e).0) (λ place. (λ e. ((utf8-place s place).0 (at-place 3 (first_ill_formed s) _ e).1), λ h. rw ((utf8-place s place).1 h)))

  gives-4 : Part l part4 4 5
  gives-4 = single l part4 4 (λ r e. (only (bad_length t) 4 0 r e).1) (λ place. (λ e. let o = only (bad_length t) 4 0 _ e in (o.0, o.2), λ h. rw (h.0, h.1)))

  gives-5 : Part l part5 5 6
  gives-5 = single l part5 5 (λ r e. (first_of 5 (bad_kind t) n 0 r e).0) (λ place. (λ e. (subst (λ (m : ℕ). First (bad_kind t) 0 m place) (zero-add n) (first_of 5 (bad_kind t) n 0 _ e).1), λ h. first-is 5 (bad_kind t) n 0 place (subst (λ (m : ℕ). First (bad_kind t) 0 m place) (sym (zero-add n)) h)))

  gives-6 : 1 + (n - 1) ≡ n → Part l part6 6 7
  gives-6 all = single l part6 6 (λ r e. (first_of 6 (bad_span s t) (n - 1) 1 r e).0) (λ place. (λ e. (subst (λ (m : ℕ). First (bad_span s t) 1 m place) all (first_of 6 (bad_span s t) (n - 1) 1 _ e).1), λ h. first-is 6 (bad_span s t) (n - 1) 1 place (subst (λ (m : ℕ). First (bad_span s t) 1 m place) (sym all) h)))

  seven-or-eight : (r : Refusal) → part78 ≡ Some r → (r.number ≡ 7) ⊎ (r.number ≡ 8)
  seven-or-eight r e = by (which (only_if (not (good_root t)) (refuse 7 0)) (read t (n - 1) 1 []) r e)
    where
      by : (only_if (not (good_root t)) (refuse 7 0) ≡ Some r) ⊎ ((only_if (not (good_root t)) (refuse 7 0) ≡ None) × (read t (n - 1) 1 [] ≡ Some r)) → (r.number ≡ 7) ⊎ (r.number ≡ 8)
      by (inl x) = inl (only (not (good_root t)) 7 0 r x).1
      by (inr x) = read_number t (n - 1) 1 [] r x.1

  module _ (plain : GoodNodes s t) (is : tape_refusal s t ≡ part78) where
    at_7 : (place : ℕ) → Condition l 7 place → part78 ≡ refuse 7 place
    at_7 place h = sym is ∙ (one-number-7 s t place).1 (plain, h)

    at_8 : (place : ℕ) → good_root t ≡ true → Condition l 8 place → part78 ≡ refuse 8 place
    at_8 place g h = sym is ∙ (one-number-8 s t place).1 (plain, g, h)

    gives-7-8 : Part l part78 7 9
    gives-7-8 =
        record {
          given = λ r e. there r e (seven-or-eight r e);
          back = λ number place ge lt h no-earlier. back number place ge lt h no-earlier (dec_lt number 8) (good_root t) refl;
          clear = λ e number place ge lt h. clear e number place ge lt h (dec_lt number 8);
        }
      where
        there : (r : Refusal) → part78 ≡ Some r → (r.number ≡ 7) ⊎ (r.number ≡ 8) → (7 ≤ r.number) × (r.number < 9) × Condition l r.number r.place × NoneFrom l 7 r.number
        there r e (inl z) = (
          omega arith,
          omega arith,
          rw z ((one-number-7 s t r.place).0 (is ∙ same-refusal part78 r 7 r.place e z refl)).1,
          λ number place from lt h. absurd (omega arith),
        )
        there r e (inr z) =
            let w = same-refusal part78 r 8 r.place e z refl in (
              omega arith,
              omega arith,
              rw z ((one-number-8 s t r.place).0 (is ∙ w)).2,
              λ number place from lt h. let y : number ≡ 7 = omega arith in differ 8 7 r.place place (λ q. omega arith) (sym w ∙ at_7 place (rw y at h)),
            )

        back : (number place : ℕ) → 7 ≤ number → number < 9 → Condition l number place → NoneFrom l 7 number → Dec (number < 8) → (g : Bool) → good_root t ≡ g → part78 ≡ refuse number place
        back number place ge lt h no-earlier (yes k) g y = let z : number ≡ 7 = omega arith in rw z (at_7 place (rw z at h))
        back number place ge lt h no-earlier (no k) true y = let z : number ≡ 8 = omega arith in rw z (at_8 place y (rw z at h))
        back number place ge lt h no-earlier (no k) false y = absurd (no-earlier 7 0 (omega arith) (omega arith) (inl (y, refl)))

        clear : part78 ≡ None → (number place : ℕ) → 7 ≤ number → number < 9 → Condition l number place → Dec (number < 8) → ⊥
        clear e number place ge lt h (yes k) = let z : number ≡ 7 = omega arith in refused _ (sym (at_7 place (rw z at h)) ∙ e)
        clear e number place ge lt h (no k) =
            let z : number ≡ 8 = omega arith in
            let g = not-false (good_root t) (only-not (not (good_root t)) 7 0 (neither (only_if (not (good_root t)) (refuse 7 0)) (read t (n - 1) 1 []) e).0) in
            refused _ (sym (at_8 place g (rw z at h)) ∙ e)

  plain_of : part4 ≡ None → part5 ≡ None → part6 ≡ None → GoodNodes s t
  plain_of a b c =
      let e = only-not (bad_length t) 4 0 a in
      let h = some-nodes s t e in
      record { sized = e; kinds = λ i from lt. none_of 5 (bad_kind t) n 0 b i from (omega arith); spans = λ i from lt. none_of 6 (bad_span s t) (n - 1) 1 c i from (omega arith) }

  gives-4-to-8 : Part l (of_tape l) 4 9
  unfolding tape_refusal
  gives-4-to-8 =
      joined l _ 4 5 9 (omega arith) (omega arith) part4 gives-4 (λ a. joined l _ 5 6 9 (omega arith) (omega arith) part5 gives-5 (λ b.
      joined l _ 6 7 9 (omega arith) (omega arith) part6 (gives-6 (let h = some-nodes s t (only-not (bad_length t) 4 0 a) in omega arith)) (λ c.
      gives-7-8 (plain_of a b c) (rw (a, b, c)))))

  gives-9 : 1 ≤ n → Part l (of9 l) 9 10
  gives-9 h = single l (of9 l) 9 (number-9-one l.table s t h) (λ place. (λ e. ((one-number-9 l.table s t h place).0 e), λ c. (one-number-9 l.table s t h place).1 c))

  gives-10 : Part l (of10 l) 10 11
  gives-10 = single l (of10 l) 10 (λ r e. (only (short_list l) 10 n r e).1) (λ place. (λ e. let o = only (short_list l) 10 n _ e in (either_true (length l.seen) (length l.open_starts) n o.0, o.2), λ h. rw (true-either (length l.seen) (length l.open_starts) n h.0, h.1)))

  whole : Part l (refusal l) 1 11
  unfolding refusal
  whole =
      joined l _ 1 2 11 (omega arith) (omega arith) (of1 l) gives-1 (λ a. joined l _ 2 3 11 (omega arith) (omega arith) (of2 l) gives-2 (λ b.
      joined l _ 3 4 11 (omega arith) (omega arith) (of3 l) gives-3 (λ c. joined l _ 4 9 11 (omega arith) (omega arith) (of_tape l) gives-4-to-8 (λ d.
      joined l _ 9 10 11 (omega arith) (omega arith) (of9 l) (gives-9 (some-nodes s t ((accepted s t).0 d).sized)) (λ e. gives-10)))))

  pub one_number : (number place : ℕ) → (refusal l ≡ refuse number place) ↔ (Condition l number place × ((earlier at : ℕ) → earlier < number → Condition l earlier at → ⊥))
  one_number number place = (
    λ e. let g = whole.given (record { number = number; place = place }) e in (g.2, λ earlier at lt h. g.3 earlier at (within-ten l earlier at h).0 lt h),
    λ h. let w = within-ten l number place h.0 in whole.back number place w.0 w.1 h.0 (λ earlier at from lt c. h.1 earlier at lt c),
  )

  pub no_number : (refusal l ≡ None) ↔ ((number place : ℕ) → Condition l number place → ⊥)
  no_number = (λ e number place h. let w = within-ten l number place h in whole.clear e number place w.0 w.1 h, λ h. by h (refusal l) refl)
    where
      by : ((number place : ℕ) → Condition l number place → ⊥) → (x : Option Refusal) → refusal l ≡ x → x ≡ None
      by h None e = refl
      by h (Some r) e = absurd (h r.number r.place (whole.given r e).2)
