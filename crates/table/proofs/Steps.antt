-- The three lines of a marker, one after the other.
-- Assumes nothing.
use mathlib.Core.Path.{◌≡◌, refl, sym, ap, ◌∙◌}
use mathlib.Core.Bool.{Bool, true, false, ◌&&◌, and-false}
use mathlib.Core.List.{List, ◌∷◌}
use Rattle.std.specs.Prelude.{Option, Some, None, Result, Ok, Err}
use Rattle.std.specs.Option.{ok_or}
use Rattle.std.proofs.lemmas.Option.{same_Some}
use Rattle.refusals.specs.Refusal.{at_place, bad_table_layout}
use Rattle.refusals.specs.declared.Refusal as code
use Rattle.refusals.specs.declared.Reason.TheVariants as reason
use Rattle.refusals.specs.Reasons.{refusal_of}
use Prim.Native.Nat.{ℕ, suc, ◌+◌, ◌-◌, ◌*◌, ◌%◌, ◌<◌, ◌≤◌}
use native.Mathlib.Omega.{arith}
use lib.Dec.{ltb}
use lib.ListN.{length, take, drop, length-drop}
use lib.Seq.{length-take-le}
use borrow.Author.Tests.{lt-ltb, ltb-true, ltb-false, ne_eqb}
use Rattle.text.proofs.Cuts.{rest_all}
use Rattle.table.specs.Lines.{lines, good_body, bad_from, category_key, categories, role_key, roles}
use Rattle.table.specs.Entries.{Entry, entry_from, entries_of}
use Rattle.table.specs.Inner.{line_value, Step, step_by, step_of, further, past_of, LinesRead}
use Rattle.text.specs.Pick.{known}
use Rattle.table.proofs.Parts.{width, first, line-there, line-none}
use Rattle.table.proofs.Values.{good-known, Named, name-says, shorter, Worded, word-says}
use Rattle.table.proofs.Words.{every}
use Rattle.text.specs.Literal.{ascii}

-- the line at the head of what stands at a place, its end counted from the start of the text
pub record Read (t : List ℕ) (at j : ℕ) (r : Step) : Type 0 where
  pub fits : at + past_of r ≤ length t
  pub is : further at r ≡ step_of j at (drop at t)

line-moved : (t : List ℕ) (at j : ℕ) (r : Step) → r ≡ step_of j 0 (take (length t - at) (drop at t)) → further at r ≡ step_of j at (drop at t)
unfolding step_of
line-moved t at j r e = rw (e, rest_all t at) (go (ltb (width (drop at t)) (length (drop at t))) (line_value j (take (width (drop at t)) (drop at t))))
  where
    go : (b : Bool) (o : Option ℕ) → further at (step_by b o (0 + width (drop at t) + 1)) ≡ step_by b o (at + width (drop at t) + 1)
    go true (Some v) = ap (λ (n : ℕ). Some (v, n)) (omega arith)
    go true None = refl
    go false o = refl

-- past a good line
pub record Stepped (t : List ℕ) (at j v next : ℕ) : Type 0 where
  pub value : line_value j (take (width (drop at t)) (drop at t)) ≡ Some v
  pub long : length (take (width (drop at t)) (drop at t)) + at + 1 ≡ next
  pub inside : next ≤ length t
  pub on : lines at (drop at t) ≡ first at (drop at t) ∷ lines next (drop next t)
  pub good : (k : ℕ) → k % 3 ≡ j → k < 1536 → bad_from (length t) k (lines at (drop at t)) ≡ bad_from (length t) (suc k) (lines next (drop next t))

module _ (t : List ℕ) (at j : ℕ) where
  abbrev w : ℕ
  w = width (drop at t)

  abbrev body : List ℕ
  body = take w (drop at t)

  pub stepped : (v next : ℕ) → Some (v, next) ≡ step_of j at (drop at t) → Stepped t at j v next
  unfolding step_of bad_from
  stepped v next e = go (ltb w (length (drop at t))) (line_value j body) refl refl e
    where
      go : (b : Bool) (o : Option ℕ) → ltb w (length (drop at t)) ≡ b → line_value j body ≡ o → Some (v, next) ≡ step_by b o (at + w + 1) → Stepped t at j v next
      go true (Some u) f g e =
          let is = same_Some _ _ e in
          let same : u ≡ v = ap (λ (p : ℕ × ℕ). p.0) (sym is) in
          let there : next ≡ at + w + 1 = ap (λ (p : ℕ × ℕ). p.1) is in
          let l : w < length (drop at t) = ltb-true w (length (drop at t)) f in
          let size = length-take-le w (drop at t) (omega arith) in
          let inner : at + w + 1 ≤ length t = omega (arith, length-drop at t) in
          let on : lines at (drop at t) ≡ first at (drop at t) ∷ lines next (drop next t) = rw there (line-there t at (omega arith)) in
          record {
            value = g ∙ ap Some same;
            long = omega arith;
            inside = omega arith;
            on = on;
            good = λ k m h. rw (on, lt-ltb k 1536 h, f, m, good-known j body, g);
          }
      go true None f g e = let z : ◌≡◌ {A = ℕ} 0 1 = cc in absurd (omega arith)
      go false o f g e = let z : ◌≡◌ {A = ℕ} 0 1 = cc in absurd (omega arith)

  pub line_read : (r : Step) → at ≤ length t → r ≡ step_of j 0 (take (length t - at) (drop at t)) → Read t at j r
  line_read r h e = record { fits = go r e; is = line-moved t at j r e }
    where
      go : (r : Step) → r ≡ step_of j 0 (take (length t - at) (drop at t)) → at + past_of r ≤ length t
      go (Some (v, n)) e = (stepped v (at + n) (line-moved t at j (Some (v, n)) e)).inside
      go None e = omega arith

  not_good : None ≡ step_of j at (drop at t) → (ltb w (length (drop at t)) && good_body j body) ≡ false
  unfolding step_of
  not_good e = rw (good-known j body) (go (ltb w (length (drop at t))) (line_value j body) e)
    where
      go : (b : Bool) (o : Option ℕ) → None ≡ step_by b o (at + w + 1) → (b && known o) ≡ false
      go true (Some u) e = let z : ◌≡◌ {A = ℕ} 0 1 = cc in absurd (omega arith)
      go true None e = refl
      go false o e = refl

  -- at a bad one, or where the text ends within a marker
  pub stopped : (k : ℕ) → at ≤ length t → (j ≡ 0 → at < length t) → k % 3 ≡ j → None ≡ step_of j at (drop at t) → bad_from (length t) k (lines at (drop at t)) ≡ Some at
  unfolding bad_from
  stopped k h z m e = go (ltb at (length t)) refl
    where
      go : (b : Bool) → ltb at (length t) ≡ b → bad_from (length t) k (lines at (drop at t)) ≡ Some at
      go true f = rw (line-there t at (ltb-true at (length t) f), m, not_good e, and-false (ltb k 1536))
      go false f =
          let end : length t ≤ at = ltb-false at (length t) f in
          let same : length t ≡ at = omega arith in
          rw (line-none t at end, m, ne_eqb j 0 (λ y. omega (arith, z y)), same)

categories-short : shorter 14 categories ≡ true
unfolding ascii every categories
categories-short = refl

roles-short : shorter 8 roles ≡ true
unfolding ascii every roles
roles-short = refl

-- where a line is bad, `?` gives the refusal of `ok_or`
pub left_out : {A : Type 0} (x : Option A) (f r : code.Refusal) → ◌≡◌ {A = Result A code.Refusal} (Err f) (ok_or x r) → x ≡ None → f ≡ r
left_out {A = A} x f r e n = let z : ◌≡◌ {A = Result A code.Refusal} (Err f) (Err r) = rw n at e in cc

turned : (place : ℕ) (x : Option ℕ) (r : code.Refusal) → r ≡ record { reason = reason.BadTableLayout; place = place } → x ≡ Some place → at_place bad_table_layout x ≡ Some (refusal_of r)
turned place x r is e = rw (is, e)

-- the answers of `marker_at`
module _ (t : List ℕ) (at : ℕ) (h : at < length t) where
  pub marked-first : (r : code.Refusal) → r ≡ record { reason = reason.BadTableLayout; place = at } → None ≡ step_of 0 at (drop at t) → LinesRead t at (Err r)
  marked-first r is e = λ m l. turned at _ r is (stopped t at 0 (3 * m) (omega arith) (λ z. h) (omega arith) e)

  module _ (v b : ℕ) (e : Some (v, b) ≡ step_of 0 at (drop at t)) where
    pub good-first : Stepped t at 0 v b
    good-first = stepped t at 0 v b e

    pub marked-second : (r : code.Refusal) → r ≡ record { reason = reason.BadTableLayout; place = b } → None ≡ step_of 1 b (drop b t) → LinesRead t at (Err r)
    marked-second r is f = λ m l. turned b _ r is (good-first.good (3 * m) (omega arith) (omega arith) ∙ stopped t b 1 (suc (3 * m)) good-first.inside (λ z. absurd (omega arith)) (omega arith) f)

    module _ (u c : ℕ) (f : Some (u, c) ≡ step_of 1 b (drop b t)) where
      pub good-second : Stepped t b 1 u c
      good-second = stepped t b 1 u c f

      pub marked-third : (r : code.Refusal) → r ≡ record { reason = reason.BadTableLayout; place = c } → None ≡ step_of 2 c (drop c t) → LinesRead t at (Err r)
      marked-third r is g = λ m l.
          turned c _ r is (good-first.good (3 * m) (omega arith) (omega arith) ∙ good-second.good (suc (3 * m)) (omega arith) (omega arith) ∙
          stopped t c 2 (suc (suc (3 * m))) good-second.inside (λ z. absurd (omega arith)) (omega arith) g)

      module _ (r next : ℕ) (g : Some (r, next) ≡ step_of 2 c (drop c t)) where
        pub good-third : Stepped t c 2 r next
        good-third = stepped t c 2 r next g

        named : Named (take (width (drop at t)) (drop at t)) v
        named = name-says _ v good-first.value

        category : Worded category_key categories 14 (take (width (drop b t)) (drop b t)) u
        category = word-says category_key categories 14 _ u categories-short good-second.value

        role : Worded role_key roles 8 (take (width (drop c t)) (drop c t)) r
        role = word-says role_key roles 8 _ r roles-short good-third.value

        abbrev entry : Entry
        entry = entry_from (first at (drop at t)) (first b (drop b t)) (first c (drop c t))

        pub low : (v ≤ 16) × (u < 8) × (r < 3)
        unfolding ascii categories roles
        low = (named.high, category.inside, role.inside)

        name-len : v ≡ length (take (width (drop at t)) (drop at t)) - 5
        name-len = omega (arith, named.long)

        near : next ≤ at + 64
        unfolding ascii
        near = omega (arith, named.long, named.high, category.long, role.long, good-first.long, good-second.long, good-third.long)

        pub marked-whole : at < 65000 → LinesRead t at (Ok (at + 5 + 65536 * (v + 32 * (u + 8 * r)), next))
        unfolding entries_of
        marked-whole a =
            record {
              entry = entry;
              word = omega (arith, name-len, category.is, role.is);
              sound =
                  record {
                    inside = omega (arith, named.long, good-first.long, good-first.inside);
                    start_low = omega arith;
                    named = rw (← name-len) named.low;
                    short = rw (← name-len) named.high;
                    category_low = rw (← category.is) low.1;
                    role_low = rw (← role.is) low.2;
                  };
              inside = good-third.inside;
              on = omega (arith, good-first.long, good-second.long, good-third.long);
              near = near;
              good = λ m l.
                  good-first.good (3 * m) (omega arith) (omega arith) ∙ good-second.good (suc (3 * m)) (omega arith) (omega arith) ∙ good-third.good (suc (suc (3 * m))) (omega arith) (omega arith) ∙
                  ap (λ (k : ℕ). bad_from (length t) k (lines next (drop next t))) (omega arith);
              first = rw (good-first.on, good-second.on, good-third.on);
            }
