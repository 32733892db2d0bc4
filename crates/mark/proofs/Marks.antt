-- What the mark answers in each case; its range; never higher with one error more; when numbers 14 and 15 are given; what mark-exercise prints.
-- Assumes nothing.
use Prim.Native.Nat.{ℕ, ◌+◌, ◌/◌, ◌≤◌}
use native.Mathlib.Omega.{arith}
use native.Mathlib.Nat.{div-mul-le_self, le-div_iff_mul-le}
use mathlib.Core.Path.{◌≡◌, refl, sym, ap, ◌∙◌}
use mathlib.Core.Bool.{Bool, true, false}
use Rattle.std.specs.Prelude.{Option, Some, None}
use lib.Dec.{eqb}
use lib.ListN.{length}
use borrow.Author.Tests.{eq-eqb, ne_eqb, eqb-true, eqb-false}
use Rattle.refusals.specs.Refusal.{Refusal, refuse, only_if, or_else, count_too_large, no_verses}
use Rattle.tape.specs.Forest.{top}
use Rattle.findings.specs.Finding.{error_severity, warning_severity}
use Rattle.definition.specs.Document.{verses_visited}
use Rattle.definition.specs.Outcome.{Lent, refusal, list_of, of_severity, checked_of, answer_by, answer}
use Rattle.messages.proofs.Nine.{nine-whole}
use Rattle.listing.specs.Listing.{is_too_large}
use Rattle.text.proofs.AnyOver.{any-parts, any_of}
use Rattle.listing.proofs.Joined.{no-ten}
use Rattle.mark.specs.Conditions.{Few, GivenMark, by14, by15, by_none}
use Rattle.mark.specs.MarkLines.{mark_lines, mark_of_answer, mark_unless, mark_output}
use Rattle.mark.specs.Mark.{penalty, loss_of, mark_of, full_mark, most_counted, is_over, mark_refusal, LossAndMark, refused, marked, mark_by, mark_answer}

-- ---- Each case of the code

module _ (errors warnings verses : ℕ) where
  module _ (b : Bool) (is : b ≡ is_over errors warnings verses) where
    pub refused_over : b ≡ true → refused (record { number = count_too_large; place = 0 }) ≡ mark_answer errors warnings verses
    unfolding mark_refusal
    refused_over e = rw (sym is ∙ e)

    module _ (e : b ≡ false) where
      none_over : is_over errors warnings verses ≡ false
      none_over = sym is ∙ e

      pub few : (errors ≤ most_counted) × ((warnings ≤ most_counted) × (verses ≤ most_counted))
      few = any-parts most_counted errors warnings verses none_over

      pub refused_none : verses ≡ 0 → refused (record { number = no_verses; place = 0 }) ≡ mark_answer errors warnings verses
      unfolding mark_refusal
      refused_none z = rw (none_over, eq-eqb verses 0 z)

      pub marked-as : (verses ≡ 0 → ⊥) → (mark : ℕ) → mark ≡ mark_of errors warnings verses → marked (record { loss = loss_of errors warnings verses; mark = mark }) ≡ mark_answer errors warnings verses
      unfolding mark_refusal
      marked-as z mark m = rw (none_over, ne_eqb verses 0 z, m)

-- ---- "from 0 to 10,000 and never to rise with one error more"

pub mark-range : (errors warnings verses : ℕ) → mark_of errors warnings verses ≤ full_mark
mark-range errors warnings verses = omega arith

divided : (a b v : ℕ) → a ≤ b → 1 ≤ v → a / v ≤ b / v
divided a b v h g = (le-div_iff_mul-le {k = v} {x = a / v} {y = b} (omega arith)).1 (omega (arith, div-mul-le_self a v))

pub mark-monotone : (errors warnings verses : ℕ) → 1 ≤ verses → mark_of (errors + 1) warnings verses ≤ mark_of errors warnings verses
mark-monotone errors warnings verses h = omega (arith, divided (penalty errors warnings) (penalty (errors + 1) warnings) verses (omega arith) h)

-- ---- Which number is given

module _ (errors warnings verses : ℕ) where
  pub mark-number : GivenMark errors warnings verses (mark_refusal errors warnings verses)
  unfolding mark_refusal
  mark-number = over (is_over errors warnings verses) refl
    where
      none_left : Few errors warnings verses → (b : Bool) → eqb verses 0 ≡ b → GivenMark errors warnings verses (only_if b (refuse no_verses 0))
      none_left f true e = by15 f (eqb-true verses 0 e)
      none_left f false e = by_none f (let z = eqb-false verses 0 e in omega (arith, z))

      over : (b : Bool) → is_over errors warnings verses ≡ b → GivenMark errors warnings verses (or_else (only_if b (refuse count_too_large 0)) (only_if (eqb verses 0) (refuse no_verses 0)))
      over true e = by14 (any_of most_counted errors warnings verses e)
      over false e = none_left (any-parts most_counted errors warnings verses e) (eqb verses 0) refl

-- ---- The entry: never higher with one error more, wherever both have a mark

marked-is : (x : Option Refusal) (n m : LossAndMark) → mark_by x n ≡ marked m → (x ≡ None) × (n ≡ m)
marked-is None n m e = (refl, cc)
marked-is (Some r) n m e = let z : ◌≡◌ {A = ℕ} 0 1 = cc in absurd (omega arith)

some-verses : (errors warnings verses : ℕ) (x : Option Refusal) → GivenMark errors warnings verses x → x ≡ None → 1 ≤ verses
some-verses errors warnings verses x (by14 o) e = let z : ◌≡◌ {A = ℕ} 0 1 = cc in absurd (omega arith)
some-verses errors warnings verses x (by15 f z) e = let z : ◌≡◌ {A = ℕ} 0 1 = cc in absurd (omega arith)
some-verses errors warnings verses x (by_none f h) e = h

pub mark-falls : (errors warnings verses : ℕ) (m n : LossAndMark) → mark_answer errors warnings verses ≡ marked m → mark_answer (errors + 1) warnings verses ≡ marked n → n.mark ≤ m.mark
mark-falls errors warnings verses m n p q =
    let a = marked-is (mark_refusal errors warnings verses) _ m p in
    let b = marked-is (mark_refusal (errors + 1) warnings verses) _ n q in
    let h = some-verses errors warnings verses _ (mark-number errors warnings verses) a.0 in
    let c : mark_of errors warnings verses ≡ m.mark = ap (λ (x : LossAndMark). x.mark) a.1 in
    let d : mark_of (errors + 1) warnings verses ≡ n.mark = ap (λ (x : LossAndMark). x.mark) b.1 in
    rw (sym c, sym d) (mark-monotone errors warnings verses h)

-- ---- What mark-exercise prints

pub mark-printed : (l : Lent) → is_too_large l.table l.source l.tape ≡ false → 4096 ≤ length l.seen → 4096 ≤ length l.open_starts → mark_lines (mark_of_answer (answer l)) ≡ mark_output l.table l.source l.tape
unfolding mark_output checked_of
mark-printed l small seen opens = rw (small, sym (nine-whole l (no-ten l small seen opens))) (go (refusal l))
  where
    go : (x : Option Refusal) → mark_lines (mark_of_answer (answer_by x (checked_of l))) ≡ mark_lines (mark_unless x (mark_answer (of_severity error_severity (list_of l)) (of_severity warning_severity (list_of l)) (verses_visited l.table (top l.source l.tape))))
    go None = refl
    go (Some r) = refl
