-- The entry: what is lent is turned back, or checked.
-- Assumes nothing.
use Prim.Native.Nat.{ℕ, ◌≤◌}
use mathlib.Core.Path.{◌≡◌, refl, sym, ap, ◌∙◌}
use mathlib.Core.Bool.{false}
use mathlib.Core.List.{List, ◌++◌}
use Rattle.std.specs.Prelude.{Option, Some, None, Ok}
use lib.Dec.{ltb}
use lib.ListN.{length, take, drop}
use lib.Seq.{length-take-le}
use borrow.Author.Tests.{ltb-false}
use Rattle.tape.specs.Nodes.{count}
use Rattle.tape.specs.Forest.{Accepted}
use Rattle.refusals.specs.Refusal.{Refusal, or_else}
use Rattle.refusals.proofs.First.{neither, only-not}
use Rattle.tape.proofs.OneNumber.{accepted}
use Rattle.definition.specs.Outcome.{Lent, of1, of2, of3, of_tape, of9, of10, refusal, checked, checked_of, refused, answer, list_after, seen_after, open_after, short_list}
use Rattle.definition.specs.declared.OpenStart.{OpenStart}
use Rattle.validate.specs.declared.Report.{Report}
use Rattle.validate.specs.Entry.{answer_of}
use Rattle.text.proofs.Bool.{or_parts}
use Rattle.table.specs.Inner.{Indexed}
use Rattle.validate.specs.Inner.{from_table, from_tape, Fit, Finished}
use Rattle.validate.specs.Entry.{lent}

pub or_assoc : (a b c : Option Refusal) → or_else (or_else a b) c ≡ or_else a (or_else b c)
or_assoc None b c = refl
or_assoc (Some r) b c = refl

module _ (table s t seen : List ℕ) (opens : List OpenStart) (l : List ℕ) where
  abbrev it : Lent
  it = lent table s t seen opens l

  pub refusal_is : from_table table s t (length seen) (length opens) ≡ refusal it
  unfolding refusal
  refusal_is = ap (or_else (of1 it)) (or_assoc (of2 it) (of3 it) (from_tape table s t (length seen) (length opens)))

  -- turned back
  pub turned-back : (r : Refusal) → Some r ≡ from_table table s t (length seen) (length opens) → (refused r ≡ answer it) × ((l ≡ list_after it) × ((seen ≡ seen_after it) × (opens ≡ open_after it)))
  turned-back r says =
      let z : refusal it ≡ Some r = sym refusal_is ∙ sym says in
      (rw z, (rw z, (rw z, rw z)))

  -- not turned back
  module _ (unturned : None ≡ from_table table s t (length seen) (length opens)) where
    nothing : refusal it ≡ None
    nothing = sym refusal_is ∙ sym unturned

    after1 : or_else (of2 it) (or_else (of3 it) (or_else (of_tape it) (or_else (of9 it) (of10 it)))) ≡ None
    unfolding refusal
    after1 = (neither (of1 it) (or_else (of2 it) (or_else (of3 it) (or_else (of_tape it) (or_else (of9 it) (of10 it))))) nothing).1

    short : length s ≤ 1048576
    short = ltb-false 1048576 (length s) (only-not (ltb 1048576 (length s)) 2 0 (neither (of2 it) (or_else (of3 it) (or_else (of_tape it) (or_else (of9 it) (of10 it)))) after1).0)

    from_tape-none : or_else (of_tape it) (or_else (of9 it) (of10 it)) ≡ None
    from_tape-none = (neither (of3 it) (or_else (of_tape it) (or_else (of9 it) (of10 it))) (neither (of2 it) (or_else (of3 it) (or_else (of_tape it) (or_else (of9 it) (of10 it)))) after1).1).1

    ok : Accepted s t
    ok = (accepted s t).0 (neither (of_tape it) (or_else (of9 it) (of10 it)) from_tape-none).0

    long : short_list it ≡ false
    long = only-not (short_list it) 10 (count t) (neither (of9 it) (of10 it) (neither (of_tape it) (or_else (of9 it) (of10 it)) from_tape-none).1).1

    pub seen-long : count t ≤ length seen
    seen-long = ltb-false (length seen) (count t) (or_parts (ltb (length seen) (count t)) (ltb (length opens) (count t)) long).0

    pub opens-long : count t ≤ length opens
    opens-long = ltb-false (length opens) (count t) (or_parts (ltb (length seen) (count t)) (ltb (length opens) (count t)) long).1

    pub fits : (words : List ℕ) (n : ℕ) → Indexed table words n → Fit table words n s t (take (count t) seen) (take (count t) opens)
    fits words n indexed = record { indexed = indexed; accepted = ok; short = short; seen_room = length-take-le (count t) seen seen-long; open_room = length-take-le (count t) opens opens-long }

    pub went-through : (seen' : List ℕ) (opens' : List OpenStart) (l' : List ℕ) (r : Report) → Finished table s t (take (count t) seen) (take (count t) opens) l seen' opens' l' r → (answer_of (Ok r) ≡ answer it) × ((l' ≡ list_after it) × ((seen' ++ drop (count t) seen ≡ seen_after it) × (opens' ++ drop (count t) opens ≡ open_after it)))
    unfolding checked_of
    went-through seen' opens' l' r f = (ap checked f.answers ∙ rw nothing, (f.words ∙ rw nothing, (rw (f.seen_zero, nothing), rw (f.opens_zero, nothing))))
