-- Numbers 1 to 9 are those of the whole check with working lists that are long enough for any tape; and numbers 12 and 13.
-- Assumes nothing.
use Prim.Native.Nat.{ℕ, ◌%◌, ◌<◌, ◌≤◌}
use mathlib.Core.Path.{◌≡◌, refl, sym, ap, ◌∙◌}
use mathlib.Core.Bool.{not, ◌||◌}
use mathlib.Core.List.{List}
use Rattle.std.specs.Prelude.{Option, Some, None}
use lib.Dec.{eqb, ltb}
use lib.ListN.{length}
use borrow.Author.Tests.{lt-ltb, le-ltb, ltb-false}
use Rattle.text.specs.Pick.{pick}
use Rattle.tape.specs.Nodes.{count}
use Rattle.tape.specs.Forest.{Accepted}
use Rattle.refusals.specs.Refusal.{Refusal, refuse, or_else, no_message, message_list_too_short}
use Rattle.tape.specs.Reading.{tape_refusal}
use Rattle.refusals.proofs.First.{neither, only-not}
use Rattle.tape.proofs.OneNumber.{accepted}
use Rattle.numbers.specs.Label.{label_refusal}
use Rattle.definition.specs.Outcome.{Lent, of1, of2, of3, of_tape, of9, of10, refusal}
use Rattle.validate.proofs.Whole.{or_assoc}
use Rattle.message_texts.specs.Inner.{WrittenAs}
use Rattle.messages.specs.Message.{Request, message_text}
use Rattle.messages.specs.Inner.{WrittenBy}
use Rattle.messages.specs.Answer.{document, first_nine, MessageAnswer, refused, written, by_room, bytes_by}
use Rattle.text.proofs.Bool.{or_parts}
use Rattle.validate.specs.Inner.{lists_refusal, from_tape, from_table}

or-none : (x : Option Refusal) → or_else x None ≡ x
or-none None = refl
or-none (Some r) = refl

module _ (table s t : List ℕ) where
  long-enough : (x : Option Refusal) → tape_refusal s t ≡ x → or_else x (or_else (label_refusal table s t) (lists_refusal (count t) 65535 65535)) ≡ or_else x (label_refusal table s t)
  long-enough (Some r) e = refl
  long-enough None e =
      let odd = not (eqb (length t % 16) 0) in
      let many = ltb 65535 (count t) in
      let few : count t ≤ 65535 = ltb-false 65535 (count t) (or_parts odd many (or_parts (eqb (length t) 0) (odd || many) ((accepted s t).0 e).sized).1).1 in
      ap (or_else (label_refusal table s t)) (rw (le-ltb 65535 (count t) few)) ∙ or-none (label_refusal table s t)

  nine : from_table table s t 65535 65535 ≡ first_nine table s t
  unfolding first_nine
  nine =
      let d = document table s t in
      ap (or_else (of1 d)) (or_assoc (of2 d) (of3 d) (from_tape table s t 65535 65535) ∙ ap (λ (z : Option Refusal). or_else (of2 d) (or_else (of3 d) z)) (long-enough (tape_refusal s t) refl))

  pub nine-refused : (r : Refusal) → Some r ≡ from_table table s t 65535 65535 → first_nine table s t ≡ Some r
  nine-refused r says = sym nine ∙ sym says

  pub passed : None ≡ from_table table s t 65535 65535 → first_nine table s t ≡ None
  passed says = sym nine ∙ sym says

  -- what numbers 1 to 9 leave
  module _ (nothing : first_nine table s t ≡ None) where
    after1 : or_else (of2 (document table s t)) (or_else (of3 (document table s t)) (or_else (of_tape (document table s t)) (of9 (document table s t)))) ≡ None
    unfolding first_nine
    after1 = (neither (of1 (document table s t)) _ nothing).1

    pub is-short : length s ≤ 1048576
    is-short = ltb-false 1048576 (length s) (only-not (ltb 1048576 (length s)) 2 0 (neither (of2 (document table s t)) _ after1).0)

    pub is-accepted : Accepted s t
    is-accepted = (accepted s t).0 (neither (of_tape (document table s t)) _ (neither (of3 (document table s t)) _ (neither (of2 (document table s t)) _ after1).1).1).0

-- numbers 1 to 9 of what number 10 doesn't turn back either
first-five : (a b c d e f : Option Refusal) → or_else a (or_else b (or_else c (or_else d (or_else e f)))) ≡ None → or_else a (or_else b (or_else c (or_else d e))) ≡ None
first-five None None None None None f z = refl
first-five None None None None (Some r) f z = z
first-five None None None (Some r) e f z = z
first-five None None (Some r) d e f z = z
first-five None (Some r) c d e f z = z
first-five (Some r) b c d e f z = z

pub nine-none : (l : Lent) → refusal l ≡ None → first_nine l.table l.source l.tape ≡ None
unfolding refusal first_nine
nine-none l z = first-five (of1 l) (of2 l) (of3 l) (of_tape l) (of9 l) (of10 l) z

-- numbers 1 to 9 are all, where number 10 isn't given
pub nine-whole : (l : Lent) → of10 l ≡ None → refusal l ≡ first_nine l.table l.source l.tape
unfolding refusal first_nine
nine-whole l z =
    ap (λ (x : Option Refusal). or_else (of1 l) (or_else (of2 l) (or_else (of3 l) (or_else (of_tape l) x)))) (ap (or_else (of9 l)) z ∙ or-none (of9 l))

-- the answer, by what the function that writes the text gives and the length of the list
unfoldable pub answer_for : Option ℕ → ℕ → MessageAnswer
answer_for None room = refused (record { number = no_message; place = 0 })
answer_for (Some n) room = pick (ltb room n) (refused (record { number = message_list_too_short; place = n })) (written n)

by-room : (o : Option (List ℕ)) (l l' : List ℕ) (r : Option ℕ) → WrittenAs o l l' r → (answer_for r (length l) ≡ by_room o (length l)) × (l' ≡ bytes_by None o l)
unfolding answer_for
by-room None l l' r y = (rw y.answer_is, y.list_is)
by-room (Some s) l l' r y = (rw y.answer_is, y.list_is)

pub answer-lack : (r : Option ℕ) (room : ℕ) → r ≡ None → refused (record { number = no_message; place = 0 }) ≡ answer_for r room
unfolding answer_for
answer-lack r room e = rw e

pub answer-short : (r : Option ℕ) (n room : ℕ) → r ≡ Some n → room < n → refused (record { number = message_list_too_short; place = n }) ≡ answer_for r room
unfolding answer_for
answer-short r n room e h = rw (e, lt-ltb room n h)

pub answer-written : (r : Option ℕ) (n room : ℕ) → r ≡ Some n → n ≤ room → written n ≡ answer_for r room
unfolding answer_for
answer-written r n room e h = rw (e, le-ltb room n h)

-- a node that is not on the tape has no text
module _ (table s t : List ℕ) (q : Request) where
  pub off-tape : count t ≤ q.node → message_text table s t q ≡ None
  unfolding message_text
  off-tape h = rw (le-ltb q.node (count t) h)

  -- a text of one that is, by the room for it
  pub on-tape : q.node < count t → (l l' : List ℕ) (r : Option ℕ) (a : MessageAnswer) → WrittenBy table s t q l l' r → a ≡ answer_for r (length l) → (a ≡ by_room (message_text table s t q) (length l)) × (l' ≡ bytes_by None (message_text table s t q) l)
  unfolding message_text
  on-tape h l l' r a y e = let z = by-room _ l l' r y in rw (lt-ltb q.node (count t) h) (e ∙ z.0, z.1)
