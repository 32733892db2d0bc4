-- Both answers of a report, one behind the other, and the texts of the findings that a check wrote.
-- Assumes nothing.
use Prim.Native.Nat.{ℕ, ◌+◌, ◌*◌, ◌/◌, ◌≤◌}
use mathlib.Core.Path.{◌≡◌, refl, sym, ap, ◌∙◌}
use mathlib.Core.Bool.{Bool, true, false}
use mathlib.Core.List.{List, ◌++◌}
use Rattle.std.specs.Prelude.{Some, None}
use native.Mathlib.Nat.{zero-add}
use native.Mathlib.Omega.{arith}
use lib.Dec.{ltb}
use lib.ListN.{length}
use borrow.Author.Tests.{ltb-true}
use Rattle.refusals.specs.Refusal.{Refusal}
use Rattle.tape.specs.Forest.{Accepted}
use Rattle.buffer.specs.Over.{over}
use Rattle.buffer.proofs.Over.{over-over}
use Rattle.definition.specs.Outcome.{Lent, Answer, refused, checked, refusal, answer, list_after, list_of, checked_of}
use Rattle.definition.specs.declared.OpenStart.{OpenStart}
use Rattle.validate.proofs.Whole.{refusal_is}
use Rattle.messages.specs.Answer.{first_nine}
use Rattle.messages.proofs.Nine.{nine-none, is-accepted, is-short}
use Rattle.messages.specs.Messages.{texts_of, ends_from}
use Rattle.message_texts.specs.Filled.{joined}
use Rattle.harkoxin.specs.Words.{answer_words, messages_words}
use Rattle.harkoxin.specs.Report.{held_of, held_in, held_answer, turned_words, report_answer, report_text, report_ends}
use Rattle.text.specs.Pick.{pick}
use Rattle.table.specs.Inner.{Indexed}
use Rattle.validate.specs.Inner.{from_table}
use Rattle.validate.specs.Entry.{lent}

pub nine_words : (a : Answer) → length (answer_words a) ≡ 9
nine_words (refused r) = refl
nine_words (checked c) = refl

pub both-written : (out out₁ out₂ xs ys : List ℕ) → length xs ≡ 9 → out₁ ≡ over out 0 xs → out₂ ≡ over out₁ 9 ys → out₂ ≡ over out 0 (xs ++ ys)
both-written out out₁ out₂ xs ys n e f =
    let k : 0 + length xs ≡ 9 = zero-add (length xs) ∙ n in
    f ∙ rw (e, ← k) (over-over out 0 xs ys)

module _ (table s t seen : List ℕ) (opens : List OpenStart) (l : List ℕ) where
  abbrev it : Lent
  it = lent table s t seen opens l

  -- turned back
  module _ (a b : ℕ) (a-is : a ≡ length seen) (b-is : b ≡ length opens) (r : Refusal) (says : Some r ≡ from_table table s t a b) where
    turned : refusal it ≡ Some r
    turned = sym (refusal_is table s t seen opens l) ∙ sym (says ∙ rw (a-is, b-is))

    pub turned-words : (out out₁ : List ℕ) (n : ℕ) → out₁ ≡ over out 0 (turned_words r.number r.place) → out₁ ≡ over out 0 (answer_words (answer it) ++ messages_words (report_answer it n))
    turned-words out out₁ n h = h ∙ rw turned

    pub turned-text : (text : List ℕ) → text ≡ report_text it text
    turned-text text = rw turned

    pub turned-ends : (n : ℕ) (ends : List ℕ) → ends ≡ report_ends it n ends
    turned-ends n ends = rw turned

  -- not turned back
  module _ (unturned : None ≡ from_table table s t (length seen) (length opens)) where
    nothing : refusal it ≡ None
    nothing = sym (refusal_is table s t seen opens l) ∙ sym unturned

    nine : first_nine table s t ≡ None
    nine = nine-none it nothing

    module _ (a : Answer) (a-is : a ≡ answer it) (l₁ : List ℕ) (l-is : l₁ ≡ list_after it) where
      pub held-requires : (words : List ℕ) (entries : ℕ) → Indexed table words entries → length l₁ ≡ length l → (Indexed table words entries) × (Accepted s t) × (length s ≤ 1048576) × (8 * held_of a ≤ length l₁)
      unfolding checked_of
      held-requires words entries i e = (i, is-accepted table s t nine, is-short table s t nine, rw (a-is, nothing, e) (go (length (list_of it)) (ltb (length (list_of it)) (length l / 8)) refl))
        where
          go : (n : ℕ) (b : Bool) → ltb n (length l / 8) ≡ b → 8 * pick b n (length l / 8) ≤ length l
          go n true h = omega (arith, ltb-true n (length l / 8) h)
          go n false h = omega arith

      pub held-words : (out out₁ : List ℕ) (n : ℕ) → out₁ ≡ over out 0 (answer_words a ++ messages_words (held_answer table s t (held_in a l₁) n)) → out₁ ≡ over out 0 (answer_words (answer it) ++ messages_words (report_answer it n))
      held-words out out₁ n h = h ∙ rw (a-is, l-is, nothing, nine)

      pub held-text : (text text₁ : List ℕ) → text₁ ≡ over text 0 (joined (texts_of table s t (held_in a l₁) (length text))) → text₁ ≡ report_text it text
      held-text text text₁ h = h ∙ rw (a-is, l-is, nothing, nine)

      pub held-ends : (n : ℕ) (ends ends₁ : List ℕ) → ends₁ ≡ over ends 0 (ends_from 0 (texts_of table s t (held_in a l₁) n)) → ends₁ ≡ report_ends it n ends
      held-ends n ends ends₁ h = h ∙ rw (a-is, l-is, nothing, nine)
