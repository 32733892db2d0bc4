-- The text that a code and a form have, with its values or without one of them.
-- Assumes nothing.
use Prim.Native.Nat.{ℕ}
use mathlib.Core.Path.{◌≡◌, refl}
use mathlib.Core.Bool.{Bool, true, false, false≢true, ◌||◌}
use mathlib.Core.List.{List}
use Rattle.std.specs.Prelude.{Option, Some, None}
use lib.Dec.{eqb}
use borrow.Author.Tests.{eqb-true}
use Rattle.message_texts.specs.Texts.{Code, Hole, document_texts, number_texts, marker_texts, attribute_texts}
use Rattle.message_texts.specs.Texts as texts
use Rattle.message_texts.specs.Filled.{Values, all_texts, code_of, text_in, filled_by}
use Rattle.message_texts.specs.Inner.{values}
use Rattle.messages.specs.Message.{Request, shown, three, text_by}
use Rattle.messages.specs.Inner.{WrittenBy, WrittenWith, is_tables, is_labels}

unfilled : (f : Option (List ℕ)) → filled_by f None ≡ None
unfilled None = refl
unfilled (Some f) = refl

-- the three values of a code
pub record Holes (n : ℕ) (h1 h2 h3 : Hole) : Type 0 where
  pub text : Code
  pub is : code_of all_texts n ≡ Some text
  pub one : text.h1 ≡ h1
  pub two : text.h2 ≡ h2
  pub third : text.h3 ≡ h3

-- a text by its code, whose values are there or not
module _ (table s t : List ℕ) (q : Request) (h1 h2 h3 : Hole) (k : Holes q.code h1 h2 h3) where
  abbrev vs : Option Values
  vs = three (shown table s t q h1) (shown table s t q h2) (shown table s t q h3)

  text-is : text_by (shown table s t q) (code_of all_texts q.code) q.form ≡ filled_by (text_in all_texts q.code q.form) vs
  text-is = rw (k.is, k.one, k.two, k.third)

  pub written-with : (a b c : List ℕ) → vs ≡ Some (values a b c) → (l l' : List ℕ) (r : Option ℕ) → WrittenWith q a b c l l' r → WrittenBy table s t q l l' r
  written-with a b c e l l' r h = rw (text-is, e) h

  pub written-lacks : vs ≡ None → (l : List ℕ) → WrittenBy table s t q l l None
  written-lacks e l = rw (text-is, e, unfilled) (record { answer_is = refl; list_is = refl })

pub holes-5 : (n : ℕ) → n ≡ 5 → Holes n texts.book_code texts.empty texts.empty
unfolding all_texts document_texts number_texts marker_texts attribute_texts code_of
holes-5 n e = rw e (record { text = _; is = refl; one = refl; two = refl; third = refl })

pub holes-9 : (n : ℕ) → n ≡ 9 → Holes n texts.first texts.second texts.empty
unfolding all_texts document_texts number_texts marker_texts attribute_texts code_of
holes-9 n e = rw e (record { text = _; is = refl; one = refl; two = refl; third = refl })

pub holes-10 : (n : ℕ) → n ≡ 10 → Holes n texts.first texts.second texts.empty
unfolding all_texts document_texts number_texts marker_texts attribute_texts code_of
holes-10 n e = rw e (record { text = _; is = refl; one = refl; two = refl; third = refl })

pub holes-11 : (n : ℕ) → n ≡ 11 → Holes n texts.position texts.label texts.empty
unfolding all_texts document_texts number_texts marker_texts attribute_texts code_of
holes-11 n e = rw e (record { text = _; is = refl; one = refl; two = refl; third = refl })

holes-13 : (n : ℕ) → n ≡ 13 → Holes n texts.entry_name texts.empty texts.empty
unfolding all_texts document_texts number_texts marker_texts attribute_texts code_of
holes-13 n e = rw e (record { text = _; is = refl; one = refl; two = refl; third = refl })

holes-15 : (n : ℕ) → n ≡ 15 → Holes n texts.label texts.empty texts.empty
unfolding all_texts document_texts number_texts marker_texts attribute_texts code_of
holes-15 n e = rw e (record { text = _; is = refl; one = refl; two = refl; third = refl })

pub holes-16 : (n : ℕ) → n ≡ 16 → Holes n texts.base texts.empty texts.empty
unfolding all_texts document_texts number_texts marker_texts attribute_texts code_of
holes-16 n e = rw e (record { text = _; is = refl; one = refl; two = refl; third = refl })

holes-24 : (n : ℕ) → n ≡ 24 → Holes n texts.entry_name texts.empty texts.empty
unfolding all_texts document_texts number_texts marker_texts attribute_texts code_of
holes-24 n e = rw e (record { text = _; is = refl; one = refl; two = refl; third = refl })

holes-23 : (n : ℕ) → n ≡ 23 → Holes n texts.entry_name texts.empty texts.empty
unfolding all_texts document_texts number_texts marker_texts attribute_texts code_of
holes-23 n e = rw e (record { text = _; is = refl; one = refl; two = refl; third = refl })

-- the codes whose texts show the table's name
pub holes-entry : (n : ℕ) → is_tables n ≡ true → Holes n texts.entry_name texts.empty texts.empty
holes-entry n h = test (eqb n 13) (eqb n 23) (eqb n 24) refl refl refl h
  where
    test : (a b c : Bool) → eqb n 13 ≡ a → eqb n 23 ≡ b → eqb n 24 ≡ c → (a || (b || c)) ≡ true → Holes n texts.entry_name texts.empty texts.empty
    test true b c e f g h = holes-13 n (eqb-true n 13 e)
    test false true c e f g h = holes-23 n (eqb-true n 23 f)
    test false false true e f g h = holes-24 n (eqb-true n 24 g)
    test false false false e f g h = absurd (false≢true h)

pub holes-27 : (n : ℕ) → n ≡ 27 → Holes n texts.first texts.second texts.empty
unfolding all_texts document_texts number_texts marker_texts attribute_texts code_of
holes-27 n e = rw e (record { text = _; is = refl; one = refl; two = refl; third = refl })

pub holes-32 : (n : ℕ) → n ≡ 32 → Holes n texts.owner_name texts.empty texts.empty
unfolding all_texts document_texts number_texts marker_texts attribute_texts code_of
holes-32 n e = rw e (record { text = _; is = refl; one = refl; two = refl; third = refl })

pub holes-33 : (n : ℕ) → n ≡ 33 → Holes n texts.number_name texts.owner texts.unit
unfolding all_texts document_texts number_texts marker_texts attribute_texts code_of
holes-33 n e = rw e (record { text = _; is = refl; one = refl; two = refl; third = refl })

pub holes-34 : (n : ℕ) → n ≡ 34 → Holes n texts.glued_name texts.bare_name texts.glued_label
unfolding all_texts document_texts number_texts marker_texts attribute_texts code_of
holes-34 n e = rw e (record { text = _; is = refl; one = refl; two = refl; third = refl })

holes-35 : (n : ℕ) → n ≡ 35 → Holes n texts.label texts.empty texts.empty
unfolding all_texts document_texts number_texts marker_texts attribute_texts code_of
holes-35 n e = rw e (record { text = _; is = refl; one = refl; two = refl; third = refl })

-- the codes whose texts show a label alone
pub holes-label : (n : ℕ) → is_labels n ≡ true → Holes n texts.label texts.empty texts.empty
holes-label n h = go (eqb n 15) refl h
  where
    go : (b : Bool) → eqb n 15 ≡ b → (b || eqb n 35) ≡ true → Holes n texts.label texts.empty texts.empty
    go true e k = holes-15 n (eqb-true n 15 e)
    go false e k = holes-35 n (eqb-true n 35 k)
