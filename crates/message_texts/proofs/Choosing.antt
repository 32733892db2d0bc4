-- The text of a form among the texts of a code, and of a code among all.
-- Assumes nothing.
use Prim.Native.Nat.{ℕ, zero, suc}
use mathlib.Core.Path.{◌≡◌, refl, sym}
use mathlib.Core.List.{List, [], ◌∷◌, ◌++◌}
use Rattle.std.specs.Prelude.{Option, Some, None, slice_get}
use borrow.Author.Tests.{ne_eqb}
use Rattle.message_texts.specs.Texts.{Code}
use Rattle.message_texts.specs.Filled.{Values, filled, filled_by, joined, code_of, form_of, form_in, text_in}
use Rattle.message_texts.specs.Inner.{values, WrittenAs, WrittenFrom, WrittenOf}

-- of some texts, that of the form is written, or there is none
pub written-form : {form : ℕ} {a b c l l' : List ℕ} {r : Option ℕ} (ts : List (List ℕ)) {t : List ℕ} → slice_get ts form ≡ Some t → WrittenAs (Some (filled t (values a b c))) l l' r → WrittenOf ts form a b c l l' r
written-form ts e y = record { written_as = rw e y }

pub written_none : {form : ℕ} {a b c l : List ℕ} (ts : List (List ℕ)) → slice_get ts form ≡ None → WrittenOf ts form a b c l l None
written_none ts e = record { written_as = rw e (record { answer_is = refl; list_is = refl }) }

-- a code's texts, each in one piece
unfoldable pub pieces : List (List (List ℕ)) → List (List ℕ)
pieces [] = []
pieces (f ∷ fs) = joined f ∷ pieces fs

abbrev pub texts_of : Option Code → List (List ℕ)
texts_of None = []
texts_of (Some x) = pieces x.forms

form-is : (fs : List (List (List ℕ))) (k : ℕ) → form_of fs k ≡ slice_get (pieces fs) k
unfolding form_of pieces
form-is [] k = refl
form-is (f ∷ fs) zero = refl
form-is (f ∷ fs) (suc k) = form-is fs k

text-is : (o : Option Code) (form : ℕ) → form_in o form ≡ slice_get (texts_of o) form
text-is None form = refl
text-is (Some x) form = form-is x.forms form

-- the code is n: one of its texts is written
pub written_at : {form code n : ℕ} {a b c l l' : List ℕ} {r : Option ℕ} (cs : List Code) → code ≡ n → WrittenOf (texts_of (code_of cs n)) form a b c l l' r → WrittenFrom cs code form a b c l l' r
written_at {form} {n = n} cs e y = rw (e, text-is (code_of cs n) form) y.written_as

-- the code is none of these: what the arm for any other code knows, behind what is known before
abbrev pub Other : Type 0 → List Code → ℕ → Type 0
Other N [] n = N
Other N (x ∷ cs) n = Other (N × (n ≡ x.code → ⊥)) cs n

known : (N : Type 0) (cs : List Code) (n : ℕ) → Other N cs n → N
known N [] n o = o
known N (x ∷ cs) n o = (known (N × (n ≡ x.code → ⊥)) cs n o).0

code-past : (N : Type 0) (cs rest : List Code) (n : ℕ) → Other N cs n → code_of (cs ++ rest) n ≡ code_of rest n
unfolding code_of
code-past N [] rest n o = refl
code-past N (x ∷ cs) rest n o = rw (ne_eqb x.code n (λ e. (known (N × (n ≡ x.code → ⊥)) cs n o).1 (sym e))) (code-past (N × (n ≡ x.code → ⊥)) cs rest n o)

module _ (N : Type 0) (cs : List Code) (code form : ℕ) (v : Option Values) (o : Other N cs code) where
  pub written-past : {l l' : List ℕ} {r : Option ℕ} (rest : List Code) → WrittenAs (filled_by (text_in rest code form) v) l l' r → WrittenAs (filled_by (text_in (cs ++ rest) code form) v) l l' r
  written-past rest y = rw (code-past N cs rest code o) y

  pub written-not : (l : List ℕ) → WrittenAs (filled_by (text_in (cs ++ []) code form) v) l l None
  unfolding code_of
  written-not l = written-past [] (record { answer_is = refl; list_is = refl })
