-- A text with its values in their places, and which text a code and a form have.
use Rattle.std.specs.Prelude.{ℕ, zero, suc, List, [], ◌∷◌, ◌++◌, eqb}
use Rattle.std.specs.Prelude.{Option, Some, None}
use Rattle.message_texts.specs.Texts.{Code, document_texts, number_texts, marker_texts, attribute_texts}
use Rattle.text.specs.Pick.{pick}
use Rattle.text.specs.Bytes.{upper}

-- three values
pub record Values : Type 0 where
  pub a : List ℕ
  pub b : List ℕ
  pub c : List ℕ

-- a text's bytes, its values in their places
abbrev pub byte_of : ℕ → Values → List ℕ
byte_of n v = pick (eqb n 1) v.a (pick (eqb n 2) v.b (pick (eqb n 3) v.c (pick (eqb n 4) (upper v.a) (n ∷ []))))

unfoldable pub filled : List ℕ → Values → List ℕ
filled [] v = []
filled (n ∷ ns) v = byte_of n v ++ filled ns v

unfoldable pub joined : List (List ℕ) → List ℕ
joined [] = []
joined (p ∷ ps) = p ++ joined ps

-- the texts of all codes that have one
unfoldable pub all_texts : List Code
all_texts = document_texts ++ number_texts ++ marker_texts ++ attribute_texts

unfoldable pub code_of : List Code → ℕ → Option Code
code_of [] n = None
code_of (c ∷ cs) n = pick (eqb c.code n) (Some c) (code_of cs n)

-- "Form is the message's position among that code's messages"
unfoldable pub form_of : List (List (List ℕ)) → ℕ → Option (List ℕ)
form_of [] k = None
form_of (f ∷ fs) zero = Some (joined f)
form_of (f ∷ fs) (suc k) = form_of fs k

abbrev pub filled_by : Option (List ℕ) → Option Values → Option (List ℕ)
filled_by None v = None
filled_by (Some f) None = None
filled_by (Some f) (Some v) = Some (filled f v)

-- the text of a code and a form among these
abbrev pub form_in : Option Code → ℕ → Option (List ℕ)
form_in None form = None
form_in (Some c) form = form_of c.forms form

abbrev pub text_in : List Code → ℕ → ℕ → Option (List ℕ)
text_in cs code form = form_in (code_of cs code) form
