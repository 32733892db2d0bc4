-- The texts of the other codes show nothing.
-- Assumes nothing.
use Prim.Native.Nat.{ℕ}
use mathlib.Core.Path.{◌≡◌, refl}
use mathlib.Core.Bool.{Bool, true, false}
use mathlib.Core.List.{List, [], ◌∷◌}
use mathlib.Core.Logic.{◌⊎◌, inl, inr}
use Rattle.std.specs.Prelude.{Option, Some}
use lib.Dec.{eqb}
use borrow.Author.Tests.{eqb-true}
use types.Run.{OneOf}
use Rattle.message_texts.specs.Texts.{Code, Hole, document_texts, number_texts, marker_texts, attribute_texts}
use Rattle.message_texts.specs.Texts as texts
use Rattle.message_texts.specs.Filled.{all_texts, code_of, form_in, filled_by}
use Rattle.message_texts.specs.Inner.{values}
use Rattle.messages.specs.Message.{Request, shown, shown_of, text_by}
use Rattle.messages.specs.Inner.{WrittenBy, WrittenWith}
use Rattle.text.specs.Pick.{pick}

abbrev others : List ℕ
others = 9 ∷ 10 ∷ 11 ∷ 13 ∷ 15 ∷ 16 ∷ 23 ∷ 24 ∷ 27 ∷ 32 ∷ 33 ∷ 34 ∷ 35 ∷ []

-- the codes whose texts show something
abbrev pub special : List ℕ
special = 5 ∷ others

abbrev Plain : Code → Type 0
Plain c = (OneOf special c.code) ⊎ ((c.h1 ≡ texts.empty) × ((c.h2 ≡ texts.empty) × (c.h3 ≡ texts.empty)))

abbrev AllPlain : List Code → Type 0
AllPlain [] = Unit {0}
AllPlain (c ∷ cs) = Plain c × AllPlain cs

all_plain : AllPlain all_texts
unfolding all_texts document_texts number_texts marker_texts attribute_texts
all_plain =
    (inr (refl, (refl, refl)), (inl (inl refl), (inr (refl, (refl, refl)), (inr (refl, (refl, refl)), (inr (refl, (refl, refl)), (inl (inr (inl refl)), (inl (inr (inr (inl refl))), (inl (inr (inr (inr (inl refl)))), (inr (refl, (refl, refl)), (inl (inr (inr (inr (inr (inr (inl refl)))))), (inr (refl, (refl, refl)), (inr (refl, (refl, refl)), (inr (refl, (refl, refl)), (inl (inr (inr (inr (inr (inr (inr (inr (inr (inr (inr (inr (inr (inl refl))))))))))))), (inl (inr (inr (inr (inr (inr (inr (inr (inr (inr (inr (inr (inr (inr refl))))))))))))), (inl (inr (inr (inr (inr (inl refl))))), (inr (refl, (refl, refl)), (inl (inr (inr (inr (inr (inr (inr (inl refl))))))), (inr (refl, (refl, refl)), (inl (inr (inr (inr (inr (inr (inr (inr (inl refl)))))))), (inl (inr (inr (inr (inr (inr (inr (inr (inr (inl refl))))))))), (inr (refl, (refl, refl)), (inl (inr (inr (inr (inr (inr (inr (inr (inr (inr (inl refl)))))))))), (inl (inr (inr (inr (inr (inr (inr (inr (inr (inr (inr (inr (inl refl)))))))))))), (inr (refl, (refl, refl)), (inr (refl, (refl, refl)), (inl (inr (inr (inr (inr (inr (inr (inr (inr (inr (inr (inl refl))))))))))), tt)))))))))))))))))))))))))))

module _ (sh : Hole → Option (List ℕ)) (nothing : sh texts.empty ≡ Some []) (n form : ℕ) (other : OneOf special n → ⊥) where
  found : (cs : List Code) → AllPlain cs → text_by sh (code_of cs n) form ≡ filled_by (form_in (code_of cs n) form) (Some (values [] [] []))
  unfolding code_of
  found [] h = refl
  found (c ∷ cs) h = go (eqb c.code n) refl h.0 (found cs h.1)
    where
      go : (b : Bool) → eqb c.code n ≡ b → Plain c → text_by sh (code_of cs n) form ≡ filled_by (form_in (code_of cs n) form) (Some (values [] [] [])) → text_by sh (pick b (Some c) (code_of cs n)) form ≡ filled_by (form_in (pick b (Some c) (code_of cs n)) form) (Some (values [] [] []))
      go true e (inl o) i = absurd (other (rw (eqb-true c.code n e) at o))
      go true e (inr z) i = rw (z.0, z.1.0, z.1.1, nothing)
      go false e p i = i

-- the code is none of these: what the arm for any other code knows, behind what is known before
abbrev pub OtherThan : Type 0 → List ℕ → ℕ → Type 0
OtherThan N [] n = N
OtherThan N (k ∷ ks) n = OtherThan (N × (n ≡ k → ⊥)) ks n

known : (N : Type 0) (ks : List ℕ) (n : ℕ) → OtherThan N ks n → N
known N [] n o = o
known N (k ∷ ks) n o = (known (N × (n ≡ k → ⊥)) ks n o).0

none_of : (N : Type 0) (k : ℕ) (ks : List ℕ) (n : ℕ) → OtherThan N (k ∷ ks) n → OneOf (k ∷ ks) n → ⊥
none_of N k [] n o e = o.1 e
none_of N k (j ∷ ks) n o (inl e) = (known (N × (n ≡ k → ⊥)) (j ∷ ks) n o).1 e
none_of N k (j ∷ ks) n o (inr r) = none_of (N × (n ≡ k → ⊥)) j ks n o r

pub written-plain : (table s t : List ℕ) (q : Request) → OtherThan (Unit {0}) special q.code → (l l' : List ℕ) (r : Option ℕ) → WrittenWith q [] [] [] l l' r → WrittenBy table s t q l l' r
unfolding shown_of
written-plain table s t q other l l' r h = rw (found (shown table s t q) refl q.code q.form (none_of (Unit {0}) 5 others q.code other) all_texts all_plain) h
