-- Laws about verse parts, their order, and what follows them.
-- Assumes nothing.
use Prim.Native.Nat.{ℕ, suc, ◌+◌, ◌-◌, ◌<◌, ◌≤◌}
use mathlib.Core.Path.{◌≡◌, refl, sym, ap, ◌∙◌}
use mathlib.Core.Bool.{Bool, true, false, not, false≢true}
use mathlib.Core.List.{List, [], ◌∷◌}
use Rattle.std.specs.Prelude.{Option, Some, None}
use native.Mathlib.Omega.{arith}
use borrow.Author.Tests.{lt-ltb, le-ltb, eq-eqb, ne_eqb}
use lib.Dec.{eqb}
use lib.ListN.{length, take, drop, get_or}
use Rattle.text.specs.Pick.{within, cut, pick}
use Rattle.text.specs.Characters.{find_byte}
use Rattle.text.specs.Words.{trim_start}
use Rattle.text.specs.Number.{digit, digits}
use Rattle.text.specs.Number as number
use Rattle.text.proofs.Cuts.{rest_all}
use Rattle.numbers.specs.Verse.{PartReading, position, no_digits, too_large, letter_of, with_letter, digits_end, part_of, verse_part, verse_end}

-- the letter that a text begins with
pub no-letter : (s : List ℕ) → length s ≡ 0 → None ≡ letter_of s
no-letter [] h = refl
no-letter (b ∷ s) h = absurd (omega (arith, h))

pub letter-by : (s : List ℕ) (x v : Bool) → (length s ≡ 0 → ⊥) → x ≡ within 0x61 0x7A (get_or s 0 0) → x ≡ v → pick v (Some (get_or s 0 0)) None ≡ letter_of s
letter-by [] x v l e h = absurd (l refl)
letter-by (b ∷ s) x v l e h = ap (λ (t : Bool). pick t (Some b) None) (sym h ∙ e)

-- a run of digits has no `+` before it
no_plus : (b : ℕ) → digit b ≡ true → eqb b 0x2B ≡ false
no_plus b h = ne_eqb b 0x2B (λ e. false≢true (ap digit (sym e) ∙ h))

pub digits-parsed : (t : List ℕ) → number.parsed (take (digits_end t) t) ≡ digits (take (digits_end t) t)
unfolding find_byte number.parsed digits
digits-parsed [] = refl
digits-parsed (b ∷ t) = go (digit b) refl
  where
    go : (v : Bool) → digit b ≡ v → number.parsed (take (pick (not v) 0 (suc (digits_end t))) (b ∷ t)) ≡ digits (take (pick (not v) 0 (suc (digits_end t))) (b ∷ t))
    go true h = rw (no_plus b h) refl
    go false h = refl

-- the part that a label begins with, cut into its digits and what follows
module _ (s t : List ℕ) (e : ℕ) (cut-is : t ≡ cut (trim_start s) s) (end_is : e ≡ digits_end t) where
  part_cut : pick (eqb e 0) no_digits (with_letter (digits (take e t)) (letter_of (drop e t))) ≡ verse_part s
  unfolding verse_part part_of
  part_cut = rw end_is (ap part_of cut-is)

  pub part_none : e ≡ 0 → no_digits ≡ verse_part s
  part_none h = rw (eq-eqb e 0 h) at part_cut

  module _ (some-digit : e ≡ 0 → ⊥) (r : Option ℕ) (read : r ≡ number.parsed (take e t)) where
    read-digits : number.parsed (take e t) ≡ digits (take e t)
    read-digits = rw end_is (digits-parsed t)

    chain : with_letter r (letter_of (drop e t)) ≡ verse_part s
    chain = ap (λ (o : Option ℕ). with_letter o (letter_of (drop e t))) (read ∙ read-digits) ∙ (rw (ne_eqb e 0 some-digit) at part_cut)

    pub part-read : (n : ℕ) (l : Option ℕ) → r ≡ Some n → l ≡ letter_of (take (length t - e) (drop e t)) → position (record { number = n; letter = l }) ≡ verse_part s
    part-read n l h g = ap (λ (o : Option ℕ). with_letter o l) (sym h) ∙ ap (with_letter r) (g ∙ ap letter_of (rest_all t e)) ∙ chain

    pub part-large : r ≡ None → too_large ≡ verse_part s
    part-large h = ap (λ (o : Option ℕ). with_letter o (letter_of (drop e t))) (sym h) ∙ chain

-- the end of a range
pub end_after : (s : List ℕ) (at : ℕ) (x : PartReading) → at ≡ find_byte (eqb 0x2D) s → at < length s → x ≡ verse_part (take (length s - (at + 1)) (drop (at + 1) s)) → x ≡ verse_end s
unfolding verse_end
end_after s at x e l h = rw (sym e) (rw (lt-ltb at (length s) l) (h ∙ ap verse_part (rest_all s (at + 1))))

pub end-start : (s : List ℕ) (at : ℕ) (x : PartReading) → at ≡ find_byte (eqb 0x2D) s → length s ≤ at → x ≡ verse_part s → x ≡ verse_end s
unfolding verse_end
end-start s at x e l h = rw (sym e) (rw (le-ltb at (length s) l) h)
