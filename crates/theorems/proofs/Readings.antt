-- What each answer of the part reading says.
-- Assumes nothing.
use Prim.Native.Nat.{ℕ, zero, suc}
use native.Mathlib.Omega.{arith}
use mathlib.Core.Path.{◌≡◌, refl}
use mathlib.Core.Bool.{Bool, true, false, not}
use mathlib.Core.List.{List, [], ◌∷◌}
use Rattle.std.specs.Prelude.{Some, None}
use lib.Dec.{eqb, leb}
use lib.ListN.{take, drop}
use borrow.Author.Tests.{ne_eqb, leb-true, leb-false}
use Rattle.text.specs.Pick.{cut, pick}
use Rattle.text.specs.Characters.{find_byte}
use Rattle.text.specs.Words.{trim_start}
use Rattle.text.specs.Number.{digit, all_digits, value_from, digits_from, digits}
use Rattle.numbers.specs.Verse.{no_digits, with_letter, letter_of, digits_end, part_of, verse_part}
use Rattle.theorems.specs.Readings.{ReadingIs}

-- the digits at the start are digits
all_digits_lem : (s : List ℕ) → all_digits (take (digits_end s) s) ≡ true
unfolding find_byte all_digits
all_digits_lem [] = refl
all_digits_lem (b ∷ s) = go (digit b) refl (all_digits_lem s)
  where
    go : (v : Bool) → digit b ≡ v → all_digits (take (digits_end s) s) ≡ true → all_digits (take (pick (not v) 0 (suc (digits_end s))) (b ∷ s)) ≡ true
    go true h later = rw h later
    go false h later = refl

-- and make a number that is read if it is low enough
read-digits : (s : List ℕ) (n : ℕ) → digits_end s ≡ suc n → digits (take (suc n) s) ≡ pick (leb (value_from 0 (take (suc n) s)) 4294967295) (Some (value_from 0 (take (suc n) s))) None
unfolding find_byte digits digits_from
read-digits [] n e = absurd (omega (arith, e))
read-digits (b ∷ t) n e = let a : all_digits (b ∷ take n t) ≡ true = rw e at (all_digits_lem (b ∷ t)) in rw a

part-is : (s : List ℕ) → ReadingIs s (part_of s)
unfolding part_of
part-is s = go (digits_end s) refl
  where
    large : (n : ℕ) → digits_end s ≡ suc n → (b : Bool) → leb (value_from 0 (take (suc n) s)) 4294967295 ≡ b → ReadingIs s (with_letter (pick b (Some (value_from 0 (take (suc n) s))) None) (letter_of (drop (suc n) s)))
    large n e true h = rw e (omega arith, leb-true _ _ h, refl, refl)
    large n e false h = rw e (omega arith, leb-false _ _ h)

    go : (n : ℕ) → digits_end s ≡ n → ReadingIs s (pick (eqb n 0) no_digits (with_letter (digits (take n s)) (letter_of (drop n s))))
    go zero e = e
    go (suc n) e = rw (ne_eqb (suc n) 0 (omega arith), read-digits s n e) (large n e (leb (value_from 0 (take (suc n) s)) 4294967295) refl)

pub part-readings : (s : List ℕ) → ReadingIs (cut (trim_start s) s) (verse_part s)
unfolding verse_part
part-readings s = part-is (cut (trim_start s) s)
