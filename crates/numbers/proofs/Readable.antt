-- A position that is read is one that `next_expected` and `is_valid_verse_sequence` ask for.
-- Assumes nothing.
use Prim.Native.Nat.{ℕ, ◌≤◌}
use mathlib.Core.Path.{◌≡◌, refl, sym}
use mathlib.Core.Bool.{Bool, true, false, ◌&&◌}
use mathlib.Core.List.{List, [], ◌∷◌}
use Rattle.std.specs.Prelude.{Option, Some, None}
use Rattle.std.proofs.lemmas.Option.{none-some, same_Some}
use native.Mathlib.Omega.{arith}
use borrow.Author.Tests.{lt-ltb, leb-true}
use lib.Dec.{leb, eqb}
use lib.ListN.{take, drop}
use Rattle.text.specs.Pick.{within, cut, pick}
use Rattle.text.specs.Words.{trim_start}
use Rattle.text.specs.Number.{all_digits, value_from, digits, digits_from}
use Rattle.text.proofs.Rows.{within-hi}
use Rattle.numbers.specs.Verse.{Position, PartReading, position, no_digits, too_large, Readable, letter_of, is_letter_low, with_letter, digits_end, part_of, verse_part, end_start, verse_end}
use Rattle.text.proofs.Bool.{and_right}

picked : (c : Bool) (v n : ℕ) → pick c (Some v) None ≡ Some n → (c ≡ true) × (v ≡ n)
picked true v n h = (refl, same_Some v n h)
picked false v n h = absurd (none-some n h)

limited : (t : List ℕ) (n : ℕ) → digits t ≡ Some n → n ≤ 4294967295
unfolding digits digits_from
limited [] n h = absurd (none-some n h)
limited (b ∷ t) n h =
    let v = value_from 0 (b ∷ t) in
    let p = picked (all_digits (b ∷ t) && leb v 4294967295) v n h in
    rw (sym p.1) (leb-true v 4294967295 (and_right (all_digits (b ∷ t)) (leb v 4294967295) p.0))

low-letter : (s : List ℕ) → is_letter_low (letter_of s) ≡ true
low-letter [] = refl
low-letter (b ∷ s) = go (within 0x61 0x7A b) refl
  where
    go : (v : Bool) → within 0x61 0x7A b ≡ v → is_letter_low (pick v (Some b) None) ≡ true
    go true h = let l = within-hi 0x61 0x7A b h in lt-ltb b 255 (omega arith)
    go false h = refl

-- what a reading says where it is a position
abbrev ReadableIf : PartReading → Type 0
ReadableIf (position p) = Readable p
ReadableIf no_digits = Unit {0}
ReadableIf too_large = Unit {0}

part-readable : (s : List ℕ) → ReadableIf (part_of s)
unfolding part_of
part-readable s = go (eqb (digits_end s) 0) (digits (take (digits_end s) s)) refl
  where
    go : (b : Bool) (o : Option ℕ) → digits (take (digits_end s) s) ≡ o → ReadableIf (pick b no_digits (with_letter o (letter_of (drop (digits_end s) s))))
    go true o e = tt
    go false None e = tt
    go false (Some n) e = record { number_low = limited (take (digits_end s) s) n e; letter_low = low-letter (drop (digits_end s) s) }

pub start-readable : (s : List ℕ) (p : Position) → verse_part s ≡ position p → Readable p
unfolding verse_part
start-readable s p h = rw h at (part-readable (cut (trim_start s) s))

pub end-readable : (s : List ℕ) (p : Position) → verse_end s ≡ position p → Readable p
unfolding verse_end
end-readable s p h = start-readable (drop (end_start s) s) p h
