-- What a verse's label is read as, and the position expected after it.
-- Assumes nothing.
use Rattle.std.specs.Prelude.{Result, Ok, Err}
use Rattle.numbers.specs.declared.Unread.{Unread}
use Rattle.numbers.specs.declared.Unread.TheVariants as unread
use Prim.Native.Nat.{ℕ, ◌<◌, ◌≤◌}
use mathlib.Core.Path.{◌≡◌, refl, sym, ap, ◌∙◌}
use mathlib.Core.Bool.{Bool, true, false, not, false≢true, ◌&&◌}
use mathlib.Core.List.{List}
use Rattle.std.specs.Prelude.{Option, Some, None}
use native.Mathlib.Omega.{arith}
use lib.Dec.{eqb, ltb}
use lib.ListN.{length, get_or}
use borrow.Author.Tests.{lt-ltb, le-ltb}
use Rattle.numbers.specs.Verse.{Position, PartReading, position, no_digits, too_large, Readable, verse_part, verse_end, next, in_sequence, position_of, read_of}
use Rattle.numbers.specs.Verse as verse
use Rattle.numbers.specs.declared.VersePart.{VersePart}
use Rattle.numbers.proofs.Readable.{start-readable, end-readable}
use Rattle.definition.specs.Checks.{breaks, unread, end_or, expected_after}
use Rattle.chapter_verse.specs.Inner.{LowRead}

next_low : (n : ℕ) (l : Option ℕ) → n ≤ 4294967295 → (verse.next_position n l).number ≤ 4294967296
next_low n None h = omega arith
next_low n (Some b) h = omega arith

after-low : (r : VersePart) (p : Position) → Readable p → position_of r ≡ next p → r.num ≤ 4294967296
unfolding next
after-low r p h e =
    let q : r.num ≡ (verse.next_position p.number p.letter).number = ap (λ (x : Position). x.number) e in
    rw q (next_low p.number p.letter h.number_low)

-- what is read breaks the sequence, as the code asks
module _ (x : Result VersePart Unread) (p : VersePart) (part-read : x ≡ Ok p) where
  pub low_of : LowRead x → p.num ≤ 4294967296
  low_of h = rw part-read at h

pub end_none : (y : Result VersePart Unread) (p : VersePart) (z : Result VersePart Unread) → y ≡ z → unread (read_of z) ≡ true → position_of p ≡ end_or (read_of y) (position_of p)
end_none y p z h u = rw h (go (read_of z) u)
  where
    go : (r : PartReading) → unread r ≡ true → position_of p ≡ end_or r (position_of p)
    go (position q) k = absurd (false≢true k)
    go no_digits k = refl
    go too_large k = refl

end-or-readable : (s : List ℕ) (p : Position) → Readable p → Readable (end_or (verse_end s) p)
end-or-readable s p h = go (verse_end s) refl
  where
    go : (e : PartReading) → verse_end s ≡ e → Readable (end_or e p)
    go (position q) k = end-readable s q k
    go no_digits k = h
    go too_large k = h

-- the start of a label, as the code reads it
module _ (s : List ℕ) (x : Result VersePart Unread) (is : read_of x ≡ verse_part s) where
  pub stays : (v : VersePart) → v.num ≤ 4294967296 → unread (read_of x) ≡ true → (position_of v ≡ expected_after (verse_part s) s (position_of v)) × (v.num ≤ 4294967296)
  stays v h u = (go (verse_part s) (ap unread (sym is) ∙ u), h)
    where
      go : (r : PartReading) → unread r ≡ true → position_of v ≡ expected_after r s (position_of v)
      go (position p) k = absurd (false≢true k)
      go no_digits k = refl
      go too_large k = refl

  module _ (p : VersePart) (part-read : x ≡ Ok p) where
    start : verse_part s ≡ position (position_of p)
    start = sym is ∙ ap read_of part-read

    start_is : Readable (position_of p)
    start_is = start-readable s (position_of p) start

    start_low : p.num ≤ 4294967296
    start_low = let l = start_is.number_low in omega arith

    -- and its end
    module _ (y : Result VersePart Unread) (end_is : read_of y ≡ verse_end s) (q : VersePart) (q-is : position_of q ≡ end_or (read_of y) (position_of p)) where
      pub last-readable : Readable (position_of q)
      last-readable = rw (q-is, end_is) (end-or-readable s (position_of p) start_is)

      pub next-of-last : (r : VersePart) (e : Position) → position_of r ≡ next (position_of q) → (position_of r ≡ expected_after (verse_part s) s e) × (r.num ≤ 4294967296)
      next-of-last r e g = (rw start (g ∙ ap next (q-is ∙ ap (λ (z : PartReading). end_or z (position_of p)) end_is)), after-low r (position_of q) last-readable g)

pub low_read : (s : List ℕ) (x : Result VersePart Unread) → read_of x ≡ verse_part s → LowRead x
low_read s (Ok p) is = start_low s (Ok p) is p refl
low_read s (Err unread.NoDigits) is = tt
low_read s (Err unread.TooLarge) is = tt
