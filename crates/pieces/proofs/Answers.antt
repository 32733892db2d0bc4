-- What the code finds behind a marker's name.
-- Assumes nothing.
use Prim.Native.Nat.{ℕ, ◌+◌, ◌-◌, ◌≤◌}
use mathlib.Core.Path.{◌≡◌, sym, ap, ◌∙◌}
use mathlib.Core.Bool.{Bool, true, false}
use mathlib.Core.List.{List}
use Rattle.std.specs.Prelude.{Result, Ok}
use native.Mathlib.Omega.{arith}
use lib.ListN.{length}
use Rattle.text.specs.Pick.{pick}
use Rattle.numbers.specs.Verse.{verse_part, read_of}
use Rattle.numbers.specs.declared.Unread.{Unread}
use Rattle.numbers.specs.declared.VersePart.{VersePart}
use Rattle.numbers.proofs.Readable.{start-readable}
use Rattle.refusals.specs.Refusal.{unmatched_marker}
use Rattle.reader_spec.specs.Pieces.{bar, byte_is, star_at, name_end, blanks_at, to_backslash, milestone_piece, milestone, fault}

-- a milestone with a bar, closed or not
pub behind_bar : (m : ℕ) (l : List ℕ) (end : ℕ) → end ≡ name_end l → star_at l end ≡ false → (b : ℕ) → b ≡ end + blanks_at l end → byte_is bar l b ≡ true → (n : ℕ) → n ≡ to_backslash l b → (z : Bool) → star_at l (b + n) ≡ z → pick z (milestone m end (b - end) n) (fault unmatched_marker (length l)) ≡ milestone_piece m l
unfolding milestone_piece
behind_bar m l end is apart b b-is there n n-is z last =
    let blanks : b - end ≡ blanks_at l end = omega arith in
    rw (← is, apart, ← b-is, there, ← n-is, last, blanks)

-- the number of a position that is read has four bytes
pub link_low : (label : List ℕ) (r : Result VersePart Unread) (p : VersePart) → read_of r ≡ verse_part label → r ≡ Ok p → p.num ≤ 4294967295
link_low label r p e h = (start-readable label _ (sym e ∙ ap read_of h)).number_low
