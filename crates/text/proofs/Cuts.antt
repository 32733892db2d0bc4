-- The part of a text from one place to another, as the definitions of its words give it.
-- Assumes nothing.
use mathlib.Core.Path.{◌≡◌, ◌∙◌}
use mathlib.Core.List.{List}
use Prim.Native.Nat.{ℕ, ◌+◌, ◌-◌}
use native.Mathlib.Nat.{zero-add}
use native.Mathlib.Omega.{arith}
use lib.ListN.{length, take, drop, length-drop}
use lib.Seq.{take_all}
use Rattle.text.specs.Pick.{end, cut}
use Rattle.text.specs.Blank.{blank}
use Rattle.text.specs.Characters.{chars, find}
use Rattle.text.specs.Words.{not_blank, trim_start, kept, trim, word_from}

-- from the place a to the end
pub rest_all : (s : List ℕ) (a : ℕ) → take (length s - a) (drop a s) ≡ drop a s
rest_all s a = take_all (length s - a) (drop a s) (omega (arith, length-drop a s))

-- from the place a to the place e
pub word_end : (s : List ℕ) (i a e : ℕ) → a ≡ i + find not_blank (drop i s) → e ≡ a + find blank (drop a s) → e ≡ end (word_from i s)
unfolding word_from
word_end s i a e h k = k ∙ rw h

pub word_cut : (s : List ℕ) (i a e : ℕ) → a ≡ i + find not_blank (drop i s) → e ≡ a + find blank (drop a s) → take (e - a) (drop a s) ≡ cut (word_from i s) s
unfolding word_from
word_cut s i a e h k = let n : e - a ≡ find blank (drop a s) = omega arith in rw (n, h)

pub start-cut : (s : List ℕ) (a : ℕ) → a ≡ 0 + find not_blank s → take (length s - a) (drop a s) ≡ cut (trim_start s) s
unfolding trim_start
start-cut s a h = let e : a ≡ find not_blank s = h ∙ zero-add _ in rw e

pub trim-cut : (s : List ℕ) (a n : ℕ) → a ≡ 0 + find not_blank s → n ≡ 0 + kept (chars (take (length s - a) (drop a s))) → take (a + n - a) (drop a s) ≡ cut (trim s) s
unfolding trim
trim-cut s a n h k =
    let e : a ≡ find not_blank s = h ∙ zero-add _ in
    let m : a + n - a ≡ n = omega arith in
    let f : n ≡ kept (chars (drop a s)) = k ∙ zero-add _ ∙ rw (rest_all s a) in
    rw (m, f, e)
