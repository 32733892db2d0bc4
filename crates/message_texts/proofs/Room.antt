-- A text that has room in a list, or not.
-- Assumes nothing.
use Prim.Native.Nat.{ℕ, ◌+◌, ◌*◌, ◌<◌, ◌≤◌}
use native.Mathlib.Omega.{arith}
use native.Mathlib.Nat.{zero-add, mul-le-mul}
use mathlib.Core.Path.{◌≡◌, refl, ap, ◌∙◌}
use mathlib.Core.List.{List, [], ◌++◌}
use Rattle.std.specs.Prelude.{Some}
use borrow.Author.Tests.{lt-ltb, le-ltb}
use lib.ListN.{length}
use Rattle.buffer.specs.Over.{Put}
use Rattle.buffer.proofs.Over.{over-past}
use Rattle.message_texts.specs.Inner.{Short, WrittenAs}

pub put-length : {s l l' : List ℕ} {n : ℕ} → Put s l 0 l' n → n ≡ length s
put-length {s} p = p.end ∙ zero-add (length s)

-- a text and its values are short
module _ (text a b c : List ℕ) (h : length text ≤ 256) (short : Short a b c) where
  pub most : length text * (1 + length a + length b + length c) ≤ 805306624
  most = let k : 1 + length a + length b + length c ≤ 3145729 = omega arith in omega (arith, mul-le-mul h k)

-- a text that was written over the empty start of a list, which is then as it was
module _ (s l none_written : List ℕ) (n : ℕ) (p : Put s [] 0 none_written n) where
  pub none_before : none_written ++ l ≡ l
  none_before = ap (◌++ l) (p.list ∙ over-past [] 0 s (omega arith))

  pub has_room : n ≤ length (none_written ++ l) → length s ≤ length l
  has_room h = omega (arith, put-length p, ap length none_before)

  pub written-short : length (none_written ++ l) < n → WrittenAs (Some s) l (none_written ++ l) (Some n)
  written-short h =
      let k : length l < length s = omega (arith, put-length p, ap length none_before) in
      rw (none_before, put-length p) (record { answer_is = refl; list_is = rw (lt-ltb (length l) (length s) k) })

pub written-long : (s l l' : List ℕ) (n : ℕ) → length s ≤ length l → Put s l 0 l' n → WrittenAs (Some s) l l' (Some n)
written-long s l l' n h p = record { answer_is = rw (put-length p); list_is = rw (le-ltb (length l) (length s) h) p.list }
