-- Bytes that were written at the start of a list long enough are its first ones.
-- Assumes nothing.
use Prim.Native.Nat.{ℕ, ◌≤◌}
use mathlib.Core.Path.{◌≡◌, refl, ap, ◌∙◌}
use mathlib.Core.List.{List}
use native.Mathlib.Omega.{arith}
use lib.ListN.{length, take, drop}
use lib.Seq.{take_at}
use Rattle.buffer.specs.Over.{Put}
use Rattle.buffer.proofs.Over.{over-fits, length_over}
use Rattle.message_texts.proofs.Room.{put-length}

module _ (s z x : List ℕ) (k : ℕ) (h : length s ≤ length z) (p : Put s z 0 x k) where
  pub inside : k ≤ length x
  inside = let e : length x ≡ length z = ap length p.list ∙ length_over z 0 s in omega (arith, put-length p, e, h)

  pub taken : take k x ≡ s
  taken = rw (p.list ∙ over-fits z s h, put-length p) (take_at s (drop (length s) z) (length s) refl)
