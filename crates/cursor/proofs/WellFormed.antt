-- The name of a marker is well-formed where the text is.
-- Assumes nothing.
use mathlib.Core.Path.{◌≡◌, refl, sym, ap, ◌∙◌}
use mathlib.Core.Bool.{true}
use mathlib.Core.List.{List}
use Prim.Native.Nat.{ℕ, ◌<◌}
use native.Mathlib.Decide.{ℕ_discrete, dec_lt}
use native.Mathlib.Omega.{arith}
use lib.ListN.{length, get_or, drop}
use Rattle.text.specs.Utf8.{Made}
use Rattle.text.specs.Characters.{find, is_boundary}
use Rattle.text.proofs.Boundary.{at_zero}
use Rattle.text.proofs.WellFormed.{boundary-le, made-before, made-from, made-find, made-past-ascii}
use Rattle.cursor.specs.Names.{past_one, ends_name, name_part, name_of}
use Rattle.cursor.proofs.Named.{one_end, one_hit, one-miss}

-- one ASCII byte dropped, or none
past-boundary : {s : List ℕ} → Made s → (b i : ℕ) → b < 0x80 → is_boundary s i ≡ true → is_boundary s (past_one b s i) ≡ true
past-boundary {s} m b i low y = go (dec_lt i (length s)) (ℕ_discrete (get_or s i 0) b)
  where
    go : Dec (i < length s) → Dec (get_or s i 0 ≡ b) → is_boundary s (past_one b s i) ≡ true
    go (no h) z = ap (is_boundary s) (sym (one_end s i b (omega arith) (omega arith) (boundary-le s i y)).is) ∙ y
    go (yes h) (no z) = ap (is_boundary s) (sym (one-miss s i b h z).is) ∙ y
    go (yes h) (yes z) = ap (is_boundary s) (sym (one_hit s i b h z).is) ∙ made-past-ascii m i y h (omega arith)

pub made-name : {s : List ℕ} → Made s → Made (name_of s)
unfolding name_part
made-name {s} m =
    let a = past_one 0x5C s 0 in
    let b = past_one 0x2B s a in
    let y = past-boundary m 0x2B a (omega arith) (past-boundary m 0x5C 0 (omega arith) (at_zero s 0 refl)) in
    let r = made-from m b y in
    made-before r (find ends_name (drop b s)) (made-find r ends_name)
