-- The chapters seen: the first words of a list, the last of them first.
-- Assumes nothing.
use Prim.Native.Nat.{ℕ, zero, suc, ◌+◌, ◌-◌, ◌<◌, ◌≤◌}
use mathlib.Core.Path.{◌≡◌, refl, ap, ◌∙◌}
use mathlib.Core.Bool.{Bool, true, false, ◌||◌, or_comm}
use mathlib.Core.List.{List, ◌∷◌}
use native.Mathlib.Omega.{arith}
use native.Mathlib.Numerals.{add-one}
use lib.Dec.{eqb}
use lib.ListN.{length, get_or, set, take}
use lib.Seq.{get_or-set_same, get_or-set_other}
use Rattle.std.specs.List.{list_any}
use Rattle.std.proofs.lemmas.List.Folds.{list_any_more}
use Rattle.attachment.specs.Attached.{among}
use Rattle.state.specs.Inner.{latest}

module _ (words : List ℕ) (n : ℕ) where
  abbrev is : ℕ → Bool
  is x = eqb x n

  -- among the first words as a slice's `contains` says it
  pub seen-any : (k : ℕ) → k ≤ length words → list_any is (take k words) ≡ among n (latest words k)
  unfolding among latest
  seen-any zero h = refl
  seen-any (suc k) h =
      let e = list_any_more is words k 0 (omega arith) in
      let z : k + 1 ≡ suc k = omega arith in
      rw z at e ∙ or_comm (list_any is (take k words)) (is (get_or words k 0)) ∙ ap (◌||◌ (eqb (get_or words k 0) n)) (seen-any k (omega arith))

or-either : (a b c d : Bool) → (a || c) ≡ d → ((a || b) || c) ≡ (b || d)
or-either true true c d e = refl
or-either true false c d e = e
or-either false b c d e = ap (◌||◌ b) e

-- a block that is looked at word by word, with what is known of the words before it
pub block_more : (words : List ℕ) (n at i : ℕ) (found : Bool) → (found || among n (latest words at)) ≡ among n (latest words (at + i)) → ((found || eqb (get_or words (at + i) 0) n) || among n (latest words at)) ≡ among n (latest words (at + (i + 1)))
unfolding among latest
block_more words n at i found e =
    let s : at + (i + 1) ≡ suc (at + i) = omega arith in
    rw s (or-either found (eqb (get_or words (at + i) 0) n) _ _ e)

latest-set : (words : List ℕ) (j v k : ℕ) → k ≤ j → latest (set words j v) k ≡ latest words k
unfolding latest
latest-set words j v zero h = refl
latest-set words j v (suc k) h =
    let e = latest-set words j v k (omega arith) in
    let g = get_or-set_other words j k v 0 (omega arith) in
    cc

pub latest-push : (words : List ℕ) (j v : ℕ) → j < length words → latest (set words j v) (j + 1) ≡ v ∷ latest words j
unfolding latest
latest-push words j v h =
    let e = latest-set words j v j (omega arith) in
    let g = get_or-set_same words j v 0 h in
    rw add-one (cc)
