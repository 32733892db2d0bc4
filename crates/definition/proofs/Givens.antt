-- Checks whose findings are written one after the other.
-- Assumes nothing.
use Prim.Native.Nat.{ℕ}
use mathlib.Core.Path.{◌≡◌, refl, sym, ap, ◌∙◌}
use mathlib.Core.Bool.{Bool, true, false}
use mathlib.Core.List.{List, [], ◌∷◌, ◌++◌, append_assoc}
use Rattle.findings.specs.Finding.{Finding}
use Rattle.findings.specs.declared.Counts.{Counts}
use Rattle.findings.specs.Written.{only}
use Rattle.findings.proofs.Overlay.{Left, left-wrote, left-room, left_end, room-first, wrote_none}
use Rattle.definition.specs.Checks.{Check, given}
use Rattle.findings.specs.Inner.{Wrote, Room}

pub given-append : (ks js : List Check) → given (ks ++ js) ≡ given ks ++ given js
unfolding given
given-append [] js = refl
given-append (k ∷ ks) js = ap (λ (fs : List Finding). only k.holds k.finding ++ fs) (given-append ks js) ∙ sym (append_assoc (only k.holds k.finding) (given ks) (given js))

-- the checks that are left give what all gave; the first of them is settled by the flag
module _ {fs₀ : List Finding} {l₀ : List ℕ} {c₀ : Counts} (k : Check) (ks : List Check) (l : List ℕ) (c : Counts) (left : Left fs₀ l₀ c₀ (given (k ∷ ks)) l c) (flag : Bool) (f : Finding) (is : flag ≡ k.holds) (f-is : f ≡ k.finding) where
  pub given-room : Room c₀ fs₀ → Room c (only flag f)
  unfolding given
  given-room r = rw (is, f-is) (room-first c (only k.holds k.finding) (given ks) (left-room left r))

  pub given-wrote : (l' : List ℕ) (c' : Counts) → Wrote (only flag f) l c l' c' → Left fs₀ l₀ c₀ (given ks) l' c'
  unfolding given
  given-wrote l' c' w = left-wrote left (rw (is, f-is) at w)

pub given-end : {fs₀ : List Finding} {l₀ : List ℕ} {c₀ : Counts} (l : List ℕ) (c : Counts) → Left fs₀ l₀ c₀ (given []) l c → Wrote fs₀ l₀ c₀ l c
unfolding given
given-end l c h = left_end h

-- one finding under its flag
module _ (flag : Bool) (f g : Finding) (c : Counts) (holds : flag ≡ true) (is : g ≡ f) where
  pub only-room : Room c (only flag f) → Room c (g ∷ [])
  only-room r = rw holds at r

  pub only_wrote : (l l' : List ℕ) (c' : Counts) → Wrote (g ∷ []) l c l' c' → Wrote (only flag f) l c l' c'
  only_wrote l l' c' w = rw holds (rw is at w)

pub only_none : (flag : Bool) (f : Finding) (l : List ℕ) (c : Counts) → flag ≡ false → Wrote (only flag f) l c l c
only_none flag f l c h = rw h (wrote_none l c)
