-- A run of checks, a finding at a time.
-- Assumes nothing.
use Prim.Native.Nat.{ℕ}
use mathlib.Core.Path.{◌≡◌}
use mathlib.Core.Bool.{Bool}
use mathlib.Core.List.{List, [], ◌∷◌, append-nil}
use Rattle.findings.specs.Finding.{Finding}
use Rattle.findings.specs.declared.Counts.{Counts}
use Rattle.findings.specs.Written.{only}
use Rattle.findings.proofs.Overlay.{Left, left-start, left-wrote, left_end, left-room}
use Rattle.definition.specs.Checks.{Check, given}
use Rattle.definition.proofs.Givens.{given-room, given-wrote, given-end}
use Rattle.findings.specs.Inner.{Wrote, Room}

-- a finding that the code makes, and what it says
pub only-room : (c : Counts) (there : Bool) (f g : Finding) → f ≡ g → Room c (only there g) → Room c (only there f)
only-room c there f g e r = rw e r

pub only_wrote : {l l' : List ℕ} {c c' : Counts} (there : Bool) (f g : Finding) → f ≡ g → Wrote (only there f) l c l' c' → Wrote (only there g) l c l' c'
only_wrote there f g e w = rw (← e) w

-- The checks that are left, of the findings, the list and the counts at the start; the list and the counts now.
pub record Due (fs₀ : List Finding) (l₀ : List ℕ) (c₀ : Counts) (ks : List Check) (l : List ℕ) (c : Counts) : Type 0 where
  pub roomy : Room c₀ fs₀
  pub left : Left fs₀ l₀ c₀ (given ks) l c

pub due-start : (ks : List Check) (l : List ℕ) (c₀ c : Counts) → c ≡ c₀ → Room c₀ (given ks) → Due (given ks) l c₀ ks l c
due-start ks l c₀ c e r = rw e (record { roomy = r; left = left-start (given ks) l c₀ })

module _ {fs₀ : List Finding} {l₀ : List ℕ} {c₀ : Counts} {l : List ℕ} {c : Counts} where
  -- the first of them: its condition and its finding as the code has them
  module _ (k : Check) (ks : List Check) (there : Bool) (f : Finding) (is : there ≡ k.holds) (says : f ≡ k.finding) (d : Due fs₀ l₀ c₀ (k ∷ ks) l c) where
    pub due-room : Room c (only there f)
    due-room = given-room k ks l c d.left there f is says d.roomy

    pub due-wrote : {l' : List ℕ} {c' : Counts} → Wrote (only there f) l c l' c' → Due fs₀ l₀ c₀ ks l' c'
    due-wrote {l' = l'} {c' = c'} w = record { roomy = d.roomy; left = given-wrote k ks l c d.left there f is says l' c' w }

  -- all that are left
  module _ {ks : List Check} (d : Due fs₀ l₀ c₀ ks l c) where
    pub due-rest : Room c (given ks)
    due-rest = left-room d.left d.roomy

    pub due_all : {l' : List ℕ} {c' : Counts} → Wrote (given ks) l c l' c' → Wrote fs₀ l₀ c₀ l' c'
    due_all w = left_end (left-wrote {gs = given ks} {fs = []} (rw (append-nil (given ks)) d.left) w)

  pub due-end : Due fs₀ l₀ c₀ [] l c → Wrote fs₀ l₀ c₀ l c
  due-end d = given-end l c d.left
