-- The findings of an Attribute that are still to be written, a kind at a time.
-- Assumes nothing.
use mathlib.Core.Path.{◌≡◌, refl}
use mathlib.Core.Bool.{Bool, true, false}
use mathlib.Core.List.{List, [], ◌∷◌, ◌++◌}
use Prim.Native.Nat.{ℕ}
use lib.Dec.{eqb}
use Rattle.findings.specs.Finding.{Finding, Kind}
use Rattle.findings.specs.declared.Counts.{Counts}
use Rattle.findings.specs.Written.{only}
use Rattle.findings.proofs.Overlay.{Left, left-start, left-wrote, left_end, left-room, room-first}
use Rattle.attributes.specs.declared.Where.{Where}
use Rattle.attributes.specs.Attributes.{findings_at}
use Rattle.attributes.specs.Inner.{finding_of_kind}
use Rattle.text.specs.Pick.{pick}
use Rattle.findings.specs.Inner.{Wrote, Room}

abbrev pub at : Where → List Kind → List Finding
at w ks = findings_at w.start w.len w.node w.owner ks

-- a finding that the code makes, if it is there, says the first kind
pub says : (w : Where) (k : Kind) (there : Bool) (ks : List Kind) (f : Finding) → f ≡ finding_of_kind w k (pick (eqb k.code 32) w.owner 0) → at w (pick there (k ∷ []) [] ++ ks) ≡ only there f ++ at w ks
unfolding findings_at
says w k true ks f e = rw e
says w k false ks f e = refl

-- The kinds that are left, of the findings, the list and the counts at the start; the list and the counts now.
pub record Owing (w : Where) (fs₀ : List Finding) (l₀ : List ℕ) (c₀ : Counts) (ks : List Kind) (l : List ℕ) (c : Counts) : Type 0 where
  pub roomy : Room c₀ fs₀
  pub left : Left fs₀ l₀ c₀ (at w ks) l c

pub owing-start : (w : Where) (ks : List Kind) (l : List ℕ) (c : Counts) → Room c (at w ks) → Owing w (at w ks) l c ks l c
owing-start w ks l c r = record { roomy = r; left = left-start (at w ks) l c }

pub owing-as : {w : Where} {fs₀ : List Finding} {l₀ : List ℕ} {c₀ : Counts} {ks ks' : List Kind} {l : List ℕ} {c : Counts} → ks ≡ ks' → Owing w fs₀ l₀ c₀ ks l c → Owing w fs₀ l₀ c₀ ks' l c
owing-as e o = rw (← e) o

-- where the list and the counts are as they were
pub owing-still : {w : Where} {fs₀ : List Finding} {l₀ : List ℕ} {c₀ : Counts} {ks : List Kind} {l l' : List ℕ} {c c' : Counts} → l' ≡ l → c' ≡ c → Owing w fs₀ l₀ c₀ ks l c → Owing w fs₀ l₀ c₀ ks l' c'
owing-still e f o = rw (e, f) o

module _ {w : Where} {fs₀ : List Finding} {l₀ : List ℕ} {c₀ : Counts} {l : List ℕ} {c : Counts} where
  pub owing-end : Owing w fs₀ l₀ c₀ [] l c → Wrote fs₀ l₀ c₀ l c
  unfolding findings_at
  owing-end o = left_end o.left

  module _ (k : Kind) (there : Bool) (ks : List Kind) (f : Finding) (said : f ≡ finding_of_kind w k (pick (eqb k.code 32) w.owner 0)) (o : Owing w fs₀ l₀ c₀ (pick there (k ∷ []) [] ++ ks) l c) where
    here : Left fs₀ l₀ c₀ (only there f ++ at w ks) l c
    here = rw (says w k there ks f said) at o.left

    pub owing-room : Room c (only there f)
    owing-room = room-first c (only there f) (at w ks) (left-room here o.roomy)

    pub owing-wrote : {l' : List ℕ} {c' : Counts} → Wrote (only there f) l c l' c' → Owing w fs₀ l₀ c₀ ks l' c'
    owing-wrote r = record { roomy = o.roomy; left = left-wrote here r }
