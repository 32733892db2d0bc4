-- What holds of every finding that a list of checks gives.
-- Assumes nothing.
use mathlib.Core.Path.{◌≡◌, refl}
use mathlib.Core.Bool.{Bool, true, false}
use mathlib.Core.List.{List, [], ◌∷◌}
use Rattle.findings.specs.Finding.{Finding}
use Rattle.findings.specs.Written.{only}
use Rattle.definition.specs.Checks.{Check, given}
use Rattle.text.specs.Pick.{pick, AllOf}
use Rattle.text.proofs.Every.{all_append}

-- of the finding of a check, if the check holds
abbrev pub WhenHeld : (Finding → Type 0) → Check → Type 0
WhenHeld P c = c.holds ≡ true → P c.finding

module _ (P : Finding → Type 0) where
  pub all-only : (b : Bool) (f : Finding) → (b ≡ true → P f) → AllOf P (only b f)
  all-only true f h = (h refl, tt)
  all-only false f h = tt

  pub all-pick : (b : Bool) (fs : List Finding) → AllOf P fs → AllOf P (pick b fs [])
  all-pick true fs h = h
  all-pick false fs h = tt

  pub all-given : (cs : List Check) → AllOf (WhenHeld P) cs → AllOf P (given cs)
  unfolding given
  all-given [] h = tt
  all-given (c ∷ cs) h = all_append P (only c.holds c.finding) (given cs) (all-only c.holds c.finding h.0) (all-given cs h.1)
