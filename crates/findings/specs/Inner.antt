-- What the functions inside the crate promise.
use Rattle.std.specs.Prelude.{ℕ, zero, suc, ◌+◌, ◌≤◌, ◌≡◌, List, [], ◌∷◌, length}
use Rattle.findings.specs.Finding.{Finding}
use Rattle.findings.specs.declared.Counts.{Counts}
use Rattle.findings.specs.Written.{total, overlay}

-- one more of the severity
abbrev pub by_severity : ℕ → Counts → Counts
by_severity zero c = record { errors = c.errors + 1; warnings = c.warnings; infos = c.infos }
by_severity (suc zero) c = record { errors = c.errors; warnings = c.warnings + 1; infos = c.infos }
by_severity (suc (suc n)) c = record { errors = c.errors; warnings = c.warnings; infos = c.infos + 1 }

unfoldable pub counted : Counts → List Finding → Counts
counted c [] = c
counted c (f ∷ fs) = counted (by_severity f.severity c) fs

-- the findings are written behind those that the counts count, and counted: the list and the counts before, and after
pub record Wrote (fs : List Finding) (l : List ℕ) (c : Counts) (l' : List ℕ) (c' : Counts) : Type 0 where
  pub words : l' ≡ overlay l (total c) fs
  pub counts : c' ≡ counted c fs

-- no count of them leaves 64 bits
abbrev pub count_limit : ℕ
count_limit = 4611686018427387904

abbrev pub Room : Counts → List Finding → Type 0
Room c fs = total c + length fs ≤ count_limit
