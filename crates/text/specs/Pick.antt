-- Ranges of numbers, tests on numbers, the choice between two values by a test, parts of a list, and what holds of every element, for every crate.
use Rattle.std.specs.Prelude.{ℕ, ◌+◌, Bool, true, false, not, ◌&&◌, ◌||◌, List, [], ◌∷◌, leb, ltb, take, drop}
use Rattle.std.specs.Prelude.{Option, Some, None}

-- a range of numbers, both ends included
pub record Range : Type 0 where
  pub lo : ℕ
  pub hi : ℕ

abbrev pub range : ℕ → ℕ → Range
range lo hi = record { lo = lo; hi = hi }

-- the two are equal
abbrev pub same : Bool → Bool → Bool
same true b = b
same false b = not b

-- the first where the test holds, else the second
abbrev pub pick : {A : Type 0} → Bool → A → A → A
pick true a b = a
pick false a b = b

-- there is a number
abbrev pub known : Option ℕ → Bool
known None = false
known (Some n) = true

-- the number lies between the two ends, both included
abbrev pub within : ℕ → ℕ → ℕ → Bool
within lo hi b = leb lo b && leb b hi

-- one of three numbers is over the most allowed
abbrev pub any_over : ℕ → ℕ → ℕ → ℕ → Bool
any_over most a b c = ltb most a || (ltb most b || ltb most c)

-- the number lies in one of the ranges
unfoldable pub in_any : List Range → ℕ → Bool
in_any [] c = false
in_any (r ∷ rs) c = within r.lo r.hi c || in_any rs c

-- a part of a list, by the place where it starts and its length
pub record Part : Type 0 where
  pub start : ℕ
  pub len : ℕ

-- the place just past a part
abbrev pub end : Part → ℕ
end p = p.start + p.len

-- what stands in a part of the list
abbrev pub cut : Part → List ℕ → List ℕ
cut p s = take p.len (drop p.start s)

-- the property holds of every element of the list
abbrev pub AllOf : {A : Type 0} → (A → Type 0) → List A → Type 0
AllOf P [] = Unit {0}
AllOf P (x ∷ xs) = P x × AllOf P xs
