-- When each of the numbers 4 to 8 is given, and with which place: "each number has its condition and occurs under no other".
use Rattle.std.specs.Prelude.{ℕ, suc, ◌<◌, ◌≡◌, true, false, List, [], ◌∷◌, ◌⊎◌}
use Rattle.tape.specs.Nodes.{count}
use Rattle.tape.specs.Reading.{bad_length, bad_kind, bad_span, good_root, go, stop, step}
use Rattle.refusals.specs.Refusal.{broken_links, too_deep, AllGood, First}

-- the reading from node 1 comes to node i with these links awaited, the innermost first
pub data Reaches (t : List ℕ) : ℕ → List ℕ → Type 0 where
  start : Reaches t 1 []
  next : {i : ℕ} {s s' : List ℕ} → Reaches t i s → step t i s ≡ go s' → Reaches t (suc i) s'

-- the reading stops at a node
pub record Stops (t : List ℕ) (number place : ℕ) : Type 0 where
  pub awaited : List ℕ
  pub comes : Reaches t place awaited
  pub below : place < count t
  pub is : step t place awaited ≡ stop number

-- the reading comes to the end with an open left
pub record LeftOpen (t : List ℕ) (place : ℕ) : Type 0 where
  pub link : ℕ
  pub awaited : List ℕ
  pub comes : Reaches t (count t) (link ∷ awaited)
  pub at_end : place ≡ count t

-- none of 4 to 6
pub record GoodNodes (s t : List ℕ) : Type 0 where
  pub sized : bad_length t ≡ false
  pub kinds : AllGood (bad_kind t) 0 (count t)
  pub spans : AllGood (bad_span s t) 1 (count t)

abbrev pub Gives4 : List ℕ → List ℕ → ℕ → Type 0
Gives4 s t place = (bad_length t ≡ true) × (place ≡ 0)

abbrev pub Gives5 : List ℕ → List ℕ → ℕ → Type 0
Gives5 s t place = (bad_length t ≡ false) × First (bad_kind t) 0 (count t) place

abbrev pub Gives6 : List ℕ → List ℕ → ℕ → Type 0
Gives6 s t place = (bad_length t ≡ false) × AllGood (bad_kind t) 0 (count t) × First (bad_span s t) 1 (count t) place

abbrev pub Gives7 : List ℕ → List ℕ → ℕ → Type 0
Gives7 s t place = GoodNodes s t × (((good_root t ≡ false) × (place ≡ 0)) ⊎ ((good_root t ≡ true) × (Stops t broken_links place ⊎ LeftOpen t place)))

abbrev pub Gives8 : List ℕ → List ℕ → ℕ → Type 0
Gives8 s t place = GoodNodes s t × (good_root t ≡ true) × Stops t too_deep place
