-- The open starts stay nodes of the tape with the lengths of their bases: with one more entry, and without one.
-- Assumes nothing.
use Prim.Native.Nat.{ℕ, zero, suc, ◌+◌, ◌<◌, ◌≤◌}
use native.Mathlib.Omega.{arith}
use native.Mathlib.Numerals.{add-one}
use native.Mathlib.Decide.{dec_lt}
use mathlib.Core.Path.{◌≡◌, refl, ap, ◌∙◌}
use mathlib.Core.List.{List, ◌∷◌}
use lib.ListN.{length, get_or, set, length-set}
use lib.Seq.{get_or-set_same, get_or-set_other}
use Rattle.tape.specs.Nodes.{Node, node_at}
use Rattle.definition.specs.Outcome.{no_start}
use Rattle.definition.specs.declared.OpenStart.{OpenStart}
use Rattle.state.specs.Inner.{open_nodes, Opens}
use Rattle.milestones.specs.Inner.{Measured}
use Rattle.milestones.proofs.Search.{Gone, entry}

-- an entry whose length is that of its node's base
abbrev Fits : List ℕ → List ℕ → OpenStart → Type 0
Fits s t o = Measured s t o.node o.base_len

opens_of : (s t : List ℕ) (opens : List OpenStart) (k : ℕ) → k ≤ length opens → ((j : ℕ) → j < k → Fits s t (get_or opens j no_start)) → Opens s t opens k
opens_of s t opens k r f = record { room = r; spanned = λ j h. (f j h).spanned; bases = λ j h. (f j h).is }

-- one entry more
module _ (opens : List OpenStart) (k : ℕ) (o : OpenStart) (room : k < length opens) where
  before_same : (m : ℕ) → m < k → get_or (set opens k o) m no_start ≡ get_or opens m no_start
  before_same m h = let a : m ≡ k → ⊥ = λ e. omega arith in get_or-set_other opens k m o no_start a

  same-starts : (s t : List ℕ) (j : ℕ) → j ≤ k → open_nodes s t (set opens k o) j ≡ open_nodes s t opens j
  unfolding open_nodes
  same-starts s t zero h = refl
  same-starts s t (suc j) h = rw (before_same j (omega arith)) (ap (λ (ys : List Node). node_at s t (get_or opens j no_start).node ∷ ys) (same-starts s t j (omega arith)))

  pub starts-pushed : (s t : List ℕ) → open_nodes s t (set opens k o) (k + 1) ≡ node_at s t o.node ∷ open_nodes s t opens k
  unfolding open_nodes
  starts-pushed s t =
      ap (open_nodes s t (set opens k o)) (add-one k)
      ∙ ap (λ (x : OpenStart). node_at s t x.node ∷ open_nodes s t (set opens k o) k) (get_or-set_same opens k o no_start room)
      ∙ ap (λ (ys : List Node). node_at s t o.node ∷ ys) (same-starts s t k (omega arith))

  pub opens-pushed : (s t : List ℕ) → Opens s t opens k → Fits s t o → Opens s t (set opens k o) (k + 1)
  opens-pushed s t was m = opens_of s t (set opens k o) (k + 1) (rw length-set (omega arith)) (λ j h. go j h (dec_lt j k))
    where
      go : (j : ℕ) → j < k + 1 → Dec (j < k) → Fits s t (get_or (set opens k o) j no_start)
      go j h (yes l) = rw (before_same j l) (entry s t opens k j was l)
      go j h (no l) = let e : j ≡ k = omega (arith, l) in rw (e, get_or-set_same opens k o no_start room) m

-- without one
pub opens-gone : (s t : List ℕ) (opens opens' : List OpenStart) (n at : ℕ) → Gone opens opens' n at → at ≤ n → length opens' ≡ length opens → Opens s t opens (n + 1) → Opens s t opens' n
opens-gone s t opens opens' n at g a l o = opens_of s t opens' n (let r = o.room in omega arith) (λ j h. go j h (dec_lt j at))
  where
    go : (j : ℕ) → j < n → Dec (j < at) → Fits s t (get_or opens' j no_start)
    go j h (yes b) = rw (g.kept j b) (entry s t opens (n + 1) j o (omega arith))
    go j h (no b) = rw (g.moved j (omega (arith, b)) h) (entry s t opens (n + 1) (j + 1) o (omega arith))
