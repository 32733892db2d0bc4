-- The search for the latest open start of a base: a step of it, and what it says of the open starts.
-- Assumes nothing.
use Prim.Native.Nat.{ℕ, zero, suc, ◌+◌, ◌-◌, ◌<◌, ◌≤◌}
use native.Mathlib.Omega.{arith}
use mathlib.Core.Path.{◌≡◌, refl, sym, ap, ◌∙◌}
use mathlib.Core.Bool.{Bool, true, false, ◌||◌}
use mathlib.Core.List.{List, [], ◌∷◌}
use Rattle.std.specs.Prelude.{Option, Some, None}
use lib.ListN.{get_or}
use Rattle.text.specs.Pick.{pick}
use Rattle.tape.specs.Nodes.{Node, node_at}
use Rattle.definition.specs.Milestones.{base_of, same_base, waits_by, waits, without_by, without}
use Rattle.state.specs.Inner.{open_nodes, Opens}
use Rattle.definition.specs.Outcome.{no_start}
use Rattle.definition.specs.declared.OpenStart.{OpenStart}
use Rattle.milestones.specs.Inner.{Measured, nearest_in}
use Rattle.text.specs.Bytes.{equal}

-- a turn of the search
module _ (s t : List ℕ) (opens : List OpenStart) (j : ℕ) (base : List ℕ) where
  pub nowhere : j ≤ 0 → nearest_in s t opens j base ≡ None
  unfolding nearest_in
  nowhere h = let e : j ≡ 0 = omega arith in rw e

  module _ (h : 0 < j) where
    turn : nearest_in s t opens j base ≡ pick (equal (base_of (node_at s t (get_or opens (j - 1) no_start).node)) base) (Some (j - 1)) (nearest_in s t opens (j - 1) base)
    unfolding nearest_in
    turn = let e : j ≡ suc (j - 1) = omega arith in ap (λ (n : ℕ). nearest_in s t opens n base) e

    module _ (x : Bool) (is : x ≡ equal (base_of (node_at s t (get_or opens (j - 1) no_start).node)) base) where
      pub hit : x ≡ true → nearest_in s t opens j base ≡ Some (j - 1)
      hit e = turn ∙ rw (← is, e)

      pub miss : x ≡ false → nearest_in s t opens j base ≡ nearest_in s t opens (j - 1) base
      miss e = turn ∙ rw (← is, e)

pub entry : (s t : List ℕ) (opens : List OpenStart) (k j : ℕ) → Opens s t opens k → j < k → Measured s t (get_or opens j no_start).node (get_or opens j no_start).base_len
entry s t opens k j o h = record { spanned = o.spanned j h; is = o.bases j h }

abbrev pub is_found : Option ℕ → Bool
is_found (Some j) = true
is_found None = false

none-some : {A : Type 0} (j : ℕ) → None ≡ Some j → A
none-some j e = let z : ◌≡◌ {A = ℕ} 0 1 = cc in absurd (omega arith)

module _ (s t : List ℕ) (opens : List OpenStart) (base : List ℕ) where
  pub found_inside : (k at : ℕ) → nearest_in s t opens k base ≡ Some at → at < k
  unfolding nearest_in
  found_inside zero at e = none-some at e
  found_inside (suc k) at e = go (equal (base_of (node_at s t (get_or opens k no_start).node)) base) e (found_inside k at)
    where
      go : (b : Bool) → pick b (Some k) (nearest_in s t opens k base) ≡ Some at → (nearest_in s t opens k base ≡ Some at → at < k) → at < suc k
      go true h f = let z : k ≡ at = cc in omega arith
      go false h f = let z = f h in omega arith

module _ (s t : List ℕ) (opens : List OpenStart) (x : Node) where
  pub waits-found : (k : ℕ) → waits x (open_nodes s t opens k) ≡ is_found (nearest_in s t opens k (base_of x))
  unfolding waits_by open_nodes nearest_in
  waits-found zero = refl
  waits-found (suc k) = go (same_base (node_at s t (get_or opens k no_start).node) x) (waits-found k)
    where
      go : (b : Bool) → waits x (open_nodes s t opens k) ≡ is_found (nearest_in s t opens k (base_of x)) → (b || waits x (open_nodes s t opens k)) ≡ is_found (pick b (Some k) (nearest_in s t opens k (base_of x)))
      go true h = refl
      go false h = h

  -- without an open start of the base none is taken
  pub none-taken : (k : ℕ) → nearest_in s t opens k (base_of x) ≡ None → without x (open_nodes s t opens k) ≡ open_nodes s t opens k
  unfolding without_by open_nodes nearest_in
  none-taken zero e = refl
  none-taken (suc k) e = go (same_base (node_at s t (get_or opens k no_start).node) x) e (none-taken k)
    where
      go : (b : Bool) → pick b (Some k) (nearest_in s t opens k (base_of x)) ≡ None → (nearest_in s t opens k (base_of x) ≡ None → without x (open_nodes s t opens k) ≡ open_nodes s t opens k) → pick b (open_nodes s t opens k) (node_at s t (get_or opens k no_start).node ∷ without x (open_nodes s t opens k)) ≡ node_at s t (get_or opens k no_start).node ∷ open_nodes s t opens k
      go true h f = none-some k (sym h)
      go false h f = ap (λ (ys : List Node). node_at s t (get_or opens k no_start).node ∷ ys) (f h)

-- the entries behind an entry have moved down by one entry, up to n entries
pub record Gone (opens opens' : List OpenStart) (n at : ℕ) : Type 0 where
  pub kept : (m : ℕ) → m < at → get_or opens' m no_start ≡ get_or opens m no_start
  pub moved : (m : ℕ) → at ≤ m → m < n → get_or opens' m no_start ≡ get_or opens (m + 1) no_start

module _ (s t : List ℕ) (opens opens' : List OpenStart) (at : ℕ) where
  same-starts : (n k : ℕ) → Gone opens opens' n at → k ≤ at → open_nodes s t opens' k ≡ open_nodes s t opens k
  unfolding open_nodes
  same-starts n zero g h = refl
  same-starts n (suc k) g h = rw (g.kept k (omega arith)) (ap (λ (ys : List Node). node_at s t (get_or opens k no_start).node ∷ ys) (same-starts n k g (omega arith)))

  fewer : (n : ℕ) → Gone opens opens' (suc n) at → Gone opens opens' n at
  fewer n g = record { kept = g.kept; moved = λ m a b. g.moved m a (omega arith) }

  -- the latest of the base is taken
  pub one-taken : (x : Node) (n : ℕ) → Gone opens opens' n at → nearest_in s t opens (suc n) (base_of x) ≡ Some at → without x (open_nodes s t opens (suc n)) ≡ open_nodes s t opens' n
  unfolding without_by open_nodes nearest_in
  one-taken x zero g e = go (same_base (node_at s t (get_or opens 0 no_start).node) x) e
    where
      go : (b : Bool) → pick b (Some 0) None ≡ Some at → pick b [] (node_at s t (get_or opens 0 no_start).node ∷ []) ≡ []
      go true h = refl
      go false h = none-some at h
  one-taken x (suc n) g e = go (same_base (node_at s t (get_or opens (suc n) no_start).node) x) e (one-taken x n (fewer n g))
    where
      go : (b : Bool) → pick b (Some (suc n)) (nearest_in s t opens (suc n) (base_of x)) ≡ Some at → (nearest_in s t opens (suc n) (base_of x) ≡ Some at → without x (open_nodes s t opens (suc n)) ≡ open_nodes s t opens' n) → pick b (open_nodes s t opens (suc n)) (node_at s t (get_or opens (suc n) no_start).node ∷ without x (open_nodes s t opens (suc n))) ≡ open_nodes s t opens' (suc n)
      go true h f = let z : suc n ≡ at = cc in sym (same-starts (suc n) (suc n) g (omega arith))
      go false h f =
          let l = found_inside s t opens (base_of x) (suc n) at h in
          let p : n + 1 ≡ suc n = omega arith in
          let q : get_or opens' n no_start ≡ get_or opens (suc n) no_start = g.moved n (omega arith) (omega arith) ∙ ap (λ (k : ℕ). get_or opens k no_start) p in
          rw (f h, q)
