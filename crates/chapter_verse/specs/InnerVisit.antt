-- What the visit of a leaf promises.
use Rattle.std.specs.Prelude.{ℕ, ◌+◌, ◌≤◌, ◌≡◌, List, []}
use Rattle.tape.specs.Nodes.{node_at}
use Rattle.definition.specs.State.{WalkState}
use Rattle.definition.specs.State as state
use Rattle.definition.specs.Checks.{leaf_checked}
use Rattle.definition.specs.declared.OpenStart.{OpenStart}
use Rattle.state.specs.Inner.{state_of, counts_of, VerseBounded}
use Rattle.state.specs.declared.State.{State}
use Rattle.findings.specs.Inner.{Wrote}

-- the findings of node i are written and counted, and the record is the one after it; the open starts may be any
pub record LeafVisited (table s t : List ℕ) (o : state.WalkContext) (i : ℕ) (seen l : List ℕ) (r : State) (seen' l' : List ℕ) (q : State) : Type 0 where
  pub wrote : Wrote (leaf_checked table o (state_of s t seen [] r) (node_at s t i)).findings l (counts_of r) l' (counts_of q)
  pub state : (opens : List OpenStart) → state_of s t seen' opens q ≡ (leaf_checked table o (state_of s t seen opens r) (node_at s t i)).state
  pub bounded : VerseBounded q
  pub seen_few : q.seen_len ≤ r.seen_len + 1
  pub verses_few : q.verses ≤ r.verses + 1
  pub opens : q.open_len ≡ r.open_len
  pub anchor : q.anchor ≡ r.anchor
