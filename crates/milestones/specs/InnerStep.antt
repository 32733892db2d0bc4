-- What a milestone promises: its finding and its step.
use Rattle.std.specs.Prelude.{ℕ, ◌+◌, ◌<◌, ◌≤◌, ◌≡◌, List, [], length}
use Rattle.tape.specs.Nodes.{node_at}
use Rattle.table.specs.Entries.{Entry}
use Rattle.cursor.specs.Inner.{Spanned}
use Rattle.definition.specs.Checks.{given}
use Rattle.definition.specs.Milestones.{milestone_checks, after_milestone}
use Rattle.definition.specs.declared.OpenStart.{OpenStart}
use Rattle.state.specs.Inner.{state_of, counts_of, with_counts, Opens}
use Rattle.state.specs.declared.State.{State}
use Rattle.findings.specs.Inner.{Wrote, Room}

-- the record and the open starts are those after node i with its table entry; the chapters seen may be any
pub record MilestoneStep (e : Entry) (s t : List ℕ) (i : ℕ) (opens : List OpenStart) (r : State) (opens' : List OpenStart) (q : State) : Type 0 where
  pub state : (seen : List ℕ) → state_of s t seen opens' q ≡ after_milestone e (state_of s t seen opens r) (node_at s t i)
  pub stays : Opens s t opens' q.open_len
  pub few : q.open_len ≤ r.open_len + 1
  pub counts : counts_of q ≡ counts_of r
  pub seen : q.seen_len ≡ r.seen_len
  pub anchor : q.anchor ≡ r.anchor
  pub verse : q.expected_verse ≡ r.expected_verse
  pub verses : q.verses ≡ r.verses

-- the finding is written if there is one, and the step is that of the record with it counted
pub record Milestoned (e : Entry) (s t : List ℕ) (i : ℕ) (opens : List OpenStart) (l : List ℕ) (r : State) (opens' : List OpenStart) (l' : List ℕ) (q : State) : Type 0 where
  pub wrote : Wrote (given (milestone_checks e (state_of s t [] opens r) (node_at s t i))) l (counts_of r) l' (counts_of q)
  pub step : MilestoneStep e s t i opens (with_counts r (counts_of q)) opens' q

-- what the step of a marker requires: it is a node of the tape, the open starts are known and have room for one more, and there is room for its finding
pub record Steppable (e : Entry) (s t : List ℕ) (i : ℕ) (opens : List OpenStart) (r : State) : Type 0 where
  pub spanned : Spanned s t i
  pub low : i < 4294967296
  pub known : Opens s t opens r.open_len
  pub more : r.open_len < length opens
  pub room : Room (counts_of r) (given (milestone_checks e (state_of s t [] opens r) (node_at s t i)))
