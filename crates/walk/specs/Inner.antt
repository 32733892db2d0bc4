-- What the walk and the visit require and promise.
use Rattle.std.specs.Prelude.{ℕ, suc, ◌+◌, ◌-◌, ◌<◌, ◌≤◌, ◌≡◌, Bool, true, false, List, [], ◌++◌, length}
use Rattle.std.specs.Prelude.{None}
use Rattle.tape.specs.Nodes.{count, node_at, kind_at, link_at, is_open}
use Rattle.tape.specs.Forest.{Forest, end, leaf, node, forest, Nested, Accepted}
use Rattle.table.specs.Entries.{Entry}
use Rattle.cursor.specs.Steps.{past_node}
use Rattle.cursor.specs.Inner.{Run, Spanned}
use Rattle.findings.specs.Finding.{Finding}
use Rattle.numbers.specs.Label.{numbered}
use Rattle.definition.specs.Checks.{leaf_checked}
use Rattle.attachment.specs.Attached.{starts_of, start_offsets, attached_numbers}
use Rattle.attachment.specs.declared.Attached.{Attached}
use Rattle.definition.specs.State.{WalkState, Anchor, NodeChecked}
use Rattle.definition.specs.State as state
use Rattle.definition.specs.Walk.{open_checked, inside, walk}
use Rattle.definition.specs.Walk as def
use Rattle.definition.specs.declared.OpenStart.{OpenStart}
use Rattle.state.specs.Inner.{state_of, counts_of, anchor_of, starts_for, VerseBounded, Opens}
use Rattle.state.specs.declared.State.{State}
use Rattle.text.specs.Pick.{pick}
use Rattle.table.specs.Inner.{Indexed}
use Rattle.findings.specs.Inner.{Wrote, Room}

-- the anchor of a run stands before it among its siblings, which nest at most d deep, or there is none
pub data Anchored (t : List ℕ) (d : ℕ) : ℕ → ℕ → Type 0 where
  nowhere : {at : ℕ} → Anchored t d 0 at
  behind : {n at : ℕ} → suc n < count t → Nested t d (past_node t (suc n)) at → Anchored t d (suc n) at

-- the walk of the nodes from one up to another, from a record with its lists
abbrev pub walk_at : List ℕ → List ℕ → List ℕ → state.WalkContext → ℕ → ℕ → List ℕ → List OpenStart → State → def.Walked
walk_at table s t o from to seen opens r = walk table o (anchor_of s t r.anchor from) (forest s t from to) (state_of s t seen opens r)

-- the nodes from one up to another, with the lists long enough for what they can add
pub record Ready (table index : List ℕ) (entries : ℕ) (s t : List ℕ) (depth from to : ℕ) (seen : List ℕ) (opens : List OpenStart) (r : State) : Type 0 where
  pub indexed : Indexed table index entries
  pub accepted : Accepted s t
  pub nested : Nested t depth from to
  pub start : 1 ≤ from
  pub within : to ≤ count t
  pub starts : Opens s t opens r.open_len
  pub bounded : VerseBounded r
  pub seen_room : r.seen_len + (to - from) ≤ length seen
  pub open_room : r.open_len + (to - from) ≤ length opens
  pub verses_room : r.verses + (to - from) ≤ 4611686018427387904
  pub anchored : Anchored t depth r.anchor from

-- the findings are written and counted, and record and lists are those that the definition gives
pub record Went (s t : List ℕ) (fs : List Finding) (st : WalkState) (n : ℕ) (l : List ℕ) (r : State) (seen : List ℕ) (opens : List OpenStart) (l' : List ℕ) (q : State) : Type 0 where
  pub wrote : Wrote fs l (counts_of r) l' (counts_of q)
  pub state : state_of s t seen opens q ≡ st
  pub starts : Opens s t opens q.open_len
  pub bounded : VerseBounded q
  pub seen_few : q.seen_len ≤ r.seen_len + n
  pub open_few : q.open_len ≤ r.open_len + n
  pub verses_few : q.verses ≤ r.verses + n

-- and so is the last anchor, to what follows the run
pub record RunWalked (s t : List ℕ) (w : def.Walked) (depth from to : ℕ) (l : List ℕ) (r : State) (seen : List ℕ) (opens : List OpenStart) (l' : List ℕ) (q : State) : Type 0 where
  pub went : Went s t w.findings w.state (to - from) l r seen opens l' q
  pub anchor : anchor_of s t q.anchor to ≡ w.anchor
  pub anchored : Anchored t depth q.anchor to

-- a marker with its table entry, and its children
abbrev pub open_checked_at : List ℕ → List ℕ → List ℕ → state.WalkContext → Entry → ℕ → ℕ → List ℕ → List OpenStart → State → NodeChecked
open_checked_at table s t o e i to seen opens r =
    open_checked table o (anchor_of s t r.anchor i) (state_of s t seen opens r) e (node_at s t i) (forest s t (i + 1) (link_at t i)) (forest s t i to)

abbrev pub below : List ℕ → List ℕ → List ℕ → state.WalkContext → Entry → ℕ → NodeChecked → def.Walked
below table s t o e i w = walk table (inside o e) None (forest s t (i + 1) (link_at t i)) w.state

-- the visit of a marker: its own findings, and the walk of its children; the anchor of its run stays
abbrev pub visit_findings : List ℕ → List ℕ → List ℕ → state.WalkContext → Entry → ℕ → ℕ → List ℕ → List OpenStart → State → List Finding
visit_findings table s t o e i to seen opens r =
    (open_checked_at table s t o e i to seen opens r).findings ++ (below table s t o e i (open_checked_at table s t o e i to seen opens r)).findings

abbrev pub visit_state : List ℕ → List ℕ → List ℕ → state.WalkContext → Entry → ℕ → ℕ → List ℕ → List OpenStart → State → WalkState
visit_state table s t o e i to seen opens r = (below table s t o e i (open_checked_at table s t o e i to seen opens r)).state

pub record Visited (table s t : List ℕ) (o : state.WalkContext) (e : Entry) (i to : ℕ) (seen : List ℕ) (opens : List OpenStart) (l : List ℕ) (r : State) (seen' : List ℕ) (opens' : List OpenStart) (l' : List ℕ) (q : State) : Type 0 where
  pub went : Went s t (visit_findings table s t o e i to seen opens r) (visit_state table s t o e i to seen opens r) (past_node t i - i) l r seen' opens' l' q
  pub anchor : q.anchor ≡ r.anchor

-- what a visit requires besides
pub record Visitable (s t : List ℕ) (i to : ℕ) (numbers : Attached) (r : State) : Type 0 where
  pub more : i < to
  pub opened : is_open (kind_at t i) ≡ true
  pub attached : starts_of numbers ≡ starts_for (anchor_of s t r.anchor i) (forest s t i to)

-- a leaf, of which a Chapter or Verse is the new anchor
abbrev pub anchor_after : List ℕ → ℕ → ℕ → ℕ
anchor_after t i n = pick (numbered (kind_at t i)) i n

pub record LeafPassed (table s t : List ℕ) (o : state.WalkContext) (i : ℕ) (seen l : List ℕ) (r : State) (seen' l' : List ℕ) (q : State) : Type 0 where
  pub wrote : Wrote (leaf_checked table o (state_of s t seen [] r) (node_at s t i)).findings l (counts_of r) l' (counts_of q)
  pub state : (opens : List OpenStart) → state_of s t seen' opens q ≡ (leaf_checked table o (state_of s t seen opens r) (node_at s t i)).state
  pub bounded : VerseBounded q
  pub seen_few : q.seen_len ≤ r.seen_len + 1
  pub verses_few : q.verses ≤ r.verses + 1
  pub opens : q.open_len ≡ r.open_len
  pub anchor : q.anchor ≡ anchor_after t i r.anchor

-- the numbers attached after a leaf
abbrev pub numbers_after : List ℕ → List ℕ → ℕ → ℕ → ℕ → List ℕ → List ℕ
numbers_after s t i next to before = pick (numbered (kind_at t i)) (start_offsets (attached_numbers (kind_at t i) (forest s t next to))) before

-- a Chapter or Verse with what follows it
pub record Leafy (table index : List ℕ) (entries : ℕ) (s t : List ℕ) (o : state.WalkContext) (i next to : ℕ) (seen : List ℕ) (r : State) : Type 0 where
  pub indexed : Indexed table index entries
  pub spanned : Spanned s t i
  pub bounded : VerseBounded r
  pub seen_room : r.seen_len < length seen
  pub verses_room : r.verses < 4611686018427387904
  pub room : Room (counts_of r) (leaf_checked table o (state_of s t seen [] r) (node_at s t i)).findings
  pub rest : Run s t next to

-- a node, which may be one
pub record Passable (table index : List ℕ) (entries : ℕ) (s t : List ℕ) (o : state.WalkContext) (i next to : ℕ) (seen : List ℕ) (r : State) : Type 0 where
  pub inside : i < count t
  pub leafy : numbered (kind_at t i) ≡ true → Leafy table index entries s t o i next to seen r

-- the record after a Chapter or Verse, and the numbers attached to what follows
pub record Leaved (table s t : List ℕ) (o : state.WalkContext) (i next to : ℕ) (numbers : Attached) (seen l : List ℕ) (r : State) (seen' l' : List ℕ) (q : State) (after : Attached) : Type 0 where
  pub leaf : LeafPassed table s t o i seen l r seen' l' q
  pub attached : starts_of after ≡ numbers_after s t i next to (starts_of numbers)

-- any other node changes nothing
pub record Unchanged (numbers : Attached) (seen l : List ℕ) (r : State) (seen' l' : List ℕ) (q : State) (after : Attached) : Type 0 where
  pub same_seen : seen' ≡ seen
  pub same_list : l' ≡ l
  pub same_record : q ≡ r
  pub same_numbers : after ≡ numbers

pub record PassedBy (table s t : List ℕ) (o : state.WalkContext) (i next to : ℕ) (numbers : Attached) (seen l : List ℕ) (r : State) (seen' l' : List ℕ) (q : State) (after : Attached) : Type 0 where
  pub number : numbered (kind_at t i) ≡ true → Leaved table s t o i next to numbers seen l r seen' l' q after
  pub other : numbered (kind_at t i) ≡ false → Unchanged numbers seen l r seen' l' q after

-- a run whose walk has no finding and changes nothing: no marker, no Chapter and no Verse
unfoldable pub can_skip_children : Forest → Bool
can_skip_children end = true
can_skip_children (leaf x r) = pick (numbered x.kind) false (can_skip_children r)
can_skip_children (node x c r) = false
