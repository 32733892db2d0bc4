-- What the inner functions promise: how a marker is read, the search among the open starts, and their list without an entry and with one more.
use Rattle.std.specs.Prelude.{ℕ, zero, suc, ◌+◌, ◌-◌, ◌≤◌, ◌≡◌, List, [], ◌∷◌, ◌++◌, length, get_or, set, take, drop}
use Rattle.milestones.specs.declared.MilestoneSide.{MilestoneSide}
use Rattle.milestones.specs.declared.MilestoneSide.TheVariants as code
use Rattle.std.specs.Prelude.{Option, Some, None}
use Rattle.text.specs.Pick.{pick}
use Rattle.tape.specs.Nodes.{Node, node_at}
use Rattle.table.specs.Entries.{Entry}
use Rattle.cursor.specs.Inner.{Spanned}
use Rattle.definition.specs.Checks.{error}
use Rattle.definition.specs.Milestones.{is_start, is_milestone, base_of}
use Rattle.definition.specs.Outcome.{no_start}
use Rattle.definition.specs.declared.OpenStart.{OpenStart}
use Rattle.state.specs.Inner.{counts_of, with_counts}
use Rattle.state.specs.InnerSetters.{put_open_len}
use Rattle.state.specs.declared.State.{State}
use Rattle.findings.specs.Codes.{milestone_mismatch, end_alone}
use Rattle.text.specs.Bytes.{equal}
use Rattle.findings.specs.Inner.{Wrote, Room}

-- a name without its last two bytes
abbrev pub base_in : List ℕ → List ℕ
base_in name = take (length name - 2) name

-- a node with the length of its base
pub record Measured (s t : List ℕ) (node len : ℕ) : Type 0 where
  pub spanned : Spanned s t node
  pub is : len ≡ length (base_of (node_at s t node))

-- the latest of the first k entries with the base, if there is one
unfoldable pub nearest_in : List ℕ → List ℕ → List OpenStart → ℕ → List ℕ → Option ℕ
nearest_in s t opens zero base = None
nearest_in s t opens (suc k) base = pick (equal (base_of (node_at s t (get_or opens k no_start).node)) base) (Some k) (nearest_in s t opens k base)

-- the later ones of the first k entries each moved down by one, from an entry on
unfoldable pub removed : List OpenStart → ℕ → ℕ → List OpenStart
removed opens k at = take at opens ++ take (k - 1 - at) (drop (at + 1) opens) ++ drop (at + (k - 1 - at)) opens

-- what a marker is among milestones: a start with its node and the length of its base, an end with its base, or neither
pub data AmongMilestones : Type 0 where
  start : ℕ → ℕ → AmongMilestones
  end : List ℕ → AmongMilestones
  neither : AmongMilestones

-- "A milestone start or end and its base are read from its marker as in the Rust"
abbrev pub among_milestones : Entry → Node → AmongMilestones
among_milestones e x = pick (is_milestone e x) (pick (is_start x) (start x.number (length (base_of x))) (end (base_of x))) neither

-- the base that stands at a place of the source
abbrev pub base_at : List ℕ → ℕ → ℕ → List ℕ
base_at s at len = take len (drop at s)

-- what the code's answer says of a marker: an end has the place of its base in the source
abbrev pub step_means : List ℕ → Option MilestoneSide → AmongMilestones
step_means s (Some (code.Start o)) = start o.node o.base_len
step_means s (Some (code.End at len)) = end (base_at s at len)
step_means s None = neither

-- the place of an end's base lies in the source
abbrev pub Placed : List ℕ → Option MilestoneSide → Type 0
Placed s (Some (code.End at len)) = at + len ≤ length s
Placed s (Some (code.Start o)) = Unit {0}
Placed s None = Unit {0}

-- the open starts without the entry that an end takes, if it takes one
abbrev pub opens_without : List OpenStart → ℕ → Option ℕ → List OpenStart
opens_without opens k (Some j) = removed opens k j
opens_without opens k None = opens

-- how many they are then; none for an end without an open start
abbrev pub count_without : ℕ → Option ℕ → Option ℕ
count_without k (Some j) = Some (k - 1)
count_without k None = None

-- the open starts after a marker, of which there are k before it: a start is one more, an end takes the latest of its base
abbrev pub opens_by : List ℕ → List ℕ → List OpenStart → ℕ → AmongMilestones → List OpenStart
opens_by s t opens k (start node len) = set opens k (record { node = node; base_len = len })
opens_by s t opens k (end base) = opens_without opens k (nearest_in s t opens k base)
opens_by s t opens k neither = opens

-- how many they are; none for an end without an open start
abbrev pub paired_by : List ℕ → List ℕ → List OpenStart → ℕ → AmongMilestones → Option ℕ
paired_by s t opens k (start node len) = Some (k + 1)
paired_by s t opens k (end base) = count_without k (nearest_in s t opens k base)
paired_by s t opens k neither = Some k

-- the record with another number of open starts
abbrev pub with_opens : State → ℕ → State
with_opens r n = put_open_len n r

-- the finding of an end without an open start is written, and only the counts change
pub record WroteEndAlone (t : List ℕ) (i : ℕ) (l : List ℕ) (r : State) (l' : List ℕ) (q : State) : Type 0 where
  pub wrote : Wrote (error (node_at [] t i) milestone_mismatch end_alone ∷ []) l (counts_of r) l' (counts_of q)
  pub same : q ≡ with_counts r (counts_of q)

-- the record after a marker, by the number of open starts after it: an end without one has its finding
abbrev pub Counted : List ℕ → ℕ → Option ℕ → List ℕ → State → List ℕ → State → Type 0
Counted t i (Some n) l r l' q = (q ≡ with_opens r n) × (l' ≡ l)
Counted t i None l r l' q = WroteEndAlone t i l r l' q

-- there is room for its finding
abbrev pub Countable : List ℕ → ℕ → Option ℕ → State → Type 0
Countable t i (Some n) r = Unit {0}
Countable t i None r = Room (counts_of r) (error (node_at [] t i) milestone_mismatch end_alone ∷ [])
