-- What the code's values mean in the definition: the record, the context, and the anchor.
use Rattle.std.specs.Prelude.{ℕ, zero, suc, ◌<◌, ◌≤◌, ◌≡◌, List, [], ◌∷◌, length, get_or}
use Rattle.std.specs.Prelude.{Option, Some, None}
use Rattle.tape.specs.Nodes.{Node, node_at, kind_at}
use Rattle.tape.specs.Forest.{Forest, followed, forest}
use Rattle.cursor.specs.Inner.{Spanned}
use Rattle.cursor.specs.Steps.{past_node}
use Rattle.findings.specs.declared.Counts.{Counts}
use Rattle.numbers.specs.Verse.{position_of}
use Rattle.attachment.specs.Attached.{attached_numbers}
use Rattle.attachment.specs.Attached as attached
use Rattle.definition.specs.State as state
use Rattle.definition.specs.Milestones.{base_of}
use Rattle.definition.specs.Outcome.{no_start}
use Rattle.definition.specs.declared.OpenStart.{OpenStart}
use Rattle.state.specs.InnerSetters.{put_anchor, put_errors, put_warnings, put_infos}
use Rattle.state.specs.declared.State.{State}
use Rattle.state.specs.declared.Context.{Context}

-- the first k words of a list, the last of them first
unfoldable pub latest : List ℕ → ℕ → List ℕ
latest words zero = []
latest words (suc k) = get_or words k 0 ∷ latest words k

-- the open starts of the first k entries, the last of them first
unfoldable pub open_nodes : List ℕ → List ℕ → List OpenStart → ℕ → List Node
open_nodes s t opens zero = []
open_nodes s t opens (suc k) = node_at s t (get_or opens k no_start).node ∷ open_nodes s t opens k

-- the definition's record
abbrev pub state_of : List ℕ → List ℕ → List ℕ → List OpenStart → State → state.WalkState
state_of s t seen opens r =
    record {
      has_id = r.has_id;
      has_chapter = r.has_chapter;
      has_verse = r.has_verse;
      front_matter = r.front_matter;
      verse_outside_warned = r.verse_outside_warned;
      expected_chapter = r.expected_chapter;
      expected_verse = position_of r.expected_verse;
      seen = latest seen r.seen_len;
      open_starts = open_nodes s t opens r.open_len;
      verses = r.verses;
    }

abbrev pub context_of : Context → state.WalkContext
context_of o = record { in_body_para = o.in_body_para; in_note = o.in_note; in_char = o.in_char }

abbrev pub counts_of : State → Counts
counts_of r = record { errors = r.errors; warnings = r.warnings; infos = r.infos }

abbrev pub with_counts : State → Counts → State
with_counts r c = put_errors c.errors (put_warnings c.warnings (put_infos c.infos r))

-- the anchor that a node's number means to the siblings from a place on; 0 for none
abbrev pub anchor_of : List ℕ → List ℕ → ℕ → ℕ → Option state.Anchor
anchor_of s t zero at = None
anchor_of s t (suc n) at = Some (record { kind = kind_at t (suc n); passed = forest s t (past_node t (suc n)) at })

-- the first k entries of the open starts are nodes of the tape with the lengths of their bases
pub record Opens (s t : List ℕ) (opens : List OpenStart) (k : ℕ) : Type 0 where
  pub room : k ≤ length opens
  pub spanned : (j : ℕ) → j < k → Spanned s t (get_or opens j no_start).node
  pub bases : (j : ℕ) → j < k → (get_or opens j no_start).base_len ≡ length (base_of (node_at s t (get_or opens j no_start).node))

-- the start offsets of the numbers attached to an anchor, of the siblings passed since and those from here on
abbrev pub starts_for : Option state.Anchor → Forest → List ℕ
starts_for None f = []
starts_for (Some a) f = attached.start_offsets (attached_numbers a.kind (followed a.passed f))

-- what holds of the running record in every step: the expected verse is one that a label can lead to
abbrev pub VerseBounded : State → Type 0
VerseBounded r = r.expected_verse.num ≤ 4294967296

-- fields that a step doesn't change
pub record SameLists (r q : State) : Type 0 where
  pub seen : q.seen_len ≡ r.seen_len
  pub opens : q.open_len ≡ r.open_len
  pub verses : q.verses ≡ r.verses
  pub anchor : q.anchor ≡ r.anchor

abbrev pub with_anchor : State → ℕ → State
with_anchor r n = put_anchor n r
