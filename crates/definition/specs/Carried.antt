-- Document 02, K7: the carried record in numbers, what it stands for with the two working lists, and when "the record can't be this tape's".
use Rattle.std.specs.Prelude.{ℕ, zero, suc, ◌+◌, Bool, false, not, ◌&&◌, ◌||◌, List, [], ◌∷◌, eqb, ltb, length, get_or}
use Rattle.std.specs.Prelude.{Option, Some, None}
use Rattle.text.specs.Pick.{pick}
use Rattle.tape.specs.Nodes.{Node, node_at, kind_at, link_at, is_open}
use Rattle.tape.specs.Forest.{forest}
use Rattle.table.specs.Entries.{Entry, milestone_category}
use Rattle.cursor.specs.Steps.{past_node}
use Rattle.numbers.specs.Verse.{Position}
use Rattle.numbers.specs.Label.{numbered}
use Rattle.definition.specs.State.{Milestone, milestone_of, WalkState, Anchor}
use Rattle.definition.specs.Checks.{entry_of}
use Rattle.definition.specs.Milestones.{is_start, base_of}
use Rattle.definition.specs.Outcome.{no_start}
use Rattle.definition.specs.Sections.{is_border, Carried}
use Rattle.definition.specs.declared.OpenStart.{OpenStart}

-- "A carried record holds all that the walk knows, the last anchor included": flags, expected chapter and verse, how many entries of the working lists count, and the anchor's node, 0 for none
pub record CarriedRecord : Type 0 where
  pub place : ℕ
  pub has_id : Bool
  pub has_chapter : Bool
  pub has_verse : Bool
  pub front_matter : Bool
  pub verse_outside_warned : Bool
  pub expected_chapter : ℕ
  pub expected_verse : Position
  pub seen_len : ℕ
  pub open_len : ℕ
  pub anchor : ℕ

-- What a record stands for.

-- the first k words of a list, the last of them first
unfoldable pub latest_words : List ℕ → ℕ → List ℕ
latest_words words zero = []
latest_words words (suc k) = get_or words k 0 ∷ latest_words words k

-- the open starts of the first k entries, the last of them first: an entry stands for its node
unfoldable pub start_nodes : List ℕ → List ℕ → List OpenStart → ℕ → List Milestone
start_nodes s t opens zero = []
start_nodes s t opens (suc k) =
    milestone_of (node_at s t (get_or opens k no_start).node) (forest s t ((get_or opens k no_start).node + 1) (link_at t (get_or opens k no_start).node)) ∷ start_nodes s t opens k

-- the anchor that a node's number means to the siblings from a place on; 0 for none
abbrev pub anchor_at : List ℕ → List ℕ → ℕ → ℕ → Option Anchor
anchor_at s t zero at = None
anchor_at s t (suc n) at = Some (record { kind = kind_at t (suc n); passed = forest s t (past_node t (suc n)) at })

-- a node that is no top-level node before the place is no anchor
abbrev pub anchor_node : List ℕ → List ℕ → CarriedRecord → ℕ
anchor_node s t r = pick (is_border s t r.anchor && ltb r.anchor r.place) r.anchor 0

-- "Section and close give a checked document's counts, for their own findings and verses": a section counts its verses from 0
abbrev pub carried_state : List ℕ → List ℕ → List ℕ → List OpenStart → CarriedRecord → WalkState
carried_state s t seen opens r =
    record {
      has_id = r.has_id;
      has_chapter = r.has_chapter;
      has_verse = r.has_verse;
      front_matter = r.front_matter;
      verse_outside_warned = r.verse_outside_warned;
      expected_chapter = r.expected_chapter;
      expected_verse = r.expected_verse;
      seen = latest_words seen r.seen_len;
      open_starts = start_nodes s t opens r.open_len;
      verses = 0;
    }

abbrev pub carried_of : List ℕ → List ℕ → List ℕ → List OpenStart → CarriedRecord → Carried
carried_of s t seen opens r = record { place = r.place; anchor = anchor_at s t (anchor_node s t r) r.place; state = carried_state s t seen opens r }

-- The record can't be this tape's.

-- "place not between top-level nodes"
abbrev pub misplaced : List ℕ → List ℕ → CarriedRecord → Bool
misplaced s t r = not (is_border s t r.place)

-- "number over 4,294,967,296"
abbrev pub number_too_large : CarriedRecord → Bool
number_too_large r = ltb 4294967296 r.expected_chapter || ltb 4294967296 r.expected_verse.number

-- "a list length over that place"
abbrev pub list_too_long : CarriedRecord → Bool
list_too_long r = ltb r.place r.seen_len || ltb r.place r.open_len

-- "anchor no Chapter or Verse"
abbrev pub bad_anchor : List ℕ → CarriedRecord → Bool
bad_anchor t r = not (eqb r.anchor 0) && not (numbered (kind_at t r.anchor))

-- "a counted open start no milestone start with its base length"
abbrev pub is_milestone_entry : Option Entry → Bool
is_milestone_entry None = false
is_milestone_entry (Some e) = eqb e.category milestone_category

abbrev pub is_milestone_start : List ℕ → Node → Bool
is_milestone_start table x = is_open x.kind && (is_milestone_entry (entry_of table x) && is_start x)

abbrev pub bad_start : List ℕ → List ℕ → List ℕ → OpenStart → Bool
bad_start table s t o = not (is_milestone_start table (node_at s t o.node) && eqb o.base_len (length (base_of (node_at s t o.node))))

-- one of the first k entries
unfoldable pub bad_starts : List ℕ → List ℕ → List ℕ → List OpenStart → ℕ → Bool
bad_starts table s t opens zero = false
bad_starts table s t opens (suc k) = bad_start table s t (get_or opens k no_start) || bad_starts table s t opens k

abbrev pub is_foreign : List ℕ → List ℕ → List ℕ → List OpenStart → CarriedRecord → Bool
is_foreign table s t opens r = misplaced s t r || (number_too_large r || (list_too_long r || (bad_anchor t r || bad_starts table s t opens r.open_len)))
