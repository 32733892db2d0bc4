-- The state of the walk: "The running record (flags, expected chapter and verse, list lengths)", the context of a run of siblings, and its anchor.
use Rattle.std.specs.Prelude.{ℕ, Bool, false, List, []}
use Rattle.std.specs.Prelude.{Option, Some, None}
use Rattle.tape.specs.Nodes.{Node}
use Rattle.tape.specs.Forest.{Forest, followed}
use Rattle.findings.specs.Finding.{Finding}
use Rattle.numbers.specs.Verse.{Position}

-- what a taking rule sees of a milestone, made of its node and of what stands inside it; module 9's rule needs the node alone
abbrev pub Milestone : Type 0
Milestone = Node

abbrev pub milestone_of : Node → Forest → Milestone
milestone_of x inside = x

abbrev pub node_of : Milestone → Node
node_of m = m

-- the running record. The open starts are the milestone starts that wait for their end, the latest first
pub record WalkState : Type 0 where
  pub has_id : Bool
  pub has_chapter : Bool
  pub has_verse : Bool
  pub front_matter : Bool
  pub verse_outside_warned : Bool
  pub expected_chapter : ℕ
  pub expected_verse : Position
  pub seen : List ℕ
  pub open_starts : List Milestone
  pub verses : ℕ

abbrev pub first_verse : Position
first_verse = record { number = 1; letter = None }

abbrev pub initial : WalkState
initial =
    record {
      has_id = false;
      has_chapter = false;
      has_verse = false;
      front_matter = false;
      verse_outside_warned = false;
      expected_chapter = 1;
      expected_verse = first_verse;
      seen = [];
      open_starts = [];
      verses = 0;
    }

-- whether a run of siblings is in a body paragraph, in a note, in a character marker
pub record WalkContext : Type 0 where
  pub in_body_para : Bool
  pub in_note : Bool
  pub in_char : Bool

abbrev pub outside : WalkContext
outside = record { in_body_para = false; in_note = false; in_char = false }

-- "The latest chapter/verse among these siblings": its kind, and the siblings since
pub record Anchor : Type 0 where
  pub kind : ℕ
  pub passed : Forest

-- one sibling more is passed
abbrev pub past : Option Anchor → Forest → Option Anchor
past None f = None
past (Some a) f = Some (record { kind = a.kind; passed = followed a.passed f })

-- findings, and the record after them
pub record NodeChecked : Type 0 where
  pub findings : List Finding
  pub state : WalkState
