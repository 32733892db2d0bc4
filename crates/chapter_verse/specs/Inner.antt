-- What the inner functions promise.
use Rattle.numbers.specs.declared.VersePart.{VersePart}
use Rattle.std.specs.Prelude.{Result, Ok, Err}
use Rattle.numbers.specs.declared.Unread.{Unread}
use Rattle.numbers.specs.declared.Unread.TheVariants as unread
use Rattle.std.specs.Prelude.{ℕ, ◌+◌, ◌≤◌, ◌≡◌, Bool, List}
use Rattle.std.specs.Prelude.{Option}
use Rattle.tape.specs.Nodes.{Node, node_at}
use Rattle.table.specs.Entries.{Entry}
use Rattle.cursor.specs.Names.{name_of}
use Rattle.numbers.specs.Label.{is_glued, label_of}
use Rattle.definition.specs.State as state
use Rattle.definition.specs.Checks.{after_chapter, after_verse}
use Rattle.definition.specs.declared.OpenStart.{OpenStart}
use Rattle.state.specs.Inner.{state_of, VerseBounded}
use Rattle.state.specs.declared.State.{State}

-- a number that a verse position can have, if one is read
abbrev pub LowRead : Result VersePart Unread → Type 0
LowRead (Ok p) = p.num ≤ 4294967296
LowRead (Err unread.NoDigits) = Unit {0}
LowRead (Err unread.TooLarge) = Unit {0}

-- the label of a node, and whether it stands in the marker's name
pub record LabelRead (e : Option Entry) (x : Node) (label : List ℕ) (glued : Bool) : Type 0 where
  pub label_is : label ≡ label_of e x.text
  pub glued_is : glued ≡ is_glued e (name_of x.text)

-- the record after the Chapter of node i, and the chapters seen; neither the source nor the open starts matter
pub record PassedChapter (t : List ℕ) (i : ℕ) (seen : List ℕ) (r : State) (seen' : List ℕ) (q : State) : Type 0 where
  pub state : (s : List ℕ) (opens : List OpenStart) → state_of s t seen' opens q ≡ after_chapter (state_of s t seen opens r) (node_at s t i)
  pub bounded : VerseBounded q
  pub one_seen : q.seen_len ≡ r.seen_len + 1
  pub opens : q.open_len ≡ r.open_len
  pub anchor : q.anchor ≡ r.anchor

-- the record after the Verse of node i, whatever chapters are seen and starts open
pub record PassedVerse (e : Option Entry) (s t : List ℕ) (o : state.WalkContext) (i : ℕ) (r q : State) : Type 0 where
  pub state : (seen : List ℕ) (opens : List OpenStart) → state_of s t seen opens q ≡ after_verse e o (state_of s t seen opens r) (node_at s t i)
  pub bounded : VerseBounded q
  pub same_seen : q.seen_len ≡ r.seen_len
  pub opens : q.open_len ≡ r.open_len
  pub anchor : q.anchor ≡ r.anchor
