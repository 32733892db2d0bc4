-- What the checks of a marker promise, all but the milestone's.
use Rattle.std.specs.Prelude.{ℕ, ◌+◌, ◌≡◌, Bool, List, [], ◌++◌}
use Rattle.std.specs.Prelude.{Option}
use Rattle.text.specs.Pick.{cut, pick}
use Rattle.tape.specs.Nodes.{Node, node_at, link_at}
use Rattle.tape.specs.Forest.{Forest, forest}
use Rattle.table.specs.Entries.{Entry}
use Rattle.cursor.specs.Names.{name_of}
use Rattle.findings.specs.Finding.{Finding}
use Rattle.attributes.specs.Attributes.{attributes_findings}
use Rattle.rows.specs.Row.{row_findings}
use Rattle.definition.specs.State.{WalkState, Anchor}
use Rattle.definition.specs.State as state
use Rattle.definition.specs.Checks.{given, id_name, tr_name, book_code, id_checks, after_id, place_checks, content_checks}
use Rattle.definition.specs.declared.OpenStart.{OpenStart}
use Rattle.state.specs.Inner.{state_of, counts_of, SameLists}
use Rattle.state.specs.declared.State.{State}
use Rattle.text.specs.Bytes.{equal}
use Rattle.findings.specs.Inner.{Wrote}

-- the findings before the milestone's, of a marker with its table name and the record after `id`
abbrev pub own_findings : List ℕ → WalkState → state.WalkContext → Option Anchor → WalkState → Entry → Node → Forest → Forest → List Finding
own_findings name st₁ o a st e x c f =
    given (id_checks (equal name id_name) st (book_code c) x ++ place_checks name e o a st₁ x c f ++ content_checks name x c)
    ++ pick (equal name tr_name) (row_findings c) []
    ++ attributes_findings x.number (name_of x.text) c

abbrev pub is_id : List ℕ → Entry → Bool
is_id table e = equal (cut e.name table) id_name

-- the children of node i
abbrev pub children_at : List ℕ → List ℕ → ℕ → Forest
children_at s t i = forest s t (i + 1) (link_at t i)

-- of node i in a run that ends at `to`; the working lists may be any
abbrev pub own_at : List ℕ → List ℕ → List ℕ → state.WalkContext → Option Anchor → Entry → ℕ → ℕ → State → List Finding
own_at table s t o a e i to r =
    own_findings (cut e.name table) (after_id (is_id table e) (state_of s t [] [] r) (children_at s t i)) o a (state_of s t [] [] r) e (node_at s t i) (children_at s t i) (forest s t i to)

pub record MarkerVisited (table s t : List ℕ) (o : state.WalkContext) (a : Option Anchor) (e : Entry) (i to : ℕ) (l : List ℕ) (r : State) (l' : List ℕ) (q : State) : Type 0 where
  pub wrote : Wrote (own_at table s t o a e i to r) l (counts_of r) l' (counts_of q)
  pub state : (seen : List ℕ) (opens : List OpenStart) → state_of s t seen opens q ≡ after_id (is_id table e) (state_of s t seen opens r) (children_at s t i)
  pub same : SameLists r q
  pub verse : q.expected_verse ≡ r.expected_verse
