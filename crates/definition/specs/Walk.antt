-- Document 01, module 8: the walk over a run of siblings, structural over the forest.
use Rattle.std.specs.Prelude.{ℕ, ◌||◌, List, [], ◌++◌, eqb}
use Rattle.std.specs.Prelude.{Option, Some, None}
use Rattle.text.specs.Pick.{cut, pick}
use Rattle.tape.specs.Nodes.{Node}
use Rattle.tape.specs.Forest.{Forest, end, leaf, node}
use Rattle.table.specs.Entries.{Entry, note_category, character_category}
use Rattle.cursor.specs.Names.{name_of}
use Rattle.findings.specs.Finding.{Finding}
use Rattle.attributes.specs.Attributes.{attributes_findings}
use Rattle.rows.specs.Row.{row_findings}
use Rattle.numbers.specs.Label.{numbered}
use Rattle.definition.specs.State.{milestone_of, WalkState, WalkContext, Anchor, past, NodeChecked}
use Rattle.definition.specs.Checks.{given, entry_of, leaf_checked, id_name, tr_name, book_code, id_checks, after_id, is_body, place_checks, content_checks}
use Rattle.definition.specs.Milestones.{Fits, pairing, milestone_checks_by, after_milestone_by}
use Rattle.text.specs.Bytes.{equal}

-- the findings of a run, its last anchor, and the record after it
pub record Walked : Type 0 where
  pub findings : List Finding
  pub anchor : Option Anchor
  pub state : WalkState

-- a Chapter or Verse is the new anchor; other leaves are passed
abbrev pub leaf_anchor : Option Anchor → Node → Option Anchor
leaf_anchor a x = pick (numbered x.kind) (Some (record { kind = x.kind; passed = end })) (past a (leaf x end))

-- by its table name, and the record after `id`; the row of a `tr` and the attributes come before the milestone
abbrev pub open_by : Fits → List ℕ → WalkState → WalkContext → Option Anchor → WalkState → Entry → Node → Forest → Forest → NodeChecked
open_by fits name st₁ o a st e x c f =
    record {
      findings =
          given (id_checks (equal name id_name) st (book_code c) x ++ place_checks name e o a st₁ x c f ++ content_checks name x c)
          ++ pick (equal name tr_name) (row_findings c) []
          ++ attributes_findings x.number (name_of x.text) c
          ++ given (milestone_checks_by fits e st₁ (milestone_of x c));
      state = after_milestone_by fits e st₁ (milestone_of x c);
    }

-- a marker's own findings, which come before those of its children: `f` are the siblings from it on
unfoldable pub open_checked_by : Fits → List ℕ → WalkContext → Option Anchor → WalkState → Entry → Node → Forest → Forest → NodeChecked
open_checked_by fits table o a st e x c f = open_by fits (cut e.name table) (after_id (equal (cut e.name table) id_name) st c) o a st e x c f

abbrev pub open_checked : List ℕ → WalkContext → Option Anchor → WalkState → Entry → Node → Forest → Forest → NodeChecked
open_checked = open_checked_by pairing

-- the context of a marker's children
abbrev pub inside : WalkContext → Entry → WalkContext
inside o e =
    record {
      in_body_para = (o.in_body_para || is_body e);
      in_note = (o.in_note || eqb e.category note_category);
      in_char = (o.in_char || eqb e.category character_category);
    }

abbrev pub with_findings : List Finding → Walked → Walked
with_findings fs w = record { findings = fs ++ w.findings; anchor = w.anchor; state = w.state }

abbrev pub after_node : NodeChecked → (WalkState → Walked) → Walked
after_node t rest = with_findings t.findings (rest t.state)

abbrev pub then_walk : Walked → (WalkState → Walked) → Walked
then_walk w rest = with_findings w.findings (rest w.state)

-- "A MarkerOpen whose marker number has no table entry is passed over with all below it."
abbrev pub by_entry : Option Entry → Walked → (Entry → Walked) → Walked
by_entry None passed_over visited = passed_over
by_entry (Some e) passed_over visited = visited e

-- the walk of a run of siblings, by any taking rule
unfoldable pub walk_by : Fits → List ℕ → WalkContext → Option Anchor → Forest → WalkState → Walked
walk_by fits table o a end st = record { findings = []; anchor = a; state = st }
walk_by fits table o a (leaf x r) st = after_node (leaf_checked table o st x) (walk_by fits table o (leaf_anchor a x) r)
walk_by fits table o a (node x c r) st =
    by_entry (entry_of table x) (walk_by fits table o (past a (node x c end)) r st)
    (λ e. after_node (open_checked_by fits table o a st e x c (node x c r)) (λ st₁. then_walk (walk_by fits table (inside o e) None c st₁) (walk_by fits table o (past a (node x c end)) r)))

-- the walk by module 9's rule
abbrev pub walk : List ℕ → WalkContext → Option Anchor → Forest → WalkState → Walked
walk = walk_by pairing
