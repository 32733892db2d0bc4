-- The rules of document 01 without document 02's K6: the checks of a Verse without UnreadableVerseNumber, and the findings of a document by them. "Against the Rust, lists are compared without code 35".
use Rattle.std.specs.Prelude.{ℕ, Bool, not, ◌&&◌, List, [], ◌∷◌, ◌++◌, eqb}
use Rattle.std.specs.Prelude.{Option, None}
use Rattle.text.specs.Pick.{pick}
use Rattle.tape.specs.Nodes.{Node, chapter_kind, verse_kind}
use Rattle.tape.specs.Forest.{Forest, end, leaf, node}
use Rattle.table.specs.Entries.{Entry}
use Rattle.findings.specs.Finding.{Finding, warning_severity}
use Rattle.findings.specs.Codes.{verse_outside_paragraph, char_crosses_verse_boundary, missing_verse_number, invalid_verse_sequence, unreadable_verse_number, verse_form}
use Rattle.numbers.specs.Label.{label_of}
use Rattle.numbers.specs.Verse.{verse_part}
use Rattle.definition.specs.State.{WalkState, initial, WalkContext, outside, Anchor, past, NodeChecked}
use Rattle.definition.specs.Checks.{about, error, warning, entry_of, Check, when, given, is_empty, breaks, letter_byte, number_form, chapter_checks, leaf_checked}
use Rattle.definition.specs.Milestones.{Fits, pairing}
use Rattle.definition.specs.Walk.{Walked, leaf_anchor, open_checked_by, inside, after_node, then_walk, by_entry}
use Rattle.definition.specs.Document.{text_before, closing}

-- document 01's checks of a Verse
abbrev pub base_verse_checks : Option Entry → WalkContext → WalkState → Node → List Check
base_verse_checks e o st x =
    when (not o.in_body_para && not st.verse_outside_warned) (warning x verse_outside_paragraph 0)
    ∷ when o.in_char (error x char_crosses_verse_boundary 0)
    ∷ when (is_empty (label_of e x.text)) (error x missing_verse_number 0)
    ∷ when (breaks (verse_part (label_of e x.text)) st.expected_verse) (about x warning_severity invalid_verse_sequence 0 st.expected_verse.number (letter_byte st.expected_verse.letter))
    ∷ number_form verse_form e x

-- a leaf by them; what a label that isn't read leaves is the same
unfoldable pub base_leaf : List ℕ → WalkContext → WalkState → Node → NodeChecked
base_leaf table o st x =
    record {
      findings = given (pick (eqb x.kind chapter_kind) (chapter_checks (entry_of table x) st x) (pick (eqb x.kind verse_kind) (base_verse_checks (entry_of table x) o st x) []));
      state = (leaf_checked table o st x).state;
    }

-- the walk of a run of siblings with these leaves
unfoldable pub base_walk_by : Fits → List ℕ → WalkContext → Option Anchor → Forest → WalkState → Walked
base_walk_by fits table o a end st = record { findings = []; anchor = a; state = st }
base_walk_by fits table o a (leaf x r) st = after_node (base_leaf table o st x) (base_walk_by fits table o (leaf_anchor a x) r)
base_walk_by fits table o a (node x c r) st =
    by_entry (entry_of table x) (base_walk_by fits table o (past a (node x c end)) r st)
    (λ e. after_node (open_checked_by fits table o a st e x c (node x c r)) (λ st₁. then_walk (base_walk_by fits table (inside o e) None c st₁) (base_walk_by fits table o (past a (node x c end)) r)))

abbrev pub base_walked_by : Fits → List ℕ → Forest → Walked
base_walked_by fits table f = base_walk_by fits table outside None f initial

-- the whole list by document 01's rules
abbrev pub base_findings_by : Fits → List ℕ → Forest → List Finding
base_findings_by fits table f = text_before f ++ (base_walked_by fits table f).findings ++ closing (base_walked_by fits table f).state

abbrev pub base_findings : List ℕ → Forest → List Finding
base_findings = base_findings_by pairing

-- "without code 35"
abbrev pub is_readable : Finding → Bool
is_readable f = not (eqb f.code unreadable_verse_number)
