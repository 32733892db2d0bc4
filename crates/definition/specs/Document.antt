-- A whole document: TextBeforeId, the walk of the root's children, the closing findings.
use Rattle.std.specs.Prelude.{ℕ, Bool, not, ◌&&◌, ◌||◌, List, [], ◌∷◌, ◌++◌, eqb, ◌≡◌}
use Rattle.std.specs.Prelude.{None}
use Rattle.text.specs.Pick.{pick}
use Rattle.text.specs.Words.{blank_text}
use Rattle.tape.specs.Nodes.{text_kind}
use Rattle.tape.specs.Forest.{Forest, end, leaf, node}
use Rattle.findings.specs.Finding.{Finding, error_severity}
use Rattle.findings.specs.Written.{only}
use Rattle.definition.specs.State.{Milestone, node_of, WalkState, initial, outside}
use Rattle.definition.specs.Checks.{error, warning, when, given}
use Rattle.definition.specs.Milestones.{Fits, pairing}
use Rattle.definition.specs.Walk.{Walked, walk_by}
use Rattle.findings.specs.Codes.{text_before_id, milestone_mismatch, unclosed_start, missing_id_marker, missing_chapter_marker}

-- TextBeforeId: the first child of the root is a Text that isn't blank
unfoldable pub text_before : Forest → List Finding
text_before end = []
text_before (leaf x r) = only (eqb x.kind text_kind && not (blank_text x.text)) (warning x text_before_id 0)
text_before (node x c r) = []

-- "its finding is a MilestoneMismatch of form 0 with its node"; the open starts are held the latest first, and given "in opening order"
unfoldable pub unclosed : List Milestone → List Finding
unclosed [] = []
unclosed (x ∷ xs) = unclosed xs ++ error (node_of x) milestone_mismatch unclosed_start ∷ []

-- of no node: "0 for the document"
abbrev pub of_document : ℕ → Finding
of_document code = record { severity = error_severity; code = code; start = 0; len = 0; node = 0; form = 0; first = 0; second = 0 }

-- "Unclosed starts in opening order, then MissingIdMarker, then MissingChapterMarker: these are the closing findings."
unfoldable pub closing : WalkState → List Finding
closing st =
    unclosed st.open_starts
    ++ given
    (when (not st.has_id && (st.has_chapter || st.has_verse)) (of_document missing_id_marker)
    ∷ when ((st.has_id || st.has_verse) && (not st.has_chapter && not st.front_matter)) (of_document missing_chapter_marker)
    ∷ [])

-- the walk of the root's children, by a taking rule and by module 9's
abbrev pub walked_by : Fits → List ℕ → Forest → Walked
walked_by fits table f = walk_by fits table outside None f initial

abbrev pub walked : List ℕ → Forest → Walked
walked = walked_by pairing

-- the findings before the closing ones
abbrev pub running_by : Fits → List ℕ → Forest → List Finding
running_by fits table f = text_before f ++ (walked_by fits table f).findings

abbrev pub running : List ℕ → Forest → List Finding
running = running_by pairing

abbrev pub findings_by : Fits → List ℕ → Forest → List Finding
findings_by fits table f = running_by fits table f ++ closing (walked_by fits table f).state

abbrev pub findings : List ℕ → Forest → List Finding
findings = findings_by pairing

abbrev pub verses_visited : List ℕ → Forest → ℕ
verses_visited table f = (walked table f).state.verses

-- the findings of unclosed starts
abbrev pub unclosed_of : List ℕ → Forest → List Finding
unclosed_of table f = unclosed (walked table f).state.open_starts

abbrev pub is_mismatch : Finding → Bool
is_mismatch f = eqb f.code milestone_mismatch

-- "a MilestoneMismatch of form 0": the finding of an unclosed start
abbrev pub is_unclosed : Finding → Bool
is_unclosed f = is_mismatch f && eqb f.form unclosed_start

-- the elements of a list that pass a test, in order
unfoldable pub those : {A : Type 0} → (A → Bool) → List A → List A
those p [] = []
those p (x ∷ xs) = pick (p x) (x ∷ those p xs) (those p xs)

-- one list of findings is a beginning of another
pub record Beginning (fs gs : List Finding) : Type 0 where
  pub more : List Finding
  pub is : gs ≡ fs ++ more
