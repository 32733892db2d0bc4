-- What the functions before and after the walk promise.
use Rattle.std.specs.Prelude.{ℕ, ◌<◌, not, ◌&&◌, ◌||◌, List, [], ◌∷◌}
use Rattle.tape.specs.Nodes.{count, node_at}
use Rattle.findings.specs.Finding.{Finding}
use Rattle.findings.specs.declared.Counts.{Counts}
use Rattle.definition.specs.Checks.{Check, when, error}
use Rattle.definition.specs.declared.OpenStart.{OpenStart}
use Rattle.definition.specs.Document.{of_document, unclosed}
use Rattle.state.specs.Inner.{open_nodes, counts_of, Opens}
use Rattle.state.specs.declared.State.{State}
use Rattle.findings.specs.Codes.{milestone_mismatch, unclosed_start, missing_id_marker, missing_chapter_marker}
use Rattle.findings.specs.Inner.{Room}

-- MissingIdMarker, MissingChapterMarker: the conditions of `closing`, of the code's record
abbrev pub missing_checks : State → List Check
missing_checks r =
    when (not r.has_id && (r.has_chapter || r.has_verse)) (of_document missing_id_marker)
    ∷ when ((r.has_id || r.has_verse) && (not r.has_chapter && not r.front_matter)) (of_document missing_chapter_marker)
    ∷ []

-- the open starts that are left are known, and there is room for their findings
pub record Left (s t : List ℕ) (opens : List OpenStart) (r : State) : Type 0 where
  pub known : Opens s t opens r.open_len
  pub room : Room (counts_of r) (unclosed (open_nodes s t opens r.open_len))

-- the finding of one
abbrev pub of_open : List ℕ → OpenStart → List Finding
of_open t o = error (node_at [] t o.node) milestone_mismatch unclosed_start ∷ []

pub record UnclosedReady (t : List ℕ) (o : OpenStart) (c : Counts) : Type 0 where
  pub inside : o.node < count t
  pub room : Room c (of_open t o)
