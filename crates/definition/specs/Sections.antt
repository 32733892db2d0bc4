-- Document 02, K7: "Add three calls over one table, source and tape, lent alike each time, the working lists as left: begin, section (a range of whole top-level nodes) and close." What each call finds, and the lists of sections that cover a document.
use Rattle.std.specs.Prelude.{ℕ, ◌+◌, ◌<◌, ◌≤◌, ◌≡◌, Bool, true, List, [], ◌∷◌, ◌++◌, eqb}
use Rattle.std.specs.Prelude.{Option, None}
use Rattle.text.specs.Pick.{pick}
use Rattle.tape.specs.Nodes.{kind_at, start_at, link_at, is_open}
use Rattle.tape.specs.Forest.{Forest, end, leaf, node, forest, top}
use Rattle.findings.specs.Finding.{Finding}
use Rattle.attachment.specs.Attached.{among}
use Rattle.definition.specs.Setters.{set_verses}
use Rattle.definition.specs.State.{WalkState, initial, outside, Anchor}
use Rattle.definition.specs.Walk.{Walked, walk}
use Rattle.definition.specs.Document.{text_before, closing, walked}

-- the numbers of the nodes of a run, without those inside them
unfoldable pub numbers_of : Forest → List ℕ
numbers_of end = []
numbers_of (leaf x r) = x.number ∷ numbers_of r
numbers_of (node x c r) = x.number ∷ numbers_of r

-- the borders of a run that ends before node b: its nodes' numbers, and b
abbrev pub border_of : Forest → ℕ → ℕ → Bool
border_of f b p = among p (numbers_of f ++ b ∷ [])

-- "between top-level nodes": the numbers of the top-level nodes and the root's link
abbrev pub is_border : List ℕ → List ℕ → ℕ → Bool
is_border s t p = border_of (top s t) (link_at t 0) p

-- what the walk knows at a place: its anchor and its state. The verses of one call are not in it
pub record Carried : Type 0 where
  pub place : ℕ
  pub anchor : Option Anchor
  pub state : WalkState

-- what begin gives
abbrev pub begun : Carried
begun = record { place = 1; anchor = None; state = initial }

module _ (table s t : List ℕ) where
  -- "from it a section judges attachment over its own nodes": the anchor holds the siblings since it, those of earlier sections too, and the walk reads the run from the anchor up to the section's end
  abbrev pub section_walk : Carried → ℕ → Walked
  section_walk c to = walk table outside c.anchor (forest s t c.place to) c.state

  -- "each section's findings are those the walk gives for its nodes (before them TextBeforeId, where the first node is among these)"
  abbrev pub section_findings : Carried → ℕ → List Finding
  section_findings c to = pick (eqb c.place 1) (text_before (forest s t c.place to)) [] ++ (section_walk c to).findings

  -- "Section and close give a checked document's counts, for their own findings and verses."
  abbrev pub section_verses : Carried → ℕ → ℕ
  section_verses c to = (section_walk c to).state.verses

  abbrev pub after_section : Carried → ℕ → Carried
  after_section c to = record { place = to; anchor = (section_walk c to).anchor; state = set_verses 0 (section_walk c to).state }

  -- sections one after the other, each by the place where it ends: the findings of each, the verses of each, and the record after them
  unfoldable pub sections : Carried → List ℕ → List (List Finding)
  sections c [] = []
  sections c (to ∷ tos) = section_findings c to ∷ sections (after_section c to) tos

  unfoldable pub verses_of : Carried → List ℕ → List ℕ
  verses_of c [] = []
  verses_of c (to ∷ tos) = section_verses c to ∷ verses_of (after_section c to) tos

  unfoldable pub after_sections : Carried → List ℕ → Carried
  after_sections c [] = c
  after_sections c (to ∷ tos) = after_sections (after_section c to) tos

  -- what the document's own walk knows when it comes to a border, and what it gives for the nodes of each section from there
  abbrev pub reached : ℕ → Carried
  reached place = record { place = place; anchor = (walked table (forest s t 1 place)).anchor; state = set_verses 0 (walked table (forest s t 1 place)).state }

  unfoldable pub findings_of_each : ℕ → List ℕ → List (List Finding)
  findings_of_each from [] = []
  findings_of_each from (to ∷ tos) = section_findings (reached from) to ∷ findings_of_each to tos

-- "the closing findings from close"
abbrev pub close_findings : Carried → List Finding
close_findings c = closing c.state

-- sections in order from one place up to another: each starts where the last ended, doesn't end before its start, and ends between top-level nodes
abbrev pub InOrder : List ℕ → List ℕ → ℕ → List ℕ → ℕ → Type 0
InOrder s t from [] b = from ≡ b
InOrder s t from (to ∷ tos) b = (from ≤ to) × (is_border s t to ≡ true) × InOrder s t to tos b

-- "every list of sections covering the top-level nodes in order"
abbrev pub Covering : List ℕ → List ℕ → List ℕ → Type 0
Covering s t tos = InOrder s t 1 tos (link_at t 0)

-- "no MarkerOpen of one starting at a byte where another's starts": of a section and those after it
abbrev pub StartsApart : List ℕ → ℕ → List ℕ → Type 0
StartsApart t from [] = Unit {0}
StartsApart t from (to ∷ tos) = ((i j : ℕ) → from ≤ i → i < to → to ≤ j → j < link_at t 0 → is_open (kind_at t i) ≡ true → is_open (kind_at t j) ≡ true → start_at t i ≡ start_at t j → ⊥) × StartsApart t to tos

-- the lists joined, the sum of numbers, and a count of each list
unfoldable pub joined_findings : List (List Finding) → List Finding
joined_findings [] = []
joined_findings (fs ∷ rest) = fs ++ joined_findings rest

unfoldable pub sum_of : List ℕ → ℕ
sum_of [] = 0
sum_of (n ∷ ns) = n + sum_of ns

unfoldable pub count_each : (List Finding → ℕ) → List (List Finding) → List ℕ
count_each count [] = []
count_each count (fs ∷ rest) = count fs ∷ count_each count rest
