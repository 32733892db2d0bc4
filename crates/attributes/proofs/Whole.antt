-- The findings of one Attribute, by the tests that the code takes, and of a run of nodes, a node at a time.
-- Assumes nothing.
use mathlib.Core.Path.{◌≡◌, refl, ◌∙◌}
use mathlib.Core.Bool.{Bool, true, false, not}
use mathlib.Core.List.{List, [], ◌∷◌, ◌++◌}
use Prim.Native.Nat.{ℕ, ◌<◌, ◌≤◌}
use lib.Dec.{eqb}
use lib.ListN.{length}
use borrow.Author.Tests.{eq-eqb, ne_eqb, eqb-true, lt-ltb, le-ltb}
use Rattle.text.specs.Pick.{cut, pick}
use Rattle.text.specs.Characters.{chars, find_byte}
use Rattle.tape.specs.Nodes.{node_at, kind_at, start_at, len_at, span, is_open, marker_open_kind, attribute_kind}
use Rattle.tape.specs.Forest.{forest}
use Rattle.tape.proofs.Nest.{forest-done}
use Rattle.table.specs.Names.{default_name}
use Rattle.cursor.specs.Inner.{Run}
use Rattle.cursor.specs.Names.{name_of}
use Rattle.cursor.specs.Steps.{past_node}
use Rattle.cursor.proofs.Runs.{run-next, forest-at-leaf, forest-at-open}
use Rattle.findings.specs.Finding.{Finding}
use Rattle.findings.specs.declared.Counts.{Counts}
use Rattle.findings.proofs.Overlay.{Left, left-start, left-wrote, left_end, left-room, room-first}
use Rattle.attributes.specs.Attributes.{empty_list, no_default, between, attribute_scan, body, has_default, attribute_kinds, findings_at, attributes_findings}
use Rattle.attributes.specs.Inner.{of_node}
use Rattle.findings.specs.Inner.{Wrote, Room}

module _ (marker text b : List ℕ) (is : b ≡ body text) where
  pub kinds-none : length b ≡ 0 → attribute_kinds marker text ≡ empty_list ∷ []
  unfolding attribute_kinds
  kinds-none h = rw (← is, eq-eqb (length b) 0 h)

  module _ (some : length b ≡ 0 → ⊥) (k : ℕ) (at : k ≡ find_byte (eqb 0x3D) b) where
    pub kinds-scan : k < length b → attribute_kinds marker text ≡ attribute_scan between (chars b)
    unfolding attribute_kinds
    kinds-scan h = rw (← is, ne_eqb (length b) 0 some, ← at, lt-ltb k (length b) h)

    pub kinds-bare : (x : Bool) → x ≡ has_default (default_name marker) → length b ≤ k → attribute_kinds marker text ≡ pick (not x) (no_default ∷ []) [] ++ []
    unfolding attribute_kinds
    kinds-bare x e h = rw (← is, ne_eqb (length b) 0 some, ← at, le-ltb k (length b) h, ← e) (test x)
      where
        test : (x : Bool) → pick x [] (no_default ∷ []) ≡ pick (not x) (no_default ∷ []) [] ++ []
        test true = refl
        test false = refl

-- of a node that is an Attribute
pub of-attribute : (owner : ℕ) (marker s t : List ℕ) (i a n : ℕ) (text : List ℕ) → marker ≡ cut (span t owner) s → kind_at t i ≡ attribute_kind → a ≡ start_at t i → n ≡ len_at t i → text ≡ cut (span t i) s → findings_at a n i owner (attribute_kinds (name_of marker) text) ≡ of_node owner (name_of (node_at s t owner).text) (node_at s t i)
of-attribute owner marker s t i a n text m k e f g = rw (m, eq-eqb (kind_at t i) attribute_kind k, e, f, g)

module _ (owner : ℕ) (s t : List ℕ) where
  abbrev marker : List ℕ
  marker = name_of (node_at s t owner).text

  abbrev pub among : ℕ → ℕ → List Finding
  among a b = attributes_findings owner marker (forest s t a b)

  among_next : (i b : ℕ) → Run s t i b → i < b → among i b ≡ of_node owner marker (node_at s t i) ++ among (past_node t i) b
  unfolding attributes_findings
  among_next i b r h = test (is_open (kind_at t i)) refl
    where
      test : (v : Bool) → is_open (kind_at t i) ≡ v → among i b ≡ of_node owner marker (node_at s t i) ++ among (past_node t i) b
      test true e = rw (forest-at-open s t i b r h e, eqb-true (kind_at t i) marker_open_kind e)
      test false e = rw (forest-at-leaf s t i b r h e)

  -- Before a node of the run, or at its end: what is left to write, of the list and the counts at the start, and now.
  pub record Along (from to : ℕ) (l₀ : List ℕ) (c₀ : Counts) (i : ℕ) (l : List ℕ) (c : Counts) : Type 0 where
    pub run : Run s t i to
    pub same : length l ≡ length l₀
    pub roomy : Room c₀ (among from to)
    pub left : Left (among from to) l₀ c₀ (among i to) l c

  pub along-start : (from to : ℕ) (l : List ℕ) (c : Counts) → Run s t from to → Room c (among from to) → Along from to l c from l c
  along-start from to l c r h = record { run = r; same = refl; roomy = h; left = left-start (among from to) l c }

  module _ {from to : ℕ} {l₀ : List ℕ} {c₀ : Counts} {i : ℕ} {l : List ℕ} {c : Counts} (a : Along from to l₀ c₀ i l c) where
    pub along-end : to ≤ i → Wrote (among from to) l₀ c₀ l c
    unfolding attributes_findings
    along-end h = left_end (rw (forest-done s t i to h) at a.left)

    module _ (more : i < to) where
      here : Left (among from to) l₀ c₀ (of_node owner marker (node_at s t i) ++ among (past_node t i) to) l c
      here = rw (among_next i to a.run more) at a.left

      pub along-room : Room c (of_node owner marker (node_at s t i))
      along-room = room-first c (of_node owner marker (node_at s t i)) (among (past_node t i) to) (left-room here a.roomy)

      pub along-next : {l' : List ℕ} {c' : Counts} → length l' ≡ length l → Wrote (of_node owner marker (node_at s t i)) l c l' c' → Along from to l₀ c₀ (past_node t i) l' c'
      along-next n w = record { run = run-next s t i to a.run more; same = n ∙ a.same; roomy = a.roomy; left = left-wrote here w }
