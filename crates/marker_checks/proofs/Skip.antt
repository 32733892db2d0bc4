-- A can_skip_marker marker: nothing is said of it.
-- Assumes nothing.
use Prim.Native.Nat.{ℕ}
use native.Mathlib.Omega.{arith}
use mathlib.Core.Path.{◌≡◌, refl}
use mathlib.Core.Bool.{Bool, true, false, not, false≢true, ◌&&◌, ◌||◌, and-false}
use mathlib.Core.List.{List, []}
use Rattle.std.specs.Prelude.{Option}
use lib.Dec.{eqb}
use borrow.Author.Tests.{ne_eqb, eqb-true, not-true}
use Rattle.text.specs.Pick.{cut, pick}
use Rattle.tape.specs.Nodes.{Node, node_at, text_kind, attribute_kind}
use Rattle.tape.specs.Forest.{Forest, end, leaf, node, forest}
use Rattle.table.specs.Entries.{Entry, paragraph_category, character_category, milestone_category}
use Rattle.findings.proofs.Overlay.{wrote_none}
use Rattle.attributes.specs.Attributes.{attributes_findings}
use Rattle.definition.specs.State.{WalkState, Anchor}
use Rattle.definition.specs.State as state
use Rattle.table.specs.Names.{note_only}
use Rattle.cursor.specs.Names.{name_of}
use Rattle.definition.specs.Checks.{given, after_id, is_body, number_markers, b_name, fig_name, id_name, rb_name, tr_name, w_name}
use Rattle.state.specs.Inner.{state_of, counts_of}
use Rattle.state.specs.declared.State.{State}
use Rattle.marker_checks.specs.InnerVisit.{own_findings, own_at, is_id, children_at, MarkerVisited}
use Rattle.marker_checks.specs.InnerSkip.{only_texts, has_own_check, placed, can_skip_marker, can_skip_marker_at}
use Rattle.text.proofs.Bool.{and_left, and_right, or_parts}
use Rattle.text.specs.Bytes.{equal, one_of}

-- Texts have no attributes among them
texts-attributes : (owner : ℕ) (marker : List ℕ) (f : Forest) → only_texts f ≡ true → attributes_findings owner marker f ≡ []
unfolding only_texts attributes_findings
texts-attributes owner marker end h = refl
texts-attributes owner marker (leaf x r) h =
    let k = eqb-true x.kind text_kind (and_left (eqb x.kind text_kind) (only_texts r) h) in
    rw (ne_eqb x.kind attribute_kind (λ z. omega arith)) (texts-attributes owner marker r (and_right (eqb x.kind text_kind) (only_texts r) h))
texts-attributes owner marker (node x c r) h = absurd (false≢true h)

-- a paragraph behind a chapter, or a character marker in a note
data Placed (e : Entry) (o : state.WalkContext) (chapter : Bool) : Type 0 where
  paragraph : e.category ≡ paragraph_category → chapter ≡ true → Placed e o chapter
  character : e.category ≡ character_category → o.in_note ≡ true → Placed e o chapter

is-placed : (e : Entry) (o : state.WalkContext) (chapter : Bool) → placed e o chapter ≡ true → Placed e o chapter
is-placed e o chapter = go (eqb e.category paragraph_category) refl
  where
    go : (v : Bool) → eqb e.category paragraph_category ≡ v → pick v chapter (eqb e.category character_category && o.in_note) ≡ true → Placed e o chapter
    go true k h = paragraph (eqb-true e.category paragraph_category k) h
    go false k h = character (eqb-true e.category character_category (and_left (eqb e.category character_category) o.in_note h)) (and_right (eqb e.category character_category) o.in_note h)

module _ {e : Entry} {o : state.WalkContext} {chapter : Bool} where
  inside : Placed e o chapter → (y : Bool) → (eqb e.category character_category && (not o.in_note && y)) ≡ false
  inside (paragraph k h) y = rw (ne_eqb e.category character_category (λ z. omega arith))
  inside (character k h) y = rw (h, and-false (eqb e.category character_category))

  late : Placed e o chapter → (y : Bool) → (is_body e && (not chapter && y)) ≡ false
  late (paragraph k h) y = rw (h, and-false (is_body e))
  late (character k h) y = rw (ne_eqb e.category paragraph_category (λ z. omega arith))

  other : Placed e o chapter → eqb e.category milestone_category ≡ false
  other (paragraph k h) = ne_eqb e.category milestone_category (λ z. omega arith)
  other (character k h) = ne_eqb e.category milestone_category (λ z. omega arith)

none_of : (a b d e f g k : Bool) → ((a || b) || ((d || e) || ((f || g) || k))) ≡ false → (a ≡ false) × (b ≡ false) × (d ≡ false) × (e ≡ false) × (f ≡ false) × (g ≡ false) × (k ≡ false)
none_of a b d e f g k h =
    let p = or_parts (a || b) _ h in
    let q = or_parts (d || e) _ p.1 in
    let r = or_parts (f || g) k q.1 in
    let x = or_parts a b p.0 in
    let y = or_parts d e q.0 in
    let z = or_parts f g r.0 in
    (x.0, x.1, y.0, y.1, z.0, z.1, r.1)

-- the three parts of the test
module _ (name : List ℕ) (e : Entry) (o : state.WalkContext) (chapter : Bool) (c : Forest) (h : can_skip_marker name e o chapter c ≡ true) where
  place : Placed e o chapter
  place = is-placed e o chapter (and_left (placed e o chapter) _ h)

  pub skipped-texts : only_texts c ≡ true
  skipped-texts = and_left (only_texts c) _ (and_right (placed e o chapter) _ h)

  names : (equal name b_name ≡ false) × (equal name w_name ≡ false) × (equal name id_name ≡ false) × (equal name rb_name ≡ false) × (equal name tr_name ≡ false) × (equal name fig_name ≡ false) × (one_of number_markers name ≡ false)
  names = none_of _ _ _ _ _ _ _ (not-true (has_own_check name) (and_right (only_texts c) _ (and_right (placed e o chapter) _ h)))

  pub skipped-category : eqb e.category milestone_category ≡ false
  skipped-category = other place

  -- nothing is said of it
  skipped-silent : (st st₁ : WalkState) (a : Option Anchor) (x : Node) (f : Forest) → st₁.has_chapter ≡ chapter → own_findings name st₁ o a st e x c f ≡ []
  unfolding given
  skipped-silent st st₁ a x f k =
      rw (names.0, names.1, names.2, names.3, names.4, names.5, names.6, k, inside place (one_of note_only name), late place (not st₁.front_matter), texts-attributes x.number (name_of x.text) c skipped-texts)

-- and a marker that is no `id` leaves the record as it is
module _ (table s t : List ℕ) (o : state.WalkContext) (a : Option Anchor) (e : Entry) (i to : ℕ) (r : State) (h : can_skip_marker_at table s t o e i r.has_chapter ≡ true) where
  unnamed : is_id table e ≡ false
  unnamed = (names (cut e.name table) e o r.has_chapter (children_at s t i) h).2

  silent : own_at table s t o a e i to r ≡ []
  unfolding after_id
  silent = skipped-silent (cut e.name table) e o r.has_chapter (children_at s t i) h (state_of s t [] [] r) (after_id (is_id table e) (state_of s t [] [] r) (children_at s t i)) a (node_at s t i) (forest s t i to) refl

  pub skipped-marked : (l : List ℕ) → MarkerVisited table s t o a e i to l r l r
  unfolding after_id
  skipped-marked l =
      record {
        wrote = rw silent (wrote_none l (counts_of r));
        state = λ seen opens. rw unnamed refl;
        same = record { seen = refl; opens = refl; verses = refl; anchor = refl };
        verse = refl;
      }
