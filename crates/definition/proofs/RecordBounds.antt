-- K7: what number 19 tries of the walk's state at a place holds wherever the document's walk comes.
-- Assumes nothing.
use Prim.Native.Nat.{ℕ, suc, ◌+◌, ◌*◌, ◌<◌, ◌≤◌}
use native.Mathlib.Nat.{le_refl}
use native.Mathlib.Omega.{arith}
use mathlib.Core.Path.{◌≡◌, refl}
use mathlib.Core.Bool.{Bool, true, false}
use mathlib.Core.List.{List, [], ◌∷◌}
use Rattle.std.specs.Prelude.{Option, Some, None}
use lib.Dec.{eqb}
use lib.ListN.{length}
use Rattle.text.specs.Pick.{pick, AllOf}
use Rattle.text.proofs.Bool.{and_left}
use Rattle.tape.specs.Nodes.{Node, byte, word, node_at, kind_at, link_at, is_open, chapter_kind, verse_kind}
use Rattle.tape.specs.Forest.{Forest, end, node, forest, Nested, done, one, inner}
use Rattle.tape.proofs.Nest.{nested-le, forest-done, forest-leaf, forest-node}
use Rattle.table.specs.Entries.{Entry, milestone_category}
use Rattle.numbers.specs.Verse.{Position, PartReading, position, no_digits, too_large, verse_part, verse_end, next, next_position}
use Rattle.numbers.specs.Label.{label_of}
use Rattle.numbers.proofs.Readable.{start-readable, end-readable}
use Rattle.definition.specs.State.{Milestone, milestone_of, node_of, WalkState, WalkContext, initial, outside, Anchor, past}
use Rattle.definition.specs.Checks.{entry_of, after_chapter, after_verse, end_or, expected_after, leaf_checked, after_id}
use Rattle.definition.specs.Milestones.{Fits, pairing, is_start, is_milestone, without_by, starts_after_by, after_milestone_by}
use Rattle.definition.specs.Walk.{leaf_anchor, open_checked_by, open_checked, inside, after_node, then_walk, by_entry, walk_by, walk}
use Rattle.definition.specs.Sections.{reached}
use Rattle.definition.specs.Carried.{is_milestone_start}
use Rattle.definition.proofs.Untaken.{all_without}

-- "link u32"
pub links-low : (t : List ℕ) → ((k : ℕ) → byte t k < 256) → (i : ℕ) → link_at t i ≤ 4294967295
unfolding word
links-low t h i =
    let k = 16 * i + 12 in
    let a = h k in
    let b = h (k + 1) in
    let c = h (k + 2) in
    let d = h (k + 3) in
    omega arith

-- The expected verse after a label.

next_low : (n : ℕ) (l : Option ℕ) → n ≤ 4294967295 → (next_position n l).number ≤ 4294967296
next_low n None h = omega arith
next_low n (Some b) h = omega arith

expected-low : (label : List ℕ) (p : Position) → p.number ≤ 4294967296 → (expected_after (verse_part label) label p).number ≤ 4294967296
unfolding next
expected-low label p h = start (verse_part label) refl
  where
    last : (q : Position) → q.number ≤ 4294967295 → (e : PartReading) → verse_end label ≡ e → (next (end_or e q)).number ≤ 4294967296
    last q low (position e) k = next_low e.number e.letter (end-readable label e k).number_low
    last q low no_digits k = next_low q.number q.letter low
    last q low too_large k = next_low q.number q.letter low

    start : (r : PartReading) → verse_part label ≡ r → (expected_after r label p).number ≤ 4294967296
    start (position q) k = last q (start-readable label q k).number_low (verse_end label) refl
    start no_digits k = h
    start too_large k = h

length_without : (fits : Fits) (x : Milestone) (xs : List Milestone) → length (without_by fits x xs) ≤ length xs
unfolding without_by
length_without fits x [] = le_refl 0
length_without fits x (y ∷ ys) = test (fits y x) (length_without fits x ys)
  where
    test : (b : Bool) → length (without_by fits x ys) ≤ length ys → length (pick b ys (y ∷ without_by fits x ys)) ≤ suc (length ys)
    test true h = omega arith
    test false h = omega arith

abbrev pub GoodStart : List ℕ → Milestone → Type 0
GoodStart table m = is_milestone_start table (node_of m) ≡ true

module _ (table s t : List ℕ) where
  -- of the state at a place
  pub record Fit (p : ℕ) (st : WalkState) : Type 0 where
    pub chapter : st.expected_chapter ≤ 4294967296
    pub verse : st.expected_verse.number ≤ 4294967296
    pub few-seen : length st.seen ≤ p
    pub few-open : length st.open_starts ≤ p
    pub starts : AllOf (GoodStart table) st.open_starts

  fit-later : {p : ℕ} {st : WalkState} (q : ℕ) → p ≤ q → Fit p st → Fit q st
  fit-later q l h =
      let a = h.few-seen in
      let b = h.few-open in
      record { chapter = h.chapter; verse = h.verse; few-seen = omega arith; few-open = omega arith; starts = h.starts }

  module _ (links : (i : ℕ) → link_at t i ≤ 4294967295) where
    leaf-fit : (o : WalkContext) (a : ℕ) (st : WalkState) → Fit a st → Fit (a + 1) (leaf_checked table o st (node_at s t a)).state
    unfolding leaf_checked after_chapter after_verse
    leaf-fit o a st h = test (eqb (kind_at t a) chapter_kind) (eqb (kind_at t a) verse_kind)
      where
        test : (b v : Bool) → Fit (a + 1) (pick b (after_chapter st (node_at s t a)) (pick v (after_verse (entry_of table (node_at s t a)) o st (node_at s t a)) st))
        test true v =
            let l = links a in
            let f = h.few-seen in
            let g = h.few-open in
            record { chapter = omega arith; verse = omega arith; few-seen = omega arith; few-open = omega arith; starts = h.starts }
        test false true =
            let f = h.few-seen in
            let g = h.few-open in
            record { chapter = h.chapter; verse = expected-low (label_of (entry_of table (node_at s t a)) (node_at s t a).text) st.expected_verse h.verse; few-seen = omega arith; few-open = omega arith; starts = h.starts }
        test false false = fit-later (a + 1) (omega arith) h

    open-fit : (o : WalkContext) (n : Option Anchor) (a : ℕ) (st : WalkState) (e : Entry) (c f : Forest) → is_open (kind_at t a) ≡ true → entry_of table (node_at s t a) ≡ Some e → Fit a st → Fit (a + 1) (open_checked table o n st e (node_at s t a) c f).state
    unfolding open_checked_by after_milestone_by after_id
    open-fit o n a st e c f opened entry h =
        let k = test (is_milestone e x) refl (is_start x) refl in
        let g = h.few-seen in
        record { chapter = h.chapter; verse = h.verse; few-seen = omega arith; few-open = k.0; starts = k.1 }
      where
        x : Node
        x = node_at s t a

        m : Milestone
        m = milestone_of x c

        test : (b : Bool) → is_milestone e x ≡ b → (v : Bool) → is_start x ≡ v → (length (pick b (starts_after_by pairing v m st.open_starts) st.open_starts) ≤ a + 1) × AllOf (GoodStart table) (pick b (starts_after_by pairing v m st.open_starts) st.open_starts)
        test true q true u =
            let l = h.few-open in
            (omega arith, (rw (opened, entry, and_left (eqb e.category milestone_category) _ q, u), h.starts))
        test true q false u =
            let l = h.few-open in
            let k = length_without pairing m st.open_starts in
            (omega arith, all_without pairing (GoodStart table) m st.open_starts h.starts)
        test false q v u = let l = h.few-open in (omega arith, h.starts)

    walk-fit : {d a b : ℕ} → Nested t d a b → (o : WalkContext) (n : Option Anchor) (st : WalkState) → Fit a st → Fit b (walk table o n (forest s t a b) st).state
    unfolding walk_by
    walk-fit {d} {a} {b} (done e) o n st h = rw (forest-done s t a b (omega arith)) (fit-later b (omega arith) h)
    walk-fit {d} {a} {b} (one i j r) o n st h = rw (forest-leaf s t i j r) (walk-fit r o (leaf_anchor n (node_at s t a)) (leaf_checked table o st (node_at s t a)).state (leaf-fit o a st h))
    walk-fit {a} {b} (inner {d} i j c r) o n st h =
        rw (forest-node s t i j c r) (go (entry_of table (node_at s t a)) refl (λ o' st' k. walk-fit c o' None st' k) (λ st' k. walk-fit r o (past n (node (node_at s t a) children end)) st' k))
      where
        children : Forest
        children = forest s t (a + 1) (link_at t a)

        rest : Forest
        rest = forest s t (link_at t a + 1) b

        x : Node
        x = node_at s t a

        go : (q : Option Entry) → entry_of table x ≡ q
            → ((o' : WalkContext) (st' : WalkState) → Fit (a + 1) st' → Fit (link_at t a) (walk table o' None children st').state)
            → ((st' : WalkState) → Fit (link_at t a + 1) st' → Fit b (walk table o (past n (node x children end)) rest st').state)
            → Fit b (by_entry q (walk table o (past n (node x children end)) rest st) (λ e. after_node (open_checked table o n st e x children (node x children rest)) (λ st₁. then_walk (walk table (inside o e) None children st₁) (walk table o (past n (node x children end)) rest)))).state
        go None e below later = let l = nested-le c in later st (fit-later (link_at t a + 1) (omega arith) h)
        go (Some e) k below later =
            let v = open_checked table o n st e x children (node x children rest) in
            let w = walk table (inside o e) None children v.state in
            later w.state (fit-later (link_at t a + 1) (omega arith) (below (inside o e) v.state (open-fit o n a st e children (node x children rest) i k h)))

    pub reached-fit : (p : ℕ) → Nested t 64 1 p → Fit p (reached table s t p).state
    reached-fit p n =
        let h = walk-fit n outside None initial (record { chapter = omega arith; verse = omega arith; few-seen = omega arith; few-open = omega arith; starts = tt }) in
        record { chapter = h.chapter; verse = h.verse; few-seen = h.few-seen; few-open = h.few-open; starts = h.starts }
