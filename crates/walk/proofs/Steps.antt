-- The definition's walk at a node of a run, in the terms of the code's values.
-- Assumes nothing.
use Prim.Native.Nat.{ℕ, zero, suc, ◌+◌, ◌<◌, ◌≤◌}
use native.Mathlib.Omega.{arith}
use mathlib.Core.Path.{◌≡◌, refl, sym, ap, ◌∙◌}
use mathlib.Core.Bool.{Bool, true, false, false≢true}
use mathlib.Core.List.{List, [], ◌++◌, append_assoc}
use Rattle.std.specs.Prelude.{Option, Some, None}
use lib.ListN.{length}
use borrow.Author.Tests.{eq-eqb, ne_eqb}
use Rattle.text.specs.Pick.{pick}
use Rattle.tape.specs.Nodes.{Node, count, node_at, kind_at, link_at, is_open}
use Rattle.tape.specs.Forest.{Forest, end, leaf, node, followed, forest, Nested, done, Accepted}
use Rattle.tape.proofs.Nest.{nested-join, forest-join, forest-done}
use Rattle.table.specs.Entries.{Entry}
use Rattle.cursor.specs.Inner.{Run, Spanned}
use Rattle.cursor.specs.Steps.{past_node, holds_nodes}
use Rattle.cursor.proofs.Runs.{one-nested, rest-nested, one-leaf, one-open, forest-at-leaf, forest-at-open, past-later, past-inside}
use Rattle.numbers.specs.Label.{numbered}
use Rattle.findings.specs.Finding.{Finding}
use Rattle.attachment.specs.Attached.{start_offsets, attached_numbers}
use Rattle.attachment.specs.declared.Attached.{Attached}
use Rattle.definition.specs.State.{WalkState, Anchor, past, NodeChecked}
use Rattle.definition.specs.State as state
use Rattle.definition.specs.Checks.{entry_of, leaf_checked}
use Rattle.definition.specs.Walk.{leaf_anchor, open_checked, inside, with_findings, walk_by, walk}
use Rattle.state.specs.Inner.{state_of, counts_of, anchor_of, starts_for, with_anchor, VerseBounded}
use Rattle.state.specs.declared.State.{State}
use Rattle.walk.specs.Inner.{Anchored, nowhere, behind, anchor_after, numbers_after, LeafPassed, Leafy, Leaved, PassedBy}
use Rattle.chapter_verse.specs.InnerVisit.{LeafVisited}
use Rattle.table.specs.Inner.{Indexed}
use Rattle.findings.specs.Inner.{Room}

-- a marker with its entry, its children and what follows it
open-walk : (table : List ℕ) (o : state.WalkContext) (a : Option Anchor) (x : Node) (c r : Forest) (st : WalkState) (e : Entry) → entry_of table x ≡ Some e → walk table o a (node x c r) st ≡ with_findings ((open_checked table o a st e x c (node x c r)).findings ++ (walk table (inside o e) None c (open_checked table o a st e x c (node x c r)).state).findings) (walk table o (past a (node x c end)) r (walk table (inside o e) None c (open_checked table o a st e x c (node x c r)).state).state)
unfolding walk_by
open-walk table o a x c r st e h =
    let t = open_checked table o a st e x c (node x c r) in
    let w = walk table (inside o e) None c t.state in
    rw h (ap (λ (l : List Finding). record { findings = l; anchor = (walk table o (past a (node x c end)) r w.state).anchor; state = (walk table o (past a (node x c end)) r w.state).state }) (sym (append_assoc t.findings w.findings (walk table o (past a (node x c end)) r w.state).findings)))

-- an anchor by its number
anchor-at : (s t : List ℕ) (i at : ℕ) → 1 ≤ i → anchor_of s t i at ≡ Some (record { kind = kind_at t i; passed = forest s t (past_node t i) at })
anchor-at s t zero at h = absurd (omega arith)
anchor-at s t (suc n) at h = refl

-- a run of siblings from a place that nests, and its first node
module _ (s t : List ℕ) (d i to : ℕ) (ok : Accepted s t) (nested : Nested t d i to) (from : 1 ≤ i) (within : to ≤ count t) (more : i < to) where
  abbrev next : ℕ
  next = past_node t i

  run : Run s t i to
  run = record { accepted = ok; depth = d; nested = nested; from = from; inside = within }

  first : Nested t d i next
  first = one-nested s t d i to ok nested from within more

  pub next-later : (i < next) × (next ≤ to)
  next-later = (past-later s t i to run more, past-inside s t i to run more)

  -- the anchor is the same to the siblings after the node, one more being passed
  pub anchor-past : (n : ℕ) → Anchored t d n i → past (anchor_of s t n i) (forest s t i next) ≡ anchor_of s t n next
  anchor-past n nowhere = refl
  anchor-past (suc n) (behind l r) = ap (λ (f : Forest). Some (record { kind = kind_at t (suc n); passed = f })) (sym (forest-join s t r first))

  pub anchored-past : (n : ℕ) → Anchored t d n i → Anchored t d n next
  anchored-past n nowhere = nowhere
  anchored-past (suc n) (behind l r) = behind l (nested-join r first)

  -- and so are the numbers attached to it
  pub starts-past : (n : ℕ) → Anchored t d n i → starts_for (anchor_of s t n i) (forest s t i to) ≡ starts_for (anchor_of s t n next) (forest s t next to)
  starts-past n nowhere = refl
  starts-past (suc n) (behind l r) =
      ap (λ (f : Forest). start_offsets (attached_numbers (kind_at t (suc n)) f)) (sym (forest-join s t r nested) ∙ forest-join s t (nested-join r first) (rest-nested s t d i to ok nested from within more))

  -- a leaf
  module _ (leafy : is_open (kind_at t i) ≡ false) where
    pub leaf-anchor : (n : ℕ) → Anchored t d n i → leaf_anchor (anchor_of s t n i) (node_at s t i) ≡ anchor_of s t (anchor_after t i n) next
    leaf-anchor n a = go (numbered (kind_at t i)) refl
      where
        go : (v : Bool) → numbered (kind_at t i) ≡ v → pick v (Some (record { kind = kind_at t i; passed = end })) (past (anchor_of s t n i) (leaf (node_at s t i) end)) ≡ anchor_of s t (pick v i n) next
        go true e = sym (anchor-at s t i next from ∙ ap (λ (f : Forest). Some (record { kind = kind_at t i; passed = f })) (forest-done s t next next (omega arith)))
        go false e = ap (past (anchor_of s t n i)) (sym (one-leaf s t d i to ok nested from within more leafy)) ∙ anchor-past n a

    pub leaf-anchored : (n : ℕ) → Anchored t d n i → Anchored t d (anchor_after t i n) next
    leaf-anchored n a = go (numbered (kind_at t i)) i refl
      where
        go : (v : Bool) (j : ℕ) → i ≡ j → Anchored t d (pick v j n) next
        go true zero e = absurd (omega arith)
        go true (suc j) e =
            let below : suc j < count t = omega arith in
            let z : past_node t (suc j) ≡ next = ap (past_node t) (sym e) in
            behind below (done z)
        go false j e = anchored-past n a

    pub leaf-starts : (n : ℕ) (given : List ℕ) → Anchored t d n i → given ≡ starts_for (anchor_of s t n i) (forest s t i to) → numbers_after s t i next to given ≡ starts_for (anchor_of s t (anchor_after t i n) next) (forest s t next to)
    unfolding followed
    leaf-starts n given a h = go (numbered (kind_at t i))
      where
        go : (v : Bool) → pick v (start_offsets (attached_numbers (kind_at t i) (forest s t next to))) given ≡ starts_for (anchor_of s t (pick v i n) next) (forest s t next to)
        go true = sym (ap (λ (a : Option Anchor). starts_for a (forest s t next to)) (anchor-at s t i next from) ∙ ap (λ (f : Forest). start_offsets (attached_numbers (kind_at t i) (followed f (forest s t next to)))) (forest-done s t next next (omega arith)))
        go false = h ∙ starts-past n a

    -- the walk from a leaf on
    pub walk-leaf : (table : List ℕ) (o : state.WalkContext) (n : ℕ) (st : WalkState) → Anchored t d n i → walk table o (anchor_of s t n i) (forest s t i to) st ≡ with_findings (leaf_checked table o st (node_at s t i)).findings (walk table o (anchor_of s t (anchor_after t i n) next) (forest s t next to) (leaf_checked table o st (node_at s t i)).state)
    unfolding walk_by
    walk-leaf table o n st a = rw (forest-at-leaf s t i to run more leafy, leaf-anchor n a)

  -- an open node
  module _ (opened : is_open (kind_at t i) ≡ true) where
    abbrev x : Node
    x = node_at s t i

    abbrev c : Forest
    c = forest s t (i + 1) (link_at t i)

    open-anchor : (n : ℕ) → Anchored t d n i → past (anchor_of s t n i) (node x c end) ≡ anchor_of s t n next
    open-anchor n a = ap (past (anchor_of s t n i)) (sym (one-open s t d i to ok nested from within more opened)) ∙ anchor-past n a

    -- without a table entry it is passed over
    pub walk-skip : (table : List ℕ) (o : state.WalkContext) (n : ℕ) (st : WalkState) → Anchored t d n i → entry_of table x ≡ None → walk table o (anchor_of s t n i) (forest s t i to) st ≡ walk table o (anchor_of s t n next) (forest s t next to) st
    unfolding walk_by
    walk-skip table o n st a e = rw (forest-at-open s t i to run more opened, e, open-anchor n a)

    pub walk-open : (table : List ℕ) (o : state.WalkContext) (n : ℕ) (st : WalkState) (e : Entry) → Anchored t d n i → entry_of table x ≡ Some e → walk table o (anchor_of s t n i) (forest s t i to) st ≡ with_findings ((open_checked table o (anchor_of s t n i) st e x c (forest s t i to)).findings ++ (walk table (inside o e) None c (open_checked table o (anchor_of s t n i) st e x c (forest s t i to)).state).findings) (walk table o (anchor_of s t n next) (forest s t next to) (walk table (inside o e) None c (open_checked table o (anchor_of s t n i) st e x c (forest s t i to)).state).state)
    unfolding walk_by
    walk-open table o n st e a h =
        rw (forest-at-open s t i to run more opened) (open-walk table o (anchor_of s t n i) x c (forest s t next to) st e h ∙ rw (open-anchor n a))

-- the anchor that a run begins with
module _ (s t : List ℕ) (d n from to : ℕ) (ok : Accepted s t) (nested : Nested t d from to) (within : to ≤ count t) (a : Anchored t d n from) (some-anchor : n ≡ 0 → ⊥) where
  pub begun-below : n < count t
  begun-below = go a some-anchor
    where
      go : {n : ℕ} → Anchored t d n from → (n ≡ 0 → ⊥) → n < count t
      go nowhere h = absurd (h refl)
      go (behind l r) h = l

  past-some : (b : Bool) (x y : ℕ) → 1 ≤ pick b (x + 1) (y + 1)
  past-some true x y = omega arith
  past-some false x y = omega arith

  pub begun-run : (p : ℕ) → p ≡ past_node t n → Run s t p to
  begun-run p e = rw e (go a some-anchor)
    where
      go : {n : ℕ} → Anchored t d n from → (n ≡ 0 → ⊥) → Run s t (past_node t n) to
      go nowhere h = absurd (h refl)
      go {n} (behind l r) h = record { accepted = ok; depth = d; nested = nested-join r nested; from = past-some (holds_nodes (kind_at t n)) (link_at t n) n; inside = within }

  pub begun-starts : (k p : ℕ) (xs : List ℕ) → k ≡ kind_at t n → p ≡ past_node t n → xs ≡ start_offsets (attached_numbers k (forest s t p to)) → xs ≡ starts_for (anchor_of s t n from) (forest s t from to)
  begun-starts k p xs e f h = h ∙ rw (e, f) (go a some-anchor)
    where
      go : {n : ℕ} → Anchored t d n from → (n ≡ 0 → ⊥) → start_offsets (attached_numbers (kind_at t n) (forest s t (past_node t n) to)) ≡ starts_for (anchor_of s t n from) (forest s t from to)
      go nowhere h = absurd (h refl)
      go {n} (behind l r) h = ap (λ (f : Forest). start_offsets (attached_numbers (kind_at t n) f)) (forest-join s t r nested)

pub begun-nothing : (s t : List ℕ) (n from : ℕ) (f : Forest) → n ≡ 0 → [] ≡ starts_for (anchor_of s t n from) f
begun-nothing s t n from f e = rw e

-- whether a kind is that of a Chapter or a Verse
module _ (t : List ℕ) (i k : ℕ) (is-kind : k ≡ kind_at t i) where
  pub is-chapter : k ≡ 3 → numbered (kind_at t i) ≡ true
  is-chapter h = rw (← is-kind, eq-eqb k 3 h)

  pub is-verse : (k ≡ 3 → ⊥) → k ≡ 4 → numbered (kind_at t i) ≡ true
  is-verse n h = rw (← is-kind, ne_eqb k 3 n, eq-eqb k 4 h)

  pub is-neither : (k ≡ 3 → ⊥) → (k ≡ 4 → ⊥) → numbered (kind_at t i) ≡ false
  is-neither n m = rw (← is-kind, ne_eqb k 3 n, ne_eqb k 4 m)

module _ (s t : List ℕ) (i next to : ℕ) (given : List ℕ) where
  pub new-numbers : (k : ℕ) (xs : List ℕ) → k ≡ kind_at t i → numbered (kind_at t i) ≡ true → xs ≡ start_offsets (attached_numbers k (forest s t next to)) → xs ≡ numbers_after s t i next to given
  new-numbers k xs e h q = q ∙ rw (e, h)

  pub same_numbers : numbered (kind_at t i) ≡ false → given ≡ numbers_after s t i next to given
  same_numbers h = rw h

-- the leaf with its anchor
module _ {table s t : List ℕ} {o : state.WalkContext} {i : ℕ} {seen l : List ℕ} {r : State} {seen' l' : List ℕ} {q : State} (v : LeafVisited table s t o i seen l r seen' l' q) where
  pub leaf-new : (q' : State) → q' ≡ with_anchor q i → numbered (kind_at t i) ≡ true → LeafPassed table s t o i seen l r seen' l' q'
  leaf-new q' e h = rw e (record { wrote = v.wrote; state = v.state; bounded = v.bounded; seen_few = v.seen_few; verses_few = v.verses_few; opens = v.opens; anchor = rw h })

  pub leaf-old : numbered (kind_at t i) ≡ false → LeafPassed table s t o i seen l r seen' l' q
  leaf-old h = record { wrote = v.wrote; state = v.state; bounded = v.bounded; seen_few = v.seen_few; verses_few = v.verses_few; opens = v.opens; anchor = v.anchor ∙ rw h }

-- what a Chapter or Verse asks for, one by one
pub leafy-asks : {table index : List ℕ} {entries : ℕ} {s t : List ℕ} {o : state.WalkContext} {i next to : ℕ} {seen : List ℕ} {r : State} → Leafy table index entries s t o i next to seen r → Indexed table index entries × Spanned s t i × VerseBounded r × (r.seen_len < length seen) × (r.verses < 4611686018427387904) × Room (counts_of r) (leaf_checked table o (state_of s t seen [] r) (node_at s t i)).findings
leafy-asks a = (a.indexed, a.spanned, a.bounded, a.seen_room, a.verses_room, a.room)

-- the visit of a leaf, by what it is
module _ {table s t : List ℕ} {o : state.WalkContext} {i next to : ℕ} {numbers : Attached} {seen l : List ℕ} {r : State} where
  pub was-number : {seen' l' : List ℕ} {q : State} {after_node : Attached} → numbered (kind_at t i) ≡ true → Leaved table s t o i next to numbers seen l r seen' l' q after_node → PassedBy table s t o i next to numbers seen l r seen' l' q after_node
  was-number h v = record { number = λ _. v; other = λ e. absurd (false≢true (sym e ∙ h)) }

  pub was-other : numbered (kind_at t i) ≡ false → PassedBy table s t o i next to numbers seen l r seen l r numbers
  was-other h = record { number = λ e. absurd (false≢true (sym h ∙ e)); other = λ _. record { same_seen = refl; same_list = refl; same_record = refl; same_numbers = refl } }
