-- The walk along a run of siblings: what is left gives what the whole gives.
-- Assumes nothing.
use Rattle.std.specs.Prelude.{Option, Some, None}
use Prim.Native.Nat.{ℕ, ◌+◌, ◌-◌, ◌<◌, ◌≤◌}
use native.Mathlib.Omega.{arith}
use mathlib.Core.Path.{◌≡◌, refl, sym, ap, subst, ◌∙◌}
use mathlib.Core.Bool.{Bool, true, false, false≢true}
use mathlib.Core.List.{List, []}
use Rattle.std.specs.Prelude.{Some, None}
use lib.Dec.{eqb}
use lib.ListN.{length}
use borrow.Author.Tests.{ne_eqb}
use Rattle.tape.specs.Nodes.{count, node_at, kind_at, is_open, marker_open_kind, chapter_kind, verse_kind}
use Rattle.tape.specs.Forest.{end, forest}
use Rattle.tape.proofs.Nest.{nested-le, forest-done}
use Rattle.table.specs.Entries.{Entry, info_of, entry_of_info}
use Rattle.table.specs.declared.MarkerInfo.{MarkerInfo}
use Rattle.cursor.specs.Inner.{Run, Spanned}
use Rattle.cursor.specs.Info.{info_at}
use Rattle.cursor.specs.Steps.{past_node}
use Rattle.cursor.proofs.Around.{spanned}
use Rattle.cursor.proofs.Runs.{rest-nested}
use Rattle.findings.specs.Finding.{Finding}
use Rattle.findings.proofs.Overlay.{wrote_none, Left, left-start, left-wrote, left_end, left-room, room-first}
use Rattle.attachment.specs.Attached.{starts_of}
use Rattle.attachment.specs.declared.Attached.{Attached}
use Rattle.definition.specs.State.{WalkState, Anchor}
use Rattle.definition.specs.State as state
use Rattle.numbers.specs.Label.{numbered}
use Rattle.definition.specs.Checks.{entry_of, leaf_checked, given}
use Rattle.definition.specs.Walk.{walk_by, walk, with_findings}
use Rattle.definition.specs.Walk as def
use Rattle.definition.specs.declared.OpenStart.{OpenStart}
use Rattle.state.specs.Inner.{state_of, counts_of, anchor_of, starts_for, VerseBounded, Opens}
use Rattle.state.specs.declared.State.{State}
use Rattle.walk.specs.Inner.{Passable, PassedBy, Anchored, walk_at, Ready, RunWalked, visit_findings, visit_state, Visited, Visitable, anchor_after, LeafPassed, numbers_after}
use Rattle.walk.proofs.Entries.{entry_read, entry-inside}
use Rattle.walk.proofs.Steps.{next-later, anchored-past, starts-past, leaf-anchored, leaf-starts, walk-leaf, walk-skip, walk-open}
use Rattle.text.proofs.Bool.{or_parts}
use Rattle.findings.specs.Inner.{Wrote, Room}

-- the run from i on, of the run that began at `from` with the definition's walk w₀, the list l₀ and the record r₀
pub record Going (table index : List ℕ) (entries : ℕ) (s t : List ℕ) (depth : ℕ) (o : state.WalkContext) (from to : ℕ) (w₀ : def.Walked) (l₀ : List ℕ) (r₀ : State) (seen : List ℕ) (opens : List OpenStart) (l : List ℕ) (r : State) (numbers : Attached) (i : ℕ) : Type 0 where
  pub ready : Ready table index entries s t depth i to seen opens r
  pub left : Left w₀.findings l₀ (counts_of r₀) (walk_at table s t o i to seen opens r).findings l (counts_of r)
  pub state : (walk_at table s t o i to seen opens r).state ≡ w₀.state
  pub anchor : (walk_at table s t o i to seen opens r).anchor ≡ w₀.anchor
  pub attached : starts_of numbers ≡ starts_for (anchor_of s t r.anchor i) (forest s t i to)
  pub room : Room (counts_of r₀) w₀.findings
  pub begun : from ≤ i
  pub within : i ≤ to
  pub seen_few : r.seen_len + (to - i) ≤ r₀.seen_len + (to - from)
  pub open_few : r.open_len + (to - i) ≤ r₀.open_len + (to - from)
  pub verses_few : r.verses + (to - i) ≤ r₀.verses + (to - from)

pub going_start : (table index : List ℕ) (entries : ℕ) (s t : List ℕ) (depth : ℕ) (o : state.WalkContext) (from to : ℕ) (seen : List ℕ) (opens : List OpenStart) (l : List ℕ) (r : State) (numbers : Attached) → Ready table index entries s t depth from to seen opens r → Room (counts_of r) (walk_at table s t o from to seen opens r).findings → starts_of numbers ≡ starts_for (anchor_of s t r.anchor from) (forest s t from to) → Going table index entries s t depth o from to (walk_at table s t o from to seen opens r) l r seen opens l r numbers from
going_start table index entries s t depth o from to seen opens l r numbers ready room h =
    let k = nested-le ready.nested in
    record {
      ready = ready;
      left = left-start _ _ _;
      state = refl;
      anchor = refl;
      attached = h;
      room = room;
      begun = omega arith;
      within = k;
      seen_few = omega arith;
      open_few = omega arith;
      verses_few = omega arith;
    }

module _ {table index : List ℕ} {entries : ℕ} {s t : List ℕ} {depth : ℕ} {o : state.WalkContext} {from to : ℕ} {w₀ : def.Walked} {l₀ : List ℕ} {r₀ : State} {seen : List ℕ} {opens : List OpenStart} {l : List ℕ} {r : State} {numbers : Attached} {i : ℕ} (g : Going table index entries s t depth o from to w₀ l₀ r₀ seen opens l r numbers i) where
  -- at the end of the run
  pub going_end : to ≤ i → RunWalked s t w₀ depth from to l₀ r₀ seen opens l r
  unfolding walk_by
  going_end h =
      let k = g.within in
      let z : i ≡ to = omega arith in
      let sf = g.seen_few in
      let of = g.open_few in
      let vf = g.verses_few in
      let done : forest s t i to ≡ end = forest-done s t i to h in
      record {
        went =
            record {
              wrote = left_end (rw done at g.left);
              state = rw done at g.state;
              starts = g.ready.starts;
              bounded = g.ready.bounded;
              seen_few = omega arith;
              open_few = omega arith;
              verses_few = omega arith;
            };
        anchor = ap (anchor_of s t r.anchor) (sym z) ∙ (rw done at g.anchor);
        anchored = subst (Anchored t depth r.anchor) z g.ready.anchored;
      }

  module _ (more : i < to) where
    abbrev next : ℕ
    next = past_node t i

    pub going-below : i < count t
    going-below = let w = g.ready.within in omega arith

    pub going-spanned : Spanned s t i
    going-spanned = spanned s t i g.ready.accepted g.ready.start going-below

    pub going-later : (i < next) × (next ≤ to)
    going-later = next-later s t depth i to g.ready.accepted g.ready.nested g.ready.start g.ready.within more

    pub going-run : Run s t next to
    going-run =
        let l = going-later in
        let f = g.ready.start in
        record {
          accepted = g.ready.accepted;
          depth = depth;
          nested = rest-nested s t depth i to g.ready.accepted g.ready.nested g.ready.start g.ready.within more;
          from = omega (arith, l.0);
          inside = g.ready.within;
        }

    -- the step to the next node, from what the step gives
    stepped : (seen' : List ℕ) (opens' : List OpenStart) (l' : List ℕ) (q : State) (numbers' : Attached) (fs : List Finding) (st : WalkState) → length seen' ≡ length seen → length opens' ≡ length opens
        → walk_at table s t o i to seen opens r ≡ with_findings fs (walk table o (anchor_of s t q.anchor next) (forest s t next to) st)
        → state_of s t seen' opens' q ≡ st
        → Wrote fs l (counts_of r) l' (counts_of q)
        → Opens s t opens' q.open_len
        → VerseBounded q
        → q.seen_len ≤ r.seen_len + (next - i)
        → q.open_len ≤ r.open_len + (next - i)
        → q.verses ≤ r.verses + (next - i)
        → Anchored t depth q.anchor next
        → starts_of numbers' ≡ starts_for (anchor_of s t q.anchor next) (forest s t next to)
        → Going table index entries s t depth o from to w₀ l₀ r₀ seen' opens' l' q numbers' next
    stepped seen' opens' l' q numbers' fs st ls lo is state wrote starts bounded sf of vf anchored attached =
        let lt = going-later in
        let a = g.seen_few in
        let b = g.open_few in
        let c = g.verses_few in
        let sr = g.ready.seen_room in
        let or = g.ready.open_room in
        let vr = g.ready.verses_room in
        let bg = g.begun in
        let run = going-run in
        record {
          ready =
              record {
                indexed = g.ready.indexed;
                accepted = g.ready.accepted;
                nested = rest-nested s t depth i to g.ready.accepted g.ready.nested g.ready.start g.ready.within more;
                start = run.from;
                within = run.inside;
                starts = starts;
                bounded = bounded;
                seen_room = omega (arith, lt.0, lt.1);
                open_room = omega (arith, lt.0, lt.1);
                verses_room = omega (arith, lt.0, lt.1);
                anchored = anchored;
              };
          left = rw state (left-wrote {gs = fs} (rw is at g.left) wrote);
          state = rw state (rw is at g.state);
          anchor = rw state (rw is at g.anchor);
          attached = attached;
          room = g.room;
          begun = omega (arith, lt.0);
          within = lt.1;
          seen_few = omega (arith, lt.0, lt.1);
          open_few = omega (arith, lt.0, lt.1);
          verses_few = omega (arith, lt.0, lt.1);
        }

    -- a leaf
    module _ (leafy : is_open (kind_at t i) ≡ false) where
      leaf-is : walk_at table s t o i to seen opens r ≡ with_findings (leaf_checked table o (state_of s t seen opens r) (node_at s t i)).findings (walk table o (anchor_of s t (anchor_after t i r.anchor) next) (forest s t next to) (leaf_checked table o (state_of s t seen opens r) (node_at s t i)).state)
      leaf-is = walk-leaf s t depth i to g.ready.accepted g.ready.nested g.ready.start g.ready.within more leafy table o r.anchor (state_of s t seen opens r) g.ready.anchored

      pub leaf_room : Room (counts_of r) (leaf_checked table o (state_of s t seen [] r) (node_at s t i)).findings
      unfolding leaf_checked
      leaf_room = room-first (counts_of r) (leaf_checked table o (state_of s t seen opens r) (node_at s t i)).findings _ (left-room (rw leaf-is at g.left) g.room)

      pub leaf-seen : r.seen_len < length seen
      leaf-seen = let k = g.ready.seen_room in omega arith

      pub leaf-verses : r.verses < 4611686018427387904
      leaf-verses = let k = g.ready.verses_room in omega arith

      leaf-same : (leaf_checked table o (state_of s t seen [] r) (node_at s t i)).findings ≡ (leaf_checked table o (state_of s t seen opens r) (node_at s t i)).findings
      unfolding leaf_checked
      leaf-same = refl

      pub going-leaf : (seen' l' : List ℕ) (q : State) (numbers' : Attached) → length seen' ≡ length seen → LeafPassed table s t o i seen l r seen' l' q → starts_of numbers' ≡ numbers_after s t i next to (starts_of numbers) → Going table index entries s t depth o from to w₀ l₀ r₀ seen' opens l' q numbers' next
      going-leaf seen' l' q numbers' ls p h =
          let lt = going-later in
          let sf = p.seen_few in
          let of = p.opens in
          let vf = p.verses_few in
          let a = p.anchor in
          stepped seen' opens l' q numbers' (leaf_checked table o (state_of s t seen opens r) (node_at s t i)).findings (leaf_checked table o (state_of s t seen opens r) (node_at s t i)).state ls refl (rw a leaf-is) (p.state opens) (rw leaf-same at p.wrote) (rw of g.ready.starts) p.bounded (omega (arith, lt.0)) (omega (arith, lt.0)) (omega (arith, lt.0))
          (rw a (leaf-anchored s t depth i to g.ready.accepted g.ready.nested g.ready.start g.ready.within more leafy r.anchor g.ready.anchored))
          (rw a (h ∙ leaf-starts s t depth i to g.ready.accepted g.ready.nested g.ready.start g.ready.within more leafy r.anchor (starts_of numbers) g.ready.anchored g.attached))

    -- an open node
    module _ (opened : is_open (kind_at t i) ≡ true) where
      open-anchored : Anchored t depth r.anchor next
      open-anchored = anchored-past s t depth i to g.ready.accepted g.ready.nested g.ready.start g.ready.within more r.anchor g.ready.anchored

      open-starts : starts_of numbers ≡ starts_for (anchor_of s t r.anchor next) (forest s t next to)
      open-starts = g.attached ∙ starts-past s t depth i to g.ready.accepted g.ready.nested g.ready.start g.ready.within more r.anchor g.ready.anchored

      pub going-skip : entry_of table (node_at s t i) ≡ None → Going table index entries s t depth o from to w₀ l₀ r₀ seen opens l r numbers next
      going-skip e =
          stepped seen opens l r numbers [] (state_of s t seen opens r) refl refl
          (walk-skip s t depth i to g.ready.accepted g.ready.nested g.ready.start g.ready.within more opened table o r.anchor (state_of s t seen opens r) g.ready.anchored e)
          refl (wrote_none l (counts_of r)) g.ready.starts g.ready.bounded (omega arith) (omega arith) (omega arith) open-anchored open-starts

      module _ (e : Entry) (known : entry_of table (node_at s t i) ≡ Some e) where
        open_is : walk_at table s t o i to seen opens r ≡ with_findings (visit_findings table s t o e i to seen opens r) (walk table o (anchor_of s t r.anchor next) (forest s t next to) (visit_state table s t o e i to seen opens r))
        open_is = walk-open s t depth i to g.ready.accepted g.ready.nested g.ready.start g.ready.within more opened table o r.anchor (state_of s t seen opens r) e g.ready.anchored known

        pub visit-room : Room (counts_of r) (visit_findings table s t o e i to seen opens r)
        visit-room = room-first (counts_of r) (visit_findings table s t o e i to seen opens r) _ (left-room (rw open_is at g.left) g.room)

        pub visit-able : Visitable s t i to numbers r
        visit-able = record { more = more; opened = opened; attached = g.attached }

        pub going-open : (seen' : List ℕ) (opens' : List OpenStart) (l' : List ℕ) (q : State) → length seen' ≡ length seen → length opens' ≡ length opens → Visited table s t o e i to seen opens l r seen' opens' l' q → Going table index entries s t depth o from to w₀ l₀ r₀ seen' opens' l' q numbers next
        going-open seen' opens' l' q ls lo v =
            let w = v.went in
            let a = v.anchor in
            stepped seen' opens' l' q numbers (visit_findings table s t o e i to seen opens r) (visit_state table s t o e i to seen opens r) ls lo (rw a open_is) w.state w.wrote w.starts w.bounded w.seen_few w.open_few w.verses_few (rw a open-anchored) (rw a open-starts)

  -- by what is read of the node
  module _ (more : i < to) (after : ℕ) (past : after ≡ past_node t i) where
    leafy-number : numbered (kind_at t i) ≡ true → is_open (kind_at t i) ≡ false
    leafy-number h = go (kind_at t i) h
      where
        go : (k : ℕ) → numbered k ≡ true → is_open k ≡ false
        go k e = ne_eqb k 1 (λ z. let y : numbered 1 ≡ true = rw z at e in absurd (false≢true y))

    pub passable : Passable table index entries s t o i after to seen r
    passable =
        record {
          inside = going-below more;
          leafy =
              λ h.
              let l = leafy-number h in
              record {
                indexed = g.ready.indexed;
                spanned = going-spanned more;
                bounded = g.ready.bounded;
                seen_room = leaf-seen more l;
                verses_room = leaf-verses more l;
                room = leaf_room more l;
                rest = rw past (going-run more);
              };
        }

    no-findings : numbered (kind_at t i) ≡ false → leaf_checked table o (state_of s t seen opens r) (node_at s t i) ≡ record { findings = []; state = state_of s t seen opens r }
    unfolding leaf_checked given
    no-findings h = let k = or_parts (eqb (kind_at t i) chapter_kind) (eqb (kind_at t i) verse_kind) h in rw (k.0, k.1)

    going-other : numbered (kind_at t i) ≡ false → is_open (kind_at t i) ≡ false → Going table index entries s t depth o from to w₀ l₀ r₀ seen opens l r numbers after
    going-other h e =
        let lt = going-later more in
        let same : anchor_after t i r.anchor ≡ r.anchor = rw h in
        rw past
        (stepped more seen opens l r numbers [] (state_of s t seen opens r) refl refl (rw (no-findings h, same) at (leaf-is more e)) refl (wrote_none l (counts_of r)) g.ready.starts g.ready.bounded (omega (arith, lt.0)) (omega (arith, lt.0)) (omega (arith, lt.0))
        (rw same at (leaf-anchored s t depth i to g.ready.accepted g.ready.nested g.ready.start g.ready.within more e r.anchor g.ready.anchored))
        (rw h at (leaf-starts s t depth i to g.ready.accepted g.ready.nested g.ready.start g.ready.within more e r.anchor (starts_of numbers) g.ready.anchored g.attached)))

    pub going-nearer : to - after < to - i
    going-nearer = let lt = going-later more in rw past (omega (arith, lt.0, lt.1))

    -- a leaf by its kind, after its visit
    pub going-past-leaf : (k : ℕ) → k ≡ kind_at t i → (k ≡ 1 → ⊥) → (seen' l' : List ℕ) (q : State) (numbers' : Attached) → length seen' ≡ length seen → PassedBy table s t o i after to numbers seen l r seen' l' q numbers' → Going table index entries s t depth o from to w₀ l₀ r₀ seen' opens l' q numbers' after
    going-past-leaf k is other seen' l' q numbers' ls by = go (numbered (kind_at t i)) refl
      where
        leafy : is_open (kind_at t i) ≡ false
        leafy = ap is_open (sym is) ∙ ne_eqb k 1 other

        go : (w : Bool) → numbered (kind_at t i) ≡ w → Going table index entries s t depth o from to w₀ l₀ r₀ seen' opens l' q numbers' after
        go true n = rw past (going-leaf more leafy seen' l' q numbers' ls (by.number n).leaf (rw past at (by.number n).attached))
        go false n = let u = by.other n in rw (u.same_seen, u.same_list, u.same_record, u.same_numbers) (going-other n leafy)

    -- a marker by its kind, and by the table's answer
    module _ (k : ℕ) (is : k ≡ kind_at t i) (one : k ≡ 1) (x : Option MarkerInfo) (read : info_of x ≡ info_at table t i) where
      opened-by : is_open (kind_at t i) ≡ true
      opened-by = let z : kind_at t i ≡ marker_open_kind = sym is ∙ one in rw z

      pub going-passed-over : x ≡ None → Going table index entries s t depth o from to w₀ l₀ r₀ seen opens l r numbers after
      going-passed-over e = rw past (going-skip more opened-by (entry_read table s t i ∙ sym read ∙ ap info_of e))

      module _ (m : MarkerInfo) (e : x ≡ Some m) where
        entry-by : entry_of table (node_at s t i) ≡ Some (entry_of_info m)
        entry-by = entry_read table s t i ∙ sym read ∙ ap info_of e

        pub visit-asks : Ready table index entries s t depth i to seen opens r × Visitable s t i to numbers r × (m.name_start + m.name_len ≤ length table) × Room (counts_of r) (visit_findings table s t o (entry_of_info m) i to seen opens r)
        visit-asks =
            (g.ready, visit-able more opened-by (entry_of_info m) entry-by, entry-inside table index entries s t i m g.ready.indexed entry-by, visit-room more opened-by (entry_of_info m) entry-by)

        pub going-visited : (seen' : List ℕ) (opens' : List OpenStart) (l' : List ℕ) (q : State) → length seen' ≡ length seen → length opens' ≡ length opens → Visited table s t o (entry_of_info m) i to seen opens l r seen' opens' l' q → Going table index entries s t depth o from to w₀ l₀ r₀ seen' opens' l' q numbers after
        going-visited seen' opens' l' q ls lo v = rw past (going-open more opened-by (entry_of_info m) entry-by seen' opens' l' q ls lo v)
