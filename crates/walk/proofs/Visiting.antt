-- The visit of a marker, call by call.
-- Assumes nothing.
use Prim.Native.Nat.{ℕ, ◌+◌, ◌-◌, ◌*◌, ◌%◌, ◌^◌, ◌<◌, ◌≤◌}
use native.Mathlib.Omega.{arith}
use mathlib.Core.Path.{◌≡◌, refl, sym, ap, ap₂, subst, ◌∙◌}
use mathlib.Core.Bool.{Bool, true, false, not}
use lib.Dec.{eqb}
use borrow.Author.Tests.{ltb-false}
use mathlib.Core.List.{List, [], ◌++◌}
use Rattle.std.specs.Prelude.{None}
use lib.ListN.{length}
use Rattle.text.specs.Pick.{cut}
use Rattle.tape.specs.Nodes.{Node, count, node_at, link_at}
use Rattle.tape.specs.Forest.{Forest, forest, Accepted}
use Rattle.tape.proofs.Nest.{nested-open}
use Rattle.table.specs.Entries.{Entry, milestone_category}
use Rattle.cursor.specs.Inner.{Run, Spanned}
use Rattle.cursor.proofs.Around.{spanned}
use Rattle.cursor.proofs.Runs.{past_open, open-later, run-children}
use Rattle.findings.specs.Finding.{Finding}
use Rattle.findings.proofs.Overlay.{Left, left-start, left-wrote, left-room, room-first, wrote-append}
use Rattle.attachment.specs.declared.Attached.{Attached}
use Rattle.definition.specs.State.{WalkState, Anchor, NodeChecked}
use Rattle.definition.specs.State as state
use Rattle.definition.specs.Checks.{given, after_id}
use Rattle.definition.specs.Milestones.{milestone_checks, after_milestone}
use Rattle.definition.specs.Walk.{walk, open_checked_by, inside}
use Rattle.definition.specs.Walk as def
use Rattle.definition.specs.declared.OpenStart.{OpenStart}
use Rattle.state.specs.Inner.{state_of, counts_of, anchor_of, with_counts, with_anchor, Opens}
use Rattle.state.specs.declared.State.{State}
use Rattle.marker_checks.specs.InnerVisit.{is_id, children_at, own_at, MarkerVisited}
use Rattle.milestones.specs.InnerStep.{MilestoneStep, Milestoned, Steppable}
use Rattle.walk.specs.Inner.{nowhere, walk_at, Ready, RunWalked, open_checked_at, below, visit_findings, Visited, Visitable, can_skip_children}
use Rattle.marker_checks.specs.InnerSkip.{can_skip_marker_at}
use Rattle.marker_checks.proofs.Skip.{skipped-texts, skipped-category, skipped-marked}
use Rattle.milestones.proofs.Whole.{other as no-milestone}
use Rattle.walk.proofs.Skipped.{texts-skipped, skipped-walked}
use Rattle.text.proofs.Bool.{or_parts}
use Rattle.findings.specs.Inner.{Wrote, Room}

-- an accepted tape has at most 65,535 nodes
pub count_low : (s t : List ℕ) → Accepted s t → count t ≤ 65535
count_low s t ok =
    let a = or_parts (eqb (length t) 0) _ ok.sized in
    ltb-false 65535 (count t) (or_parts (not (eqb (length t % 16) 0)) _ a.1).1

-- what a visit begins with
pub record Visit (table index : List ℕ) (entries : ℕ) (s t : List ℕ) (depth : ℕ) (o : state.WalkContext) (i to : ℕ) (e : Entry) (numbers : Attached) (seen : List ℕ) (opens : List OpenStart) (l : List ℕ) (r : State) : Type 0 where
  pub ready : Ready table index entries s t depth i to seen opens r
  pub able : Visitable s t i to numbers r
  pub room : Room (counts_of r) (visit_findings table s t o e i to seen opens r)

module _ {table index : List ℕ} {entries : ℕ} {s t : List ℕ} {depth : ℕ} {o : state.WalkContext} {i to : ℕ} {e : Entry} {numbers : Attached} {seen : List ℕ} {opens : List OpenStart} {l : List ℕ} {r : State} (v : Visit table index entries s t depth o i to e numbers seen opens l r) where
  abbrev x : Node
  x = node_at s t i

  abbrev c : Forest
  c = children_at s t i

  -- the record after `id`
  abbrev st₁ : WalkState
  st₁ = after_id (is_id table e) (state_of s t seen opens r) c

  abbrev own : List Finding
  own = own_at table s t o (anchor_of s t r.anchor i) e i to r

  abbrev milestone : List Finding
  milestone = given (milestone_checks e st₁ x)

  abbrev children : List Finding
  children = (below table s t o e i (open_checked_at table s t o e i to seen opens r)).findings

  -- the parts of what is said
  open-findings : (open_checked_at table s t o e i to seen opens r).findings ≡ own ++ milestone
  unfolding open_checked_by after_id
  open-findings = refl

  open-state : (open_checked_at table s t o e i to seen opens r).state ≡ after_milestone e st₁ x
  unfolding open_checked_by
  open-state = refl

  parts : visit_findings table s t o e i to seen opens r ≡ (own ++ milestone) ++ children
  parts = ap (◌++ children) open-findings

  pub visit-run : Run s t i to
  visit-run = record { accepted = v.ready.accepted; depth = depth; nested = v.ready.nested; from = v.ready.start; inside = v.ready.within }

  pub visit-children : Run s t (i + 1) (link_at t i)
  visit-children = run-children s t i to visit-run v.able.more v.able.opened

  pub visit-below : i < count t
  visit-below = let m = v.able.more in let w = v.ready.within in omega arith

  pub visit-low : i < 65535
  visit-low = let b = visit-below in let k = count_low s t v.ready.accepted in omega arith

  pub visit-spanned : Spanned s t i
  visit-spanned = spanned s t i v.ready.accepted v.ready.start visit-below

  whole : Left ((own ++ milestone) ++ children) l (counts_of r) ((own ++ milestone) ++ children) l (counts_of r)
  whole = left-start _ l (counts_of r)

  roomy : Room (counts_of r) ((own ++ milestone) ++ children)
  roomy = rw parts at v.room

  pub own_room : Room (counts_of r) own
  own_room = room-first (counts_of r) own milestone (room-first (counts_of r) (own ++ milestone) children roomy)

  pub visit-deep : 1 ≤ depth
  visit-deep = (nested-open v.ready.nested v.able.more v.able.opened).deeper

  link-later : (i < link_at t i) × (link_at t i < to)
  link-later = open-later s t i to visit-run v.able.more v.able.opened

  -- after the checks of the marker
  module _ (l₁ : List ℕ) (r₁ : State) (marked : MarkerVisited table s t o (anchor_of s t r.anchor i) e i to l r l₁ r₁) where
    same-open : r₁.open_len ≡ r.open_len
    same-open = marked.same.opens

    milestone-same : given (milestone_checks e (state_of s t [] opens r₁) x) ≡ milestone
    unfolding after_id
    milestone-same = rw same-open

    pub milestone-opens : Opens s t opens r₁.open_len
    milestone-opens = rw same-open v.ready.starts

    after-own : Left (own ++ milestone) l (counts_of r) milestone l₁ (counts_of r₁)
    after-own = left-wrote {gs = own} (left-start (own ++ milestone) l (counts_of r)) marked.wrote

    pub milestone-room : Room (counts_of r₁) (given (milestone_checks e (state_of s t [] opens r₁) x))
    milestone-room = rw milestone-same (left-room after-own (room-first (counts_of r) (own ++ milestone) children roomy))

    pub milestone-more : r₁.open_len < length opens
    milestone-more =
        let a = v.ready.open_room in
        let b = v.able.more in
        rw same-open (omega arith)

    -- after the milestone
    module _ (l₂ : List ℕ) (opens₂ : List OpenStart) (r₂ : State) (lo : length opens₂ ≡ length opens) (done : Milestoned e s t i opens l₁ r₁ opens₂ l₂ r₂) where
      stepped : MilestoneStep e s t i opens (with_counts r₁ (counts_of r₂)) opens₂ r₂
      stepped = done.step

      both-wrote : Wrote (own ++ milestone) l (counts_of r) l₂ (counts_of r₂)
      both-wrote = wrote-append marked.wrote (rw milestone-same at done.wrote)

      state-now : state_of s t seen opens₂ (with_anchor r₂ 0) ≡ (open_checked_at table s t o e i to seen opens r).state
      state-now = stepped.state seen ∙ ap (λ (z : WalkState). after_milestone e z x) (marked.state seen opens) ∙ sym open-state

      seen-now : r₂.seen_len ≡ r.seen_len
      seen-now = stepped.seen ∙ marked.same.seen

      verses-now : r₂.verses ≡ r.verses
      verses-now = stepped.verses ∙ marked.same.verses

      pub children-ready : Ready table index entries s t (depth - 1) (i + 1) (link_at t i) seen opens₂ (with_anchor r₂ 0)
      children-ready =
          let inner = nested-open v.ready.nested v.able.more v.able.opened in
          let ll = link-later in
          let a = v.ready.seen_room in
          let b = v.ready.open_room in
          let d = v.ready.verses_room in
          let f = stepped.few in
          let w = v.ready.within in
          let g = v.ready.start in
          let so = same-open in
          record {
            indexed = v.ready.indexed;
            accepted = v.ready.accepted;
            nested = inner.children;
            start = omega arith;
            within = omega (arith, ll.1);
            starts = stepped.stays;
            bounded = rw (stepped.verse, marked.verse) v.ready.bounded;
            seen_room = rw seen-now (omega (arith, ll.0, ll.1));
            open_room = rw lo (omega (arith, ll.0, ll.1));
            verses_room = rw verses-now (omega (arith, ll.0, ll.1));
            anchored = nowhere;
          }

      walk_same : (o' : state.WalkContext) → o' ≡ inside o e → walk_at table s t o' (i + 1) (link_at t i) seen opens₂ (with_anchor r₂ 0) ≡ below table s t o e i (open_checked_at table s t o e i to seen opens r)
      walk_same o' h = ap₂ (λ (z : state.WalkContext) (y : WalkState). walk table z None (forest s t (i + 1) (link_at t i)) y) h state-now

      pub children-room : (o' : state.WalkContext) → o' ≡ inside o e → Room (counts_of (with_anchor r₂ 0)) (walk_at table s t o' (i + 1) (link_at t i) seen opens₂ (with_anchor r₂ 0)).findings
      children-room o' h =
          subst (λ (w : def.Walked). Room (counts_of r₂) w.findings) (sym (walk_same o' h)) (left-room (left-wrote {gs = own ++ milestone} {fs = children} whole both-wrote) roomy)

      pub visited : (o' : state.WalkContext) (seen' : List ℕ) (opens' : List OpenStart) (l' : List ℕ) (r₃ : State) → o' ≡ inside o e → RunWalked s t (walk_at table s t o' (i + 1) (link_at t i) seen opens₂ (with_anchor r₂ 0)) (depth - 1) (i + 1) (link_at t i) l₂ (with_anchor r₂ 0) seen' opens' l' r₃ → Visited table s t o e i to seen opens l r seen' opens' l' (with_anchor r₃ r.anchor)
      visited o' seen' opens' l' r₃ h walked =
          let w = walked.went in
          let same = walk_same o' h in
          let ll = link-later in
          let p = past_open s t i to visit-run v.able.more v.able.opened in
          let sn = seen-now in
          let vn = verses-now in
          let f = stepped.few in
          let so = same-open in
          let sf = w.seen_few in
          let of = w.open_few in
          let vf = w.verses_few in
          let wrote : Wrote children l₂ (counts_of r₂) l' (counts_of r₃) = subst (λ (y : def.Walked). Wrote y.findings l₂ (counts_of r₂) l' (counts_of r₃)) same w.wrote in
          record {
            went =
                record {
                  wrote = rw parts (wrote-append both-wrote wrote);
                  state = rw same at w.state;
                  starts = w.starts;
                  bounded = w.bounded;
                  seen_few = omega (arith, ll.0);
                  open_few = omega (arith, ll.0);
                  verses_few = omega (arith, ll.0);
                };
            anchor = refl;
          }

      -- where the children are can_skip_children there is nothing to walk
      pub visited-without-children : can_skip_children c ≡ true → Visited table s t o e i to seen opens l r seen opens₂ l₂ (with_anchor r₂ r.anchor)
      visited-without-children h = visited (inside o e) seen opens₂ l₂ (with_anchor r₂ 0) refl (skipped-walked (inside o e) l₂ children-ready refl h)

pub visit-with : {table index : List ℕ} {entries : ℕ} {s t : List ℕ} {depth i to : ℕ} {numbers : Attached} {seen : List ℕ} {opens : List OpenStart} {r : State} (o : state.WalkContext) (e : Entry) (l : List ℕ) → Ready table index entries s t depth i to seen opens r → Visitable s t i to numbers r → Room (counts_of r) (visit_findings table s t o e i to seen opens r) → Visit table index entries s t depth o i to e numbers seen opens l r
visit-with o e l ready able room = record { ready = ready; able = able; room = room }

-- the marker checked and its milestone paired: the list, the open starts and the record before its children
pub record Entered (table index : List ℕ) (entries : ℕ) (s t : List ℕ) (depth : ℕ) (o : state.WalkContext) (i to : ℕ) (e : Entry) (numbers : Attached) (seen : List ℕ) (opens : List OpenStart) (l : List ℕ) (r : State) (l₂ : List ℕ) (opens₂ : List OpenStart) (r₂ : State) : Type 0 where
  pub visit : Visit table index entries s t depth o i to e numbers seen opens l r
  pub l₁ : List ℕ
  pub r₁ : State
  pub marked : MarkerVisited table s t o (anchor_of s t r.anchor i) e i to l r l₁ r₁
  pub long : length opens₂ ≡ length opens
  pub done : Milestoned e s t i opens l₁ r₁ opens₂ l₂ r₂

-- the walk of the children
pub record Inner (table index : List ℕ) (entries : ℕ) (s t : List ℕ) (depth : ℕ) (o : state.WalkContext) (i to : ℕ) (e : Entry) (numbers : Attached) (seen : List ℕ) (opens : List OpenStart) (l : List ℕ) (r : State) (l₂ : List ℕ) (opens₂ : List OpenStart) (r₂ b q : State) (from link d : ℕ) (o' : state.WalkContext) : Type 0 where
  pub whole : Entered table index entries s t depth o i to e numbers seen opens l r l₂ opens₂ r₂
  pub before : b ≡ r
  pub now-is : q ≡ with_anchor r₂ 0
  pub from_is : from ≡ i + 1
  pub link-is : link ≡ link_at t i
  pub deeper : d ≡ depth - 1
  pub context : o' ≡ inside o e

module _ {table index : List ℕ} {entries : ℕ} {s t : List ℕ} {depth : ℕ} {o : state.WalkContext} {i to : ℕ} {e : Entry} {numbers : Attached} {seen : List ℕ} {opens : List OpenStart} {l : List ℕ} {r : State} where
  pub steppable : (v : Visit table index entries s t depth o i to e numbers seen opens l r) (l₁ : List ℕ) (r₁ : State) → MarkerVisited table s t o (anchor_of s t r.anchor i) e i to l r l₁ r₁ → Steppable e s t i opens r₁
  steppable v l₁ r₁ marked =
      let low = visit-low v in
      record {
        spanned = visit-spanned v;
        low = omega arith;
        known = milestone-opens v l₁ r₁ marked;
        more = milestone-more v l₁ r₁ marked;
        room = milestone-room v l₁ r₁ marked;
      }

  -- of a can_skip_marker marker nothing is said, and nothing changes
  pub visited-skipped : (v : Visit table index entries s t depth o i to e numbers seen opens l r) (b : Bool) → b ≡ can_skip_marker_at table s t o e i r.has_chapter → b ≡ true → Visited table s t o e i to seen opens l r seen opens l r
  visited-skipped v b b-is h =
      let k : can_skip_marker_at table s t o e i r.has_chapter ≡ true = sym b-is ∙ h in
      let q : eqb e.category milestone_category ≡ false = skipped-category (cut e.name table) e o r.has_chapter (children_at s t i) k in
      let m = skipped-marked table s t o (anchor_of s t r.anchor i) e i to r k l in
      visited-without-children v l r m l opens r refl (no-milestone e s t i opens l r v.ready.starts (rw q)) (texts-skipped (children_at s t i) (skipped-texts (cut e.name table) e o r.has_chapter (children_at s t i) k))

  pub enters : (v : Visit table index entries s t depth o i to e numbers seen opens l r) (l₁ : List ℕ) (r₁ : State) → MarkerVisited table s t o (anchor_of s t r.anchor i) e i to l r l₁ r₁ → (l₂ : List ℕ) (opens₂ : List OpenStart) (r₂ : State) → length opens₂ ≡ length opens → Milestoned e s t i opens l₁ r₁ opens₂ l₂ r₂ → Entered table index entries s t depth o i to e numbers seen opens l r l₂ opens₂ r₂
  enters v l₁ r₁ marked l₂ opens₂ r₂ long done = record { visit = v; l₁ = l₁; r₁ = r₁; marked = marked; long = long; done = done }

  module _ {l₂ : List ℕ} {opens₂ : List OpenStart} {r₂ : State} (x : Entered table index entries s t depth o i to e numbers seen opens l r l₂ opens₂ r₂) (link : ℕ) (link-is : link ≡ link_at t i) where
    pub inner-run : Run s t (i + 1) link
    inner-run = rw link-is (visit-children x.visit)

    pub visited-still : (q : Bool) → q ≡ can_skip_children (forest s t (i + 1) link) → q ≡ true → (b p : State) → b ≡ r → p ≡ with_anchor r₂ b.anchor → Visited table s t o e i to seen opens l r seen opens₂ l₂ p
    visited-still q q-is h b p b-is p-is = rw (p-is, b-is) (visited-without-children x.visit x.l₁ x.r₁ x.marked l₂ opens₂ r₂ x.long x.done (rw link-is at (sym q-is ∙ h)))

  module _ {l₂ : List ℕ} {opens₂ : List OpenStart} {r₂ b q : State} {from link d : ℕ} {o' : state.WalkContext} (y : Inner table index entries s t depth o i to e numbers seen opens l r l₂ opens₂ r₂ b q from link d o') where
    pub inner-asks : Ready table index entries s t d from link seen opens₂ q × Room (counts_of q) (walk_at table s t o' from link seen opens₂ q).findings
    inner-asks =
        let x = y.whole in
        rw (y.from_is, y.link-is, y.now-is, y.deeper)
        (children-ready x.visit x.l₁ x.r₁ x.marked l₂ opens₂ r₂ x.long x.done, children-room x.visit x.l₁ x.r₁ x.marked l₂ opens₂ r₂ x.long x.done o' y.context)

    pub inner-less : 2 * d + 1 < 2 * depth
    inner-less = let e = y.deeper in let h = visit-deep y.whole.visit in omega arith

    pub visited-whole : (seen' : List ℕ) (opens' : List OpenStart) (l' : List ℕ) (r₃ : State) → RunWalked s t (walk_at table s t o' from link seen opens₂ q) d from link l₂ q seen' opens' l' r₃ → (p : State) → p ≡ with_anchor r₃ b.anchor → Visited table s t o e i to seen opens l r seen' opens' l' p
    visited-whole seen' opens' l' r₃ w p p-is =
        let x = y.whole in
        rw (p-is, y.before) (visited x.visit x.l₁ x.r₁ x.marked l₂ opens₂ r₂ x.long x.done o' seen' opens' l' r₃ y.context (rw (y.from_is, y.link-is, y.now-is, y.deeper) at w))

-- numbers of a visit
-- what is known at the walk of the children, from what was read there
pub entered : {table index : List ℕ} {entries : ℕ} {s t : List ℕ} {depth : ℕ} {o : state.WalkContext} {i to : ℕ} {e : Entry} {numbers : Attached} {seen : List ℕ} {opens : List OpenStart} {l : List ℕ} {r : State} {l₂ : List ℕ} {opens₂ : List OpenStart} {r₂ : State} → Entered table index entries s t depth o i to e numbers seen opens l r l₂ opens₂ r₂ → (b q : State) (from link d : ℕ) (o' : state.WalkContext) → b ≡ r → q ≡ with_anchor r₂ 0 → from ≡ i + 1 → link ≡ link_at t i → d ≡ depth - 1 → o' ≡ inside o e → Inner table index entries s t depth o i to e numbers seen opens l r l₂ opens₂ r₂ b q from link d o'
entered x b q from link d o' b-is q-is from-is link-is d-is o-is =
    record { whole = x; before = b-is; now-is = q-is; from_is = from-is; link-is = link-is; deeper = d-is; context = o-is }

pub next_fits : {table index : List ℕ} {entries : ℕ} {s t : List ℕ} {depth : ℕ} {o : state.WalkContext} {i to : ℕ} {e : Entry} {numbers : Attached} {seen : List ℕ} {opens : List OpenStart} {l : List ℕ} {r : State} → Visit table index entries s t depth o i to e numbers seen opens l r → i + 1 < 2 ^ 64
next_fits v = let low = visit-low v in omega arith

pub same-depth : (d : ℕ) → 2 * d < 2 * d + 1
same-depth d = omega arith
