-- A run without a marker, a Chapter or a Verse: the walk over it says nothing and changes nothing.
-- Assumes nothing.
use Prim.Native.Nat.{ℕ}
use native.Mathlib.Omega.{arith}
use mathlib.Core.Path.{◌≡◌, refl}
use mathlib.Core.Bool.{Bool, true, false, not, false≢true, ◌&&◌}
use mathlib.Core.List.{List, []}
use Rattle.std.specs.Prelude.{None}
use lib.Dec.{eqb}
use borrow.Author.Tests.{ne_eqb, eqb-true}
use Rattle.tape.specs.Nodes.{kind_at, is_open, chapter_kind, verse_kind, text_kind}
use Rattle.tape.specs.Forest.{Forest, end, leaf, node, forest}
use Rattle.cursor.specs.Inner.{Run}
use Rattle.cursor.proofs.InTurn.{reads-list}
use Rattle.cursor.specs.InnerTurn.{siblings}
use Rattle.std.specs.List.{list_all}
use Rattle.findings.proofs.Overlay.{wrote_none}
use Rattle.numbers.specs.Label.{numbered}
use Rattle.definition.specs.State.{WalkState}
use Rattle.definition.specs.State as state
use Rattle.definition.specs.Checks.{given, leaf_checked}
use Rattle.definition.specs.Walk.{walk_by, walk}
use Rattle.definition.specs.Walk as Walk
use Rattle.definition.specs.declared.OpenStart.{OpenStart}
use Rattle.state.specs.Inner.{state_of, counts_of}
use Rattle.state.specs.declared.State.{State}
use Rattle.marker_checks.specs.InnerSkip.{only_texts}
use Rattle.walk.specs.Inner.{nowhere, walk_at, Ready, RunWalked, can_skip_children}
use Rattle.text.specs.Pick.{pick}
use Rattle.text.proofs.Bool.{and_left, and_right, or_parts}

-- the test of each node
abbrev pub passable : List ℕ → ℕ → Bool
passable t i = not (is_open (kind_at t i)) && not (numbered (kind_at t i))

pub skipped-all : (s t : List ℕ) (a b : ℕ) → Run s t a b → can_skip_children (forest s t a b) ≡ list_all (passable t) (siblings t a b)
unfolding can_skip_children
skipped-all s t a b run =
    reads-list can_skip_children (list_all (passable t)) s t refl (λ i f is o e. rw (o, e) (go (numbered (kind_at t i)) _)) (λ i c f is o e. rw o) a b run
  where
    go : (v w : Bool) → pick v false w ≡ (not v && w)
    go true w = refl
    go false w = refl

-- Texts are none of these
pub texts-skipped : (f : Forest) → only_texts f ≡ true → can_skip_children f ≡ true
unfolding only_texts can_skip_children
texts-skipped end h = refl
texts-skipped (leaf x r) h =
    let k = eqb-true x.kind text_kind (and_left (eqb x.kind text_kind) (only_texts r) h) in
    rw (ne_eqb x.kind chapter_kind (λ z. omega arith), ne_eqb x.kind verse_kind (λ z. omega arith)) (texts-skipped r (and_right (eqb x.kind text_kind) (only_texts r) h))
texts-skipped (node x c r) h = absurd (false≢true h)

-- without an anchor the walk of such a run leaves the record as it is
abbrev still : WalkState → Walk.Walked
still st = record { findings = []; anchor = None; state = st }

pub skipped-walk : (table : List ℕ) (o : state.WalkContext) (f : Forest) (st : WalkState) → can_skip_children f ≡ true → walk table o None f st ≡ still st
unfolding can_skip_children walk_by leaf_checked given
skipped-walk table o end st h = refl
skipped-walk table o (leaf x r) st h = go (numbered x.kind) refl h (λ q. skipped-walk table o r st q)
  where
    go : (v : Bool) → numbered x.kind ≡ v → pick v false (can_skip_children r) ≡ true → (can_skip_children r ≡ true → walk table o None r st ≡ still st) → walk table o None (leaf x r) st ≡ still st
    go true e h rest = absurd (false≢true h)
    go false e h rest = let k = or_parts (eqb x.kind chapter_kind) (eqb x.kind verse_kind) e in rw (k.0, k.1) (rest h)
skipped-walk table o (node x c r) st h = absurd (false≢true h)

pub skipped-walked : {table index : List ℕ} {entries : ℕ} {s t : List ℕ} {depth from to : ℕ} {seen : List ℕ} {opens : List OpenStart} {r : State} (o : state.WalkContext) (l : List ℕ) → Ready table index entries s t depth from to seen opens r → r.anchor ≡ 0 → can_skip_children (forest s t from to) ≡ true → RunWalked s t (walk_at table s t o from to seen opens r) depth from to l r seen opens l r
skipped-walked {table} {index} {entries} {s} {t} {depth} {from} {to} {seen} {opens} {r} o l ready a h =
    let same : walk_at table s t o from to seen opens r ≡ still (state_of s t seen opens r) = rw a (skipped-walk table o (forest s t from to) (state_of s t seen opens r) h) in
    rw same
    (record {
      went =
          record {
            wrote = wrote_none l (counts_of r);
            state = refl;
            starts = ready.starts;
            bounded = ready.bounded;
            seen_few = omega arith;
            open_few = omega arith;
            verses_few = omega arith;
          };
      anchor = rw a;
      anchored = rw a nowhere;
    })
