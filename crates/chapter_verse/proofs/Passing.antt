-- The record after a Chapter, a Verse or another leaf.
-- Assumes nothing.
use Rattle.std.specs.Prelude.{Option, Some, None}
use Prim.Native.Nat.{ℕ, ◌+◌, ◌<◌, ◌≤◌}
use mathlib.Core.Path.{◌≡◌, refl, sym, ap, ap₂, ◌∙◌}
use mathlib.Core.Bool.{Bool, true, false, not, ◌||◌}
use mathlib.Core.List.{List, [], ◌∷◌}
use Rattle.std.specs.Prelude.{Option}
use native.Mathlib.Omega.{arith}
use lib.Dec.{eqb}
use lib.ListN.{length, set}
use borrow.Author.Tests.{eq-eqb, ne_eqb}
use Rattle.text.specs.Pick.{cut}
use Rattle.tape.specs.Nodes.{node_at, kind_at, link_at, span, chapter_kind, verse_kind}
use Rattle.table.specs.Entries.{Entry}
use Rattle.cursor.specs.Info.{info_at}
use Rattle.findings.specs.declared.Counts.{Counts}
use Rattle.findings.proofs.Overlay.{wrote_none}
use Rattle.numbers.specs.declared.Suffix.TheVariants as suffix
use Rattle.numbers.specs.Label.{label_of, numbered}
use Rattle.numbers.specs.Verse.{Position, position_of, verse_part}
use Rattle.numbers.specs.declared.VersePart.{VersePart}
use Rattle.definition.specs.State.{WalkState, first_verse}
use Rattle.definition.specs.State as state
use Rattle.definition.specs.Checks.{given, chapter_checks, verse_checks, after_chapter, after_verse, expected_after, leaf_checked}
use Rattle.state.specs.Inner.{state_of, counts_of, with_counts, VerseBounded}
use Rattle.state.specs.InnerSetters.{put_has_chapter, put_expected_chapter, put_expected_verse, put_seen_len, put_has_verse, put_verse_outside_warned, put_verses}
use Rattle.definition.specs.Setters.{set_has_chapter, set_expected_chapter, set_expected_verse, set_seen, set_has_verse, set_verse_outside_warned, set_verses}
use Rattle.state.specs.declared.State.{State}
use Rattle.chapter_verse.specs.Inner.{PassedChapter, PassedVerse}
use Rattle.chapter_verse.specs.InnerVisit.{LeafVisited}
use Rattle.chapter_verse.proofs.Seen.{latest-push}
use Rattle.text.proofs.Bool.{or_parts}
use Rattle.findings.specs.Inner.{Wrote, Room}

-- the record as the code makes it of the chapter's number
abbrev pub chapter_record : ℕ → State → State
chapter_record n r = put_has_chapter true (put_expected_chapter (n + 1) (put_expected_verse (record { num = 1; suffix = suffix.None }) (put_seen_len (r.seen_len + 1) r)))

-- the definition's record after a chapter, by its number and the chapters seen
abbrev chapter_state : WalkState → ℕ → List ℕ → WalkState
chapter_state st n seen = set_has_chapter true (set_expected_chapter (n + 1) (set_expected_verse first_verse (set_seen seen st)))

pub chapter-passed : (t seen : List ℕ) (i n : ℕ) (r : State) → n ≡ link_at t i → r.seen_len < length seen → PassedChapter t i seen r (set seen r.seen_len n) (chapter_record n r)
unfolding after_chapter
chapter-passed t seen i n r e h =
    record {
      state =
          λ s opens.
          ap (chapter_state (state_of s t seen opens r) n) (latest-push seen r.seen_len n h)
          ∙ ap (λ (m : ℕ). chapter_state (state_of s t seen opens r) m (m ∷ (state_of s t seen opens r).seen)) e;
      bounded = omega arith;
      one_seen = refl;
      opens = refl;
      anchor = refl;
    }

-- the record as the code makes it of the next position and the flag
abbrev pub verse_record : VersePart → Bool → State → State
verse_record v warned r = put_has_verse true (put_verse_outside_warned warned (put_expected_verse v (put_verses (r.verses + 1) r)))

abbrev verse_state : WalkState → Bool → Position → WalkState
verse_state st warned v = set_has_verse true (set_verse_outside_warned warned (set_expected_verse v (set_verses (st.verses + 1) st)))

module _ (e : Option Entry) (s t : List ℕ) (o : state.WalkContext) (i : ℕ) (r : State) where
  pub verse-passed : (label : List ℕ) (v : VersePart) (warned : Bool) → label ≡ label_of e (cut (span t i) s) → (position_of v ≡ expected_after (verse_part label) label (position_of r.expected_verse)) × (v.num ≤ 4294967296) → warned ≡ (r.verse_outside_warned || not o.in_body_para) → PassedVerse e s t o i r (verse_record v warned r)
  unfolding after_verse
  verse-passed label v warned label_is is-next is-warned =
      record {
        state =
            λ seen opens.
            ap₂ (verse_state (state_of s t seen opens r)) is-warned (is-next.0 ∙ ap (λ (x : List ℕ). expected_after (verse_part x) x (position_of r.expected_verse)) label_is);
        bounded = is-next.1;
        same_seen = refl;
        opens = refl;
        anchor = refl;
      }

-- the kind of the node as the code reads it, and what is left of the definition by it
module _ (table s t : List ℕ) (o : state.WalkContext) (i k : ℕ) (is-kind : k ≡ kind_at t i) where
  module _ (e : Option Entry) (is-entry : e ≡ info_at table t i) where
    module _ (chapter : k ≡ 3) where
      pub checked-chapter : (st : WalkState) → (leaf_checked table o st (node_at s t i)).findings ≡ given (chapter_checks e st (node_at s t i))
      unfolding leaf_checked info_at
      checked-chapter st = rw (eq-eqb (kind_at t i) chapter_kind (sym is-kind ∙ chapter), is-entry) refl

      state-chapter : (st : WalkState) → (leaf_checked table o st (node_at s t i)).state ≡ after_chapter st (node_at s t i)
      unfolding leaf_checked
      state-chapter st = rw (eq-eqb (kind_at t i) chapter_kind (sym is-kind ∙ chapter)) refl

      pub room-chapter : (st : WalkState) (c : Counts) → Room c (leaf_checked table o st (node_at s t i)).findings → Room c (given (chapter_checks e st (node_at s t i)))
      room-chapter st c h = rw (checked-chapter st) at h

      pub visited-chapter : {seen l seen' l' : List ℕ} {r q : State} {c : Counts} → Wrote (given (chapter_checks e (state_of s t seen [] r) (node_at s t i))) l (counts_of r) l' c → PassedChapter t i seen r seen' q → LeafVisited table s t o i seen l r seen' l' (with_counts q c)
      unfolding after_chapter
      visited-chapter {seen} {l} {seen'} {l'} {r} {q} {c} w p =
          let v : q.verses ≡ r.verses = ap (λ (x : WalkState). x.verses) (p.state [] []) in
          record {
            wrote = rw (checked-chapter (state_of s t seen [] r)) w;
            state = λ opens. p.state s opens ∙ sym (state-chapter (state_of s t seen opens r));
            bounded = p.bounded;
            seen_few = omega (arith, p.one_seen);
            verses_few = omega arith;
            opens = p.opens;
            anchor = p.anchor;
          }

    module _ (number : numbered k ≡ true) (no-chapter : k ≡ 3 → ⊥) where
      is-four : eqb (kind_at t i) verse_kind ≡ true
      is-four = rw (← is-kind) (rw (ne_eqb k 3 no-chapter) at number)

      pub checked-verse : (st : WalkState) → (leaf_checked table o st (node_at s t i)).findings ≡ given (verse_checks e o st (node_at s t i))
      unfolding leaf_checked info_at
      checked-verse st = rw (ne_eqb (kind_at t i) chapter_kind (λ z. no-chapter (is-kind ∙ z)), is-four, is-entry) refl

      state-verse : (st : WalkState) → (leaf_checked table o st (node_at s t i)).state ≡ after_verse e o st (node_at s t i)
      unfolding leaf_checked info_at
      state-verse st = rw (ne_eqb (kind_at t i) chapter_kind (λ z. no-chapter (is-kind ∙ z)), is-four, is-entry) refl

      pub room-verse : (st : WalkState) (c : Counts) → Room c (leaf_checked table o st (node_at s t i)).findings → Room c (given (verse_checks e o st (node_at s t i)))
      room-verse st c h = rw (checked-verse st) at h

      pub visited-verse : {seen l l' : List ℕ} {r q : State} {c : Counts} → Wrote (given (verse_checks e o (state_of s t seen [] r) (node_at s t i))) l (counts_of r) l' c → PassedVerse e s t o i r q → LeafVisited table s t o i seen l r seen l' (with_counts q c)
      unfolding after_verse
      visited-verse {seen} {l} {l'} {r} {q} {c} w p =
          let v : q.verses ≡ r.verses + 1 = ap (λ (x : WalkState). x.verses) (p.state [] []) in
          record {
            wrote = rw (checked-verse (state_of s t seen [] r)) w;
            state = λ opens. p.state seen opens ∙ sym (state-verse (state_of s t seen opens r));
            bounded = p.bounded;
            seen_few = omega (arith, p.same_seen);
            verses_few = omega arith;
            opens = p.opens;
            anchor = p.anchor;
          }

  pub visited-other : numbered k ≡ false → (seen l : List ℕ) (r : State) → VerseBounded r → LeafVisited table s t o i seen l r seen l r
  unfolding leaf_checked given
  visited-other no_number seen l r h =
      let z = or_parts (eqb (kind_at t i) chapter_kind) (eqb (kind_at t i) verse_kind) (ap numbered (sym is-kind) ∙ no_number) in
      record {
        wrote = rw (z.0, z.1) (wrote_none l (counts_of r));
        state = λ opens. rw (z.0, z.1) refl;
        bounded = h;
        seen_few = omega arith;
        verses_few = omega arith;
        opens = refl;
        anchor = refl;
      }
