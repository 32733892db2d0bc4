-- K7: the record after a section stands for what the section's walk knows, of every record that number 19 lets pass. A record that begin and sections made stands for what the document's walk knows at its place, and number 19 never turns it back under its own tape.
-- Assumes nothing.
use Prim.Native.Nat.{ℕ, zero, suc, ◌+◌, ◌<◌, ◌≤◌}
use native.Mathlib.Nat.{le_refl}
use native.Mathlib.Decide.{dec_lt}
use native.Mathlib.Omega.{arith}
use mathlib.Core.Path.{◌≡◌, refl, sym, ap, ap₂, subst, ◌∙◌}
use mathlib.Core.Bool.{Bool, true, false, not, ◌&&◌}
use mathlib.Core.List.{List, ◌++◌}
use Rattle.std.specs.Prelude.{Option, None}
use lib.Dec.{eqb, ltb}
use lib.ListN.{length, get_or}
use borrow.Author.Tests.{eqb-true, eq-eqb, ne_eqb, ltb-true, ltb-false, le-ltb, not-false}
use Rattle.text.specs.Pick.{pick, AllOf}
use Rattle.text.proofs.Bool.{or_parts, and_left, and_right}
use Rattle.tape.specs.Nodes.{byte, node_at, kind_at, link_at, root_kind, marker_open_kind}
use Rattle.tape.specs.Forest.{Forest, forest, Nested, done, Accepted, top}
use Rattle.tape.proofs.Nest.{nested-join, nested-leaf, forest-done}
use Rattle.cursor.specs.Steps.{past_node}
use Rattle.findings.specs.Finding.{Finding}
use Rattle.numbers.specs.Label.{numbered}
use Rattle.definition.specs.Setters.{walk_state}
use Rattle.definition.specs.State.{Milestone, WalkState, initial, outside, Anchor}
use Rattle.definition.specs.Milestones.{base_of}
use Rattle.definition.specs.Walk.{walk_by}
use Rattle.definition.specs.Document.{text_before, closing, running, findings, verses_visited}
use Rattle.definition.specs.Outcome.{Lent, refusal, list_of, no_start}
use Rattle.definition.specs.Sections.{is_border, Carried, begun, section_walk, section_findings, section_verses, after_section, reached, close_findings}
use Rattle.definition.specs.Carried.{CarriedRecord, latest_words, start_nodes, anchor_at, anchor_node, carried_state, carried_of, misplaced, number_too_large, list_too_long, bad_anchor, is_milestone_start, bad_start, bad_starts, is_foreign}
use Rattle.definition.specs.Calls.{carried_in, found_by, verses_by, wrong_section, section_refusal, close_refusal, begun_record, section_record, ListsHold, FromCalls, from_begin, from_section}
use Rattle.definition.specs.declared.OpenStart.{OpenStart}
use Rattle.definition.proofs.Demand3.{checked-accepted}
use Rattle.definition.proofs.Borders.{cut_at, between, meets-border}
use Rattle.definition.proofs.Sectioned.{begun-reached, after-after, findings-then, verses-then}
use Rattle.definition.proofs.RecordBounds.{links-low, GoodStart, Fit, reached-fit}
use Rattle.definition.proofs.RecordAnchor.{numbered-leaf, Known, nowhere, behind, Anchored, anchor-kept, node_kept, anchor-good, same-anchor}

module _ (table s t : List ℕ) where
  module _ (accepted : Accepted s t) where
    -- A record that number 19 lets pass, made by the calls or not.

    pub record Plausible (opens : List OpenStart) (r : CarriedRecord) : Type 0 where
      pub before : Nested t 64 1 r.place
      pub behind : Nested t 64 r.place (link_at t 0)
      pub known : Known table s t 64 (anchor_node s t r) r.place
      pub chapter : r.expected_chapter ≤ 4294967296
      pub verse : r.expected_verse.number ≤ 4294967296
      pub few-seen : r.seen_len ≤ r.place
      pub few-open : r.open_len ≤ r.place
      pub starts : (j : ℕ) → j < r.open_len → is_milestone_start table (node_at s t (get_or opens j no_start).node) ≡ true
      pub bases : (j : ℕ) → j < r.open_len → (get_or opens j no_start).base_len ≡ length (base_of (node_at s t (get_or opens j no_start).node))

    -- its anchor is none, or a Chapter or Verse among the top-level nodes before its place
    record-known : (p n : ℕ) → is_border s t p ≡ true → (not (eqb n 0) && not (numbered (kind_at t n))) ≡ false → (v : Bool) → (is_border s t n && ltb n p) ≡ v → Known table s t 64 (pick v n 0) p
    record-known p n h good false e = nowhere
    record-known p zero h good true e = nowhere
    record-known p (suc n) h good true e =
        let k = not-false _ (rw (ne_eqb (suc n) 0 (λ z. omega arith)) at good) in
        let i = and_left (is_border s t (suc n)) (ltb (suc n) p) e in
        let l = ltb-true (suc n) p (and_right (is_border s t (suc n)) (ltb (suc n) p) e) in
        let u = numbered-leaf (kind_at t (suc n)) k in
        let past-it : past_node t (suc n) ≡ suc n + 1 = rw u in
        let rest = (nested-leaf (between s t accepted (suc n) p i h (omega arith)) l (or_parts (eqb (kind_at t (suc n)) root_kind) (eqb (kind_at t (suc n)) marker_open_kind) u).1).after in
        behind k i l (subst (λ (x : ℕ). Nested t 64 x p) (sym past-it) rest)

    each_start : (opens : List OpenStart) (k : ℕ) → bad_starts table s t opens k ≡ false → (j : ℕ) → j < k → bad_start table s t (get_or opens j no_start) ≡ false
    unfolding bad_starts
    each_start opens zero h j l = absurd (omega arith)
    each_start opens (suc k) h j l =
        let parts = or_parts (bad_start table s t (get_or opens k no_start)) (bad_starts table s t opens k) h in
        test (dec_lt j k) parts.0 (λ q. each_start opens k parts.1 j q)
      where
        test : Dec (j < k) → bad_start table s t (get_or opens k no_start) ≡ false → (j < k → bad_start table s t (get_or opens j no_start) ≡ false) → bad_start table s t (get_or opens j no_start) ≡ false
        test (yes q) here earlier = earlier q
        test (no q) here earlier = let e : k ≡ j = omega arith in subst (λ (i : ℕ). bad_start table s t (get_or opens i no_start) ≡ false) e here

    pub plausible : (opens : List OpenStart) (r : CarriedRecord) → is_foreign table s t opens r ≡ false → Plausible opens r
    plausible opens r ours =
        let p = r.place in
        let a = or_parts (misplaced s t r) _ ours in
        let b = or_parts (number_too_large r) _ a.1 in
        let c = or_parts (list_too_long r) _ b.1 in
        let d = or_parts (bad_anchor t r) _ c.1 in
        let numbers = or_parts (ltb 4294967296 r.expected_chapter) _ b.0 in
        let lengths = or_parts (ltb p r.seen_len) _ c.0 in
        let here = not-false _ a.0 in
        let cut = cut_at s t p accepted.nested here in
        record {
          before = cut.before;
          behind = cut.behind;
          known = record-known p r.anchor here d.0 (is_border s t r.anchor && ltb r.anchor p) refl;
          chapter = ltb-false 4294967296 r.expected_chapter numbers.0;
          verse = ltb-false 4294967296 r.expected_verse.number numbers.1;
          few-seen = ltb-false p r.seen_len lengths.0;
          few-open = ltb-false p r.open_len lengths.1;
          starts = λ j l. and_left _ _ (not-false _ (each_start opens r.open_len d.1 j l));
          bases = λ j l. eqb-true _ _ (and_right (is_milestone_start table (node_at s t (get_or opens j no_start).node)) _ (not-false _ (each_start opens r.open_len d.1 j l)));
        }

    -- and a section from it
    pub record Passes (opens : List OpenStart) (r : CarriedRecord) (from to : ℕ) : Type 0 where
      pub start : from ≡ r.place
      pub plausible-record : Plausible opens r
      pub run : Nested t 64 r.place to
      pub rest : Nested t 64 to (link_at t 0)

    pub passes : (opens : List OpenStart) (r : CarriedRecord) (from to : ℕ) → wrong_section table s t opens r from to ≡ false → Passes opens r from to
    passes opens r from to right =
        let p = r.place in
        let a = or_parts (not (eqb from p)) _ right in
        let b = or_parts (ltb to from) _ a.1 in
        let c = or_parts (not (is_border s t to)) _ b.1 in
        let first = eqb-true from p (not-false _ a.0) in
        let order = ltb-false to from b.0 in
        let there = not-false _ c.0 in
        let good = plausible opens r c.1 in
        record {
          start = first;
          plausible-record = good;
          run = between s t accepted p to (meets-border s t good.before good.behind) there (omega arith);
          rest = (cut_at s t to accepted.nested there).behind;
        }

    module _ (seen : List ℕ) (opens : List OpenStart) (r : CarriedRecord) (from to : ℕ) (ok : Passes opens r from to) where
      section-anchor : Anchored table s t 64 (anchor_node s t r) r.place to outside (carried_state s t seen opens r)
      section-anchor = anchor-kept table s t (anchor_node s t r) ok.plausible-record.known ok.plausible-record.before ok.run ok.rest outside (carried_state s t seen opens r)

      -- a number that means the walk's last anchor is that of the record after the section
      pub anchor-is : (e n : ℕ) → (1 ≤ n → Nested t e (past_node t n) to) → anchor_at s t n to ≡ (section_walk table s t (carried_of s t seen opens r) to).anchor → n ≡ (section_record table s t seen opens r to).anchor
      anchor-is e n rest h = same-anchor table s t 64 e n _ to rest section-anchor.known (h ∙ section-anchor.is)

      -- the record after a section, with its lists, stands for what the walk knows
      pub carried_on : (seen' : List ℕ) (opens' : List OpenStart) → ListsHold s t (section_walk table s t (carried_of s t seen opens r) to).state seen' opens' → carried_of s t seen' opens' (section_record table s t seen opens r to) ≡ after_section table s t (carried_of s t seen opens r) to
      carried_on seen' opens' holds =
          let st = (section_walk table s t (carried_of s t seen opens r) to).state in
          ap₂ (λ (n : Option Anchor) (q : WalkState). record { place = to; anchor = n; state = q })
          (ap (λ (n : ℕ). anchor_at s t n to) (node_kept table s t section-anchor.known) ∙ sym section-anchor.is)
          (ap₂ (λ (xs : List ℕ) (ys : List Milestone). walk_state st.has_id st.has_chapter st.has_verse st.front_matter st.verse_outside_warned st.expected_chapter st.expected_verse xs ys 0) holds.chapters holds.starts)

  -- A record that begin and sections made.

  pub record Own (r : CarriedRecord) (seen : List ℕ) (opens : List OpenStart) : Type 0 where
    pub before : Nested t 64 1 r.place
    pub behind : Nested t 64 r.place (link_at t 0)
    pub known : Known table s t 64 r.anchor r.place
    pub means : carried_of s t seen opens r ≡ reached table s t r.place
    pub bases : (j : ℕ) → j < r.open_len → (get_or opens j no_start).base_len ≡ length (base_of (node_at s t (get_or opens j no_start).node))

  module _ (accepted : Accepted s t) where
    own-begun : (seen : List ℕ) (opens : List OpenStart) → Own begun_record seen opens
    unfolding latest_words start_nodes
    own-begun seen opens =
        let n : Known table s t 64 0 1 = nowhere in
        record {
          before = done refl;
          behind = accepted.nested;
          known = n;
          means = ap (λ (z : ℕ). record { place = 1; anchor = anchor_at s t z 1; state = initial }) (node_kept table s t n) ∙ begun-reached table s t;
          bases = λ j l. absurd (omega arith);
        }

    own-section : (r : CarriedRecord) (seen seen' : List ℕ) (opens opens' : List OpenStart) (from to : ℕ) → Own r seen opens → wrong_section table s t opens r from to ≡ false → ListsHold s t (section_walk table s t (carried_of s t seen opens r) to).state seen' opens' → Own (section_record table s t seen opens r to) seen' opens'
    own-section r seen seen' opens opens' from to own right holds =
        let ok = passes accepted opens r from to right in
        record {
          before = nested-join own.before ok.run;
          behind = ok.rest;
          known = (section-anchor accepted seen opens r from to ok).known;
          means = carried_on accepted seen opens r from to ok seen' opens' holds ∙ ap (λ (z : Carried). after_section table s t z to) own.means ∙ after-after table s t begun r.place to own.before ok.run;
          bases = holds.bases;
        }

    pub own-record : {r : CarriedRecord} {seen : List ℕ} {opens : List OpenStart} → FromCalls table s t r seen opens → Own r seen opens
    own-record {r} {seen} {opens} (from_begin e) = subst (λ (z : CarriedRecord). Own z seen opens) (sym e) (own-begun seen opens)
    own-record (from_section {r} {q} {seen} {seen'} {opens} {opens'} from to calls right e holds) =
        subst (λ (z : CarriedRecord). Own z seen' opens') (sym e) (own-section r seen seen' opens opens' from to (own-record calls) right holds)

    -- all that the sections found is what the document's walk gives up to the record's place, and so are their verses
    pub calls_found : {r : CarriedRecord} {seen : List ℕ} {opens : List OpenStart} (calls : FromCalls table s t r seen opens) → found_by table s t calls ≡ running table (forest s t 1 r.place)
    unfolding found_by walk_by text_before
    calls_found (from_begin e) = ap (λ (f : Forest). running table f) (sym (forest-done s t 1 1 (le_refl 1))) ∙ ap (λ (z : CarriedRecord). running table (forest s t 1 z.place)) (sym e)
    calls_found (from_section {r} {q} {seen} {seen'} {opens} {opens'} from to calls right e holds) =
        let own = own-record calls in
        ap₂ (λ (fs : List Finding) (c : Carried). fs ++ section_findings table s t c to) (calls_found calls) own.means
        ∙ findings-then table s t begun r.place to (le_refl 1) own.before (passes accepted opens r from to right).run
        ∙ ap (λ (z : CarriedRecord). running table (forest s t 1 z.place)) (sym e)

    pub calls-verses : {r : CarriedRecord} {seen : List ℕ} {opens : List OpenStart} (calls : FromCalls table s t r seen opens) → verses_by table s t calls ≡ verses_visited table (forest s t 1 r.place)
    unfolding verses_by walk_by
    calls-verses (from_begin e) = ap (λ (f : Forest). verses_visited table f) (sym (forest-done s t 1 1 (le_refl 1))) ∙ ap (λ (z : CarriedRecord). verses_visited table (forest s t 1 z.place)) (sym e)
    calls-verses (from_section {r} {q} {seen} {seen'} {opens} {opens'} from to calls right e holds) =
        let own = own-record calls in
        ap₂ (λ (n : ℕ) (c : Carried). n + section_verses table s t c to) (calls-verses calls) own.means
        ∙ verses-then table s t begun r.place to own.before (passes accepted opens r from to right).run
        ∙ ap (λ (z : CarriedRecord). verses_visited table (forest s t 1 z.place)) (sym e)

    -- "and joined, with the closing findings from close, they are the document's list"
    pub calls-joined : {r : CarriedRecord} {seen : List ℕ} {opens : List OpenStart} (calls : FromCalls table s t r seen opens) → r.place ≡ link_at t 0 → found_by table s t calls ++ close_findings (carried_of s t seen opens r) ≡ findings table (top s t)
    unfolding closing
    calls-joined {r} calls h =
        ap₂ (λ (fs : List Finding) (c : Carried). fs ++ close_findings c) (calls_found calls) (own-record calls).means
        ∙ ap (λ (p : ℕ). findings table (forest s t 1 p)) h

  latest-length : (words : List ℕ) (k : ℕ) → length (latest_words words k) ≡ k
  unfolding latest_words
  latest-length words zero = refl
  latest-length words (suc k) = ap suc (latest-length words k)

  open-length : (opens : List OpenStart) (k : ℕ) → length (start_nodes s t opens k) ≡ k
  unfolding start_nodes
  open-length opens zero = refl
  open-length opens (suc k) = ap suc (open-length opens k)

  starts-good : (opens : List OpenStart) (k : ℕ) → AllOf (GoodStart table) (start_nodes s t opens k) → ((j : ℕ) → j < k → (get_or opens j no_start).base_len ≡ length (base_of (node_at s t (get_or opens j no_start).node))) → bad_starts table s t opens k ≡ false
  unfolding start_nodes bad_starts
  starts-good opens zero h bases = refl
  starts-good opens (suc k) h bases =
      let o = get_or opens k no_start in
      rw (h.0, eq-eqb o.base_len (length (base_of (node_at s t o.node))) (bases k (omega arith))) (starts-good opens k h.1 (λ j l. bases j (omega arith)))

  -- "the record can't be this tape's" never holds of it
  pub own-not-foreign : (r : CarriedRecord) (seen : List ℕ) (opens : List OpenStart) → ((i : ℕ) → link_at t i ≤ 4294967295) → Own r seen opens → is_foreign table s t opens r ≡ false
  own-not-foreign r seen opens links own =
      let p = r.place in
      let fit = subst (λ (c : Carried). Fit table s t p c.state) (sym own.means) (reached-fit table s t links p own.before) in
      let few = fit.few-seen in
      let opened = fit.few-open in
      let a = latest-length seen r.seen_len in
      let b = open-length opens r.open_len in
      let place = meets-border s t own.before own.behind in
      let chapter = le-ltb 4294967296 r.expected_chapter fit.chapter in
      let verse = le-ltb 4294967296 r.expected_verse.number fit.verse in
      let seen-fits = le-ltb p r.seen_len (omega arith) in
      let open-fits = le-ltb p r.open_len (omega arith) in
      rw (place, chapter, verse, seen-fits, open-fits, anchor-good table s t own.known, starts-good opens r.open_len fit.starts own.bases)

-- Of what is lent and not turned back by 1 to 10, with a record that the calls made.
module _ (l : Lent) (accepted : refusal l ≡ None) (r : CarriedRecord) (calls : FromCalls l.table l.source l.tape r l.seen l.open_starts) where
  pub document-calls : r.place ≡ link_at l.tape 0 → found_by l.table l.source l.tape calls ++ close_findings (carried_in l r) ≡ list_of l
  document-calls h = calls-joined l.table l.source l.tape (checked-accepted l accepted) calls h

  -- "the record can't be this tape's" never holds under its own tape, whose fields are bytes
  module _ (bytes : (k : ℕ) → byte l.tape k < 256) where
    own : is_foreign l.table l.source l.tape l.open_starts r ≡ false
    own = own-not-foreign l.table l.source l.tape r l.seen l.open_starts (links-low l.tape bytes) (own-record l.table l.source l.tape (checked-accepted l accepted) calls)

    pub own-section-passes : (to : ℕ) → r.place ≤ to → is_border l.source l.tape to ≡ true → section_refusal l r r.place to ≡ None
    own-section-passes to h k = rw (accepted, eq-eqb r.place r.place refl, le-ltb to r.place h, k, own)

    pub own-close-passes : r.place ≡ link_at l.tape 0 → close_refusal l r ≡ None
    own-close-passes h = rw (accepted, eq-eqb r.place (link_at l.tape 0) h, own)
