-- K7: sections one after the other find what one section over all their nodes finds, and leave the record that it leaves. So the findings of the sections of a document, joined, and the closing findings are the document's list, and the counts add up to its counts.
-- Assumes nothing.
use Prim.Native.Nat.{ℕ, ◌+◌, ◌≤◌}
use native.Mathlib.Nat.{le_refl}
use native.Mathlib.Omega.{arith}
use mathlib.Core.Path.{◌≡◌, refl, sym, ap, ap₂, ◌∙◌}
use mathlib.Core.Bool.{Bool, true, false}
use mathlib.Core.List.{List, [], ◌∷◌, ◌++◌, append_assoc}
use Rattle.std.specs.Prelude.{Option, Some, None}
use lib.Dec.{eqb}
use lib.ListN.{length, length-append}
use borrow.Author.Tests.{ne_eqb}
use Rattle.text.specs.Pick.{pick}
use Rattle.tape.specs.Nodes.{Node, node_at, link_at, chapter_kind, verse_kind}
use Rattle.tape.specs.Forest.{Forest, end, leaf, node, followed, forest, Nested, done, one, inner, Accepted, top}
use Rattle.tape.proofs.Nest.{nested-le, nested-join, forest-done, forest-leaf, forest-node, forest-join}
use Rattle.table.specs.Entries.{Entry}
use Rattle.findings.specs.Finding.{Finding}
use Rattle.definition.specs.Setters.{set_verses}
use Rattle.definition.specs.State.{WalkState, WalkContext, outside, Anchor, past}
use Rattle.definition.specs.Checks.{entry_of, after_chapter, after_verse, leaf_checked, after_id}
use Rattle.definition.specs.Milestones.{after_milestone_by}
use Rattle.definition.specs.Walk.{Walked, leaf_anchor, open_checked_by, open_checked, inside, with_findings, after_node, then_walk, by_entry, walk_by, walk}
use Rattle.definition.specs.Document.{text_before, closing, running, findings, verses_visited}
use Rattle.definition.specs.Outcome.{Lent, refusal, add_if, of_severity, list_of, checked_of}
use Rattle.definition.specs.Calls.{checked_for}
use Rattle.definition.specs.Sections.{border_of, is_border, Carried, begun, section_walk, section_findings, section_verses, after_section, sections, verses_of, after_sections, reached, findings_of_each, close_findings, InOrder, Covering, StartsApart, joined_findings, sum_of, count_each}
use Rattle.definition.proofs.Borders.{cut_at, between}
use Rattle.definition.proofs.Then.{walk-then}
use Rattle.definition.proofs.Demand3.{checked-accepted}

-- What the walk finds doesn't depend on how many verses were counted before.

abbrev plus : ℕ → WalkState → WalkState
plus k st = set_verses (k + st.verses) st

abbrev plus_walked : ℕ → Walked → Walked
plus_walked k w = record { findings = w.findings; anchor = w.anchor; state = plus k w.state }

leaf-plus : (table : List ℕ) (o : WalkContext) (k : ℕ) (st : WalkState) (x : Node) → leaf_checked table o (plus k st) x ≡ record { findings = (leaf_checked table o st x).findings; state = plus k (leaf_checked table o st x).state }
unfolding leaf_checked after_chapter after_verse
leaf-plus table o k st x =
    ap (λ (q : WalkState). record { findings = (leaf_checked table o st x).findings; state = q }) (test (eqb x.kind chapter_kind) (eqb x.kind verse_kind))
  where
    test : (b v : Bool) → pick b (after_chapter (plus k st) x) (pick v (after_verse (entry_of table x) o (plus k st) x) (plus k st)) ≡ plus k (pick b (after_chapter st x) (pick v (after_verse (entry_of table x) o st x) st))
    test true v = refl
    test false true = let e : k + st.verses + 1 ≡ k + (st.verses + 1) = omega arith in ap (λ (n : ℕ). set_verses n (after_verse (entry_of table x) o st x)) e
    test false false = refl

open-plus : (table : List ℕ) (o : WalkContext) (a : Option Anchor) (k : ℕ) (st : WalkState) (e : Entry) (x : Node) (c f : Forest) → open_checked table o a (plus k st) e x c f ≡ record { findings = (open_checked table o a st e x c f).findings; state = plus k (open_checked table o a st e x c f).state }
unfolding open_checked_by after_milestone_by after_id
open-plus table o a k st e x c f = refl

walk-plus : (table : List ℕ) (o : WalkContext) (a : Option Anchor) (f : Forest) (k : ℕ) (st : WalkState) → walk table o a f (plus k st) ≡ plus_walked k (walk table o a f st)
unfolding walk_by
walk-plus table o a end k st = refl
walk-plus table o a (leaf x r) k st =
    let t = leaf_checked table o st x in
    rw (leaf-plus table o k st x) (ap (with_findings t.findings) (walk-plus table o (leaf_anchor a x) r k t.state))
walk-plus table o a (node x c r) k st = go (entry_of table x) (λ b q. walk-plus table b None c k q) (λ q. walk-plus table o (past a (node x c end)) r k q)
  where
    go : (q : Option Entry)
        → ((b : WalkContext) (q : WalkState) → walk table b None c (plus k q) ≡ plus_walked k (walk table b None c q))
        → ((q : WalkState) → walk table o (past a (node x c end)) r (plus k q) ≡ plus_walked k (walk table o (past a (node x c end)) r q))
        → by_entry q (walk table o (past a (node x c end)) r (plus k st)) (λ e. after_node (open_checked table o a (plus k st) e x c (node x c r)) (λ st₁. then_walk (walk table (inside o e) None c st₁) (walk table o (past a (node x c end)) r)))
        ≡ plus_walked k (by_entry q (walk table o (past a (node x c end)) r st) (λ e. after_node (open_checked table o a st e x c (node x c r)) (λ st₁. then_walk (walk table (inside o e) None c st₁) (walk table o (past a (node x c end)) r))))
    go None below later = later st
    go (Some e) below later =
        let t = open_checked table o a st e x c (node x c r) in
        let w = walk table (inside o e) None c t.state in
        rw (open-plus table o a k st e x c (node x c r), below (inside o e) t.state)
        (ap (λ (z : Walked). with_findings t.findings (with_findings w.findings z)) (later w.state))

walk_from : (table : List ℕ) (o : WalkContext) (a : Option Anchor) (f : Forest) (st : WalkState) → walk table o a f st ≡ plus_walked st.verses (walk table o a f (set_verses 0 st))
walk_from table o a f st =
    let e : st.verses ≡ st.verses + 0 = omega arith in
    ap (λ (n : ℕ). walk table o a f (set_verses n st)) e ∙ walk-plus table o a f st.verses (set_verses 0 st)

-- Counts of joined lists.

severity-append : (n : ℕ) (fs gs : List Finding) → of_severity n (fs ++ gs) ≡ of_severity n fs + of_severity n gs
unfolding of_severity
severity-append n [] gs = omega arith
severity-append n (f ∷ fs) gs = test (eqb f.severity n) (severity-append n fs gs)
  where
    test : (b : Bool) → of_severity n (fs ++ gs) ≡ of_severity n fs + of_severity n gs → add_if b (of_severity n (fs ++ gs)) ≡ add_if b (of_severity n fs) + of_severity n gs
    test true h = omega arith
    test false h = h

-- a count that adds up over two lists adds up over all
counts-joined : (count : List Finding → ℕ) → count [] ≡ 0 → ((fs gs : List Finding) → count (fs ++ gs) ≡ count fs + count gs) → (ls : List (List Finding)) → sum_of (count_each count ls) ≡ count (joined_findings ls)
unfolding sum_of count_each joined_findings
counts-joined count none_of both [] = sym none_of
counts-joined count none_of both (fs ∷ ls) = ap (count fs +◌) (counts-joined count none_of both ls) ∙ sym (both fs (joined_findings ls))

module _ (s t : List ℕ) where
  -- ranges of whole nodes, one after the other
  abbrev pub Runs : ℕ → List ℕ → ℕ → Type 0
  Runs from [] b = from ≡ b
  Runs from (to ∷ tos) b = Nested t 64 from to × Runs to tos b

  runs-from : (from : ℕ) (tos : List ℕ) (b : ℕ) → Nested t 64 from (link_at t 0) → ((q : ℕ) → from ≤ q → is_border s t q ≡ true → border_of (forest s t from (link_at t 0)) (link_at t 0) q ≡ true) → InOrder s t from tos b → Runs from tos b
  runs-from from [] b n later h = h
  runs-from from (to ∷ tos) b n later h =
      let l = h.0 in
      let c = cut_at s t to n (later to l h.1) in
      (c.before, runs-from to tos b c.behind (λ q g k. c.later q g (later q (omega arith) k)) h.2)

  pub runs_of : Accepted s t → (tos : List ℕ) (b : ℕ) → InOrder s t 1 tos b → Runs 1 tos b
  runs_of accepted tos b h = runs-from 1 tos b accepted.nested (λ q l k. k) h

  pub runs-nested : (from : ℕ) (tos : List ℕ) (b : ℕ) → Runs from tos b → Nested t 64 from b
  runs-nested from [] b h = done h
  runs-nested from (to ∷ tos) b h = nested-join h.0 (runs-nested to tos b h.1)

module _ (table s t : List ℕ) where
  -- Two sections are one.

  walk-on : (c : Carried) (to b : ℕ) → Nested t 64 c.place to → Nested t 64 to b → section_walk table s t c b ≡ with_findings (section_walk table s t c to).findings (plus_walked (section_verses table s t c to) (section_walk table s t (after_section table s t c to) b))
  walk-on c to b p q =
      let w = section_walk table s t c to in
      let g = forest s t to b in
      rw (forest-join s t p q)
      (walk-then table outside c.anchor (forest s t c.place to) g c.state ∙ ap (with_findings w.findings) (walk_from table outside w.anchor g w.state))

  pub after-after : (c : Carried) (to b : ℕ) → Nested t 64 c.place to → Nested t 64 to b → after_section table s t (after_section table s t c to) b ≡ after_section table s t c b
  after-after c to b p q = ap (λ (w : Walked). record { place = b; anchor = w.anchor; state = set_verses 0 w.state }) (sym (walk-on c to b p q))

  -- TextBeforeId stands before the section that holds the first node, and the sections before that one are empty
  text-then : (a to b : ℕ) (w : Forest → List Finding) (rest : List Finding) → w end ≡ [] → 1 ≤ a → Nested t 64 a to → Nested t 64 to b → pick (eqb a 1) (text_before (forest s t a to)) [] ++ w (forest s t a to) ++ (pick (eqb to 1) (text_before (forest s t to b)) [] ++ rest) ≡ pick (eqb a 1) (text_before (forest s t a b)) [] ++ (w (forest s t a to) ++ rest)
  unfolding text_before followed
  text-then a to b w rest h low (done e) q = rw (forest-done s t a to (omega arith), h, e) (test (eqb to 1) (text_before (forest s t to b)))
    where
      test : (v : Bool) (fs : List Finding) → pick v [] [] ++ [] ++ (pick v fs [] ++ rest) ≡ pick v fs [] ++ rest
      test true fs = refl
      test false fs = refl
  text-then a to b w rest h low (one i j r) q =
      let p : Nested t 64 a to = one i j r in
      let l = nested-le r in
      let f = leaf (node_at s t a) (forest s t (a + 1) to) in
      rw (forest-join s t p q, forest-leaf s t i j r, ne_eqb to 1 (omega arith)) (append_assoc (pick (eqb a 1) (text_before f) []) (w f) rest)
  text-then a to b w rest h low (inner i j c r) q =
      let p : Nested t 64 a to = inner i j c r in
      let k = nested-le c in
      let l = nested-le r in
      let f = node (node_at s t a) (forest s t (a + 1) (link_at t a)) (forest s t (link_at t a + 1) to) in
      rw (forest-join s t p q, forest-node s t i j c r, ne_eqb to 1 (omega arith)) (append_assoc (pick (eqb a 1) (text_before f) []) (w f) rest)

  -- the findings of a section and of the one after it are those of one section over both
  pub findings-then : (c : Carried) (to b : ℕ) → 1 ≤ c.place → Nested t 64 c.place to → Nested t 64 to b → section_findings table s t c to ++ section_findings table s t (after_section table s t c to) b ≡ section_findings table s t c b
  unfolding walk_by
  findings-then c to b low p q =
      text-then c.place to b (λ f. (walk table outside c.anchor f c.state).findings) (section_walk table s t (after_section table s t c to) b).findings refl low p q
      ∙ ap (λ (w : Walked). pick (eqb c.place 1) (text_before (forest s t c.place b)) [] ++ w.findings) (sym (walk-on c to b p q))

  pub verses-then : (c : Carried) (to b : ℕ) → Nested t 64 c.place to → Nested t 64 to b → section_verses table s t c to + section_verses table s t (after_section table s t c to) b ≡ section_verses table s t c b
  verses-then c to b p q = ap (λ (w : Walked). w.state.verses) (sym (walk-on c to b p q))

  -- Sections one after the other are one section.

  record OneSection (c : Carried) (tos : List ℕ) (b : ℕ) : Type 0 where
    findings-are : joined_findings (sections table s t c tos) ≡ section_findings table s t c b
    verses-are : sum_of (verses_of table s t c tos) ≡ section_verses table s t c b
    record_is : after_sections table s t c tos ≡ after_section table s t c b

  one-section : (c : Carried) (tos : List ℕ) (b : ℕ) → c.state.verses ≡ 0 → 1 ≤ c.place → Runs s t c.place tos b → OneSection c tos b
  unfolding sections verses_of after_sections joined_findings sum_of walk_by text_before
  one-section c [] b v low h =
      let e = forest-done s t c.place b (omega arith) in
      record {
        findings-are = rw e (test (eqb c.place 1));
        verses-are = sym v ∙ ap (λ (f : Forest). (walk table outside c.anchor f c.state).state.verses) (sym e);
        record_is = (λ i. record { place = h i; anchor = c.anchor; state = set_verses (v i) c.state }) ∙ ap (λ (f : Forest). let w = walk table outside c.anchor f c.state in record { place = b; anchor = w.anchor; state = set_verses 0 w.state }) (sym e);
      }
    where
      test : (u : Bool) → ◌≡◌ {A = List Finding} [] (pick u [] [] ++ [])
      test true = refl
      test false = refl
  one-section c (to ∷ tos) b v low h =
      let rest = runs-nested s t to tos b h.1 in
      let l = nested-le h.0 in
      let later = one-section (after_section table s t c to) tos b refl (omega arith) h.1 in
      record {
        findings-are = ap (section_findings table s t c to ++◌) later.findings-are ∙ findings-then c to b low h.0 rest;
        verses-are = ap (section_verses table s t c to +◌) later.verses-are ∙ verses-then c to b h.0 rest;
        record_is = later.record_is ∙ after-after c to b h.0 rest;
      }

  -- each section starts from what the document's walk knows there
  pub begun-reached : begun ≡ reached table s t 1
  unfolding walk_by
  begun-reached = rw (forest-done s t 1 1 (le_refl 1))

  each_from : (from : ℕ) (tos : List ℕ) (b : ℕ) → Nested t 64 1 from → Runs s t from tos b → sections table s t (reached table s t from) tos ≡ findings_of_each table s t from tos
  unfolding sections findings_of_each
  each_from from [] b n h = refl
  each_from from (to ∷ tos) b n h =
      ap (section_findings table s t (reached table s t from) to ∷◌) (ap (λ (c : Carried). sections table s t c tos) (after-after begun from to n h.0) ∙ each_from to tos b (nested-join n h.0) h.1)

  -- a section's findings are what the document's walk adds from one border to another
  pub section-adds : Accepted s t → (from to : ℕ) → is_border s t from ≡ true → is_border s t to ≡ true → from ≤ to → running table (forest s t 1 from) ++ section_findings table s t (reached table s t from) to ≡ running table (forest s t 1 to)
  section-adds accepted from to h k l = findings-then begun from to (le_refl 1) (cut_at s t from accepted.nested h).before (between s t accepted from to h k l)

  module _ (accepted : Accepted s t) (tos : List ℕ) where
    -- sections in order up to a border
    module _ (b : ℕ) (order : InOrder s t 1 tos b) where
      -- "each section's findings are those the walk gives for its nodes"
      pub each-section : sections table s t begun tos ≡ findings_of_each table s t 1 tos
      each-section = ap (λ (c : Carried). sections table s t c tos) begun-reached ∙ each_from 1 tos b (done refl) (runs_of s t accepted tos b order)

      -- the record after them holds what the document's walk knows there
      pub record-reached : after_sections table s t begun tos ≡ reached table s t b
      record-reached = (one-section begun tos b refl (le_refl 1) (runs_of s t accepted tos b order)).record_is

    -- all sections of a document
    module _ (covering : Covering s t tos) where
      all_one : OneSection begun tos (link_at t 0)
      all_one = one-section begun tos (link_at t 0) refl (le_refl 1) (runs_of s t accepted tos (link_at t 0) covering)

      pub sections-joined : joined_findings (sections table s t begun tos) ++ close_findings (after_sections table s t begun tos) ≡ findings table (top s t)
      unfolding closing
      sections-joined = ap₂ ◌++◌ all_one.findings-are (ap close_findings all_one.record_is)

      pub verses-add-up : sum_of (verses_of table s t begun tos) ≡ verses_visited table (top s t)
      verses-add-up = all_one.verses-are

      counts-sum : (count : List Finding → ℕ) → count [] ≡ 0 → ((fs gs : List Finding) → count (fs ++ gs) ≡ count fs + count gs) → sum_of (count_each count (sections table s t begun tos)) + count (close_findings (after_sections table s t begun tos)) ≡ count (findings table (top s t))
      counts-sum count none_of both =
          let last = close_findings (after_sections table s t begun tos) in
          ap (◌+ count last) (counts-joined count none_of both (sections table s t begun tos)) ∙ sym (both (joined_findings (sections table s t begun tos)) last) ∙ ap count sections-joined

      pub totals-add-up : sum_of (count_each length (sections table s t begun tos)) + length (close_findings (after_sections table s t begun tos)) ≡ length (findings table (top s t))
      totals-add-up = counts-sum length refl (λ fs gs. length-append fs gs)

      pub severities-add-up : (n : ℕ) → sum_of (count_each (of_severity n) (sections table s t begun tos)) + of_severity n (close_findings (after_sections table s t begun tos)) ≡ of_severity n (findings table (top s t))
      unfolding of_severity
      severities-add-up n = counts-sum (of_severity n) refl (severity-append n)

-- of what is lent and not turned back by 1 to 10
module _ (l : Lent) (accepted : refusal l ≡ None) (tos : List ℕ) (covering : Covering l.source l.tape tos) where
  pub document-joined : joined_findings (sections l.table l.source l.tape begun tos) ++ close_findings (after_sections l.table l.source l.tape begun tos) ≡ list_of l
  document-joined = sections-joined l.table l.source l.tape (checked-accepted l accepted) tos covering

  pub document-verses : sum_of (verses_of l.table l.source l.tape begun tos) ≡ (checked_of l).verses
  unfolding checked_of
  document-verses = verses-add-up l.table l.source l.tape (checked-accepted l accepted) tos covering

  pub document-total : sum_of (count_each length (sections l.table l.source l.tape begun tos)) + length (close_findings (after_sections l.table l.source l.tape begun tos)) ≡ (checked_of l).total
  unfolding checked_of
  document-total = totals-add-up l.table l.source l.tape (checked-accepted l accepted) tos covering

  -- errors, warnings and infos
  pub document-severities : (n : ℕ) → sum_of (count_each (of_severity n) (sections l.table l.source l.tape begun tos)) + of_severity n (close_findings (after_sections l.table l.source l.tape begun tos)) ≡ of_severity n (list_of l)
  document-severities n = severities-add-up l.table l.source l.tape (checked-accepted l accepted) tos covering n

  -- as document 02 asks for it, with its condition on start offsets, which the proof doesn't need
  pub sections-as-asked : StartsApart l.tape 1 tos → (sections l.table l.source l.tape begun tos ≡ findings_of_each l.table l.source l.tape 1 tos) × (joined_findings (sections l.table l.source l.tape begun tos) ++ close_findings (after_sections l.table l.source l.tape begun tos) ≡ list_of l)
  sections-as-asked apart = (each-section l.table l.source l.tape (checked-accepted l accepted) tos (link_at l.tape 0) covering, document-joined)

-- a checked document's counts are those of its list and its verses
pub checked-for : (l : Lent) → checked_of l ≡ checked_for (list_of l) (verses_visited l.table (top l.source l.tape)) l.list
unfolding checked_of checked_for
checked-for l = refl
