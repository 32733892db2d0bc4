-- No finding of a checked document lacks its text: number 12 turns none of them back.
-- Assumes nothing.
use Prim.Native.Nat.{ℕ, ◌+◌, ◌<◌, ◌≤◌}
use native.Mathlib.Omega.{arith}
use mathlib.Core.Path.{◌≡◌, refl, sym, subst, ◌∙◌}
use mathlib.Core.Bool.{Bool, true, false, not, false≢true, ◌&&◌, ◌||◌}
use mathlib.Core.List.{List, [], ◌∷◌, ◌++◌}
use Rattle.std.specs.Prelude.{Option, Some, None}
use lib.Dec.{eqb, ltb}
use lib.ListN.{length}
use borrow.Author.Tests.{lt-ltb, le-leb, ne_eqb, ltb-true}
use Rattle.text.specs.Pick.{cut, pick, AllOf}
use Rattle.text.specs.Words.{blank_text}
use Rattle.tape.specs.Nodes.{Node, count, kind_at, link_at, is_open, node_at, chapter_kind, verse_kind, text_kind, attribute_kind}
use Rattle.tape.specs.Forest.{Forest, end, node, forest, Nested, done, one, inner, top}
use Rattle.tape.proofs.Nest.{nested-le, forest-done, forest-leaf, forest-node}
use Rattle.table.specs.Entries.{Entry, milestone_category}
use Rattle.cursor.specs.Names.{name_of}
use Rattle.cursor.specs.Info.{info_at}
use Rattle.cursor.proofs.Runs.{run-top}
use Rattle.findings.specs.Finding.{Finding, Kind, warning_severity}
use Rattle.findings.specs.Written.{only}
use Rattle.numbers.specs.Label.{label_of, numbered}
use Rattle.numbers.specs.Verse.{PartReading, position, no_digits, too_large, verse_part}
use Rattle.attributes.specs.Attributes.{attribute_kinds, findings_at, attribute_findings, attributes_findings}
use Rattle.rows.specs.Cells.{ColumnRange}
use Rattle.rows.specs.Row.{cell_in, out_of_order, by_columns, row_from, row_findings}
use Rattle.definition.specs.State.{WalkState, initial, outside, WalkContext, Anchor, past}
use Rattle.definition.specs.Checks.{about, error, warning, given, entry_of, letter_byte, unread_form, after_chapter, after_verse, number_form, chapter_checks, verse_checks, leaf_checked, book_code, is_book, number_markers, id_name, tr_name, id_checks, after_id, attached_to, place_checks, content_checks}
use Rattle.definition.specs.Milestones.{pairing, is_start, is_end, is_milestone, waits, starts_after, milestone_checks, after_milestone_by}
use Rattle.definition.specs.Walk.{Walked, leaf_anchor, open_checked_by, open_checked, inside, with_findings, after_node, then_walk, by_entry, walk_by, walk}
use Rattle.definition.specs.Document.{text_before, unclosed, closing, walked, running}
use Rattle.definition.specs.Outcome.{Lent, refusal, list_of}
use Rattle.definition.proofs.Demand3.{checked-accepted}
use Rattle.definition.proofs.Untaken.{all_without}
use Rattle.message_texts.specs.Texts.{document_texts, number_texts, marker_texts, attribute_texts}
use Rattle.message_texts.specs.Filled.{all_texts, code_of, form_of}
use Rattle.messages.specs.Message.{request_of, shown_of, text_by, message_text}
use Rattle.messages.proofs.Every.{WhenHeld, all-only, all-pick, all-given}
use Rattle.text.proofs.Every.{all_append}
use Rattle.messages.proofs.LowLetters.{next_low, breaks-some}
use Rattle.attributes.proofs.EachKind.{OfAttributes, all_kinds}
use Rattle.text.proofs.Bool.{and_left, and_right}
use Rattle.findings.specs.Codes.{milestone_mismatch, unclosed_start, leading_zeros, text_before_id, end_alone, invalid_book_code, misplaced_number_marker, invalid_verse_sequence, unreadable_verse_number}
use Rattle.text.specs.Bytes.{equal, one_of, upper}

-- the text of the finding is there, so that number 12 does not turn it back
abbrev pub HasMessage : List ℕ → List ℕ → List ℕ → Finding → Type 0
HasMessage table s t f = (text : List ℕ) × (message_text table s t (request_of f) ≡ Some text)

abbrev is_some : Option (List ℕ) → Bool
is_some None = false
is_some (Some text) = true

is-some : (o : Option (List ℕ)) → is_some o ≡ true → (text : List ℕ) × (o ≡ Some text)
is-some None e = absurd (false≢true e)
is-some (Some text) e = (text, refl)

middle : (a b c : Bool) → (a && (b && c)) ≡ true → b ≡ true
middle a b c h = and_left b c (and_right a (b && c) h)

-- a label longer than one byte isn't empty
longer-some : (n : ℕ) (b : Bool) → (ltb 1 n && b) ≡ true → not (eqb n 0) ≡ true
longer-some n b h = let l = ltb-true 1 n (and_left (ltb 1 n) b h) in rw (ne_eqb n 0 (omega arith))

-- what the walk's record hands on to later findings: the letter of the expected verse, and the starts that may stay unclosed
record Fit (table s t : List ℕ) (st : WalkState) : Type 0 where
  letter : letter_byte st.expected_verse.letter ≤ 127
  starts : AllOf (λ x. HasMessage table s t (error x milestone_mismatch unclosed_start)) st.open_starts

-- findings that all have their texts, and a record that goes on so
record Good (table s t : List ℕ) (w : Walked) : Type 0 where
  findings : AllOf (HasMessage table s t) w.findings
  state : Fit table s t w.state

module _ (table s t : List ℕ) where
  abbrev Has : Finding → Type 0
  Has = HasMessage table s t

  -- a node of the tape, with its entry in the table
  module _ (i : ℕ) (low : i < count t) (e : Option Entry) (entry : info_at table t i ≡ e) where
    abbrev x : Node
    x = node_at s t i

    abbrev label : List ℕ
    label = label_of e x.text

    -- a finding about it has its text if what the text shows is there; the text does not depend on the severity
    said : (code form first second : ℕ) → is_some (text_by (shown_of table s t (request_of (about x 0 code form first second)) e x) (code_of all_texts code) form) ≡ true → Has (about x 0 code form first second)
    unfolding message_text
    said code form first second h =
        let q = request_of (about x 0 code form first second) in
        is-some (message_text table s t q) (rw (lt-ltb i (count t) low) (subst (λ (o : Option Entry). is_some (text_by (shown_of table s t q o x) (code_of all_texts code) form) ≡ true) (sym entry) h))

    number-checks : numbered (kind_at t i) ≡ true → (chapter : Bool) → AllOf (WhenHeld Has) (number_form (pick chapter 0 1) e x)
    unfolding all_texts document_texts number_texts code_of form_of shown_of
    number-checks k chapter = (λ h. said 34 0 0 0 (rw (k, h)), (λ h. zeros chapter (longer-some (length label) _ h), tt))
      where
        zeros : (chapter : Bool) → not (eqb (length label) 0) ≡ true → Has (error x leading_zeros (pick chapter 0 1))
        zeros true h = said 15 0 0 0 (rw (k, h))
        zeros false h = said 15 1 0 0 (rw (k, h))

    chapter-checks : numbered (kind_at t i) ≡ true → (st : WalkState) → AllOf (WhenHeld Has) (chapter_checks e st x)
    unfolding all_texts document_texts number_texts code_of form_of shown_of
    chapter-checks k st =
        (λ h. said 18 0 0 0 refl, (λ h. said 10 0 x.link 0 refl, (λ h. said 9 0 st.expected_chapter x.link refl, number-checks k true)))

    verse-checks : numbered (kind_at t i) ≡ true → (o : WalkContext) (st : WalkState) → letter_byte st.expected_verse.letter ≤ 127 → AllOf (WhenHeld Has) (verse_checks e o st x)
    unfolding all_texts document_texts number_texts code_of form_of shown_of
    verse-checks k o st l =
        (λ h. said 12 0 0 0 refl, (λ h. said 20 0 0 0 refl, (λ h. said 19 0 0 0 refl, (λ h. sequence (breaks-some label st.expected_verse h), (λ h. unreadable (verse_part label) (and_left (not (eqb (length label) 0)) _ h), number-checks k false)))))
      where
        sequence : not (eqb (length label) 0) ≡ true → Has (about x warning_severity invalid_verse_sequence 0 st.expected_verse.number (letter_byte st.expected_verse.letter))
        sequence h = said 11 0 st.expected_verse.number (letter_byte st.expected_verse.letter) (rw (le-leb (letter_byte st.expected_verse.letter) 127 l, k, h))

        unreadable : (r : PartReading) → not (eqb (length label) 0) ≡ true → Has (warning x unreadable_verse_number (unread_form r))
        unreadable (position p) h = said 35 0 0 0 (rw (k, h))
        unreadable no_digits h = said 35 0 0 0 (rw (k, h))
        unreadable too_large h = said 35 1 0 0 (rw (k, h))

    text-said : Has (warning x text_before_id 0)
    unfolding all_texts document_texts code_of form_of shown_of
    text-said = said 7 0 0 0 refl

    cell-said : (expected found : ℕ) → Has (out_of_order x expected found)
    unfolding all_texts document_texts number_texts marker_texts code_of form_of shown_of
    cell-said expected found = said 27 0 expected found refl

    attribute-said : (owner : ℕ) → 1 ≤ owner → owner < count t → OfAttributes (λ k. Has (about x 0 k.code k.form (pick (eqb k.code 32) owner 0) 0))
    unfolding all_texts document_texts number_texts marker_texts attribute_texts code_of form_of shown_of
    attribute-said owner from below =
        record {
          empty-list = said 17 0 0 0 refl;
          key-alone = said 17 1 0 0 refl;
          empty-value = said 17 2 0 0 refl;
          not-ended = said 17 3 0 0 refl;
          not-quoted = said 22 0 0 0 refl;
          no-default = said 32 0 owner 0 (rw (ne_eqb owner 0 (omega arith), lt-ltb owner (count t) below));
        }

    milestone-said : 1 ≤ i → (is_start x || is_end x) ≡ true → Has (error x milestone_mismatch unclosed_start) × Has (error x milestone_mismatch end_alone)
    unfolding all_texts document_texts number_texts marker_texts code_of form_of shown_of
    milestone-said from h = (said 16 0 0 0 (rw (ne_eqb i 0 (omega arith), h)), said 16 1 0 0 (rw (ne_eqb i 0 (omega arith), h)))

  -- the entry that the walk finds is the one that a text shows
  entry-is : (i : ℕ) → info_at table t i ≡ entry_of table (node_at s t i)
  unfolding info_at
  entry-is i = refl

  -- the cells among the children of a node
  cell-all : (i : ℕ) → i < count t → (q : Option ColumnRange) (n : ℕ) (later : ℕ → List Finding) → ((m : ℕ) → AllOf Has (later m)) → AllOf Has (by_columns q (node_at s t i) n later)
  cell-all i l None n later h = h n
  cell-all i l (Some c) n later h =
      let differs = not (eqb c.start n) in
      let f = out_of_order (node_at s t i) n c.start in
      all_append Has (only differs f) (later (c.end + 1)) (all-only Has differs f (λ k. cell-said i l (info_at table t i) refl n c.start)) (h (c.end + 1))

  row-all : {d a b : ℕ} → Nested t d a b → b ≤ count t → (n : ℕ) → AllOf Has (row_from n (forest s t a b))
  unfolding row_from
  row-all {d} {a} {b} (done e) l n = rw (forest-done s t a b (omega arith)) tt
  row-all {d} {a} {b} (one h z r) l n =
      let k = nested-le r in
      rw (forest-leaf s t h z r) (cell-all a (omega arith) (cell_in (node_at s t a)) n (λ m. row_from m (forest s t (a + 1) b)) (λ m. row-all r l m))
  row-all {d} {a} {b} (inner h z c r) l n =
      let k = nested-le r in
      let j = nested-le c in
      rw (forest-node s t h z c r) (cell-all a (omega arith) (cell_in (node_at s t a)) n (λ m. row_from m (forest s t (link_at t a + 1) b)) (λ m. row-all r l m))

  -- the attributes among them
  at_all : (owner i : ℕ) (ks : List Kind) → AllOf (λ k. Has (about (node_at s t i) 0 k.code k.form (pick (eqb k.code 32) owner 0) 0)) ks → AllOf Has (findings_at (node_at s t i).start (node_at s t i).len i owner ks)
  unfolding findings_at
  at_all owner i [] h = tt
  at_all owner i (k ∷ ks) h = (h.0, at_all owner i ks h.1)

  attributes-all : {d a b : ℕ} → Nested t d a b → b ≤ count t → (owner : ℕ) → 1 ≤ owner → owner < count t → (marker : List ℕ) → AllOf Has (attributes_findings owner marker (forest s t a b))
  unfolding attributes_findings
  attributes-all {d} {a} {b} (done e) l owner from low marker = rw (forest-done s t a b (omega arith)) tt
  attributes-all {d} {a} {b} (one h z r) l owner from low marker =
      let x = node_at s t a in
      let k = nested-le r in
      let found = attribute_findings owner marker x in
      let kinds = all_kinds _ (attribute-said a (omega arith) (info_at table t a) refl owner from low) marker x.text in
      rw (forest-leaf s t h z r)
      (all_append Has (pick (eqb x.kind attribute_kind) found []) (attributes_findings owner marker (forest s t (a + 1) b)) (all-pick Has (eqb x.kind attribute_kind) found (at_all owner a (attribute_kinds marker x.text) kinds)) (attributes-all r l owner from low marker))
  attributes-all {d} {a} {b} (inner h z c r) l owner from low marker = rw (forest-node s t h z c r) (attributes-all r l owner from low marker)

  -- a leaf
  leaf-all : (o : WalkContext) (st : WalkState) (i : ℕ) → i < count t → Fit table s t st → AllOf Has (leaf_checked table o st (node_at s t i)).findings
  unfolding leaf_checked
  leaf-all o st i l fit = all-given Has _ (go (eqb (kind_at t i) chapter_kind) (eqb (kind_at t i) verse_kind) refl refl)
    where
      x : Node
      x = node_at s t i

      go : (b v : Bool) → eqb (kind_at t i) chapter_kind ≡ b → eqb (kind_at t i) verse_kind ≡ v → AllOf (WhenHeld Has) (pick b (chapter_checks (entry_of table x) st x) (pick v (verse_checks (entry_of table x) o st x) []))
      go true v p q = chapter-checks i l (entry_of table x) (entry-is i) (rw p) st
      go false true p q = verse-checks i l (entry_of table x) (entry-is i) (rw (p, q)) o st fit.letter
      go false false p q = tt

  leaf-fit : (o : WalkContext) (st : WalkState) (x : Node) → Fit table s t st → Fit table s t (leaf_checked table o st x).state
  unfolding leaf_checked after_chapter after_verse
  leaf-fit o st x fit = go (eqb x.kind chapter_kind) (eqb x.kind verse_kind)
    where
      go : (b v : Bool) → Fit table s t (pick b (after_chapter st x) (pick v (after_verse (entry_of table x) o st x) st))
      go true v = record { letter = omega arith; starts = fit.starts }
      go false true = record { letter = next_low (label_of (entry_of table x) x.text) st.expected_verse fit.letter; starts = fit.starts }
      go false false = fit

  -- an open node with its entry
  module _ (i : ℕ) (from : 1 ≤ i) (low : i < count t) (opens : is_open (kind_at t i) ≡ true) (e : Entry) (entry : entry_of table (node_at s t i) ≡ Some e) where
    abbrev y : Node
    y = node_at s t i

    abbrev below : Forest
    below = forest s t (i + 1) (link_at t i)

    known : info_at table t i ≡ Some e
    known = entry-is i ∙ entry

    open-checks : (name : List ℕ) (o : WalkContext) (a : Option Anchor) (st st₁ : WalkState) (f : Forest) → AllOf (WhenHeld Has) (id_checks (equal name id_name) st (book_code below) y ++ place_checks name e o a st₁ y below f ++ content_checks name y below)
    unfolding all_texts document_texts number_texts marker_texts code_of form_of shown_of
    open-checks name o a st st₁ f =
        (λ h. said_here 6 0 refl, (book (is_book (upper code)), (λ h. said_here 13 0 refl, (λ h. said_here 14 0 refl, (λ h. said_here 24 0 refl, (number, (λ h. said_here 21 0 refl, (λ h. said_here 25 0 refl, (λ h. said_here 23 0 refl, tt)))))))))
      where
        code : List ℕ
        code = book_code below

        written : List ℕ
        written = name_of y.text

        said_here : (n form : ℕ) → is_some (text_by (shown_of table s t (request_of (about y 0 n form 0 0)) (Some e) y) (code_of all_texts n) form) ≡ true → Has (about y 0 n form 0 0)
        said_here n form h = said i low (Some e) known n form 0 0 h

        -- both forms show the code
        book : (b : Bool) → (equal name id_name && (not (eqb (length code) 0) && not (is_book code))) ≡ true → Has (warning y invalid_book_code (pick b 0 1))
        book true h = said_here 5 0 (rw (opens, middle (equal name id_name) (not (eqb (length code) 0)) (not (is_book code)) h))
        book false h = said_here 5 1 (rw (opens, middle (equal name id_name) (not (eqb (length code) 0)) (not (is_book code)) h))

        number : (one_of number_markers name && (one_of number_markers written && not (attached_to a f y.start))) ≡ true → Has (warning y misplaced_number_marker 0)
        number h = said_here 33 0 (rw (ne_eqb i 0 (omega arith), middle (one_of number_markers name) (one_of number_markers written) (not (attached_to a f y.start)) h))

    milestone-checks : (st : WalkState) → AllOf (WhenHeld Has) (milestone_checks e st y)
    milestone-checks st =
        (λ h. (milestone-said i low (Some e) known from (and_right (eqb e.category milestone_category) (is_start y || is_end y) (and_left (is_milestone e y) (not (is_start y) && not (waits y st.open_starts)) h))).1, tt)

    open-all : {d : ℕ} → Nested t d (i + 1) (link_at t i) → link_at t i ≤ count t → (o : WalkContext) (a : Option Anchor) (st : WalkState) (f : Forest) → AllOf Has (open_checked table o a st e y below f).findings
    unfolding open_checked_by
    open-all n l o a st f =
        let name = cut e.name table in
        let st₁ = after_id (equal name id_name) st below in
        let checks = id_checks (equal name id_name) st (book_code below) y ++ place_checks name e o a st₁ y below f ++ content_checks name y below in
        let row = pick (equal name tr_name) (row_findings below) [] in
        let attributes = attributes_findings i (name_of y.text) below in
        all_append Has (given checks ++ row ++ attributes) (given (milestone_checks e st₁ y))
        (all_append Has (given checks ++ row) attributes (all_append Has (given checks) row (all-given Has checks (open-checks name o a st st₁ f)) (all-pick Has (equal name tr_name) (row_findings below) (row-all n l 1))) (attributes-all n l i from low (name_of y.text)))
        (all-given Has (milestone_checks e st₁ y) (milestone-checks st₁))

    open-fit : (o : WalkContext) (a : Option Anchor) (st : WalkState) (c f : Forest) → Fit table s t st → Fit table s t (open_checked table o a st e y c f).state
    unfolding open_checked_by after_milestone_by after_id
    open-fit o a st c f fit = record { letter = fit.letter; starts = go (is_milestone e y) (is_start y) refl }
      where
        Unclosed : Node → Type 0
        Unclosed z = Has (error z milestone_mismatch unclosed_start)

        go : (m b : Bool) → is_start y ≡ b → AllOf Unclosed (pick m (starts_after b y st.open_starts) st.open_starts)
        go true true p = ((milestone-said i low (Some e) known from (rw p)).0, fit.starts)
        go true false p = all_without pairing Unclosed y st.open_starts fit.starts
        go false b p = fit.starts

  good-before : (fs : List Finding) (w : Walked) → AllOf Has fs → Good table s t w → Good table s t (with_findings fs w)
  good-before fs w h g = record { findings = all_append Has fs w.findings h g.findings; state = g.state }

  walk-all : {d a b : ℕ} → Nested t d a b → 1 ≤ a → b ≤ count t → (o : WalkContext) (p : Option Anchor) (st : WalkState) → Fit table s t st → Good table s t (walk table o p (forest s t a b) st)
  unfolding walk_by
  walk-all {d} {a} {b} (done e) from l o p st fit = rw (forest-done s t a b (omega arith)) (record { findings = tt; state = fit })
  walk-all {d} {a} {b} (one h z r) from l o p st fit =
      let x = node_at s t a in
      let k = nested-le r in
      let visited = leaf_checked table o st x in
      rw (forest-leaf s t h z r)
      (good-before visited.findings (walk table o (leaf_anchor p x) (forest s t (a + 1) b) visited.state) (leaf-all o st a (omega arith) fit) (walk-all r (omega arith) l o (leaf_anchor p x) visited.state (leaf-fit o st x fit)))
  walk-all {d} {a} {b} (inner h z c r) from l o p st fit =
      let k = nested-le r in
      let j = nested-le c in
      rw (forest-node s t h z c r)
      (go (entry_of table (node_at s t a)) refl (omega arith) (omega arith) (λ q st₁ f. walk-all c (omega arith) (omega arith) q None st₁ f) (λ st₁ f. walk-all r (omega arith) l o _ st₁ f))
    where
      x : Node
      x = node_at s t a

      children : Forest
      children = forest s t (a + 1) (link_at t a)

      rest : Forest
      rest = forest s t (link_at t a + 1) b

      passed : Option Anchor
      passed = past p (node x children end)

      go : (q : Option Entry) → entry_of table x ≡ q → a < count t → link_at t a ≤ count t
          → ((q : WalkContext) (st₁ : WalkState) → Fit table s t st₁ → Good table s t (walk table q None children st₁))
          → ((st₁ : WalkState) → Fit table s t st₁ → Good table s t (walk table o passed rest st₁))
          → Good table s t (by_entry q (walk table o passed rest st) (λ e. after_node (open_checked table o p st e x children (node x children rest)) (λ st₁. then_walk (walk table (inside o e) None children st₁) (walk table o passed rest))))
      go None e low m below later = later st fit
      go (Some e) entry low m below later =
          let visited = open_checked table o p st e x children (node x children rest) in
          let w = walk table (inside o e) None children visited.state in
          let v = walk table o passed rest w.state in
          let g = below (inside o e) visited.state (open-fit a from low h e entry o p st children (node x children rest) fit) in
          good-before visited.findings (with_findings w.findings v) (open-all a from low h e entry c m o p st (node x children rest)) (good-before w.findings v g.findings (later w.state g.state))

  -- text before the book, and the closing findings
  text-all : {d a b : ℕ} → Nested t d a b → b ≤ count t → AllOf Has (text_before (forest s t a b))
  unfolding text_before
  text-all {d} {a} {b} (done e) l = rw (forest-done s t a b (omega arith)) tt
  text-all {d} {a} {b} (one h z r) l =
      let x = node_at s t a in
      let k = nested-le r in
      let inside : a < count t = omega arith in
      rw (forest-leaf s t h z r) (all-only Has (eqb x.kind text_kind && not (blank_text x.text)) (warning x text_before_id 0) (λ q. text-said a inside (info_at table t a) refl))
  text-all {d} {a} {b} (inner h z c r) l = rw (forest-node s t h z c r) tt

  unclosed-all : (xs : List Node) → AllOf (λ x. Has (error x milestone_mismatch unclosed_start)) xs → AllOf Has (unclosed xs)
  unfolding unclosed
  unclosed-all [] h = tt
  unclosed-all (x ∷ xs) h = all_append Has (unclosed xs) (error x milestone_mismatch unclosed_start ∷ []) (unclosed-all xs h.1) (h.0, tt)

  closing-all : 0 < count t → (st : WalkState) → Fit table s t st → AllOf Has (closing st)
  unfolding closing all_texts document_texts code_of form_of shown_of
  closing-all l st fit =
      all_append Has (unclosed st.open_starts) (given _) (unclosed-all st.open_starts fit.starts)
      (all-given Has _ (λ h. said 0 l (info_at table t 0) refl 4 0 0 0 refl, (λ h. said 0 l (info_at table t 0) refl 8 0 0 0 refl, tt)))

-- each finding of a checked document has its text
pub finding-has-message : (l : Lent) → refusal l ≡ None → AllOf (HasMessage l.table l.source l.tape) (list_of l)
finding-has-message l e =
    let table = l.table in
    let s = l.source in
    let t = l.tape in
    let run = run-top s t (checked-accepted l e) in
    let f = top s t in
    let g = walk-all table s t run.nested (omega arith) run.inside outside None initial (record { letter = omega arith; starts = tt }) in
    all_append (HasMessage table s t) (running table f) (closing (walked table f).state)
    (all_append (HasMessage table s t) (text_before f) (walked table f).findings (text-all table s t run.nested run.inside) g.findings)
    (closing-all table s t (omega (arith, nested-le run.nested, run.inside)) (walked table f).state g.state)
