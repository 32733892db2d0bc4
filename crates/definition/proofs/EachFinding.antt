-- What holds of every severity and code that a check of a node gives, of UnreadableVerseNumber, and of the two forms of a milestone's finding, holds of every finding of a document.
-- Assumes nothing.
use Prim.Native.Nat.{ℕ, zero, suc, ◌+◌}
use mathlib.Core.Path.{◌≡◌, refl}
use mathlib.Core.Bool.{Bool, true, false, not, false≢true, ◌&&◌, ◌||◌}
use mathlib.Core.List.{List, [], ◌∷◌, ◌++◌}
use Rattle.std.specs.Prelude.{Option, Some, None}
use lib.Dec.{eqb}
use borrow.Author.Tests.{eqb-true}
use Rattle.text.specs.Pick.{cut, pick, AllOf}
use Rattle.text.proofs.Every.{all_append}
use Rattle.attributes.proofs.EachKind.{all_kinds}
use Rattle.text.specs.Bytes.{equal, all}
use Rattle.text.specs.Words.{blank_text}
use Rattle.text.proofs.Bool.{and_left, and_right}
use Rattle.tape.specs.Nodes.{Node, chapter_kind, verse_kind, text_kind, attribute_kind}
use Rattle.tape.specs.Forest.{Forest, end, leaf, node}
use Rattle.table.specs.Entries.{Entry}
use Rattle.cursor.specs.Names.{name_of}
use Rattle.findings.specs.Finding.{Finding, Kind, error_severity, warning_severity, info_severity}
use Rattle.findings.specs.Codes as codes
use Rattle.findings.specs.Written.{only}
use Rattle.attachment.specs.Attached.{among}
use Rattle.attributes.specs.Attributes.{attribute_kinds, findings_at, attribute_findings, attributes_findings}
use Rattle.rows.specs.Cells.{ColumnRange}
use Rattle.rows.specs.Row.{cell_in, out_of_order, by_columns, row_from, row_findings}
use Rattle.definition.specs.State.{Milestone, milestone_of, node_of, WalkState, WalkContext, Anchor, past, initial, outside}
use Rattle.definition.specs.Checks.{error, warning, Check, when, given, entry_of, chapter_checks, verse_checks, leaf_checked, book_code, id_name, tr_name, id_checks, after_id, place_checks, content_checks}
use Rattle.definition.specs.Milestones.{Fits, pairing, milestone_checks_by}
use Rattle.definition.specs.Walk.{leaf_anchor, open_checked_by, open_checked, inside, after_node, then_walk, by_entry, walk_by, walk}
use Rattle.definition.specs.Document.{text_before, of_document, unclosed, closing, walked, running, findings}

-- the codes of the errors, the warnings and the infos, but for MilestoneMismatch and UnreadableVerseNumber
unfoldable pub codes_of : ℕ → List ℕ
codes_of zero =
    codes.missing_id_marker
    ∷ codes.duplicate_id
    ∷ codes.missing_chapter_marker
    ∷ codes.note_submarker_outside_note
    ∷ codes.non_empty_blank_line
    ∷ codes.leading_zeros
    ∷ codes.invalid_attributes
    ∷ codes.missing_chapter_number
    ∷ codes.missing_verse_number
    ∷ codes.char_crosses_verse_boundary
    ∷ codes.empty_figure
    ∷ codes.unquoted_attribute_value
    ∷ codes.missing_required_attribute
    ∷ codes.body_paragraph_before_chapter
    ∷ codes.empty_word_marker
    ∷ codes.invalid_table_column_sequence
    ∷ codes.default_attribute_not_defined
    ∷ []
codes_of (suc zero) =
    codes.invalid_book_code
    ∷ codes.text_before_id
    ∷ codes.invalid_chapter_sequence
    ∷ codes.duplicate_chapter
    ∷ codes.invalid_verse_sequence
    ∷ codes.verse_outside_paragraph
    ∷ codes.misplaced_number_marker
    ∷ codes.missing_space_before_number
    ∷ []
codes_of (suc (suc zero)) = codes.invalid_attributes ∷ []
codes_of (suc (suc (suc n))) = []

abbrev pub is_given : ℕ → ℕ → Bool
is_given severity code = among code (codes_of severity)

-- a test that all numbers of a list pass
pub among-all : (p : ℕ → Bool) (n : ℕ) (xs : List ℕ) → all p xs ≡ true → among n xs ≡ true → p n ≡ true
unfolding among all
among-all p n [] h k = absurd (false≢true k)
among-all p n (x ∷ xs) h k = test (eqb x n) refl k (λ l. among-all p n xs (and_right (p x) (all p xs) h) l)
  where
    test : (b : Bool) → eqb x n ≡ b → (b || among n xs) ≡ true → (among n xs ≡ true → p n ≡ true) → p n ≡ true
    test true e l later = rw (eqb-true x n e) at (and_left (p x) (all p xs) h)
    test false e l later = later l

-- a test that all of them pass
pub given-passes : (p : ℕ → Bool) → all p (codes_of 0) ≡ true → all p (codes_of 1) ≡ true → all p (codes_of 2) ≡ true → (severity code : ℕ) → is_given severity code ≡ true → p code ≡ true
unfolding codes_of all
given-passes p h₀ h₁ h₂ zero code k = among-all p code (codes_of 0) h₀ k
given-passes p h₀ h₁ h₂ (suc zero) code k = among-all p code (codes_of 1) h₁ k
given-passes p h₀ h₁ h₂ (suc (suc zero)) code k = among-all p code (codes_of 2) h₂ k
given-passes p h₀ h₁ h₂ (suc (suc (suc n))) code k = among-all p code [] refl k

-- MilestoneMismatch is none of them
pub given-other : (severity code form : ℕ) → is_given severity code ≡ true → eqb code codes.milestone_mismatch ≡ false
unfolding codes_of all
given-other severity code form h = test (eqb code codes.milestone_mismatch) (given-passes (λ (c : ℕ). not (eqb c codes.milestone_mismatch)) refl refl refl severity code h)
  where
    test : (b : Bool) → not b ≡ true → b ≡ false
    test true e = absurd (false≢true e)
    test false e = refl

-- P holds of the severity, the code and the form of every finding; likewise of every kind, and of the finding of every check
abbrev pub EachFinding : (ℕ → ℕ → ℕ → Type 0) → List Finding → Type 0
EachFinding P fs = AllOf (λ (f : Finding). P f.severity f.code f.form) fs

abbrev EachKind : (ℕ → ℕ → ℕ → Type 0) → List Kind → Type 0
EachKind P ks = AllOf (λ (k : Kind). P k.severity k.code k.form) ks

abbrev EachCheck : (ℕ → ℕ → ℕ → Type 0) → List Check → Type 0
EachCheck P cs = AllOf (λ (c : Check). P c.finding.severity c.finding.code c.finding.form) cs

-- the findings of a marker before its milestone's
abbrev pub own_findings : List ℕ → Entry → WalkContext → Option Anchor → WalkState → WalkState → Node → Forest → Forest → List Finding
own_findings name e o a st st₁ x c f =
    given (id_checks (equal name id_name) st (book_code c) x ++ place_checks name e o a st₁ x c f ++ content_checks name x c)
    ++ pick (equal name tr_name) (row_findings c) []
    ++ attributes_findings x.number (name_of x.text) c

module _ (P : ℕ → ℕ → ℕ → Type 0) where
  each_append : (fs gs : List Finding) → EachFinding P fs → EachFinding P gs → EachFinding P (fs ++ gs)
  each_append fs gs p q = all_append (λ (f : Finding). P f.severity f.code f.form) fs gs p q

  each-only : (b : Bool) (f : Finding) → P f.severity f.code f.form → EachFinding P (only b f)
  each-only true f h = (h, tt)
  each-only false f h = tt

  each-pick : (b : Bool) (fs : List Finding) → EachFinding P fs → EachFinding P (pick b fs [])
  each-pick true fs p = p
  each-pick false fs p = tt

  each-given : (cs : List Check) → EachCheck P cs → EachFinding P (given cs)
  unfolding given
  each-given [] h = tt
  each-given (c ∷ cs) h = each_append (only c.holds c.finding) (given cs) (each-only c.holds c.finding h.0) (each-given cs h.1)

  each_at : (start len number owner : ℕ) (ks : List Kind) → EachKind P ks → EachFinding P (findings_at start len number owner ks)
  unfolding findings_at
  each_at start len number owner [] k = tt
  each_at start len number owner (j ∷ ks) k = (k.0, each_at start len number owner ks k.1)

  module _ (h : (severity code form : ℕ) → is_given severity code ≡ true → P severity code form) where
    each-cell : (q : Option ColumnRange) (x : Node) (e : ℕ) (later : ℕ → List Finding) → ((n : ℕ) → EachFinding P (later n)) → EachFinding P (by_columns q x e later)
    unfolding codes_of among
    each-cell None x e later k = k e
    each-cell (Some c) x e later k =
        each_append (only (not (eqb c.start e)) (out_of_order x e c.start)) (later (c.end + 1)) (each-only (not (eqb c.start e)) (out_of_order x e c.start) (h error_severity codes.invalid_table_column_sequence 0 refl)) (k (c.end + 1))

    each_row : (e : ℕ) (f : Forest) → EachFinding P (row_from e f)
    unfolding row_from
    each_row e end = tt
    each_row e (leaf x r) = each-cell (cell_in x) x e (λ n. row_from n r) (λ n. each_row n r)
    each_row e (node x c r) = each-cell (cell_in x) x e (λ n. row_from n r) (λ n. each_row n r)

    each-kind : (marker text : List ℕ) → EachKind P (attribute_kinds marker text)
    unfolding codes_of among
    each-kind marker text =
        all_kinds (λ (k : Kind). P k.severity k.code k.form)
        (record {
          empty-list = h error_severity codes.invalid_attributes _ refl;
          key-alone = h error_severity codes.invalid_attributes _ refl;
          empty-value = h info_severity codes.invalid_attributes _ refl;
          not-ended = h error_severity codes.invalid_attributes _ refl;
          not-quoted = h error_severity codes.unquoted_attribute_value _ refl;
          no-default = h error_severity codes.default_attribute_not_defined _ refl;
        })
        marker text

    each-attributes : (owner : ℕ) (marker : List ℕ) (f : Forest) → EachFinding P (attributes_findings owner marker f)
    unfolding attributes_findings
    each-attributes owner marker end = tt
    each-attributes owner marker (leaf x r) =
        each_append (pick (eqb x.kind attribute_kind) (attribute_findings owner marker x) []) (attributes_findings owner marker r)
        (each-pick (eqb x.kind attribute_kind) (attribute_findings owner marker x) (each_at x.start x.len x.number owner (attribute_kinds marker x.text) (each-kind marker x.text)))
        (each-attributes owner marker r)
    each-attributes owner marker (node x c r) = each-attributes owner marker r

    pub each-leaf : ((form : ℕ) → P warning_severity codes.unreadable_verse_number form) → (table : List ℕ) (o : WalkContext) (st : WalkState) (x : Node) → EachFinding P (leaf_checked table o st x).findings
    unfolding leaf_checked codes_of among
    each-leaf unread table o st x = each-given _ (test (eqb x.kind chapter_kind) (eqb x.kind verse_kind))
      where
        test : (b v : Bool) → EachCheck P (pick b (chapter_checks (entry_of table x) st x) (pick v (verse_checks (entry_of table x) o st x) []))
        test true v = (h 0 _ _ refl, (h 1 _ _ refl, (h 1 _ _ refl, (h 1 _ _ refl, (h 0 _ _ refl, tt)))))
        test false true = (h 1 _ _ refl, (h 0 _ _ refl, (h 0 _ _ refl, (h 1 _ _ refl, (unread _, (h 1 _ _ refl, (h 0 _ _ refl, tt)))))))
        test false false = tt

    -- the checks of a marker but its milestone's
    each-check : (named : Bool) (name code : List ℕ) (e : Entry) (o : WalkContext) (a : Option Anchor) (st st₁ : WalkState) (x : Node) (c f : Forest) → EachCheck P (id_checks named st code x ++ place_checks name e o a st₁ x c f ++ content_checks name x c)
    unfolding codes_of among
    each-check named name code e o a st st₁ x c f =
        (h 0 _ _ refl, (h 1 _ _ refl, (h 0 _ _ refl, (h 0 _ _ refl, (h 0 _ _ refl, (h 1 _ _ refl, (h 0 _ _ refl, (h 0 _ _ refl, (h 0 _ _ refl, tt)))))))))

    pub each-text : (f : Forest) → EachFinding P (text_before f)
    unfolding text_before codes_of among
    each-text end = tt
    each-text (leaf x r) = each-only (eqb x.kind text_kind && not (blank_text x.text)) (warning x codes.text_before_id 0) (h 1 _ _ refl)
    each-text (node x c r) = tt

    -- MissingIdMarker, MissingChapterMarker
    pub each-missing : (b v : Bool) → EachFinding P (given (when b (of_document codes.missing_id_marker) ∷ when v (of_document codes.missing_chapter_marker) ∷ []))
    unfolding codes_of among
    each-missing b v = each-given (when b (of_document codes.missing_id_marker) ∷ when v (of_document codes.missing_chapter_marker) ∷ []) (h 0 _ _ refl, (h 0 _ _ refl, tt))

    pub each-own : (name : List ℕ) (e : Entry) (o : WalkContext) (a : Option Anchor) (st st₁ : WalkState) (x : Node) (c f : Forest) → EachFinding P (own_findings name e o a st st₁ x c f)
    each-own name e o a st st₁ x c f =
        let checks = id_checks (equal name id_name) st (book_code c) x ++ place_checks name e o a st₁ x c f ++ content_checks name x c in
        let row = pick (equal name tr_name) (row_findings c) [] in
        each_append (given checks ++ row) (attributes_findings x.number (name_of x.text) c)
        (each_append (given checks) row (each-given checks (each-check (equal name id_name) name (book_code c) e o a st st₁ x c f)) (each-pick (equal name tr_name) (row_findings c) (each_row 1 c)))
        (each-attributes x.number (name_of x.text) c)

    pub each-open : P error_severity codes.milestone_mismatch codes.end_alone → (fits : Fits) (table : List ℕ) (o : WalkContext) (a : Option Anchor) (st : WalkState) (e : Entry) (x : Node) (c f : Forest) → EachFinding P (open_checked_by fits table o a st e x c f).findings
    unfolding open_checked_by
    each-open alone fits table o a st e x c f =
        let name = cut e.name table in
        let st₁ = after_id (equal name id_name) st c in
        each_append (own_findings name e o a st st₁ x c f) (given (milestone_checks_by fits e st₁ (milestone_of x c))) (each-own name e o a st st₁ x c f) (each-given (milestone_checks_by fits e st₁ (milestone_of x c)) (alone, tt))

    module _ (start : P error_severity codes.milestone_mismatch codes.unclosed_start) where
      each-unclosed : (xs : List Milestone) → EachFinding P (unclosed xs)
      unfolding unclosed
      each-unclosed [] = tt
      each-unclosed (x ∷ xs) = each_append (unclosed xs) (error (node_of x) codes.milestone_mismatch codes.unclosed_start ∷ []) (each-unclosed xs) (start, tt)

      pub each-closing : (st : WalkState) → EachFinding P (closing st)
      unfolding closing
      each-closing st = each_append (unclosed st.open_starts) (given _) (each-unclosed st.open_starts) (each-missing _ _)

    module _ (unread : (form : ℕ) → P warning_severity codes.unreadable_verse_number form) (alone : P error_severity codes.milestone_mismatch codes.end_alone) where
      pub each-walk : (table : List ℕ) (o : WalkContext) (a : Option Anchor) (f : Forest) (st : WalkState) → EachFinding P (walk table o a f st).findings
      unfolding walk_by
      each-walk table o a end st = tt
      each-walk table o a (leaf x r) st =
          each_append (leaf_checked table o st x).findings (walk table o (leaf_anchor a x) r (leaf_checked table o st x).state).findings (each-leaf unread table o st x) (each-walk table o (leaf_anchor a x) r (leaf_checked table o st x).state)
      each-walk table o a (node x c r) st = test (entry_of table x) (λ p s. each-walk table p None c s) (λ s. each-walk table o (past a (node x c end)) r s)
        where
          test : (q : Option Entry) → ((p : WalkContext) (s : WalkState) → EachFinding P (walk table p None c s).findings) → ((s : WalkState) → EachFinding P (walk table o (past a (node x c end)) r s).findings) → EachFinding P (by_entry q (walk table o (past a (node x c end)) r st) (λ e. after_node (open_checked table o a st e x c (node x c r)) (λ st₁. then_walk (walk table (inside o e) None c st₁) (walk table o (past a (node x c end)) r)))).findings
          test None below later = later st
          test (Some e) below later =
              let t = open_checked table o a st e x c (node x c r) in
              let w = walk table (inside o e) None c t.state in
              each_append t.findings (w.findings ++ (walk table o (past a (node x c end)) r w.state).findings) (each-open alone pairing table o a st e x c (node x c r))
              (each_append w.findings (walk table o (past a (node x c end)) r w.state).findings (below (inside o e) t.state) (later w.state))

      pub each-running : (table : List ℕ) (f : Forest) → EachFinding P (running table f)
      each-running table f = each_append (text_before f) (walked table f).findings (each-text f) (each-walk table outside None f initial)

      -- the whole list
      pub each-finding : P error_severity codes.milestone_mismatch codes.unclosed_start → (table : List ℕ) (f : Forest) → EachFinding P (findings table f)
      each-finding start table f = each_append (running table f) (closing (walked table f).state) (each-running table f) (each-closing start (walked table f).state)
