-- The findings of a document without UnreadableVerseNumber are those of document 01's rules.
-- Assumes nothing.
use Prim.Native.Nat.{ℕ}
use mathlib.Core.Path.{◌≡◌, refl, sym, ap, ap₂, ◌∙◌}
use mathlib.Core.Bool.{Bool, true, false, not, ◌&&◌}
use mathlib.Core.List.{List, [], ◌∷◌, ◌++◌}
use Rattle.std.specs.Prelude.{Option, Some, None}
use lib.Dec.{eqb}
use Rattle.text.specs.Pick.{pick, AllOf}
use Rattle.text.specs.Bytes.{all}
use Rattle.tape.specs.Nodes.{Node, chapter_kind, verse_kind}
use Rattle.tape.specs.Forest.{Forest, end, leaf, node}
use Rattle.table.specs.Entries.{Entry}
use Rattle.findings.specs.Finding.{Finding, warning_severity}
use Rattle.findings.specs.Codes.{verse_outside_paragraph, char_crosses_verse_boundary, missing_verse_number, invalid_verse_sequence, unreadable_verse_number, verse_form}
use Rattle.findings.specs.Written.{only}
use Rattle.numbers.specs.Label.{label_of}
use Rattle.numbers.specs.Verse.{verse_part}
use Rattle.definition.specs.State.{WalkState, initial, WalkContext, outside, Anchor, past}
use Rattle.definition.specs.Checks.{about, error, warning, entry_of, Check, when, given, is_empty, breaks, letter_byte, number_form, chapter_checks, verse_checks, leaf_checked}
use Rattle.definition.specs.Milestones.{Fits, pairing}
use Rattle.definition.specs.Walk.{Walked, leaf_anchor, open_checked_by, inside, after_node, then_walk, by_entry, walk_by}
use Rattle.definition.specs.Document.{text_before, closing, walked_by, running_by, findings_by, findings, those}
use Rattle.definition.specs.Base.{base_verse_checks, base_leaf, base_walk_by, base_findings_by, base_findings, is_readable}
use Rattle.definition.proofs.EachFinding.{codes_of, is_given, given-passes, each-text, each-open, each-closing}
use Rattle.definition.proofs.Givens.{given-append}
use Rattle.definition.proofs.Those.{those-append, those-all}

abbrev Other : ℕ → ℕ → ℕ → Type 0
Other severity code form = not (eqb code unreadable_verse_number) ≡ true

others : (severity code form : ℕ) → is_given severity code ≡ true → Other severity code form
unfolding codes_of all
others severity code form h = given-passes (λ (c : ℕ). not (eqb c unreadable_verse_number)) refl refl refl severity code h

-- checks of other codes give nothing that is left out, and a check of this code gives nothing else
kept : (cs : List Check) → AllOf (λ (c : Check). is_readable c.finding ≡ true) cs → those is_readable (given cs) ≡ given cs
unfolding given those
kept [] h = refl
kept (c ∷ cs) h = those-append is_readable (only c.holds c.finding) (given cs) ∙ ap₂ ◌++◌ (one c.holds) (kept cs h.1)
  where
    one : (b : Bool) → those is_readable (only b c.finding) ≡ only b c.finding
    one true = rw h.0
    one false = refl

left_out : (b : Bool) (f : Finding) (cs : List Check) → is_readable f ≡ false → AllOf (λ (c : Check). is_readable c.finding ≡ true) cs → those is_readable (given (when b f ∷ cs)) ≡ given cs
unfolding given those
left_out true f cs e h = rw e (kept cs h)
left_out false f cs e h = kept cs h

leaf-without : (table : List ℕ) (o : WalkContext) (st : WalkState) (x : Node) → those is_readable (leaf_checked table o st x).findings ≡ (base_leaf table o st x).findings
unfolding leaf_checked base_leaf
leaf-without table o st x = go (eqb x.kind chapter_kind) (eqb x.kind verse_kind)
  where
    e : Option Entry
    e = entry_of table x

    form : List Check
    form = number_form verse_form e x

    first : List Check
    first =
        when (not o.in_body_para && not st.verse_outside_warned) (warning x verse_outside_paragraph 0)
        ∷ when o.in_char (error x char_crosses_verse_boundary 0)
        ∷ when (is_empty (label_of e x.text)) (error x missing_verse_number 0)
        ∷ when (breaks (verse_part (label_of e x.text)) st.expected_verse) (about x warning_severity invalid_verse_sequence 0 st.expected_verse.number (letter_byte st.expected_verse.letter))
        ∷ []

    verse : (b : Bool) (n : ℕ) → those is_readable (given (first ++ when b (warning x unreadable_verse_number n) ∷ form)) ≡ given (first ++ form)
    verse b n =
        ap (those is_readable) (given-append first (when b (warning x unreadable_verse_number n) ∷ form))
        ∙ those-append is_readable (given first) (given (when b (warning x unreadable_verse_number n) ∷ form))
        ∙ ap₂ ◌++◌ (kept first (refl, (refl, (refl, (refl, tt))))) (left_out b (warning x unreadable_verse_number n) form refl (refl, (refl, tt)))
        ∙ sym (given-append first form)

    go : (b v : Bool) → those is_readable (given (pick b (chapter_checks e st x) (pick v (verse_checks e o st x) []))) ≡ given (pick b (chapter_checks e st x) (pick v (base_verse_checks e o st x) []))
    go true v = kept (chapter_checks e st x) (refl, (refl, (refl, (refl, (refl, tt)))))
    go false true = verse _ _
    go false false = kept [] tt

-- a walk, and the walk by document 01's rules
record Without (w v : Walked) : Type 0 where
  findings : those is_readable w.findings ≡ v.findings
  state : w.state ≡ v.state

module _ (fits : Fits) where
  walk-without : (table : List ℕ) (o : WalkContext) (a : Option Anchor) (f : Forest) (st : WalkState) → Without (walk_by fits table o a f st) (base_walk_by fits table o a f st)
  unfolding walk_by base_walk_by base_leaf those
  walk-without table o a end st = record { findings = refl; state = refl }
  walk-without table o a (leaf x r) st =
      let t = leaf_checked table o st x in
      let later = walk-without table o (leaf_anchor a x) r t.state in
      record {
        findings = those-append is_readable t.findings _ ∙ ap₂ ◌++◌ (leaf-without table o st x) later.findings;
        state = later.state;
      }
  walk-without table o a (node x c r) st = go (entry_of table x) (λ p s. walk-without table p None c s) (λ s. walk-without table o (past a (node x c end)) r s)
    where
      go : (q : Option Entry)
          → ((p : WalkContext) (s : WalkState) → Without (walk_by fits table p None c s) (base_walk_by fits table p None c s))
          → ((s : WalkState) → Without (walk_by fits table o (past a (node x c end)) r s) (base_walk_by fits table o (past a (node x c end)) r s))
          → Without (by_entry q (walk_by fits table o (past a (node x c end)) r st) (λ e. after_node (open_checked_by fits table o a st e x c (node x c r)) (λ st₁. then_walk (walk_by fits table (inside o e) None c st₁) (walk_by fits table o (past a (node x c end)) r))))
          (by_entry q (base_walk_by fits table o (past a (node x c end)) r st) (λ e. after_node (open_checked_by fits table o a st e x c (node x c r)) (λ st₁. then_walk (base_walk_by fits table (inside o e) None c st₁) (base_walk_by fits table o (past a (node x c end)) r))))
      go None below later = later st
      go (Some e) below later =
          let t = open_checked_by fits table o a st e x c (node x c r) in
          let w = walk_by fits table (inside o e) None c t.state in
          let own = those-all is_readable t.findings (each-open Other others refl fits table o a st e x c (node x c r)) in
          let b = below (inside o e) t.state in
          let l : Without (walk_by fits table o (past a (node x c end)) r w.state) (base_walk_by fits table o (past a (node x c end)) r (base_walk_by fits table (inside o e) None c t.state).state) = rw (← b.state) (later w.state) in
          record {
            findings = those-append is_readable t.findings _ ∙ ap₂ ◌++◌ own (those-append is_readable w.findings _ ∙ ap₂ ◌++◌ b.findings l.findings);
            state = l.state;
          }

  pub without-unreadable-by : (table : List ℕ) (f : Forest) → those is_readable (findings_by fits table f) ≡ base_findings_by fits table f
  without-unreadable-by table f =
      let w = walk-without table outside None f initial in
      those-append is_readable (running_by fits table f) (closing (walked_by fits table f).state)
      ∙ ap₂ ◌++◌
      (those-append is_readable (text_before f) (walked_by fits table f).findings ∙ ap₂ ◌++◌ (those-all is_readable (text_before f) (each-text Other others f)) w.findings)
      (those-all is_readable (closing (walked_by fits table f).state) (each-closing Other others refl (walked_by fits table f).state) ∙ ap closing w.state)

pub without-unreadable : (table : List ℕ) (f : Forest) → those is_readable (findings table f) ≡ base_findings table f
without-unreadable table f = without-unreadable-by pairing table f
