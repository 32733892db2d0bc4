-- The checks of a Chapter and of a Verse by name, and their conditions as the code finds them.
-- Assumes nothing.
use Prim.Native.Nat.{ℕ, ◌-◌}
use mathlib.Core.Path.{◌≡◌, ap, ◌∙◌}
use mathlib.Core.Bool.{Bool, not, ◌&&◌}
use mathlib.Core.List.{List}
use Rattle.std.specs.Prelude.{Option}
use lib.Dec.{eqb, ltb}
use lib.ListN.{length, get_or, take, drop}
use Rattle.tape.specs.Nodes.{Node}
use Rattle.table.specs.Entries.{Entry}
use Rattle.cursor.specs.Names.{name_of}
use Rattle.numbers.specs.declared.LabelSpan.{LabelSpan}
use Rattle.numbers.specs.Label.{is_glued, label_of}
use Rattle.numbers.specs.Inner.{Labelled}
use Rattle.numbers.specs.Verse.{PartReading, verse_part}
use Rattle.attachment.specs.Attached.{among}
use Rattle.definition.specs.State.{WalkState, WalkContext}
use Rattle.definition.specs.Checks.{Check, when, about, error, warning, is_empty, breaks, unread, unread_form, letter_byte}
use Rattle.chapter_verse.specs.Inner.{LabelRead}
use Rattle.findings.specs.Finding.{warning_severity}
use Rattle.findings.specs.Codes.{missing_space_before_number, leading_zeros, missing_chapter_number, verse_outside_paragraph, char_crosses_verse_boundary, missing_verse_number, duplicate_chapter, invalid_chapter_sequence, invalid_verse_sequence, unreadable_verse_number}

abbrev pub label : Option Entry → Node → List ℕ
label e x = label_of e x.text

-- a label that is longer than one digit and begins with 0
abbrev pub led : List ℕ → Bool
led s = ltb 1 (length s) && eqb (get_or s 0 0) 0x30

abbrev pub spaced : Option Entry → Node → Check
spaced e x = when (is_glued e (name_of x.text)) (warning x missing_space_before_number 0)

abbrev pub zeros : ℕ → Option Entry → Node → Check
zeros form e x = when (led (label e x)) (error x leading_zeros form)

abbrev pub bare_chapter : Option Entry → Node → Check
bare_chapter e x = when (is_empty (label e x)) (error x missing_chapter_number 0)

abbrev pub twice : WalkState → Node → Check
twice st x = when (among x.link st.seen) (about x warning_severity duplicate_chapter 0 x.link 0)

abbrev pub leaps : WalkState → Node → Check
leaps st x = when (not (eqb x.link st.expected_chapter)) (about x warning_severity invalid_chapter_sequence 0 st.expected_chapter x.link)

abbrev pub stray : WalkContext → WalkState → Node → Check
stray o st x = when (not o.in_body_para && not st.verse_outside_warned) (warning x verse_outside_paragraph 0)

abbrev pub crossing : WalkContext → Node → Check
crossing o x = when o.in_char (error x char_crosses_verse_boundary 0)

abbrev pub bare_verse : Option Entry → Node → Check
bare_verse e x = when (is_empty (label e x)) (error x missing_verse_number 0)

abbrev pub amiss : Option Entry → WalkState → Node → Check
amiss e st x = when (breaks (verse_part (label e x)) st.expected_verse) (about x warning_severity invalid_verse_sequence 0 st.expected_verse.number (letter_byte st.expected_verse.letter))

abbrev pub unreadable : Option Entry → Node → Check
unreadable e x = when (not (is_empty (label e x)) && unread (verse_part (label e x))) (warning x unreadable_verse_number (unread_form (verse_part (label e x))))

-- the label by its places in the node's text
pub label-read : (e : Option Entry) (x : Node) (text : List ℕ) (at : LabelSpan) → text ≡ x.text → Labelled e text at → LabelRead e x (take (at.end - at.start) (drop at.start text)) at.glued
label-read e x text at is-text h = record { label_is = h.label_is ∙ ap (label_of e) is-text; glued_is = h.glued_is ∙ ap (λ (s : List ℕ). is_glued e (name_of s)) is-text }

-- the label as the code has it
module _ (e : Option Entry) (x : Node) (l : List ℕ) (label_is : l ≡ label e x) where
  pub is-led : (b : Bool) → b ≡ led l → b ≡ led (label e x)
  is-led b h = h ∙ ap led label_is

  pub is-bare : eqb (length l) 0 ≡ is_empty (label e x)
  is-bare = ap is_empty label_is

  pub is-amiss : (st : WalkState) (b : Bool) → b ≡ breaks (verse_part l) st.expected_verse → b ≡ (amiss e st x).holds
  is-amiss st b h = h ∙ ap (λ (s : List ℕ). breaks (verse_part s) st.expected_verse) label_is

  module _ (r : PartReading) (is_read : r ≡ verse_part l) where
    pub is-unreadable : (not (is_empty l) && unread r) ≡ (unreadable e x).holds
    is-unreadable = rw is_read (ap (λ (s : List ℕ). not (is_empty s) && unread (verse_part s)) label_is)

    pub says-unreadable : warning x unreadable_verse_number (unread_form r) ≡ (unreadable e x).finding
    says-unreadable = rw is_read (ap (λ (s : List ℕ). warning x unreadable_verse_number (unread_form (verse_part s))) label_is)

-- the chapter's number as the code has it
module _ (st : WalkState) (x : Node) (n : ℕ) (is : n ≡ x.link) where
  pub is-twice : (b : Bool) → b ≡ among n st.seen → b ≡ (twice st x).holds
  is-twice b h = h ∙ ap (λ (m : ℕ). among m st.seen) is

  pub says-twice : about x warning_severity duplicate_chapter 0 n 0 ≡ (twice st x).finding
  says-twice = ap (λ (m : ℕ). about x warning_severity duplicate_chapter 0 m 0) is

  pub is-leap : not (eqb n st.expected_chapter) ≡ (leaps st x).holds
  is-leap = ap (λ (m : ℕ). not (eqb m st.expected_chapter)) is

  pub says-leap : about x warning_severity invalid_chapter_sequence 0 st.expected_chapter n ≡ (leaps st x).finding
  says-leap = ap (λ (m : ℕ). about x warning_severity invalid_chapter_sequence 0 st.expected_chapter m) is

pub says-amiss : (e : Option Entry) (st : WalkState) (x : Node) (n : ℕ) → n ≡ letter_byte st.expected_verse.letter → about x warning_severity invalid_verse_sequence 0 st.expected_verse.number n ≡ (amiss e st x).finding
says-amiss e st x n h = ap (λ (m : ℕ). about x warning_severity invalid_verse_sequence 0 st.expected_verse.number m) h
