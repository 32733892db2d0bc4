-- Document 02, K7: what section and close answer: refusals, counts, the findings list; the record that begin and section leave, the working lists that close leaves, and what the counted entries are of those that a section leaves.
use Rattle.std.specs.Prelude.{ℕ, ◌+◌, ◌<◌, ◌≡◌, Bool, false, not, ◌||◌, List, [], ◌++◌, eqb, ltb, length, get_or}
use Rattle.std.specs.Prelude.{Option, Some, None}
use Rattle.text.specs.Pick.{pick}
use Rattle.tape.specs.Nodes.{node_at, link_at, count}
use Rattle.tape.specs.Forest.{Forest, end, leaf, node, forest}
use Rattle.refusals.specs.Refusal.{Refusal, refuse, only_if, or_else, section_out_of_order}
use Rattle.findings.specs.Finding.{Finding, error_severity, warning_severity, info_severity}
use Rattle.findings.specs.Written.{room, overlay}
use Rattle.numbers.specs.Label.{numbered}
use Rattle.definition.specs.State.{WalkState, initial}
use Rattle.definition.specs.Milestones.{base_of}
use Rattle.definition.specs.Outcome.{Lent, refusal, of_severity, Checked, smaller, Answer, answer_by, words_by, cleared, no_start}
use Rattle.definition.specs.Sections.{is_border, Carried, section_walk, section_findings, section_verses, close_findings}
use Rattle.definition.specs.Carried.{CarriedRecord, latest_words, start_nodes, anchor_node, carried_of, is_foreign}
use Rattle.definition.specs.declared.OpenStart.{OpenStart}

-- "19 when a section doesn't start where the last ended, ends before its start or doesn't end between top-level nodes, .. or when the record can't be this tape's"
abbrev pub wrong_section : List ℕ → List ℕ → List ℕ → List OpenStart → CarriedRecord → ℕ → ℕ → Bool
wrong_section table s t opens r from to = not (eqb from r.place) || (ltb to from || (not (is_border s t to) || is_foreign table s t opens r))

-- "when close comes early, or when the record can't be this tape's"
abbrev pub wrong_close : List ℕ → List ℕ → List ℕ → List OpenStart → CarriedRecord → Bool
wrong_close table s t opens r = not (eqb r.place (link_at t 0)) || is_foreign table s t opens r

-- "place: the expected node"
abbrev pub of19 : Bool → CarriedRecord → Option Refusal
of19 wrong r = only_if wrong (refuse section_out_of_order r.place)

-- "Answers, after 1 to 10": begin has no other than these
abbrev pub section_refusal : Lent → CarriedRecord → ℕ → ℕ → Option Refusal
section_refusal l r from to = or_else (refusal l) (of19 (wrong_section l.table l.source l.tape l.open_starts r from to) r)

abbrev pub close_refusal : Lent → CarriedRecord → Option Refusal
close_refusal l r = or_else (refusal l) (of19 (wrong_close l.table l.source l.tape l.open_starts r) r)

-- "Section and close give a checked document's counts, for their own findings and verses."
unfoldable pub checked_for : List Finding → ℕ → List ℕ → Checked
checked_for fs verses list =
    record {
      total = length fs;
      written = smaller (length fs) (room list);
      verses = verses;
      errors = of_severity error_severity fs;
      warnings = of_severity warning_severity fs;
      infos = of_severity info_severity fs;
      cut = ltb (smaller (length fs) (room list)) (length fs);
    }

-- what the record stands for with the lists that are lent
abbrev pub carried_in : Lent → CarriedRecord → Carried
carried_in l r = carried_of l.source l.tape l.seen l.open_starts r

abbrev pub found_in : Lent → CarriedRecord → ℕ → List Finding
found_in l r to = section_findings l.table l.source l.tape (carried_in l r) to

abbrev pub section_answer : Lent → CarriedRecord → ℕ → ℕ → Answer
section_answer l r from to = answer_by (section_refusal l r from to) (checked_for (found_in l r to) (section_verses l.table l.source l.tape (carried_in l r) to) l.list)

abbrev pub close_answer : Lent → CarriedRecord → Answer
close_answer l r = answer_by (close_refusal l r) (checked_for (close_findings (carried_in l r)) 0 l.list)

abbrev pub section_list_after : Lent → CarriedRecord → ℕ → ℕ → List ℕ
section_list_after l r from to = words_by (section_refusal l r from to) l.list (overlay l.list 0 (found_in l r to))

abbrev pub close_list_after : Lent → CarriedRecord → List ℕ
close_list_after l r = words_by (close_refusal l r) l.list (overlay l.list 0 (close_findings (carried_in l r)))

-- "The working lists are cleared only at close"
abbrev pub close_seen_after : Lent → CarriedRecord → List ℕ
close_seen_after l r = words_by (close_refusal l r) l.seen (cleared 0 (count l.tape) l.seen)

abbrev pub close_open_after : Lent → CarriedRecord → List OpenStart
close_open_after l r = words_by (close_refusal l r) l.open_starts (cleared no_start (count l.tape) l.open_starts)

-- The record that begin and section leave.

abbrev pub carried_at : ℕ → ℕ → WalkState → CarriedRecord
carried_at place anchor st =
    record {
      place = place;
      has_id = st.has_id;
      has_chapter = st.has_chapter;
      has_verse = st.has_verse;
      front_matter = st.front_matter;
      verse_outside_warned = st.verse_outside_warned;
      expected_chapter = st.expected_chapter;
      expected_verse = st.expected_verse;
      seen_len = length st.seen;
      open_len = length st.open_starts;
      anchor = anchor;
    }

abbrev pub begun_record : CarriedRecord
begun_record = carried_at 1 0 initial

-- the last Chapter or Verse of a run, or the anchor before it
unfoldable pub last_anchor : ℕ → Forest → ℕ
last_anchor n end = n
last_anchor n (leaf x r) = last_anchor (pick (numbered x.kind) x.number n) r
last_anchor n (node x c r) = last_anchor n r

-- after a section up to `to`, of the record and the lists before it
abbrev pub section_record : List ℕ → List ℕ → List ℕ → List ℕ → List OpenStart → CarriedRecord → ℕ → CarriedRecord
section_record table s t seen opens r to = carried_at to (last_anchor (anchor_node s t r) (forest s t r.place to)) (section_walk table s t (carried_of s t seen opens r) to).state

-- "a call turned back leaves record and lists unchanged"
abbrev pub record_by : Option Refusal → CarriedRecord → CarriedRecord → CarriedRecord
record_by (Some x) before after = before
record_by None before after = after

abbrev pub section_record_after : Lent → CarriedRecord → ℕ → ℕ → CarriedRecord
section_record_after l r from to = record_by (section_refusal l r from to) r (section_record l.table l.source l.tape l.seen l.open_starts r to)

-- the working lists that a section leaves: their counted entries are the chapters seen and the open starts, with the lengths of their bases
pub record ListsHold (s t : List ℕ) (st : WalkState) (seen : List ℕ) (opens : List OpenStart) : Type 0 where
  pub chapters : latest_words seen (length st.seen) ≡ st.seen
  pub starts : start_nodes s t opens (length st.open_starts) ≡ st.open_starts
  pub bases : (j : ℕ) → j < length st.open_starts → (get_or opens j no_start).base_len ≡ length (base_of (node_at s t (get_or opens j no_start).node))

-- a record with its lists that begin and sections made, none of them turned back
pub data FromCalls (table s t : List ℕ) : CarriedRecord → List ℕ → List OpenStart → Type 0 where
  from_begin : {r : CarriedRecord} {seen : List ℕ} {opens : List OpenStart} → r ≡ begun_record → FromCalls table s t r seen opens
  from_section : {r q : CarriedRecord} {seen seen' : List ℕ} {opens opens' : List OpenStart} (from to : ℕ)
      → FromCalls table s t r seen opens
      → wrong_section table s t opens r from to ≡ false
      → q ≡ section_record table s t seen opens r to
      → ListsHold s t (section_walk table s t (carried_of s t seen opens r) to).state seen' opens'
      → FromCalls table s t q seen' opens'

-- what these sections found and counted, one after the other
unfoldable pub found_by : (table s t : List ℕ) {r : CarriedRecord} {seen : List ℕ} {opens : List OpenStart} → FromCalls table s t r seen opens → List Finding
found_by table s t (from_begin e) = []
found_by table s t (from_section {r} {seen} {opens} from to calls right e holds) = found_by table s t calls ++ section_findings table s t (carried_of s t seen opens r) to

unfoldable pub verses_by : (table s t : List ℕ) {r : CarriedRecord} {seen : List ℕ} {opens : List OpenStart} → FromCalls table s t r seen opens → ℕ
verses_by table s t (from_begin e) = 0
verses_by table s t (from_section {r} {seen} {opens} from to calls right e holds) = verses_by table s t calls + section_verses table s t (carried_of s t seen opens r) to
