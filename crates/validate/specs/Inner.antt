-- What the functions inside the crate promise.
use Rattle.std.specs.Prelude.{ℕ, ◌≤◌, ◌≡◌, false, ◌||◌, List, ltb, length}
use Rattle.std.specs.Prelude.{Option, Some, None, Result, Ok, Err}
use Rattle.refusals.specs.declared.Refusal as code
use Rattle.validate.specs.declared.Report.{Report}
use Rattle.numbers.specs.declared.Suffix.TheVariants as suffix
use Rattle.tape.specs.Nodes.{count, link_at}
use Rattle.tape.specs.Forest.{top, forest, Accepted}
use Rattle.text.specs.Utf8.{first_ill_formed}
use Rattle.refusals.specs.Refusal.{Refusal, refuse, only_if, or_else, bad_table_layout, source_too_long, source_not_utf8, working_list_too_short}
use Rattle.tape.specs.Reading.{tape_refusal}
use Rattle.table.specs.Lines.{bad_table}
use Rattle.numbers.specs.Label.{label_refusal}
use Rattle.findings.specs.declared.Counts.{Counts}
use Rattle.findings.specs.Written.{total, overlay}
use Rattle.definition.specs.Checks.{given}
use Rattle.definition.specs.Document.{findings, verses_visited, text_before}
use Rattle.definition.specs.Outcome.{Checked, repeated, no_start, smaller, checked_of}
use Rattle.refusals.specs.Refusal.{at_place}
use Rattle.definition.specs.declared.OpenStart.{OpenStart}
use Rattle.state.specs.Inner.{counts_of, with_counts}
use Rattle.closing.specs.Inner.{missing_checks}
use Rattle.state.specs.declared.State.{State}
use Rattle.validate.specs.Entry.{report_of, lent}
use Rattle.table.specs.Inner.{Indexed}
use Rattle.findings.specs.Inner.{Wrote, Room, count_limit}

-- of what is accepted: the table's index, of so many entries
abbrev pub AcceptedIndex : List ℕ → List ℕ → Result ℕ code.Refusal → Type 0
AcceptedIndex table index (Ok n) = Indexed table index n
AcceptedIndex table index (Err r) = Unit {0}

-- the numbers from each on, with the lengths of the working lists
abbrev pub source_refusal : List ℕ → Option Refusal
source_refusal s = or_else (only_if (ltb 1048576 (length s)) (refuse source_too_long 0)) (at_place source_not_utf8 (first_ill_formed s))

abbrev pub lists_refusal : ℕ → ℕ → ℕ → Option Refusal
lists_refusal n seen opens = only_if (ltb seen n || ltb opens n) (refuse working_list_too_short n)

abbrev pub from_labels : List ℕ → List ℕ → List ℕ → ℕ → ℕ → Option Refusal
from_labels table s t seen opens = or_else (label_refusal table s t) (lists_refusal (count t) seen opens)

abbrev pub from_tape : List ℕ → List ℕ → List ℕ → ℕ → ℕ → Option Refusal
from_tape table s t seen opens = or_else (tape_refusal s t) (from_labels table s t seen opens)

abbrev pub from_source : List ℕ → List ℕ → List ℕ → ℕ → ℕ → Option Refusal
from_source table s t seen opens = or_else (source_refusal s) (from_tape table s t seen opens)

abbrev pub from_table : List ℕ → List ℕ → List ℕ → ℕ → ℕ → Option Refusal
from_table table s t seen opens = or_else (at_place bad_table_layout (bad_table table)) (from_source table s t seen opens)

abbrev pub none_yet : Counts
none_yet = record { errors = 0; warnings = 0; infos = 0 }

abbrev pub fresh : State
fresh =
    record {
      has_id = false;
      has_chapter = false;
      has_verse = false;
      front_matter = false;
      verse_outside_warned = false;
      expected_chapter = 1;
      expected_verse = record { num = 1; suffix = suffix.None };
      seen_len = 0;
      open_len = 0;
      verses = 0;
      anchor = 0;
      errors = 0;
      warnings = 0;
      infos = 0;
    }

-- the whole list is written and counted, and the verses are those visited
pub record Ran (table s t l l' : List ℕ) (q : State) : Type 0 where
  pub wrote : Wrote (findings table (top s t)) l none_yet l' (counts_of q)
  pub verses : q.verses ≡ verses_visited table (top s t)
  pub low : total (counts_of q) ≤ count_limit

-- what the check requires when nothing turns it back
pub record Fit (table index : List ℕ) (entries : ℕ) (s t seen : List ℕ) (opens : List OpenStart) : Type 0 where
  pub indexed : Indexed table index entries
  pub accepted : Accepted s t
  pub short : length s ≤ 1048576
  pub seen_room : length seen ≡ count t
  pub open_room : length opens ≡ count t

-- the numbers of a record whose counts are those of the whole list, with room for so many findings
abbrev pub reported : State → ℕ → Checked
reported r room =
    record {
      total = total (counts_of r);
      written = smaller (total (counts_of r)) room;
      verses = r.verses;
      errors = r.errors;
      warnings = r.warnings;
      infos = r.infos;
      cut = ltb (smaller (total (counts_of r)) room) (total (counts_of r));
    }

-- the answer and the lists of a document that nothing turns back
pub record Finished (table s t seen : List ℕ) (opens : List OpenStart) (l seen' : List ℕ) (opens' : List OpenStart) (l' : List ℕ) (r : Report) : Type 0 where
  pub answers : report_of r ≡ checked_of (lent table s t seen opens l)
  pub words : l' ≡ overlay l 0 (findings table (top s t))
  pub seen_zero : seen' ≡ repeated 0 (count t)
  pub opens_zero : opens' ≡ repeated no_start (count t)

-- the record before the walk: the text before `\\id` is written and counted
pub record Begun (s t l l' : List ℕ) (q : State) : Type 0 where
  pub text : Wrote (text_before (forest s t 1 (link_at t 0))) l none_yet l' (counts_of q)
  pub record_is : q ≡ with_counts fresh (counts_of q)

-- the findings after the walk have room
pub record Endable (r : State) (c : Counts) : Type 0 where
  pub room : Room c (given (missing_checks r))

-- the record with the last findings counted
pub record MissingWritten (r : State) (c : Counts) (l l' : List ℕ) (q : State) : Type 0 where
  pub wrote : Wrote (given (missing_checks r)) l c l' (counts_of q)
  pub record_is : q ≡ with_counts r (counts_of q)
