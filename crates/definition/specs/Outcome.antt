-- The entry's outcome: the first refusal in checking order, else the checked document's numbers and lists.
use Rattle.std.specs.Prelude.{ℕ, zero, suc, Bool, true, false, ◌||◌, List, [], ◌∷◌, ◌++◌, eqb, ltb, length, drop}
use Rattle.std.specs.Prelude.{Option, Some, None}
use Rattle.text.specs.Pick.{pick}
use Rattle.text.specs.Utf8.{first_ill_formed}
use Rattle.tape.specs.Nodes.{count}
use Rattle.tape.specs.Forest.{top}
use Rattle.refusals.specs.Refusal.{Refusal, refuse, only_if, or_else, bad_table_layout, source_too_long, source_not_utf8, working_list_too_short, at_place}
use Rattle.tape.specs.Reading.{tape_refusal}
use Rattle.table.specs.Lines.{bad_table}
use Rattle.findings.specs.Finding.{Finding, error_severity, warning_severity, info_severity}
use Rattle.findings.specs.Written.{room, overlay}
use Rattle.numbers.specs.Label.{label_refusal}
use Rattle.definition.specs.Document.{findings, verses_visited}
use Rattle.definition.specs.declared.OpenStart.{OpenStart}

-- all that a caller lends: "The open starts are a lent list of two-field records: node and base length."
pub record Lent : Type 0 where
  pub table : List ℕ
  pub source : List ℕ
  pub tape : List ℕ
  pub seen : List ℕ
  pub open_starts : List OpenStart
  pub list : List ℕ

-- 1: "The table text breaks its layout"
abbrev pub of1 : Lent → Option Refusal
of1 l = at_place bad_table_layout (bad_table l.table)

-- 2: "The source is too long; place 0."
abbrev pub of2 : Lent → Option Refusal
of2 l = only_if (ltb 1048576 (length l.source)) (refuse source_too_long 0)

-- 3: "The source isn't UTF-8"
abbrev pub of3 : Lent → Option Refusal
of3 l = at_place source_not_utf8 (first_ill_formed l.source)

-- 4 to 8, and 9
abbrev pub of_tape : Lent → Option Refusal
of_tape l = tape_refusal l.source l.tape

abbrev pub of9 : Lent → Option Refusal
of9 l = label_refusal l.table l.source l.tape

-- 10: "A working list has fewer than n entries; place n."
abbrev pub short_list : Lent → Bool
short_list l = ltb (length l.seen) (count l.tape) || ltb (length l.open_starts) (count l.tape)

abbrev pub of10 : Lent → Option Refusal
of10 l = only_if (short_list l) (refuse working_list_too_short (count l.tape))

-- "Turned back, in checking order"
unfoldable pub refusal : Lent → Option Refusal
refusal l = or_else (of1 l) (or_else (of2 l) (or_else (of3 l) (or_else (of_tape l) (or_else (of9 l) (of10 l)))))

abbrev pub add_if : Bool → ℕ → ℕ
add_if true n = suc n
add_if false n = n

-- how many findings of the list have the severity
unfoldable pub of_severity : ℕ → List Finding → ℕ
of_severity n [] = 0
of_severity n (f ∷ fs) = add_if (eqb f.severity n) (of_severity n fs)

-- "A checked document gives total, written, verses visited, errors, warnings, infos."
pub record Checked : Type 0 where
  pub total : ℕ
  pub written : ℕ
  pub verses : ℕ
  pub errors : ℕ
  pub warnings : ℕ
  pub infos : ℕ
  pub cut : Bool

-- the defined list of what is lent
abbrev pub list_of : Lent → List Finding
list_of l = findings l.table (top l.source l.tape)

abbrev pub smaller : ℕ → ℕ → ℕ
smaller a b = pick (ltb a b) a b

-- "Written is the smaller of total and the list's length divided by 8, rounded down"; "the answer says Cut exactly if written is below total"
abbrev pub written_of : Lent → ℕ
written_of l = smaller (length (list_of l)) (room l.list)

unfoldable pub checked_of : Lent → Checked
checked_of l =
    record {
      total = length (list_of l);
      written = written_of l;
      verses = verses_visited l.table (top l.source l.tape);
      errors = of_severity error_severity (list_of l);
      warnings = of_severity warning_severity (list_of l);
      infos = of_severity info_severity (list_of l);
      cut = ltb (written_of l) (length (list_of l));
    }

-- the answer: a refusal, or a checked document
pub data Answer : Type 0 where
  refused : Refusal → Answer
  checked : Checked → Answer

abbrev pub answer_by : Option Refusal → Checked → Answer
answer_by (Some r) c = refused r
answer_by None c = checked c

abbrev pub answer : Lent → Answer
answer l = answer_by (refusal l) (checked_of l)

-- what the lent lists hold afterwards. A refusal: "Each gives number and place and writes nothing."
abbrev pub words_by : {A : Type 0} → Option Refusal → List A → List A → List A
words_by (Some r) before after = before
words_by None before after = after

abbrev pub list_after : Lent → List ℕ
list_after l = words_by (refusal l) l.list (overlay l.list 0 (list_of l))

-- n copies of an entry
unfoldable pub repeated : {A : Type 0} → A → ℕ → List A
repeated nothing zero = []
repeated nothing (suc n) = nothing ∷ repeated nothing n

-- "After a checked document the first n entries of both working lists are zero (n nodes), the rest unchanged."
abbrev pub cleared : {A : Type 0} → A → ℕ → List A → List A
cleared nothing n entries = repeated nothing n ++ drop n entries

abbrev pub seen_after : Lent → List ℕ
seen_after l = words_by (refusal l) l.seen (cleared 0 (count l.tape) l.seen)

abbrev pub no_start : OpenStart
no_start = record { node = 0; base_len = 0 }

abbrev pub open_after : Lent → List OpenStart
open_after l = words_by (refusal l) l.open_starts (cleared no_start (count l.tape) l.open_starts)
