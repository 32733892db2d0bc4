-- What the entry's answer says, in document 01's numbers and values.
use Rattle.std.specs.Prelude.{ℕ, List, Result, Ok, Err}
use Rattle.refusals.specs.declared.Refusal as code
use Rattle.refusals.specs.Reasons.{refusal_of}
use Rattle.refusals.specs.Refusal.{Refusal}
use Rattle.definition.specs.Outcome.{Checked, refused, checked, Lent}
use Rattle.definition.specs.Outcome as outcome
use Rattle.validate.specs.declared.Report.{Report}
use Rattle.definition.specs.declared.OpenStart.{OpenStart}

-- a checked document's numbers
abbrev pub report_of : Report → Checked
report_of r =
    record {
      total = r.total;
      written = r.written;
      verses = r.verses;
      errors = r.errors;
      warnings = r.warnings;
      infos = r.infos;
      cut = r.is_cut;
    }

-- a refusal's number and place, by what it says, or a checked document's numbers
abbrev pub answer_in : {E : Type 0} → (E → Refusal) → Result Report E → outcome.Answer
answer_in says (Ok r) = checked (report_of r)
answer_in says (Err r) = refused (says r)

abbrev pub answer_of : Result Report code.Refusal → outcome.Answer
answer_of answer = answer_in refusal_of answer

-- all that a call lends
abbrev pub lent : List ℕ → List ℕ → List ℕ → List ℕ → List OpenStart → List ℕ → Lent
lent table s t seen opens l = record { table = table; source = s; tape = t; seen = seen; open_starts = opens; list = l }
