-- Document 01, "A finding": "Eight u64 words: severity (0 error, 1 warning, 2 info); code (position in `DiagnosticCode` from 0 ..); start; len; node (the one whose span it has, 0 for the document); form; two numbers."
use Rattle.std.specs.Prelude.{ℕ, List, [], ◌∷◌}
use Rattle.findings.specs.declared.Severity.{Severity}
use Rattle.findings.specs.declared.Severity.TheVariants as severity
use Rattle.findings.specs.declared.Finding as code

pub record Finding : Type 0 where
  pub severity : ℕ
  pub code : ℕ
  pub start : ℕ
  pub len : ℕ
  pub node : ℕ
  pub form : ℕ
  pub first : ℕ
  pub second : ℕ

-- "severity (0 error, 1 warning, 2 info)"
abbrev pub error_severity : ℕ
error_severity = 0

abbrev pub warning_severity : ℕ
warning_severity = 1

abbrev pub info_severity : ℕ
info_severity = 2

-- a finding's severity, code and form, by which its message is chosen
pub record Kind : Type 0 where
  pub severity : ℕ
  pub code : ℕ
  pub form : ℕ

-- the words of a finding in their order
abbrev pub words_of : Finding → List ℕ
words_of f = f.severity ∷ f.code ∷ f.start ∷ f.len ∷ f.node ∷ f.form ∷ f.first ∷ f.second ∷ []

-- the number of a severity
abbrev pub severity_of : Severity → ℕ
severity_of severity.Error = error_severity
severity_of severity.Warning = warning_severity
severity_of severity.Info = info_severity

-- what the code's value says
abbrev pub finding_of : code.Finding → Finding
finding_of f =
    record {
      severity = severity_of f.severity;
      code = f.code;
      start = f.start;
      len = f.len;
      node = f.node;
      form = f.form;
      first = f.first;
      second = f.second;
    }
