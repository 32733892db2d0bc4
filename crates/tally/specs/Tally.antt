-- Document 01: "Tally gives 35 counts by code", of which document 02, K6, makes 36, and number 11 of its refusals.
use Rattle.std.specs.Prelude.{ℕ, zero, suc, ◌+◌, ◌*◌, ◌%◌, Bool, not, ◌||◌, List, [], ◌∷◌, eqb, ltb, length, get_or}
use Rattle.std.specs.Prelude.{Option, None}
use Rattle.findings.specs.Written.{whole_records}
use Rattle.text.specs.Pick.{pick}
use Rattle.refusals.specs.Refusal.{Refusal, refuse, only_if, or_else, first_bad, is_none, bad_tally_list}
use Rattle.buffer.specs.Over.{over}
use Rattle.findings.specs.Codes.{code_count}

-- severity and code of record k
abbrev pub severity_at : List ℕ → ℕ → ℕ
severity_at l k = get_or l (8 * k) 0

abbrev pub code_at : List ℕ → ℕ → ℕ
code_at l k = get_or l (8 * k + 1) 0

-- "severity over 2 or code over 34"; document 02, K6: "number 11 starts above code 35"
abbrev pub bad_record : List ℕ → ℕ → Bool
bad_record l k = ltb 2 (severity_at l k) || not (ltb (code_at l k) code_count)

-- 11: "length no multiple of 8, severity over 2 or code over 34; place: that record, or the number of whole records for the length, the smaller first."; document 02, K6: "number 11 starts above code 35"
unfoldable pub tally_refusal : List ℕ → Option Refusal
tally_refusal l = or_else (first_bad bad_tally_list (bad_record l) 0 (whole_records l)) (only_if (not (eqb (length l % 8) 0)) (refuse bad_tally_list (whole_records l)))

-- how many of the first n records have the code
unfoldable pub with_code : List ℕ → ℕ → ℕ → ℕ
with_code l c zero = 0
with_code l c (suc n) = pick (eqb (code_at l n) c) 1 0 + with_code l c n

-- the counts by code, from the code c on, n of them
unfoldable pub counts_from : List ℕ → ℕ → ℕ → List ℕ
counts_from l c zero = []
counts_from l c (suc n) = with_code l c (whole_records l) ∷ counts_from l (suc c) n

abbrev pub tally_of : List ℕ → List ℕ
tally_of l = counts_from l 0 code_count

-- the lent list after it: unchanged after a refusal, else the counts written over it as far as there is room
abbrev pub counts_after : List ℕ → List ℕ → List ℕ
counts_after l out = pick (is_none (tally_refusal l)) (over out 0 (tally_of l)) out

-- the sum of a list: of the counts it is the number of records, which is proved of them
unfoldable pub sum : List ℕ → ℕ
sum [] = 0
sum (n ∷ l) = n + sum l
