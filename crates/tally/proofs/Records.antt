-- Number 11, one record at a time.
-- Assumes nothing.
use Prim.Native.Nat.{ℕ, ◌+◌, ◌-◌, ◌*◌, ◌%◌, ◌<◌, ◌≤◌}
use native.Mathlib.Omega.{arith}
use native.Mathlib.Nat.{add-zero, sub-zero}
use mathlib.Core.Path.{◌≡◌, refl, sym, ap, ◌∙◌}
use mathlib.Core.Bool.{Bool, true, false, not}
use mathlib.Core.List.{List, ◌++◌}
use Rattle.std.specs.Prelude.{Option, None}
use lib.Dec.{eqb, ltb, leb}
use lib.ListN.{length, get_or, drop, length-append, length-drop, get_or-append}
use lib.Seq.{drop-drop, drop_at}
use Rattle.std.proofs.lemmas.List.{get_or-drop}
use borrow.Author.Tests.{eq-eqb, ne_eqb, lt-ltb, le-ltb, le-leb, lt-leb, ltb-true, ltb-false, not-false}
use Rattle.refusals.specs.Refusal.{Refusal, refuse, only_if, or_else, first_bad, bad_tally_list}
use Rattle.refusals.proofs.First.{neither, none_of, first-pass, first-hit, first-end}
use Rattle.tally.specs.Tally.{severity_at, code_at, bad_record, tally_refusal}
use Rattle.findings.specs.Written.{whole_records}
use Rattle.text.proofs.Bool.{or_parts}
use Rattle.findings.specs.Codes.{code_count}

pub bad-severity : (l : List ℕ) (k : ℕ) → 2 < severity_at l k → true ≡ bad_record l k
bad-severity l k h = rw (lt-ltb 2 (severity_at l k) h)

pub bad-code : (l : List ℕ) (k : ℕ) → severity_at l k ≤ 2 → leb code_count (code_at l k) ≡ bad_record l k
bad-code l k h = rw (le-ltb 2 (severity_at l k) h) (test (ltb (code_at l k) code_count) refl)
  where
    test : (b : Bool) → ltb (code_at l k) code_count ≡ b → leb code_count (code_at l k) ≡ not b
    test true e = lt-leb code_count (code_at l k) (ltb-true (code_at l k) code_count e)
    test false e = le-leb code_count (code_at l k) (ltb-false (code_at l k) code_count e)

-- the records of a list that isn't turned back
pub known : (l : List ℕ) → tally_refusal l ≡ None → (k : ℕ) → k < whole_records l → code_at l k < code_count
unfolding tally_refusal
known l e k h =
    let good = none_of bad_tally_list (bad_record l) (whole_records l) 0 (neither (first_bad bad_tally_list (bad_record l) 0 (whole_records l)) _ e).0 k (omega arith) (omega arith) in
    ltb-true (code_at l k) code_count (not-false _ (or_parts (ltb 2 (severity_at l k)) _ good).1)

-- the record k is x, and behind it these words are left
pub record NextRecord (l x left : List ℕ) (k : ℕ) : Type 0 where
  pub within : k < whole_records l
  pub bad : bad_record x 0 ≡ bad_record l k
  pub code : get_or x 1 0 ≡ code_at l k
  pub behind : left ≡ drop (8 * (k + 1)) l

pub next-record : (l from x left : List ℕ) (k n : ℕ) → from ≡ drop (8 * k) l → n ≡ 8 → from ≡ x ++ left → length x ≡ n → NextRecord l x left k
next-record l from x left k n e z f g =
    let d : drop (8 * k) l ≡ x ++ left = sym e ∙ f in
    let m : length (drop (8 * k) l) ≡ length x + length left = ap length d ∙ length-append x left in
    let word : (i : ℕ) → i < 8 → get_or x i 0 ≡ get_or l (8 * k + i) 0 = λ i h. sym (get_or-append x left 0 i (omega arith)) ∙ ap (λ (y : List ℕ). get_or y i 0) (sym d) ∙ get_or-drop (8 * k) l i 0 in
    let s : get_or x 0 0 ≡ severity_at l k = word 0 (omega arith) ∙ rw add-zero in
    let t : 8 * k + 8 ≡ 8 * (k + 1) = omega arith in
    record {
      within = omega (arith, length-drop (8 * k) l);
      bad = rw (s, word 1 (omega arith));
      code = word 1 (omega arith);
      behind = sym (drop_at x left 8 (omega arith)) ∙ ap (λ (y : List ℕ). drop 8 y) (sym d) ∙ drop-drop 8 (8 * k) l ∙ ap (λ (i : ℕ). drop i l) t;
    }

-- too few words are left for one more
pub no-record : (l from : List ℕ) (k n : ℕ) → from ≡ drop (8 * k) l → n ≡ 8 → length from < n → whole_records l ≤ k
no-record l from k n e z h = omega (arith, length-drop (8 * k) l, ap length e)

-- what the length says, when all records are good
abbrev rest : List ℕ → Option Refusal
rest l = only_if (not (eqb (length l % 8) 0)) (refuse bad_tally_list (whole_records l))

-- the records that are left give what the whole gives
abbrev pub Checking : List ℕ → ℕ → Type 0
Checking l k = or_else (first_bad bad_tally_list (bad_record l) k (whole_records l - k)) (rest l) ≡ tally_refusal l

pub checking-start : (l : List ℕ) → Checking l 0
unfolding tally_refusal
checking-start l = rw sub-zero

module _ (l : List ℕ) (k : ℕ) (y : Checking l k) where
  pub checking-hit : k < whole_records l → bad_record l k ≡ true → refuse bad_tally_list k ≡ tally_refusal l
  checking-hit h e = rw (first-hit bad_tally_list (bad_record l) (whole_records l) k h e) at y

  pub checking-on : k < whole_records l → bad_record l k ≡ false → Checking l (k + 1)
  checking-on h e = rw (first-pass bad_tally_list (bad_record l) (whole_records l) k h e) at y

  pub checking-ragged : whole_records l ≤ k → (length l % 8 ≡ 0 → ⊥) → refuse bad_tally_list (whole_records l) ≡ tally_refusal l
  checking-ragged h e = rw (first-end bad_tally_list (bad_record l) (whole_records l) k h, ne_eqb (length l % 8) 0 e) at y

  pub checking-end : whole_records l ≤ k → length l % 8 ≡ 0 → None ≡ tally_refusal l
  checking-end h e = rw (first-end bad_tally_list (bad_record l) (whole_records l) k h, eq-eqb (length l % 8) 0 e) at y
