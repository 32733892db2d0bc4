-- The tally of the words of findings.
-- Assumes nothing.
use Prim.Native.Nat.{ℕ, zero, suc, ◌+◌, ◌*◌, ◌%◌, ◌<◌, ◌≤◌}
use native.Mathlib.Omega.{arith}
use mathlib.Core.Path.{◌≡◌, ◌∙◌}
use mathlib.Core.Bool.{false}
use mathlib.Core.List.{List, [], ◌∷◌}
use Rattle.std.specs.Prelude.{None}
use lib.ListN.{length, take, drop}
use lib.Seq.{get_or-append-add, take_at}
use borrow.Author.Tests.{eq-eqb, lt-ltb, le-ltb}
use Rattle.refusals.proofs.First.{all_none}
use Rattle.findings.specs.Finding.{Finding, words_of}
use Rattle.findings.specs.Written.{encode}
use Rattle.findings.proofs.Overlay.{overlay-is, encode-length}
use Rattle.tape.specs.Forest.{top}
use Rattle.definition.proofs.Counted.{Graded, graded}
use Rattle.definition.specs.Outcome.{Lent, refusal, list_of, list_after}
use Rattle.tally.specs.Tally.{bad_record, tally_refusal, tally_of, sum}
use Rattle.findings.specs.Written.{whole_records}
use Rattle.tally.proofs.Sums.{tally-sums}
use Rattle.refusals.specs.Refusal.{bad_tally_list}
use Rattle.findings.specs.Codes.{code_count}

good : (fs : List Finding) → Graded fs → (i : ℕ) → i < length fs → bad_record (encode fs) i ≡ false
unfolding encode
good [] h i b = absurd (omega arith)
good (f ∷ fs) h zero b = rw (le-ltb 2 f.severity h.0.0, lt-ltb f.code code_count h.0.1)
good (f ∷ fs) h (suc i) b =
    let s : 8 * suc i ≡ 8 + 8 * i = omega arith in
    let c : 8 * suc i + 1 ≡ 8 + (8 * i + 1) = omega arith in
    rw (c, s, get_or-append-add (words_of f) (encode fs) (8 * i) 0, get_or-append-add (words_of f) (encode fs) (8 * i + 1) 0) (good fs h.1 i (omega arith))

pub encode-passes : (fs : List Finding) → Graded fs → tally_refusal (encode fs) ≡ None
unfolding tally_refusal
encode-passes fs h =
    let n = encode-length fs in
    rw (all_none bad_tally_list (bad_record (encode fs)) (whole_records (encode fs)) 0 (λ i g b. good fs h i (omega arith)), eq-eqb (length (encode fs) % 8) 0 (omega arith))

pub encode-sums : (fs : List Finding) → Graded fs → sum (tally_of (encode fs)) ≡ length fs
encode-sums fs h = tally-sums (encode fs) (encode-passes fs h) ∙ omega (arith, encode-length fs)

-- the words of a checked document's list, uncut: the tally sums to its total
pub tally-total : (l : Lent) → refusal l ≡ None → 8 * length (list_of l) ≤ length l.list → sum (tally_of (take (8 * length (list_of l)) (list_after l))) ≡ length (list_of l)
tally-total l e h =
    let fs = list_of l in
    let rest = drop (8 * (0 + length fs)) l.list in
    rw (e, overlay-is l.list 0 fs (omega arith), take_at (encode fs) rest (8 * length fs) (encode-length fs)) (encode-sums fs (graded l.table (top l.source l.tape)))
