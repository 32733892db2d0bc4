-- What the checks that stand before a call tell of a tape and its nodes.
-- Assumes nothing.
use Rattle.refusals.specs.declared.Reason.{Reason}
use Rattle.refusals.specs.declared.Reason.TheVariants as reason
use Rattle.refusals.specs.Reasons.{number_of}
use Prim.Native.Nat.{ℕ, ◌+◌, ◌%◌, ◌<◌, ◌≤◌}
use native.Mathlib.Omega.{arith}
use mathlib.Core.Path.{◌≡◌, refl, ap}
use mathlib.Core.Bool.{true, false, not, false≢true, ◌||◌}
use mathlib.Core.List.{List}
use Rattle.std.specs.Prelude.{Option, Some, None}
use lib.Dec.{eqb, ltb}
use lib.ListN.{length}
use borrow.Author.Tests.{ltb-false}
use Rattle.text.proofs.Bool.{or_parts}
use Rattle.tape.specs.Nodes.{count, kind_at}
use Rattle.refusals.specs.Refusal.{Refusal, is_none}
use Rattle.tape.specs.Reading.{bad_length, tape_refusal}
use Rattle.tape.specs.Forest.{Accepted, Forest, forest}
use Rattle.tape.proofs.OneNumber.{accepted, some-nodes}
use Rattle.tape.proofs.Sizes.{breadth, breadth-le, weight-le}
use Rattle.cursor.specs.Inner.{Spanned, Run}
use Rattle.cursor.proofs.Around.{spanned}
use Rattle.cursor.proofs.Runs.{run-top, run_inside}
use Rattle.findings.specs.declared.Counts.{Counts}
use Rattle.findings.specs.Finding.{Finding}
use Rattle.findings.specs.Written.{total}
use Rattle.findings.proofs.Overlay.{counted-total}
use Rattle.rows.specs.Row.{row_findings}
use Rattle.rows.proofs.Few.{row-few}
use Rattle.attributes.specs.Attributes.{attributes_findings}
use Rattle.attributes.proofs.Few.{attributes-few}
use Rattle.oracle_exports.specs.Inner.{Child, Holds, Opened}
use Rattle.findings.specs.Inner.{Wrote, Room, count_limit}

none_is : (x : Option Refusal) → is_none x ≡ true → x ≡ None
none_is None e = refl
none_is (Some r) e = absurd (false≢true e)

pub good_tape : (s t : List ℕ) → is_none (tape_refusal s t) ≡ true → Accepted s t
good_tape s t h = (accepted s t).0 (none_is (tape_refusal s t) h)

pub child-spanned : (s t : List ℕ) (i : ℕ) → Child s t i → Spanned s t i
child-spanned s t i h = spanned s t i h.accepted h.from h.inside

-- the root of an accepted tape, and an open node
pub holds_root : (s t : List ℕ) (i : ℕ) → i ≡ 0 → is_none (tape_refusal s t) ≡ true → Holds s t i
holds_root s t i z e =
    let h = good_tape s t e in
    let n = some-nodes s t h.sized in
    rw z (record { inside = omega arith; run = run-top s t h })

pub holds_open : (s t : List ℕ) (i : ℕ) → Child s t i → kind_at t i ≡ 1 → Holds s t i
holds_open s t i h e =
    record { inside = h.inside; run = run_inside s t i h.accepted h.from h.inside (ap (λ x. eqb x 1) e) }

few-nodes : (t : List ℕ) → bad_length t ≡ false → count t ≤ 65535
few-nodes t h =
    let broken = not (eqb (length t % 16) 0) in
    let many = ltb 65535 (count t) in
    let rest = or_parts (eqb (length t) 0) (broken || many) h in
    ltb-false 65535 (count t) (or_parts broken many rest.1).1

abbrev pub nothing : Counts
nothing = record { errors = 0; warnings = 0; infos = 0 }

-- a list of findings no longer than the breadth of what an open node holds, with nothing counted before
module _ (s t : List ℕ) (i to : ℕ) (o : Opened s t i to) where
  run : Run s t (i + 1) to
  run = rw o.end o.holds.run

  abbrev inner : Forest
  inner = forest s t (i + 1) to

  few-findings : (fs : List Finding) → length fs ≤ breadth inner → length fs ≤ count_limit
  few-findings fs few =
      let w = breadth-le inner in
      let v = weight-le s t o.short run.nested in
      let n = run.inside in
      let c = few-nodes t run.accepted.sized in
      omega arith

  asked : (fs : List Finding) → length fs ≤ breadth inner → Run s t (i + 1) to × Room nothing fs
  asked fs few = let m = few-findings fs few in (run, omega arith)

  few-counted : (fs : List Finding) → length fs ≤ breadth inner → (l l' : List ℕ) (c : Counts) → Wrote fs l nothing l' c → total c ≤ count_limit
  few-counted fs few l l' c w =
      let e = counted-total nothing fs in
      let m = few-findings fs few in
      rw w.counts (omega arith)

  pub row_asked : Run s t (i + 1) to × Room nothing (row_findings inner)
  row_asked = asked (row_findings inner) (row-few 1 inner)

  pub row_total : (l l' : List ℕ) (c : Counts) → Wrote (row_findings inner) l nothing l' c → total c ≤ count_limit
  row_total = few-counted (row_findings inner) (row-few 1 inner)

  pub attributes_asked : (marker : List ℕ) → Run s t (i + 1) to × Spanned s t i × Room nothing (attributes_findings i marker inner)
  attributes_asked marker =
      let a = asked (attributes_findings i marker inner) (attributes-few i marker inner) in
      (a.0, child-spanned s t i o.child, a.1)

  pub attributes_total : (marker l l' : List ℕ) (c : Counts) → Wrote (attributes_findings i marker inner) l nothing l' c → total c ≤ count_limit
  attributes_total marker = few-counted (attributes_findings i marker inner) (attributes-few i marker inner)

-- the numbers of refusals are few
pub number_few : (r : Reason) → number_of r < 32
number_few reason.BadTableLayout = omega arith
number_few reason.SourceTooLong = omega arith
number_few reason.SourceNotUtf8 = omega arith
number_few reason.BadTapeLength = omega arith
number_few reason.BadNodeKind = omega arith
number_few reason.BadNodeSpan = omega arith
number_few reason.BrokenLinks = omega arith
number_few reason.TooDeep = omega arith
number_few reason.SplitLabel = omega arith
number_few reason.WorkingListTooShort = omega arith
number_few reason.BadTallyList = omega arith
number_few reason.NoMessage = omega arith
number_few reason.MessageListTooShort = omega arith
number_few reason.CountTooLarge = omega arith
number_few reason.NoVerses = omega arith
number_few reason.UnknownMarker = omega arith
number_few reason.UnmatchedMarker = omega arith
number_few reason.NodeListTooShort = omega arith
