-- Document 02, K5: "Every tape it yields is one that numbers 4 to 9 don't turn back, unless it is too deep or over 65,535 nodes."
-- Assumes nothing.
use Prim.Native.Nat.{ℕ, ◌*◌, ◌≤◌}
use mathlib.Core.Path.{◌≡◌, refl, sym, ap, ◌∙◌}
use mathlib.Core.List.{List}
use Rattle.std.specs.Prelude.{None}
use lib.Dec.{ltb}
use lib.ListN.{length, drop}
use lib.Seq.{take-append_seam}
use borrow.Author.Tests.{ltb-false, le-ltb}
use Rattle.text.specs.Utf8.{Made, first_ill_formed}
use Rattle.text.proofs.Exact.{utf8-exact}
use Rattle.text.proofs.Boundary.{at_zero}
use Rattle.refusals.specs.Refusal.{only_if, refuse, bad_table_layout, source_too_long, source_not_utf8}
use Rattle.refusals.proofs.First.{refused, neither, only-not}
use Rattle.tape.specs.Nodes.{count}
use Rattle.tape.specs.Forest.{Accepted}
use Rattle.tape.proofs.OneNumber.{accepted}
use Rattle.table.specs.Lines.{bad_table}
use Rattle.definition.specs.declared.OpenStart.{OpenStart}
use Rattle.definition.specs.Outcome.{refusal}
use Rattle.refusals.specs.Refusal.{at_place}
use Rattle.definition.specs.Examples.{tape_of}
use Rattle.reader_spec.specs.Pieces.{pieces}
use Rattle.reader_spec.specs.Pass.{ReadNode, PassOutcome, passed, faulty, nothing_open, outcome}
use Rattle.reader_spec.specs.Rows.{node_count, rows_of}
use Rattle.reader_spec.specs.Answer.{pass_refusal, read_refusal, nodes_of, nodes_read, tape_read}
use Rattle.reader_spec.specs.Promise.{Legible, Yields, deepest, ReadChecked}
use Rattle.definition.proofs.WellFormed.{no_place}
use Rattle.reader_spec.proofs.Fields.{tape-length, rows-length}
use Rattle.reader_spec.proofs.Links.{Closes}
use Rattle.reader_spec.proofs.Sound.{Good, pass-good}
use Rattle.reader_spec.proofs.Cuts.{pieces-laid}
use Rattle.reader_spec.proofs.Numbers.{good-closes}
use Rattle.reader_spec.proofs.Taped.{yields}

module _ (t s : List ℕ) (xs : List ReadNode) (l : Legible t s) (h : outcome t s ≡ passed xs) where
  reads-good : Good t s xs 0 0
  unfolding outcome
  reads-good =
      let made : Made s = (utf8-exact s).0 l.utf8 in
      pass-good t s 0 (pieces t s) nothing_open xs (at_zero s 0 refl) tt tt (pieces-laid t s l.table made) h

  -- all opens are closed, as the pass that writes asks at its start
  pub reads-closes : Closes xs 0
  reads-closes = good-closes t s xs 0 0 reads-good

  pub read-yields : Yields t s xs
  read-yields = yields t s xs l.short reads-good

  -- a tape that is neither too deep nor too long is accepted
  pub read-accepted : node_count xs ≤ 65535 → deepest xs 0 ≤ 64 → Accepted s (tape_of (rows_of s xs))
  read-accepted n d = (accepted s (tape_of (rows_of s xs))).0 (read-yields.passes n d)

-- what no number of the reader turns back
pub record WasRead (t s nodes : List ℕ) : Type 0 where
  pub legible : Legible t s
  pub passes : outcome t s ≡ passed (nodes_read t s)
  pub room : node_count (nodes_read t s) ≤ count nodes

pub was_read : (t s nodes : List ℕ) → read_refusal t s nodes ≡ None → WasRead t s nodes
unfolding read_refusal
was_read t s nodes e =
    let a = neither (at_place bad_table_layout (bad_table t)) _ e in
    let b = neither (only_if (ltb 1048576 (length s)) (refuse source_too_long 0)) _ a.1 in
    let c = neither (at_place source_not_utf8 (first_ill_formed s)) _ b.1 in
    let legible : Legible t s = record { table = no_place bad_table_layout (bad_table t) a.0; short = ltb-false 1048576 (length s) (only-not (ltb 1048576 (length s)) source_too_long 0 b.0); utf8 = no_place source_not_utf8 (first_ill_formed s) c.0 } in
    go (outcome t s) refl legible c.1
  where
    go : (o : PassOutcome) → outcome t s ≡ o → Legible t s → pass_refusal (count nodes) o ≡ None → WasRead t s nodes
    go (faulty number place) q l e = refused _ e
    go (passed xs) q l e =
        let is : nodes_read t s ≡ xs = ap nodes_of q in
        record { legible = l; passes = q ∙ ap passed (sym is); room = rw is (ltb-false (count nodes) (node_count xs) (only-not (ltb (count nodes) (node_count xs)) _ _ e)) }

-- and what the check answers for a text's own tape
module _ (t s nodes seen : List ℕ) (starts : List OpenStart) (list : List ℕ) (none-given : read_refusal t s nodes ≡ None) where
  r : WasRead t s nodes
  r = was_read t s nodes none-given

  y : Yields t s (nodes_read t s)
  y = read-yields t s (nodes_read t s) r.legible r.passes

  pub read-checked : ReadChecked t s nodes seen starts list
  unfolding refusal
  read-checked =
      let long : length (tape_read t s) ≡ 16 * node_count (nodes_read t s) = tape-length (rows_of s (nodes_read t s)) ∙ rw (rows-length 1 (nodes_read t s)) in
      record {
        written = rw (none-given, ← long) (take-append_seam (tape_read t s) (drop (length (tape_read t s)) nodes));
        over = λ n. rw (r.legible.table, le-ltb 1048576 (length s) r.legible.short, r.legible.utf8, y.over n);
        deep = λ n d. ((y.deep n d).0, rw (r.legible.table, le-ltb 1048576 (length s) r.legible.short, r.legible.utf8, (y.deep n d).1));
        passes = λ n d. rw (r.legible.table, le-ltb 1048576 (length s) r.legible.short, r.legible.utf8, y.passes n d, y.labels n);
      }
