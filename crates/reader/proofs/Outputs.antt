-- What read-exercise prints, from what `read` answers and leaves.
-- Assumes nothing.
use Prim.Native.Nat.{ℕ, suc, ◌*◌, ◌≤◌}
use native.Mathlib.Omega.{arith}
use native.Mathlib.Nat.{zero-add}
use mathlib.Core.Path.{◌≡◌, refl, ap, ◌∙◌}
use mathlib.Core.Bool.{false}
use mathlib.Core.List.{List, [], ◌++◌}
use Rattle.std.specs.Prelude.{Option, Some, None}
use lib.ListN.{length, take, drop}
use lib.Seq.{take-append_seam, drop-append_seam}
use Rattle.text.proofs.AnyOver.{any-parts}
use Rattle.refusals.specs.Refusal.{Refusal, refuse, node_list_too_short}
use Rattle.tape.specs.Nodes.{count}
use Rattle.buffer.proofs.Over.{over-fits, length_over}
use Rattle.listing.specs.Lines.{refused_lines}
use Rattle.listing.specs.Listing.{largest_file, is_too_large}
use Rattle.definition.specs.Outcome.{words_by}
use Rattle.reader_spec.specs.Rows.{node_count, rows_of}
use Rattle.reader_spec.specs.Conditions.{GivenRead, by1, by2, by3, by16, by17, by18, by_none}
use Rattle.reader_spec.specs.Answer.{read_refusal, nodes_read, tape_read, read, read_answer_by, read_answer, nodes_after}
use Rattle.reader_spec.proofs.Fields.{tape-length, rows-length}
use Rattle.reader_spec.proofs.OneNumber.{read_number}
use Rattle.reader_spec.proofs.Whole.{was_read, read-yields, read-checked}
use Rattle.reader.specs.Output.{program_nodes, tape_unless, read_output, Printed}

-- nodes that are read have room in the list
pub nodes-fit : (t s entry : List ℕ) (n : ℕ) → read n ≡ read_answer t s entry → 16 * n ≤ length entry
nodes-fit t s entry n = go (read_refusal t s entry) refl
  where
    go : (o : Option Refusal) → read_refusal t s entry ≡ o → read n ≡ read_answer_by o (node_count (nodes_read t s)) → 16 * n ≤ length entry
    go None e h =
        let z : n ≡ node_count (nodes_read t s) = cc in
        omega (arith, (was_read t s entry e).room)
    go (Some r) e h = let z : ◌≡◌ {A = ℕ} 0 1 = cc in absurd (omega arith)

-- a refusal leaves the list as it was, and what lies beyond the nodes stays in any case
module _ (t s nodes : List ℕ) where
  pub refused-unchanged : (r : Refusal) → read_refusal t s nodes ≡ Some r → nodes_after t s nodes ≡ nodes
  refused-unchanged r e = rw e

  pub kept-beyond : drop (16 * node_count (nodes_read t s)) (nodes_after t s nodes) ≡ drop (16 * node_count (nodes_read t s)) nodes
  kept-beyond = go (read_refusal t s nodes)
    where
      n : ℕ
      n = 16 * node_count (nodes_read t s)

      long : length (tape_read t s) ≡ n
      long = tape-length (rows_of s (nodes_read t s)) ∙ ap (16 *◌) (ap suc (rows-length 1 (nodes_read t s)))

      go : (o : Option Refusal) → drop n (words_by o nodes (tape_read t s ++ drop n nodes)) ≡ drop n nodes
      go None = rw (← long) (drop-append_seam (tape_read t s) (drop (length (tape_read t s)) nodes))
      go (Some r) = refl

  -- a list of as many nodes as the program's has room for any text that isn't too large
  pub has_room : (place : ℕ) → is_too_large t s [] ≡ false → count nodes ≡ program_nodes → read_refusal t s nodes ≡ refuse node_list_too_short place → ⊥
  has_room place small room given = by_number ((read_number t s nodes (refuse node_list_too_short place)).0 given) refl
    where
      number : Option Refusal → ℕ
      number None = 0
      number (Some r) = r.number

      by_number : {o : Option Refusal} → GivenRead t s nodes o → o ≡ refuse node_list_too_short place → ⊥
      by_number (by1 p h) e = let z = ap number e in omega arith
      by_number (by2 h long) e = let z = ap number e in omega arith
      by_number (by3 p h short g) e = let z = ap number e in omega arith
      by_number (by16 p l h) e = let z = ap number e in omega arith
      by_number (by17 p l h) e = let z = ap number e in omega arith
      by_number (by18 xs l passes short) e =
          let few = (read-yields t s xs l passes).few in
          let parts = any-parts largest_file (length t) (length s) 0 small in
          let source = parts.1.0 in
          omega arith
      by_number (by_none xs l passes fits) e = let z = ap number e in omega arith

-- the part up to the end is the whole output, for files that are not too large and a list with room for the lines of a refusal
pub output-printed : (t s entry exit : List ℕ) (r : ℕ) → is_too_large t s [] ≡ false → 256 ≤ length entry → r ≤ length exit → Printed t s entry exit r (read_answer t s entry) → take r exit ≡ read_output t s entry
unfolding read_output
output-printed t s entry exit r small room inside p = rw small (go (read_refusal t s entry) refl p)
  where
    go : (o : Option Refusal) → read_refusal t s entry ≡ o → Printed t s entry exit r (read_answer_by o (node_count (nodes_read t s))) → take r exit ≡ tape_unless o (tape_read t s)
    go None e (leaves, end) = rw (leaves, end) (read-checked t s entry [] [] [] e).written
    go (Some x) e put =
        let l = refused_lines x.number x.place in
        let long : length exit ≡ length entry = ap length put.list ∙ length_over entry 0 l in
        let end : r ≡ length l = put.end ∙ zero-add _ in
        let fits : length l ≤ length entry = omega arith in
        rw (end, put.list, over-fits entry l fits) (take-append_seam l (drop (length l) entry))
