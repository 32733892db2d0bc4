-- What the calls of `put_run` leave in the list, call by call, is what its contract says.
-- Assumes nothing.
use Prim.Native.Nat.{ℕ, ◌+◌, ◌-◌, ◌*◌, ◌≤◌}
use native.Mathlib.Omega.{arith}
use mathlib.Core.Path.{◌≡◌, refl, ◌∙◌}
use mathlib.Core.Bool.{Bool, true, false}
use mathlib.Core.List.{List, []}
use lib.Dec.{eqb}
use lib.ListN.{length}
use borrow.Author.Tests.{eq-eqb, ne_eqb}
use Rattle.text.specs.Pick.{pick}
use Rattle.text.specs.Characters.{find_byte}
use Rattle.text.proofs.Chars.{byte_le}
use Rattle.reader_spec.specs.Pieces.{bar}
use Rattle.reader_spec.specs.Pass.{with_text, with_attribute}
use Rattle.reader_spec.specs.Rows.{rows_from}
use Rattle.reader_spec.specs.InnerWriting.{laid}
use Rattle.node_writer.specs.declared.Written.{Written}
use Rattle.node_writer.specs.Written.{written, text_limit, Ready, after_close, block_ends, after_block}
use Rattle.node_writer.proofs.Leaves.{laid_both, both-length}
use Rattle.second_pass.specs.Laid.{run_nodes_at}

-- the calls of `put_run`: with no character or note open, and with some
module _ (t : List ℕ) (w : Written) (depth at : ℕ) (l : List ℕ) (ready : Ready t w (length (run_nodes_at depth at l)) (at + length l)) where
  module _ (none_open : depth ≡ 0) where
    pub flat-stored : (t' : List ℕ) (r : ℕ) → (t' ≡ laid t w.next (rows_from w.next (with_text at (length l) []))) × (r ≡ w.next + length (with_text at (length l) [])) → (t' ≡ laid t w.next (rows_from w.next (run_nodes_at depth at l))) × (written r w.top ≡ written (w.next + length (run_nodes_at depth at l)) w.top)
    flat-stored t' r e = rw (eq-eqb depth 0 none_open) (e.0, rw e.1)

  module _ (some-open : depth ≡ 0 → ⊥) (b : ℕ) (is : b ≡ find_byte (eqb bar) l) where
    pub bar-inside : b ≤ length l
    bar-inside = rw is (byte_le (eqb bar) l)

    long : length (run_nodes_at depth at l) ≡ length (with_text at b []) + length (with_attribute (at + b) (length l - b) [])
    long = rw (ne_eqb depth 0 some-open, ← is) (omega (arith, both-length at b (at + b) (length l - b) []))

    pub text-ready : (16 * (w.next + length (with_text at b [])) ≤ length t) × (at + b ≤ text_limit)
    text-ready =
        let room = ready.room in
        let near = ready.near in
        (omega (arith, long), omega (arith, bar-inside))

    module _ (t1 : List ℕ) (r1 : ℕ) (first : (t1 ≡ laid t w.next (rows_from w.next (with_text at b []))) × (r1 ≡ w.next + length (with_text at b []))) where
      pub attribute-ready : length t1 ≡ length t → (16 * (r1 + length (with_attribute (at + b) (length l - b) [])) ≤ length t1) × (at + b + (length l - b) ≤ text_limit)
      attribute-ready same =
          let room = ready.room in
          let near = ready.near in
          rw (first.1, same) (omega (arith, long), omega (arith, bar-inside))

      pub split-stored : (t2 : List ℕ) (r2 : ℕ) → (t2 ≡ laid t1 r1 (rows_from r1 (with_attribute (at + b) (length l - b) []))) × (r2 ≡ r1 + length (with_attribute (at + b) (length l - b) [])) → (t2 ≡ laid t w.next (rows_from w.next (run_nodes_at depth at l))) × (written r2 w.top ≡ written (w.next + length (run_nodes_at depth at l)) w.top)
      split-stored t2 r2 e =
          let n : r2 ≡ w.next + length (run_nodes_at depth at l) = e.1 ∙ rw first.1 (omega (arith, long)) in (
            e.0 ∙ rw (first.0, first.1, ne_eqb depth 0 some-open, ← is) (laid_both t w.next at b (at + b) (length l - b)),
            rw n,
          )

-- a block's end is a node where one is written
pub block-next : (t : List ℕ) (w : Written) → (after_block t w).next ≡ w.next + block_ends w
block-next t w = go (eqb w.top 0)
  where
    go : (b : Bool) → (pick b w (after_close t w)).next ≡ w.next + pick b 0 1
    go true = omega arith
    go false = refl
