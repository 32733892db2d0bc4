-- A row gives at most one finding for each of its nodes.
-- Assumes nothing.
use Prim.Native.Nat.{ℕ, ◌+◌, ◌≤◌}
use native.Mathlib.Omega.{arith}
use native.Mathlib.Nat.{le_refl}
use mathlib.Core.Bool.{Bool, true, false, not}
use mathlib.Core.List.{List}
use Rattle.std.specs.Prelude.{Option, Some, None}
use lib.Dec.{eqb}
use lib.ListN.{length, length-append}
use Rattle.tape.specs.Nodes.{Node}
use Rattle.tape.specs.Forest.{Forest, end, leaf, node}
use Rattle.tape.proofs.Sizes.{amount, breadth}
use Rattle.findings.specs.Finding.{Finding}
use Rattle.findings.specs.Written.{only}
use Rattle.rows.specs.Cells.{ColumnRange}
use Rattle.rows.specs.Row.{out_of_order, cell_in, by_columns, row_from}

pub only-few : (there : Bool) (f : Finding) → length (only there f) ≤ 1
only-few true f = omega arith
only-few false f = omega arith

few : (r : Option ColumnRange) (x : Node) (e b : ℕ) (after : ℕ → List Finding) → ((k : ℕ) → length (after k) ≤ b) → length (by_columns r x e after) ≤ amount x + b
few None x e b after h = let l = h e in omega arith
few (Some r) x e b after h =
    let l = h (r.end + 1) in
    let o = only-few (not (eqb r.start e)) (out_of_order x e r.start) in
    rw (length-append (only (not (eqb r.start e)) (out_of_order x e r.start)) (after (r.end + 1))) (omega arith)

pub row-few : (e : ℕ) (f : Forest) → length (row_from e f) ≤ breadth f
unfolding row_from breadth
row-few e end = le_refl 0
row-few e (leaf x r) = few (cell_in x) x e (breadth r) (λ k. row_from k r) (λ k. row-few k r)
row-few e (node x c r) = few (cell_in x) x e (breadth r) (λ k. row_from k r) (λ k. row-few k r)
