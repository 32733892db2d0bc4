-- How much a forest holds: a bound on all that can be found in it.
-- Assumes nothing.
use Prim.Native.Nat.{ℕ, ◌+◌, ◌-◌, ◌*◌, ◌≤◌}
use native.Mathlib.Omega.{arith}
use native.Mathlib.Nat.{le_refl}
use mathlib.Core.List.{List}
use lib.ListN.{length, drop, length-take, length-drop}
use Rattle.tape.specs.Nodes.{Node, node_at, start_at, len_at}
use Rattle.tape.specs.Forest.{Forest, end, leaf, node, forest, Nested, done, one, inner}
use Rattle.tape.proofs.Nest.{nested-le, forest-done, forest-leaf, forest-node}

-- a node and the bytes of its text
abbrev pub amount : Node → ℕ
amount x = 1 + length x.text

-- of the siblings alone, and of all nodes
unfoldable pub breadth : Forest → ℕ
breadth end = 0
breadth (leaf x r) = amount x + breadth r
breadth (node x c r) = amount x + breadth r

unfoldable pub weight : Forest → ℕ
weight end = 0
weight (leaf x r) = amount x + weight r
weight (node x c r) = amount x + weight c + weight r

pub breadth-le : (f : Forest) → breadth f ≤ weight f
unfolding breadth weight
breadth-le end = le_refl 0
breadth-le (leaf x r) = let h = breadth-le r in omega arith
breadth-le (node x c r) = let h = breadth-le r in omega arith

-- how many nodes it has, closes aside
unfoldable pub nodes_in : Forest → ℕ
nodes_in end = 0
nodes_in (leaf x r) = 1 + nodes_in r
nodes_in (node x c r) = 1 + nodes_in c + nodes_in r

pub nodes-le : (s t : List ℕ) {d a b : ℕ} → Nested t d a b → nodes_in (forest s t a b) ≤ b - a
unfolding nodes_in
nodes-le s t {d} {a} {b} (done e) = rw (forest-done s t a b (omega arith)) (omega arith)
nodes-le s t {d} {a} {b} (one h z r) =
    let w = nodes-le s t r in
    let l = nested-le r in
    rw (forest-leaf s t h z r) (omega arith)
nodes-le s t {d} {a} {b} (inner h z c r) =
    let w = nodes-le s t r in
    let v = nodes-le s t c in
    let l = nested-le r in
    let k = nested-le c in
    rw (forest-node s t h z c r) (omega arith)

-- in a source that number 2 passes, no text is longer than 1,048,576 bytes
module _ (s t : List ℕ) (short : length s ≤ 1048576) where
  amount-le : (i : ℕ) → amount (node_at s t i) ≤ 1048577
  amount-le i =
      let d = length-drop (start_at t i) s in
      omega (arith, length-take (len_at t i) (drop (start_at t i) s))

  pub weight-le : {d a b : ℕ} → Nested t d a b → weight (forest s t a b) ≤ 1048577 * (b - a)
  unfolding weight
  weight-le {d} {a} {b} (done e) = rw (forest-done s t a b (omega arith)) (omega arith)
  weight-le {d} {a} {b} (one h z r) =
      let w = weight-le r in
      let l = nested-le r in
      let m = amount-le a in
      rw (forest-leaf s t h z r) (omega arith)
  weight-le {d} {a} {b} (inner h z c r) =
      let w = weight-le r in
      let v = weight-le c in
      let l = nested-le r in
      let k = nested-le c in
      let m = amount-le a in
      rw (forest-node s t h z c r) (omega arith)
