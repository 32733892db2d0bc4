-- Document 02, K5: "Every tape it yields is one that numbers 4 to 9 don't turn back, unless it is too deep or over 65,535 nodes." What that says, of the nodes that the pass gives and of what the check answers.
use Rattle.std.specs.Prelude.{ℕ, suc, pred, ◌+◌, ◌*◌, ◌<◌, ◌≤◌, max, ◌≡◌, List, [], ◌∷◌, length, take}
use Rattle.std.specs.Prelude.{None}
use Rattle.text.specs.Utf8.{first_ill_formed}
use Rattle.refusals.specs.Refusal.{refuse, bad_tape_length, too_deep}
use Rattle.tape.specs.Nodes.{block_end_kind}
use Rattle.tape.specs.Reading.{tape_refusal}
use Rattle.table.specs.Lines.{bad_table}
use Rattle.numbers.specs.Label.{label_refusal}
use Rattle.definition.specs.declared.OpenStart.{OpenStart}
use Rattle.definition.specs.Outcome.{Lent, refusal, of10}
use Rattle.definition.specs.Examples.{Row, tape_of}
use Rattle.reader_spec.specs.Pass.{ReadNode}
use Rattle.reader_spec.specs.Rows.{Shape, leaf_shape, open_shape, close_shape, shape_of, rows_from, node_count, rows_of}
use Rattle.reader_spec.specs.Answer.{nodes_read, tape_read, nodes_after}

-- what 1 to 3 leave to the reader
pub record Legible (t s : List ℕ) : Type 0 where
  pub table : bad_table t ≡ None
  pub short : length s ≤ 1048576
  pub utf8 : first_ill_formed s ≡ None

-- the rows lie end to end from one place to another, and just the BlockEnds among them are empty
unfoldable pub Tiles : ℕ → List Row → ℕ → Type 0
Tiles at [] to = at ≡ to
Tiles at (r ∷ rs) to = (r.start ≡ at) × (r.kind ≡ block_end_kind → r.len ≡ 0) × ((r.kind ≡ block_end_kind → ⊥) → 1 ≤ r.len) × Tiles (at + r.len) rs to

-- "too deep": how many opens stand inside one another at the most, the root not counted; d are open before these nodes
abbrev pub deepest_by : Shape → (ℕ → ℕ) → ℕ → ℕ
deepest_by leaf_shape rest d = rest d
deepest_by open_shape rest d = max (suc d) (rest (suc d))
deepest_by close_shape rest d = rest (pred d)

unfoldable pub deepest : List ReadNode → ℕ → ℕ
deepest [] d = 0
deepest (x ∷ xs) d = deepest_by (shape_of x) (deepest xs) d

-- the tape of these nodes: numbers 4 and 8 are the only exceptions
pub record Yields (t s : List ℕ) (xs : List ReadNode) : Type 0 where
  pub tiled : Tiles 0 (rows_from 1 xs) (length s)
  pub few : node_count xs ≤ length s + 1
  pub over : 65535 < node_count xs → tape_refusal s (tape_of (rows_of s xs)) ≡ refuse bad_tape_length 0
  pub deep : node_count xs ≤ 65535 → 64 < deepest xs 0 → (place : ℕ) × (tape_refusal s (tape_of (rows_of s xs)) ≡ refuse too_deep place)
  pub passes : node_count xs ≤ 65535 → deepest xs 0 ≤ 64 → tape_refusal s (tape_of (rows_of s xs)) ≡ None
  pub labels : node_count xs ≤ 65535 → label_refusal t s (tape_of (rows_of s xs)) ≡ None

-- a text's own tape lent to the check, with any working lists and any list of findings
abbrev pub own_tape : List ℕ → List ℕ → List ℕ → List OpenStart → List ℕ → Lent
own_tape t s seen starts list =
    record {
      table = t;
      source = s;
      tape = tape_read t s;
      seen = seen;
      open_starts = starts;
      list = list;
    }

-- what the check answers for it: 4 over 65,535 nodes, 8 where it is too deep, otherwise none of 1 to 9. The lent list of nodes begins with it
pub record ReadChecked (t s nodes seen : List ℕ) (starts : List OpenStart) (list : List ℕ) : Type 0 where
  pub written : take (16 * node_count (nodes_read t s)) (nodes_after t s nodes) ≡ tape_read t s
  pub over : 65535 < node_count (nodes_read t s) → refusal (own_tape t s seen starts list) ≡ refuse bad_tape_length 0
  pub deep : node_count (nodes_read t s) ≤ 65535 → 64 < deepest (nodes_read t s) 0 → (place : ℕ) × (refusal (own_tape t s seen starts list) ≡ refuse too_deep place)
  pub passes : node_count (nodes_read t s) ≤ 65535 → deepest (nodes_read t s) 0 ≤ 64 → refusal (own_tape t s seen starts list) ≡ of10 (own_tape t s seen starts list)
