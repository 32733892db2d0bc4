-- Document 02, K5: the refusals of the reader in checking order, its answer, and what it leaves in the lent list of nodes.
use Rattle.std.specs.Prelude.{ℕ, ◌*◌, List, [], ◌++◌, ltb, length, drop}
use Rattle.std.specs.Prelude.{Option, Some, None}
use Rattle.text.specs.Utf8.{first_ill_formed}
use Rattle.refusals.specs.Refusal.{Refusal, refuse, only_if, or_else, bad_table_layout, source_too_long, source_not_utf8, node_list_too_short}
use Rattle.tape.specs.Nodes.{count}
use Rattle.table.specs.Lines.{bad_table}
use Rattle.definition.specs.Outcome.{words_by}
use Rattle.refusals.specs.Refusal.{at_place}
use Rattle.definition.specs.Examples.{Row, tape_of}
use Rattle.reader_spec.specs.Pass.{ReadNode, PassOutcome, passed, faulty, outcome}
use Rattle.reader_spec.specs.Rows.{node_count, rows_of}

-- "18 when the node list is too short, place the nodes needed": only where the whole text has no fault
abbrev pub pass_refusal : ℕ → PassOutcome → Option Refusal
pass_refusal room (faulty number place) = refuse number place
pass_refusal room (passed xs) = only_if (ltb room (node_count xs)) (refuse node_list_too_short (node_count xs))

-- "Answers, after 1 to 3". The lent list is one of bytes: `count` says how many nodes have room in it
unfoldable pub read_refusal : List ℕ → List ℕ → List ℕ → Option Refusal
read_refusal t s nodes =
    or_else (at_place bad_table_layout (bad_table t))
    (or_else (only_if (ltb 1048576 (length s)) (refuse source_too_long 0))
    (or_else (at_place source_not_utf8 (first_ill_formed s)) (pass_refusal (count nodes) (outcome t s))))

-- the nodes of a text without a fault
abbrev pub nodes_of : PassOutcome → List ReadNode
nodes_of (passed xs) = xs
nodes_of (faulty number place) = []

abbrev pub nodes_read : List ℕ → List ℕ → List ReadNode
nodes_read t s = nodes_of (outcome t s)

abbrev pub rows_read : List ℕ → List ℕ → List Row
rows_read t s = rows_of s (nodes_read t s)

-- the bytes of a text's tape
abbrev pub tape_read : List ℕ → List ℕ → List ℕ
tape_read t s = tape_of (rows_read t s)

-- the answer: a refusal, or the number of nodes
pub data ReadAnswer : Type 0 where
  refused : Refusal → ReadAnswer
  read : ℕ → ReadAnswer

abbrev pub read_answer_by : Option Refusal → ℕ → ReadAnswer
read_answer_by (Some r) n = refused r
read_answer_by None n = read n

abbrev pub read_answer : List ℕ → List ℕ → List ℕ → ReadAnswer
read_answer t s nodes = read_answer_by (read_refusal t s nodes) (node_count (nodes_read t s))

-- a refusal writes nothing; "lent lists keep what lies beyond the written part"
abbrev pub nodes_after : List ℕ → List ℕ → List ℕ → List ℕ
nodes_after t s nodes = words_by (read_refusal t s nodes) nodes (tape_read t s ++ drop (16 * node_count (nodes_read t s)) nodes)
