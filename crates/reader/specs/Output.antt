-- Document 02, K5: what the program read-exercise prints: the bytes of a text's tape, or a refusal as check-exercise prints it.
use Rattle.std.specs.Prelude.{ℕ, ◌*◌, ◌≡◌, List, []}
use Rattle.std.specs.Prelude.{Option, Some, None}
use Rattle.text.specs.Pick.{pick}
use Rattle.refusals.specs.Refusal.{Refusal}
use Rattle.buffer.specs.Over.{Put}
use Rattle.listing.specs.Lines.{too_large_lines, refused_lines}
use Rattle.listing.specs.Listing.{is_too_large}
use Rattle.reader_spec.specs.Answer.{ReadAnswer, refused, read, read_refusal, tape_read, nodes_after}

-- "its list holds 65,537 nodes": a text of 65,536 bytes, the largest that is read, has no more
abbrev pub program_nodes : ℕ
program_nodes = 65537

abbrev pub tape_unless : Option Refusal → List ℕ → List ℕ
tape_unless (Some r) tape = refused_lines r.number r.place
tape_unless None tape = tape

-- the whole output for table t and text s, with the program's list of nodes
unfoldable pub read_output : List ℕ → List ℕ → List ℕ → List ℕ
read_output t s nodes = pick (is_too_large t s []) too_large_lines (tape_unless (read_refusal t s nodes) (tape_read t s))

-- the list of nodes after the output is written over it up to r
abbrev pub Printed : List ℕ → List ℕ → List ℕ → List ℕ → ℕ → ReadAnswer → Type 0
Printed t s entry exit r (refused x) = Put (refused_lines x.number x.place) entry 0 exit r
Printed t s entry exit r (read n) = (exit ≡ nodes_after t s entry) × (r ≡ 16 * n)
