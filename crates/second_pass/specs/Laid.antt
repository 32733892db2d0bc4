-- What the second pass needs, and what it leaves in the lent list.
use Rattle.std.specs.Prelude.{ℕ, ◌+◌, ◌-◌, ◌*◌, ◌<◌, ◌≤◌, ◌≡◌, List, [], eqb, length}
use Rattle.text.specs.Pick.{pick}
use Rattle.text.specs.Characters.{find_byte}
use Rattle.tape.specs.Nodes.{marker_open_kind, marker_close_kind, chapter_kind, verse_kind}
use Rattle.table.specs.Entries.{entries, nth}
use Rattle.definition.specs.Examples.{row}
use Rattle.reader_spec.specs.Pieces.{bar}
use Rattle.reader_spec.specs.Pass.{ReadNode, with_text, with_attribute, milestone_nodes, passed, outcome}
use Rattle.reader_spec.specs.Rows.{rows_from, node_count}
use Rattle.reader_spec.specs.InnerWriting.{put_row, laid}
use Rattle.reader_spec.specs.Answer.{nodes_read}
use Rattle.reader_spec.specs.Promise.{Legible}
use Rattle.pieces.specs.Shown.{link_by, bytes_of}
use Rattle.pieces.specs.declared.Piece.{Piece}
use Rattle.pieces.specs.declared.Piece.TheVariants as found
use Rattle.node_writer.specs.declared.Written.{Written}
use Rattle.node_writer.specs.Written.{written, Ready, closed, after_close, block_ends, ended_block, after_block}

-- the nodes of a run, from how many characters and notes are open and from its text
abbrev pub run_nodes_at : ℕ → ℕ → List ℕ → List ReadNode
run_nodes_at depth at l = pick (eqb depth 0) (with_text at (length l) []) (with_text at (find_byte (eqb bar) l) (with_attribute (at + find_byte (eqb bar) l) (length l - find_byte (eqb bar) l) []))

-- how many nodes a piece gives
abbrev pub piece_nodes : Written → ℕ → ℕ → List ℕ → Piece → ℕ
piece_nodes w depth at l (found.Run n) = length (run_nodes_at depth at l)
piece_nodes w depth at l (found.Close n) = 1
piece_nodes w depth at l (found.Block m n) = block_ends w + 1
piece_nodes w depth at l (found.Chapter m n) = block_ends w + 1
piece_nodes w depth at l (found.Verse m n) = 1
piece_nodes w depth at l (found.Inline m n) = 1
piece_nodes w depth at l (found.Milestone m n x y) = length (milestone_nodes m at n x y)
piece_nodes w depth at l (found.Fault k) = 0

-- the list has room for the nodes of a piece with the text l, and the open node around a block stands before the block's end
pub record PieceReady (t : List ℕ) (w : Written) (depth at : ℕ) (l : List ℕ) (p : Piece) : Type 0 where
  pub own : bytes_of p (length l) ≡ length l
  pub ready : Ready t w (piece_nodes w depth at l p) (at + length l)
  pub around : (after_block t w).top < (after_block t w).next

-- the list behind a piece, under the table tb
abbrev pub piece_laid : List ℕ → List ℕ → Written → ℕ → ℕ → List ℕ → Piece → List ℕ
piece_laid tb t w depth at l (found.Run n) = laid t w.next (rows_from w.next (run_nodes_at depth at l))
piece_laid tb t w depth at l (found.Close n) = closed t w marker_close_kind at n
piece_laid tb t w depth at l (found.Block m n) = put_row (ended_block t w at) (after_block t w).next (row marker_open_kind m at n (after_block t w).top)
piece_laid tb t w depth at l (found.Chapter m n) = put_row (ended_block t w at) (after_block t w).next (row chapter_kind m at (length l) (link_by (nth (entries tb) m) l))
piece_laid tb t w depth at l (found.Verse m n) = put_row t w.next (row verse_kind m at (length l) (link_by (nth (entries tb) m) l))
piece_laid tb t w depth at l (found.Inline m n) = put_row t w.next (row marker_open_kind m at n w.top)
piece_laid tb t w depth at l (found.Milestone m n x y) = laid t w.next (rows_from w.next (milestone_nodes m at n x y))
piece_laid tb t w depth at l (found.Fault k) = t

-- where the writing is behind a piece
abbrev pub after_piece : List ℕ → Written → ℕ → ℕ → List ℕ → Piece → Written
after_piece t w depth at l (found.Run n) = written (w.next + length (run_nodes_at depth at l)) w.top
after_piece t w depth at l (found.Close n) = after_close t w
after_piece t w depth at l (found.Block m n) = written ((after_block t w).next + 1) (after_block t w).next
after_piece t w depth at l (found.Chapter m n) = written ((after_block t w).next + 1) (after_block t w).top
after_piece t w depth at l (found.Verse m n) = written (w.next + 1) w.top
after_piece t w depth at l (found.Inline m n) = written (w.next + 1) w.next
after_piece t w depth at l (found.Milestone m n x y) = written (w.next + length (milestone_nodes m at n x y)) w.top
after_piece t w depth at l (found.Fault k) = w

-- what the first pass has found: the text tx has no fault, and its nodes have room in the list t
pub record Writable (tb tx t : List ℕ) (count : ℕ) : Type 0 where
  pub legible : Legible tb tx
  pub passes : outcome tb tx ≡ passed (nodes_read tb tx)
  pub room : 16 * node_count (nodes_read tb tx) ≤ length t
  pub counted : count ≡ node_count (nodes_read tb tx)
