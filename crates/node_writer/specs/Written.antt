-- What the functions that write nodes need, and what they leave in the lent list.
use Rattle.std.specs.Prelude.{ℕ, ◌+◌, ◌*◌, ◌<◌, ◌≤◌, List, [], ◌∷◌, eqb, length}
use Rattle.text.specs.Pick.{pick}
use Rattle.tape.specs.Nodes.{marker_at, link_at, block_end_kind}
use Rattle.definition.specs.Examples.{Row, row}
use Rattle.reader_spec.specs.InnerWriting.{put_row, put_link}
use Rattle.node_writer.specs.declared.Written.{Written}

abbrev pub written : ℕ → ℕ → Written
written next top = record { next = next; top = top }

-- the longest text, and the most nodes that one of its length gives: one for each byte, and the root
abbrev pub text_limit : ℕ
text_limit = 1048576

abbrev pub node_limit : ℕ
node_limit = 1048577

-- a Text or an Attribute; of no bytes it is no node
abbrev pub leaf_rows : ℕ → ℕ → ℕ → List Row
leaf_rows kind at len = pick (eqb len 0) [] (row kind 0 at len 0 ∷ [])

-- the list has room for k more nodes, whose bytes end in the text
pub record Ready (t : List ℕ) (w : Written) (k end : ℕ) : Type 0 where
  pub room : 16 * (w.next + k) ≤ length t
  pub few : w.next + k ≤ node_limit
  pub below : w.top < w.next
  pub near : end ≤ text_limit

-- the innermost open node closed: its link is the number of the close, which has its marker. The open node around it was its link
abbrev pub closed : List ℕ → Written → ℕ → ℕ → ℕ → List ℕ
closed t w kind at len = put_row (put_link t w.top w.next) w.next (row kind (marker_at t w.top) at len 0)

abbrev pub after_close : List ℕ → Written → Written
after_close t w = written (w.next + 1) (link_at t w.top)

-- a block's end, where a block is open
abbrev pub block_ends : Written → ℕ
block_ends w = pick (eqb w.top 0) 0 1

abbrev pub ended_block : List ℕ → Written → ℕ → List ℕ
ended_block t w at = pick (eqb w.top 0) t (closed t w block_end_kind at 0)

abbrev pub after_block : List ℕ → Written → Written
after_block t w = pick (eqb w.top 0) w (after_close t w)
