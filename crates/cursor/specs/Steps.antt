-- From a node to others, as the Rust's `Cursor` goes, and its number.
use Rattle.std.specs.Prelude.{ℕ, ◌+◌, Bool, not, ◌&&◌, ◌||◌, List, eqb, ltb}
use Rattle.std.specs.Prelude.{Option, Some, None}
use Rattle.text.specs.Pick.{pick}
use Rattle.tape.specs.Nodes.{count, kind_at, link_at, is_close, chapter_kind, verse_kind, root_kind, marker_open_kind}

-- Root and MarkerOpen have children
abbrev pub holds_nodes : ℕ → Bool
holds_nodes k = eqb k root_kind || eqb k marker_open_kind

-- "no children if it is adjacent": the node after a node that holds others, if it stands before the node's link
unfoldable pub first_child : List ℕ → ℕ → Option ℕ
first_child t i = pick (holds_nodes (kind_at t i) && ltb (i + 1) (link_at t i)) (Some (i + 1)) None

-- the node past a node, with all inside it
abbrev pub past_node : List ℕ → ℕ → ℕ
past_node t i = pick (holds_nodes (kind_at t i)) (link_at t i + 1) (i + 1)

-- the node past it, if it is on the tape and no close
unfoldable pub next_sibling : List ℕ → ℕ → Option ℕ
next_sibling t i = pick (ltb (past_node t i) (count t) && not (is_close (kind_at t (past_node t i)))) (Some (past_node t i)) None

-- "for `\c`/`\v` leaves, the parsed chapter/verse number (packed in `link`)"
unfoldable pub number_at : List ℕ → ℕ → Option ℕ
number_at t i = pick (eqb (kind_at t i) chapter_kind || eqb (kind_at t i) verse_kind) (Some (link_at t i)) None
