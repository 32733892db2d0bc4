-- Document 02, K5: the rows of a tape, from its nodes in their order. An open's link is the number of its close.
use Rattle.std.specs.Prelude.{ℕ, suc, List, [], ◌∷◌, length}
use Rattle.tape.specs.Nodes.{root_kind, marker_open_kind, marker_close_kind, chapter_kind, verse_kind, text_kind, attribute_kind, block_end_kind}
use Rattle.definition.specs.Examples.{Row, row}
use Rattle.reader_spec.specs.Pass.{ReadNode, text, attribute, chapter_at, verse_at, opens, closes, ends}

pub data Shape : Type 0 where
  leaf_shape : Shape
  open_shape : Shape
  close_shape : Shape

abbrev pub shape_of : ReadNode → Shape
shape_of (text a n) = leaf_shape
shape_of (attribute a n) = leaf_shape
shape_of (chapter_at m a n link) = leaf_shape
shape_of (verse_at m a n link) = leaf_shape
shape_of (opens m a n) = open_shape
shape_of (closes m a n) = close_shape
shape_of (ends m a) = close_shape

abbrev pub except_first : List ℕ → List ℕ
except_first [] = []
except_first (n ∷ ns) = ns

abbrev pub first_or0 : List ℕ → ℕ
first_or0 [] = 0
first_or0 (n ∷ ns) = n

-- one node, number n, before those after it: an open takes the first close of these, a close waits for its own open
abbrev pub awaited_before : Shape → ℕ → List ℕ → List ℕ
awaited_before leaf_shape n later = later
awaited_before open_shape n later = except_first later
awaited_before close_shape n later = n ∷ later

-- the numbers of the closes among the nodes from number n on whose opens stand before these, the innermost first
unfoldable pub awaited : ℕ → List ReadNode → List ℕ
awaited n [] = []
awaited n (x ∷ xs) = awaited_before (shape_of x) n (awaited (suc n) xs)

-- "fields not named here are as in the listing's example, in marker and link MarkerClose like BlockEnd, Attribute like Text": there a Text has marker 0 and link 0, a BlockEnd the marker of its open and link 0, and an open the number of its close for its link
abbrev pub row_of : ReadNode → ℕ → Row
row_of (text a n) close = row text_kind 0 a n 0
row_of (attribute a n) close = row attribute_kind 0 a n 0
row_of (chapter_at m a n link) close = row chapter_kind m a n link
row_of (verse_at m a n link) close = row verse_kind m a n link
row_of (opens m a n) close = row marker_open_kind m a n close
row_of (closes m a n) close = row marker_close_kind m a n 0
row_of (ends m a) close = row block_end_kind m a 0 0

-- the nodes from number n on
unfoldable pub rows_from : ℕ → List ReadNode → List Row
rows_from n [] = []
rows_from n (x ∷ xs) = row_of x (first_or0 (awaited (suc n) xs)) ∷ rows_from (suc n) xs

-- how many nodes there are, the root among them
abbrev pub node_count : List ReadNode → ℕ
node_count xs = suc (length xs)

-- the root spans the text, and its link is the number of nodes
abbrev pub root_row : List ℕ → List ReadNode → Row
root_row s xs = row root_kind 0 0 (length s) (node_count xs)

abbrev pub rows_of : List ℕ → List ReadNode → List Row
rows_of s xs = root_row s xs ∷ rows_from 1 xs
