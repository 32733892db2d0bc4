-- What the code's second pass writes: rows laid over a lent list, and links that wait for their closes.
use Rattle.std.specs.Prelude.{ℕ, suc, ◌+◌, ◌*◌, ◌<◌, ◌≤◌, ◌≡◌, List, [], ◌∷◌}
use Rattle.std.specs.Prelude.{Option, Some, None}
use Rattle.std.proofs.lemmas.List.Edits.{sets}
use Rattle.tape.specs.Nodes.{marker_at, link_at}
use Rattle.definition.specs.Examples.{Row, four, tape_of}
use Rattle.reader_spec.specs.Pass.{ReadNode, OpenMarker}
use Rattle.reader_spec.specs.Rows.{awaited, rows_from}

-- the 16 bytes of a row
abbrev pub bytes_of : Row → List ℕ
bytes_of r = tape_of (r ∷ [])

-- a row stored as node n, and the link of node o alone
unfoldable pub put_row : List ℕ → ℕ → Row → List ℕ
put_row w n r = sets w (16 * n) (bytes_of r)

unfoldable pub put_link : List ℕ → ℕ → ℕ → List ℕ
put_link w o c = sets w (16 * o + 12) (four c)

-- rows stored from node n on
unfoldable pub laid : List ℕ → ℕ → List Row → List ℕ
laid w n [] = w
laid w n (r ∷ rs) = laid (put_row w n r) (suc n) rs

-- the opens that wait, the innermost first, get the numbers of their closes
unfoldable pub linked : List ℕ → List ℕ → List ℕ → List ℕ
linked w [] ns = w
linked w (o ∷ os) [] = w
linked w (o ∷ os) (c ∷ ns) = linked (put_link w o c) os ns

-- what a list will hold that holds the nodes before n, when the nodes from n on are written and the opens that wait are closed
abbrev pub will_hold : List ℕ → ℕ → List ℕ → List ReadNode → List ℕ
will_hold w n os xs = laid (linked w os (awaited n xs)) n (rows_from n xs)

-- until its close comes, the link of an open node is the number of the open around it, or 0: from the innermost, top, all that wait below node n
unfoldable pub OpensWait : List ℕ → ℕ → ℕ → List ℕ → Type 0
OpensWait w n top [] = top ≡ 0
OpensWait w n top (o ∷ os) = (top ≡ o) × (1 ≤ o) × (o < n) × OpensWait w o (link_at w o) os

-- the markers of all that is open, the innermost first: the characters and notes, then the block
abbrev pub block_marker : Option ℕ → List ℕ
block_marker None = []
block_marker (Some m) = m ∷ []

abbrev pub markers_of : Option ℕ → List OpenMarker → List ℕ
markers_of b [] = block_marker b
markers_of b (o ∷ os) = o.marker ∷ markers_of b os

-- the opens that wait have these markers: a close and a BlockEnd take theirs from the innermost
unfoldable pub Marked : List ℕ → List ℕ → List ℕ → Type 0
Marked w [] [] = Unit {0}
Marked w [] (m ∷ ms) = ⊥
Marked w (o ∷ os) [] = ⊥
Marked w (o ∷ os) (m ∷ ms) = (marker_at w o ≡ m) × Marked w os ms
