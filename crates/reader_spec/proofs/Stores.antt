-- Rows and links stored in a lent list: what it will hold stays the same from node to node, and what waits can be read off it.
-- Assumes nothing.
use Prim.Native.Nat.{ℕ, suc, ◌+◌, ◌-◌, ◌*◌, ◌<◌, ◌≤◌}
use native.Mathlib.Nat.{add-zero}
use native.Mathlib.Decide.{dec_lt}
use native.Mathlib.Omega.{arith}
use mathlib.Core.Path.{◌≡◌, refl, sym, ap, ◌∙◌}
use mathlib.Core.List.{List, [], ◌∷◌, ◌++◌, append_assoc}
use mathlib.Core.Logic.{◌⊎◌, inl, inr}
use lib.ListN.{length, get_or, set, take, drop, length-append, take-append-drop}
use lib.Seq.{sets, length-sets, sets-eq, set_comm, get_or-set_other, drop-append-add, drop_at, take-append_seam, length-take-le, drop-drop, set-set}
use Rattle.tape.specs.Nodes.{half, word, marker_at, link_at, marker_open_kind}
use Rattle.definition.specs.Examples.{Row, row, four, tape_of}
use Rattle.reader_spec.specs.Pass.{ReadNode, text, attribute, chapter_at, verse_at, opens, closes, ends}
use Rattle.reader_spec.specs.Rows.{Shape, leaf_shape, open_shape, close_shape, shape_of, first_or0, except_first, awaited, row_of, rows_from}
use Rattle.reader_spec.specs.InnerWriting.{bytes_of, put_row, put_link, laid, linked, will_hold, OpensWait, Marked}
use Rattle.reader_spec.proofs.Fields.{has-link, has-marker}

-- stores at places apart
set-sets : (l : List ℕ) (i j v : ℕ) (ys : List ℕ) → i < j → set (sets l j ys) i v ≡ sets (set l i v) j ys
set-sets l i j v [] h = refl
set-sets l i j v (y ∷ ys) h = set-sets (set l j y) i (suc j) v ys (omega arith) ∙ ap (λ (k : List ℕ). sets k (suc j) ys) (set_comm l j i y v (λ e. omega arith))

sets-comm : (l : List ℕ) (i j : ℕ) (xs ys : List ℕ) → i + length xs ≤ j → sets (sets l j ys) i xs ≡ sets (sets l i xs) j ys
sets-comm l i j [] ys h = refl
sets-comm l i j (x ∷ xs) ys h = ap (λ (k : List ℕ). sets k (suc i) xs) (set-sets l i j x ys (omega arith)) ∙ sets-comm (set l i x) (suc i) j xs ys (omega arith)

get_d_sets : (l : List ℕ) (i j : ℕ) (xs : List ℕ) → (j < i) ⊎ (i + length xs ≤ j) → get_or (sets l i xs) j 0 ≡ get_or l j 0
get_d_sets l i j [] h = refl
get_d_sets l i j (x ∷ xs) (inl h) = get_d_sets (set l i x) (suc i) j xs (inl (omega arith)) ∙ get_or-set_other l i j x 0 (λ e. omega arith)
get_d_sets l i j (x ∷ xs) (inr h) = get_d_sets (set l i x) (suc i) j xs (inr (omega arith)) ∙ get_or-set_other l i j x 0 (λ e. omega arith)

-- the links of nodes before node n, when node n is written
abbrev pub Before : ℕ → List ℕ → Type 0
Before n [] = Unit {0}
Before n (o ∷ os) = (o < n) × Before n os

put_linked : (w : List ℕ) (n : ℕ) (r : Row) (os ns : List ℕ) → Before n os → linked (put_row w n r) os ns ≡ put_row (linked w os ns) n r
unfolding linked put_row put_link
put_linked w n r [] ns h = refl
put_linked w n r (o ∷ os) [] h = refl
put_linked w n r (o ∷ os) (c ∷ ns) h =
    let k = h.0 in
    ap (λ (l : List ℕ). linked l os ns) (sets-comm w (16 * o + 12) (16 * n) (four c) (bytes_of r) (omega arith)) ∙ put_linked (put_link w o c) n r os ns h.1

-- stores one behind the other, and over one another
sets-append : (l : List ℕ) (i : ℕ) (xs ys : List ℕ) → sets l i (xs ++ ys) ≡ sets (sets l i xs) (i + length xs) ys
sets-append l i [] ys = ap (λ (k : ℕ). sets l k ys) (sym (add-zero i))
sets-append l i (x ∷ xs) ys =
    let z : suc i + length xs ≡ i + suc (length xs) = omega arith in
    sets-append (set l i x) (suc i) xs ys ∙ ap (λ (k : ℕ). sets (sets (set l i x) (suc i) xs) k ys) z

sets_over : (l : List ℕ) (i : ℕ) (xs ys : List ℕ) → length xs ≡ length ys → sets (sets l i xs) i ys ≡ sets l i ys
sets_over l i [] [] h = refl
sets_over l i [] (y ∷ ys) h = absurd (omega arith)
sets_over l i (x ∷ xs) [] h = absurd (omega arith)
sets_over l i (x ∷ xs) (y ∷ ys) h =
    ap (λ (k : List ℕ). sets k (suc i) ys) (set-sets (set l i x) i (suc i) y xs (omega arith) ∙ ap (λ (k : List ℕ). sets k (suc i) xs) (set-set l i x y)) ∙ sets_over (set l i y) (suc i) xs ys (omega arith)

row-split : (w : List ℕ) (n k m a l x : ℕ) → put_row w n (row k m a l x) ≡ put_link (sets w (16 * n) (take 12 (bytes_of (row k m a l 0)))) n x
unfolding put_row put_link tape_of
row-split w n k m a l x = sets-append w (16 * n) (take 12 (bytes_of (row k m a l 0))) (four x)

link-over : (w : List ℕ) (n k m a l x c : ℕ) → put_link (put_row w n (row k m a l x)) n c ≡ put_row w n (row k m a l c)
unfolding put_link
link-over w n k m a l x c =
    ap (λ (z : List ℕ). put_link z n c) (row-split w n k m a l x)
    ∙ sets_over (sets w (16 * n) (take 12 (bytes_of (row k m a l 0)))) (16 * n + 12) (four x) (four c) refl
    ∙ sym (row-split w n k m a l c)

-- the row of a node that is no open does not depend on the closes after it
abbrev NoOpen : Shape → Type 0
NoOpen leaf_shape = Unit {0}
NoOpen open_shape = ⊥
NoOpen close_shape = Unit {0}

row_any : (i : ReadNode) (x y : ℕ) → NoOpen (shape_of i) → row_of i x ≡ row_of i y
row_any (text a n) x y h = refl
row_any (attribute a n) x y h = refl
row_any (chapter_at m a n k) x y h = refl
row_any (verse_at m a n k) x y h = refl
row_any (opens m a n) x y h = absurd h
row_any (closes m a n) x y h = refl
row_any (ends m a) x y h = refl

-- a node at a time: what the list will hold stays the same
module _ (w : List ℕ) (n : ℕ) (os : List ℕ) (with_nodes : Before n os) (is : List ReadNode) where
  -- a leaf is stored
  pub hold-leaf : (i : ReadNode) (x : ℕ) → shape_of i ≡ leaf_shape → will_hold (put_row w n (row_of i x)) (suc n) os is ≡ will_hold w n os (i ∷ is)
  unfolding laid awaited rows_from
  hold-leaf i x e =
      let same : row_of i x ≡ row_of i (first_or0 (awaited (suc n) is)) = row_any i x (first_or0 (awaited (suc n) is)) (rw e tt) in
      rw (e, put_linked w n (row_of i x) os (awaited (suc n) is) with_nodes, same)

  -- an open is stored, with any link
  pub hold-open : (m a l x : ℕ) → 1 ≤ length (awaited (suc n) is) → will_hold (put_row w n (row marker_open_kind m a l x)) (suc n) (n ∷ os) is ≡ will_hold w n os (opens m a l ∷ is)
  unfolding laid linked awaited rows_from
  hold-open m a l x h = go (awaited (suc n) is) h
    where
      go : (ns : List ℕ) → 1 ≤ length ns → laid (linked (put_row w n (row marker_open_kind m a l x)) (n ∷ os) ns) (suc n) (rows_from (suc n) is) ≡ laid (put_row (linked w os (except_first ns)) n (row marker_open_kind m a l (first_or0 ns))) (suc n) (rows_from (suc n) is)
      go [] h = absurd (omega arith)
      go (c ∷ ns) h = ap (λ (z : List ℕ). laid z (suc n) (rows_from (suc n) is)) (ap (λ (z : List ℕ). linked z os ns) (link-over w n marker_open_kind m a l x c) ∙ put_linked w n (row marker_open_kind m a l c) os ns with_nodes)

  -- the link of the innermost open that waits is stored, and then its close
  pub hold-close : (i : ReadNode) (x o : ℕ) → shape_of i ≡ close_shape → will_hold (put_row (put_link w o n) n (row_of i x)) (suc n) os is ≡ will_hold w n (o ∷ os) (i ∷ is)
  unfolding laid linked awaited rows_from
  hold-close i x o e =
      let same : row_of i x ≡ row_of i (first_or0 (awaited (suc n) is)) = row_any i x (first_or0 (awaited (suc n) is)) (rw e tt) in
      rw (e, put_linked (put_link w o n) n (row_of i x) os (awaited (suc n) is) with_nodes, same)

-- when no node is left
pub hold-end : (w : List ℕ) (n : ℕ) → will_hold w n [] [] ≡ w
unfolding laid linked awaited rows_from
hold-end w n = refl

-- rows that have room stand in the list, and all else stays as it was
pub row-long : (w : List ℕ) (n : ℕ) (r : Row) → length (put_row w n r) ≡ length w
unfolding put_row
row-long w n r = length-sets w (16 * n) (bytes_of r)

row_in : (w : List ℕ) (n : ℕ) (r : Row) → 16 * n + 16 ≤ length w → put_row w n r ≡ take (16 * n) w ++ bytes_of r ++ drop (16 * n + 16) w
unfolding put_row tape_of
row_in w n r h = sets-eq (bytes_of r) w (16 * n) h

module _ (w : List ℕ) (n : ℕ) (r : Row) (room : 16 * n + 16 ≤ length w) where
  front : List ℕ
  front = take (16 * n) w ++ bytes_of r

  front_long : length front ≡ 16 * n + 16
  unfolding front tape_of
  front_long = length-append (take (16 * n) w) (bytes_of r) ∙ rw (length-take-le (16 * n) w (omega arith))

  parted : put_row w n r ≡ front ++ drop (16 * n + 16) w
  unfolding front
  parted = row_in w n r room

  row-take : take (16 * suc n) (put_row w n r) ≡ front
  row-take =
      let e : 16 * suc n ≡ 16 * n + 16 = omega arith in
      rw (e, parted, ← front_long) (take-append_seam front (drop (length front) w))

  row_drop : (k : ℕ) → 16 * n + 16 ≤ k → drop k (put_row w n r) ≡ drop k w
  row_drop k h =
      let e : k ≡ length front + (k - (16 * n + 16)) = omega (arith, front_long) in
      ap (drop k) parted
      ∙ ap (λ (j : ℕ). drop j (front ++ drop (16 * n + 16) w)) e
      ∙ drop-append-add front (drop (16 * n + 16) w) (k - (16 * n + 16))
      ∙ drop-drop (k - (16 * n + 16)) (16 * n + 16) w
      ∙ ap (λ (j : ℕ). drop j w) (sym (e ∙ ap (◌+ (k - (16 * n + 16))) front_long))

laid-front : (w : List ℕ) (n : ℕ) (r : Row) (room : 16 * n + 16 ≤ length w) (rest : List ℕ) → front w n r room ++ rest ≡ take (16 * n) w ++ (bytes_of r ++ rest)
unfolding front
laid-front w n r room rest = append_assoc (take (16 * n) w) (bytes_of r) rest

pub laid-is : (w : List ℕ) (n : ℕ) (rs : List Row) → 16 * (n + length rs) ≤ length w → laid w n rs ≡ take (16 * n) w ++ (tape_of rs ++ drop (16 * (n + length rs)) w)
unfolding laid tape_of
laid-is w n [] h = rw (add-zero n) (sym (take-append-drop (16 * n) w))
laid-is w n (r ∷ rs) h =
    let room : 16 * n + 16 ≤ length w = omega arith in
    let z : suc n + length rs ≡ n + suc (length rs) = omega arith in
    let fits : 16 * (suc n + length rs) ≤ length (put_row w n r) = rw (row-long w n r) (omega arith) in
    laid-is (put_row w n r) (suc n) rs fits
    ∙ rw (row-take w n r room, row_drop w n r room (16 * (suc n + length rs)) (omega arith), z) (laid-front w n r room (tape_of rs ++ drop (16 * (n + suc (length rs))) w))

-- the links of nodes before one that is written
module _ (w : List ℕ) (n o : ℕ) (apart : o < n) where
  row_keeps : (r : Row) → link_at (put_row w n r) o ≡ link_at w o
  unfolding word put_row
  row_keeps r =
      rw (get_d_sets w (16 * n) (16 * o + 12) (bytes_of r) (inl (omega arith)), get_d_sets w (16 * n) (16 * o + 12 + 1) (bytes_of r) (inl (omega arith)), get_d_sets w (16 * n) (16 * o + 12 + 2) (bytes_of r) (inl (omega arith)), get_d_sets w (16 * n) (16 * o + 12 + 3) (bytes_of r) (inl (omega arith)))

  link-keeps : (c : ℕ) → link_at (put_link w n c) o ≡ link_at w o
  unfolding word put_link
  link-keeps c =
      rw (get_d_sets w (16 * n + 12) (16 * o + 12) (four c) (inl (omega arith)), get_d_sets w (16 * n + 12) (16 * o + 12 + 1) (four c) (inl (omega arith)), get_d_sets w (16 * n + 12) (16 * o + 12 + 2) (four c) (inl (omega arith)), get_d_sets w (16 * n + 12) (16 * o + 12 + 3) (four c) (inl (omega arith)))

module _ (w : List ℕ) (n : ℕ) (r : Row) (room : 16 * n + 16 ≤ length w) where
  row-there : drop (16 * n) (put_row w n r) ≡ bytes_of r ++ drop (16 * n + 16) w
  row-there =
      ap (drop (16 * n)) (row_in w n r room ∙ append_assoc (take (16 * n) w) (bytes_of r) (drop (16 * n + 16) w)) ∙ drop_at (take (16 * n) w) (bytes_of r ++ drop (16 * n + 16) w) (16 * n) (length-take-le (16 * n) w (omega arith))

  link-new : link_at (put_row w n r) n ≡ r.link
  link-new = has-link (put_row w n r) n r (drop (16 * n + 16) w) row-there

  marker-new : r.marker < 65536 → marker_at (put_row w n r) n ≡ r.marker
  marker-new h = has-marker (put_row w n r) n r (drop (16 * n + 16) w) row-there h

-- the chain of opens that wait, as nodes are written
pub chain-wider : (w : List ℕ) (n k top : ℕ) (os : List ℕ) → n ≤ k → OpensWait w n top os → OpensWait w k top os
unfolding OpensWait
chain-wider w n k top [] h c = c
chain-wider w n k top (o ∷ os) h c = let l = c.2 in (c.0, c.1, omega arith, c.3)

chain-row : (w : List ℕ) (n k top : ℕ) (r : Row) (os : List ℕ) → k ≤ n → OpensWait w k top os → OpensWait (put_row w n r) k top os
unfolding OpensWait
chain-row w n k top r [] h c = c
chain-row w n k top r (o ∷ os) h c =
    let l = c.2 in
    let apart : o < n = omega arith in
    (c.0, c.1, c.2, rw (row_keeps w n o apart r) (chain-row w n o (link_at w o) r os (omega arith) c.3))

chain_link : (w : List ℕ) (p k top x : ℕ) (os : List ℕ) → k ≤ p → OpensWait w k top os → OpensWait (put_link w p x) k top os
unfolding OpensWait
chain_link w p k top x [] h c = c
chain_link w p k top x (o ∷ os) h c =
    let l = c.2 in
    let apart : o < p = omega arith in
    (c.0, c.1, c.2, rw (link-keeps w p o apart x) (chain_link w p o (link_at w o) x os (omega arith) c.3))

module _ (w : List ℕ) (n top : ℕ) where
  -- a node that is no open
  pub chain-leaf : (r : Row) (os : List ℕ) → OpensWait w n top os → OpensWait (put_row w n r) (suc n) top os
  chain-leaf r os c = chain-wider (put_row w n r) n (suc n) top os (omega arith) (chain-row w n n top r os (omega arith) c)

  -- an open, whose link is the open around it
  pub chain-open : (m a l : ℕ) (os : List ℕ) → 1 ≤ n → 16 * n + 16 ≤ length w → OpensWait w n top os → OpensWait (put_row w n (row marker_open_kind m a l top)) (suc n) n (n ∷ os)
  unfolding OpensWait
  chain-open m a l os h room c = (refl, h, omega arith, rw (link-new w n (row marker_open_kind m a l top) room) (chain-row w n n top (row marker_open_kind m a l top) os (omega arith) c))

  -- the close of the innermost: the open around that is read off its link, before the link is stored
  pub chain-close : (o : ℕ) (os : List ℕ) (x : ℕ) → OpensWait w n top (o ∷ os) → (top ≡ o) × (o < n) × OpensWait (put_link w o x) n (link_at w o) os
  unfolding OpensWait
  chain-close o os x c =
      let l = c.2 in
      (c.0, c.2, chain-wider (put_link w o x) o n (link_at w o) os (omega arith) (chain_link w o o (link_at w o) x os (omega arith) c.3))

-- all that wait stand before node n, as `hold-leaf`, `hold-open` and `hold-close` ask
pub chain-before : (w : List ℕ) (n k top : ℕ) (os : List ℕ) → k ≤ n → OpensWait w k top os → Before n os
unfolding OpensWait
chain-before w n k top [] h c = tt
chain-before w n k top (o ∷ os) h c = let l = c.2 in (omega arith, chain-before w n o (link_at w o) os (omega arith) c.3)

-- the markers of the opens that wait
pub marked_row : (w : List ℕ) (n : ℕ) (r : Row) (os ms : List ℕ) → Before n os → Marked w os ms → Marked (put_row w n r) os ms
unfolding Marked half put_row
marked_row w n r [] [] b k = tt
marked_row w n r [] (m ∷ ms) b k = absurd k
marked_row w n r (o ∷ os) [] b k = absurd k
marked_row w n r (o ∷ os) (m ∷ ms) b k =
    let apart = b.0 in
    (rw (get_d_sets w (16 * n) (16 * o + 2) (bytes_of r) (inl (omega arith)), get_d_sets w (16 * n) (16 * o + 2 + 1) (bytes_of r) (inl (omega arith))) k.0, marked_row w n r os ms b.1 k.1)

marker-keeps : (w : List ℕ) (p o x : ℕ) → marker_at (put_link w p x) o ≡ marker_at w o
unfolding half put_link
marker-keeps w p o x = go (dec_lt p o)
  where
    go : Dec (p < o) → half (sets w (16 * p + 12) (four x)) (16 * o + 2) ≡ half w (16 * o + 2)
    go (yes h) = rw (get_d_sets w (16 * p + 12) (16 * o + 2) (four x) (inr (omega arith)), get_d_sets w (16 * p + 12) (16 * o + 2 + 1) (four x) (inr (omega arith)))
    go (no h) = rw (get_d_sets w (16 * p + 12) (16 * o + 2) (four x) (inl (omega arith)), get_d_sets w (16 * p + 12) (16 * o + 2 + 1) (four x) (inl (omega arith)))

pub marked-link : (w : List ℕ) (p x : ℕ) (os ms : List ℕ) → Marked w os ms → Marked (put_link w p x) os ms
unfolding Marked
marked-link w p x [] [] k = tt
marked-link w p x [] (m ∷ ms) k = absurd k
marked-link w p x (o ∷ os) [] k = absurd k
marked-link w p x (o ∷ os) (m ∷ ms) k = (marker-keeps w p o x ∙ k.0, marked-link w p x os ms k.1)

pub marked-open : (w : List ℕ) (n m a l x : ℕ) (os ms : List ℕ) → 16 * n + 16 ≤ length w → m < 65536 → Before n os → Marked w os ms → Marked (put_row w n (row marker_open_kind m a l x)) (n ∷ os) (m ∷ ms)
unfolding Marked
marked-open w n m a l x os ms room low b k = (marker-new w n (row marker_open_kind m a l x) room low, marked_row w n (row marker_open_kind m a l x) os ms b k)
