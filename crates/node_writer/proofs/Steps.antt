-- The invariant of the pass that writes, from what each function says of its list: a step of the pass is one law for each call.
-- Assumes nothing.
use Prim.Native.Nat.{ℕ, zero, suc, ◌+◌, ◌*◌, ◌<◌, ◌≤◌}
use native.Mathlib.Nat.{add-zero}
use native.Mathlib.Numerals.{add-one}
use native.Mathlib.Omega.{arith}
use mathlib.Core.Path.{◌≡◌, refl, sym, ap, ◌∙◌}
use mathlib.Core.List.{List, [], ◌∷◌, ◌++◌}
use Rattle.std.specs.Prelude.{Option, Some, None}
use lib.ListN.{length, length-append}
use borrow.Author.Tests.{eq-eqb, ne_eqb}
use Rattle.tape.specs.Nodes.{marker_open_kind, marker_close_kind}
use Rattle.definition.specs.Examples.{row}
use Rattle.reader_spec.specs.Pass.{ReadNode, text, attribute, opens, closes, ends, with_text, with_attribute, with_block_end, milestone_nodes}
use Rattle.reader_spec.specs.Rows.{leaf_shape, shape_of, row_of, rows_from}
use Rattle.reader_spec.specs.InnerWriting.{put_row, laid, OpensWait, Marked, block_marker}
use Rattle.reader_spec.proofs.Writing.{Writing, write-leaf, write-open, write-close}
use Rattle.node_writer.specs.declared.Written.{Written}
use Rattle.node_writer.specs.Written.{written, text_limit, node_limit, Ready, closed, after_close, block_ends, ended_block, after_block}
use Rattle.node_writer.proofs.Milestone.{with_open, after_blanks, with_blanks, after_attributes, with_attributes, link-read, milestone-laid, milestone-number}

-- the nodes of a piece, before those after it
pub text-then : (at len : ℕ) (xs ys : List ReadNode) → with_text at len xs ++ ys ≡ with_text at len (xs ++ ys)
text-then at zero xs ys = refl
text-then at (suc len) xs ys = refl

pub attribute-then : (at len : ℕ) (xs ys : List ReadNode) → with_attribute at len xs ++ ys ≡ with_attribute at len (xs ++ ys)
attribute-then at zero xs ys = refl
attribute-then at (suc len) xs ys = refl

pub block-end-then : (b : Option ℕ) (at : ℕ) (xs ys : List ReadNode) → with_block_end b at xs ++ ys ≡ with_block_end b at (xs ++ ys)
block-end-then None at xs ys = refl
block-end-then (Some m) at xs ys = refl

milestone-then : (m at l x y : ℕ) (ys : List ReadNode) → milestone_nodes m at l x y ++ ys ≡ opens m at l ∷ with_text (at + l) x (with_attribute (at + l + x) y (closes m (at + l + x + y) 2 ∷ ys))
milestone-then m at l x y ys =
    let last = closes m (at + l + x + y) 2 ∷ [] in
    ap (opens m at l ∷◌) (text-then (at + l) x (with_attribute (at + l + x) y last) ys ∙ ap (with_text (at + l) x) (attribute-then (at + l + x) y last ys))

module _ (whole w : List ℕ) (n top : ℕ) (os ms : List ℕ) where
  write-text : (at len : ℕ) (is : List ReadNode) → Writing whole w n top os ms (with_text at len is) → Writing whole (laid w n (rows_from n (with_text at len []))) (n + length (with_text at len [])) top os ms is
  unfolding laid rows_from
  write-text at zero is h = rw (add-zero n) h
  write-text at (suc len) is h = rw (add-one n) (write-leaf whole w n top os ms (text at (suc len)) is 0 refl h)

  write-attribute : (at len : ℕ) (is : List ReadNode) → Writing whole w n top os ms (with_attribute at len is) → Writing whole (laid w n (rows_from n (with_attribute at len []))) (n + length (with_attribute at len [])) top os ms is
  unfolding laid rows_from
  write-attribute at zero is h = rw (add-zero n) h
  write-attribute at (suc len) is h = rw (add-one n) (write-leaf whole w n top os ms (attribute at (suc len)) is 0 refl h)

-- what a call needs, where the nodes `xs` are the next to be written
module _ (whole w : List ℕ) (n top : ℕ) (ms : List ℕ) where
  top_below : (os : List ℕ) (is : List ReadNode) → Writing whole w n top os ms is → top < n
  unfolding OpensWait
  top_below [] is h = let a = h.some in let b = h.chain in omega arith
  top_below (o ∷ os) is h = let a = h.chain.0 in let b = h.chain.2 in omega arith

  module _ (os : List ℕ) (is : List ReadNode) where
    pub room_for : (xs : List ReadNode) → Writing whole w n top os ms (xs ++ is) → 16 * (n + length xs) ≤ length w
    room_for xs h = let a = h.room in omega (arith, length-append xs is)

    pub ready_for : (xs : List ReadNode) (end : ℕ) → Writing whole w n top os ms (xs ++ is) → n + length (xs ++ is) ≤ node_limit → end ≤ text_limit → Ready w (written n top) (length xs) end
    ready_for xs end h few near = record { room = room_for xs h; few = omega (arith, length-append xs is); below = top_below os (xs ++ is) h; near = near }

    pub room-for-text : (at len : ℕ) → Writing whole w n top os ms (with_text at len is) → 16 * (n + length (with_text at len [])) ≤ length w
    room-for-text at len h = room_for (with_text at len []) (rw (text-then at len [] is) h)

    pub room-for-attribute : (at len : ℕ) → Writing whole w n top os ms (with_attribute at len is) → 16 * (n + length (with_attribute at len [])) ≤ length w
    room-for-attribute at len h = room_for (with_attribute at len []) (rw (attribute-then at len [] is) h)

-- after a call: v is the list that it leaves, r its answer
module _ (whole w : List ℕ) (n top : ℕ) (os ms : List ℕ) (is : List ReadNode) (v : List ℕ) where
  module _ (r : ℕ) where
    -- `put_row` for a Chapter or a Verse
    pub after-leaf : (i : ReadNode) → shape_of i ≡ leaf_shape → (v ≡ put_row w n (row_of i 0)) × (r ≡ n + 1) → Writing whole w n top os ms (i ∷ is) → Writing whole v r top os ms is
    after-leaf i s e h = rw (e.0, e.1, add-one n) (write-leaf whole w n top os ms i is 0 s h)

    pub after_text : (at len : ℕ) → (v ≡ laid w n (rows_from n (with_text at len []))) × (r ≡ n + length (with_text at len [])) → Writing whole w n top os ms (with_text at len is) → Writing whole v r top os ms is
    after_text at len e h = rw (e.0, e.1) (write-text whole w n top os ms at len is h)

    pub after-attribute : (at len : ℕ) → (v ≡ laid w n (rows_from n (with_attribute at len []))) × (r ≡ n + length (with_attribute at len [])) → Writing whole w n top os ms (with_attribute at len is) → Writing whole v r top os ms is
    after-attribute at len e h = rw (e.0, e.1) (write-attribute whole w n top os ms at len is h)

  module _ (r : Written) where
    pub after_open : (m at len : ℕ) → m < 65536 → (v ≡ put_row w n (row marker_open_kind m at len top)) × (r ≡ written (n + 1) n) → Writing whole w n top os ms (opens m at len ∷ is) → Writing whole v r.next r.top (n ∷ os) (m ∷ ms) is
    after_open m at len low e h = rw (e.0, e.1, add-one n) (write-open whole w n top os ms m at len is low h)

    -- a MarkerClose
    pub after-close : (o m at len : ℕ) → (v ≡ closed w (written n top) marker_close_kind at len) × (r ≡ after_close w (written n top)) → Writing whole w n top (o ∷ os) (m ∷ ms) (closes m at len ∷ is) → Writing whole v r.next r.top os ms is
    after-close o m at len e h =
        let p = write-close whole w n top o m os ms (closes m at len) is 0 refl h in
        rw (e.0, e.1, p.0, add-one n) p.1

    pub after-milestone : (m at l x y : ℕ) → m < 65536 → (v ≡ laid w n (rows_from n (milestone_nodes m at l x y))) × (r ≡ written (n + length (milestone_nodes m at l x y)) top) → Writing whole w n top os ms (milestone_nodes m at l x y ++ is) → Writing whole v r.next r.top os ms is
    after-milestone m at l x y low e h =
        let last = closes m (at + l + x + y) 2 ∷ is in
        let leaves = with_text (at + l) x (with_attribute (at + l + x) y last) in
        let w1 = with_open w n top m at l x y in
        let w2 = with_blanks w n top m at l x y in
        let w3 = with_attributes w n top m at l x y in
        let n2 = after_blanks w n top m at l x y in
        let n3 = after_attributes w n top m at l x y in
        let number : suc n3 ≡ n + length (milestone_nodes m at l x y) = sym (add-one n3) ∙ milestone-number w n top m at l x y in
        let link = link-read w n top m at l x y (room_for whole w n top ms os is (milestone_nodes m at l x y) h) in
        let a : Writing whole w n top os ms (opens m at l ∷ leaves) = rw (milestone-then m at l x y is) at h in
        let b : Writing whole w1 (n + 1) n (n ∷ os) (m ∷ ms) leaves = rw (add-one n) (write-open whole w n top os ms m at l leaves low a) in
        let c = write-text whole w1 (n + 1) n (n ∷ os) (m ∷ ms) (at + l) x (with_attribute (at + l + x) y last) b in
        let d = write-attribute whole w2 n2 n (n ∷ os) (m ∷ ms) (at + l + x) y last c in
        let p = write-close whole w3 n3 n n m os ms (closes m (at + l + x + y) 2) is 0 refl d in
        rw (e.0, e.1) (rw (milestone-laid w n top m at l x y, number, link) at p.1)

-- no block is open, or the block b, and no character or note is open in it
module _ (whole w : List ℕ) (n top : ℕ) (at : ℕ) (is : List ReadNode) where
  pub ready-for-block-end : (b : Option ℕ) (os : List ℕ) → Writing whole w n top os (block_marker b) (with_block_end b at is) → n + length (with_block_end b at is) ≤ node_limit → at ≤ text_limit → Ready w (written n top) (block_ends (written n top)) at
  unfolding OpensWait Marked
  ready-for-block-end None [] h few near = let c = h.chain in rw (eq-eqb top 0 c) (ready_for whole w n top [] [] is [] at h few near)
  ready-for-block-end None (o ∷ os) h few near = absurd h.marks
  ready-for-block-end (Some m) [] h few near = absurd h.marks
  ready-for-block-end (Some m) (o ∷ os) h few near =
      let a = h.chain.0 in
      let b = h.chain.1 in
      rw (ne_eqb top 0 (λ z. omega arith)) (ready_for whole w n top (m ∷ []) (o ∷ os) is (ends m at ∷ []) at h few near)

  module _ (v : List ℕ) (r : Written) (e : (v ≡ ended_block w (written n top) at) × (r ≡ after_block w (written n top))) where
    pub after-block-end : (b : Option ℕ) (os : List ℕ) → Writing whole w n top os (block_marker b) (with_block_end b at is) → Writing whole v r.next r.top [] [] is
    unfolding OpensWait Marked
    after-block-end None [] h = let c = h.chain in rw (e.0, e.1, eq-eqb top 0 c) h
    after-block-end None (o ∷ os) h = absurd h.marks
    after-block-end (Some m) [] h = absurd h.marks
    after-block-end (Some m) (o ∷ []) h =
        let a = h.chain.0 in
        let b = h.chain.1 in
        let p = write-close whole w n top o m [] [] (ends m at) is 0 refl h in
        rw (e.0, e.1, ne_eqb top 0 (λ z. omega arith), p.0, add-one n) p.1
    after-block-end (Some m) (o ∷ q ∷ os) h = absurd h.marks.1
