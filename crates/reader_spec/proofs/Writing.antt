-- The invariant of the pass that writes, a node at a time.
-- Assumes nothing.
use Prim.Native.Nat.{ℕ, suc, ◌+◌, ◌*◌, ◌<◌, ◌≤◌}
use native.Mathlib.Nat.{zero-add}
use native.Mathlib.Omega.{arith}
use mathlib.Core.Path.{◌≡◌, refl, sym, ap, ◌∙◌}
use mathlib.Core.List.{List, [], ◌∷◌, ◌++◌}
use lib.ListN.{length, drop}
use lib.Seq.{length-sets}
use Rattle.tape.specs.Nodes.{marker_at, link_at, marker_open_kind}
use Rattle.definition.specs.Examples.{row, four, tape_of}
use Rattle.reader_spec.specs.Pass.{ReadNode, opens}
use Rattle.reader_spec.specs.Rows.{leaf_shape, close_shape, shape_of, awaited, row_of, rows_from, rows_of, node_count, root_row}
use Rattle.reader_spec.specs.InnerWriting.{put_row, put_link, laid, linked, will_hold, OpensWait, Marked}
use Rattle.reader_spec.proofs.Fields.{rows-length}
use Rattle.reader_spec.proofs.Links.{Closes, awaited-length}
use Rattle.reader_spec.proofs.Stores.{row-long, Before, hold-leaf, hold-open, hold-close, hold-end, laid-is, chain-leaf, chain-open, chain-close, chain-before, marked_row, marked-link, marked-open}

-- n nodes are written, the nodes `is` are left, and the opens `os` wait, the innermost of them `top`, with the markers `ms`
pub record Writing (whole w : List ℕ) (n top : ℕ) (os ms : List ℕ) (is : List ReadNode) : Type 0 where
  pub some : 1 ≤ n
  pub room : 16 * (n + length is) ≤ length w
  pub hold : will_hold w n os is ≡ whole
  pub chain : OpensWait w n top os
  pub marks : Marked w os ms
  pub shut : Closes is (length os)

link-long : (w : List ℕ) (o x : ℕ) → length (put_link w o x) ≡ length w
unfolding put_link
link-long w o x = length-sets w (16 * o + 12) (four x)

module _ (whole w : List ℕ) (n top : ℕ) where
  before_of : (os ms : List ℕ) (is : List ReadNode) → Writing whole w n top os ms is → Before n os
  before_of os ms is h = chain-before w n n top os (omega arith) h.chain

  -- a Text, an Attribute, a Chapter or a Verse
  pub write-leaf : (os ms : List ℕ) (i : ReadNode) (is : List ReadNode) (x : ℕ) → shape_of i ≡ leaf_shape → Writing whole w n top os ms (i ∷ is) → Writing whole (put_row w n (row_of i x)) (suc n) top os ms is
  unfolding Closes
  write-leaf os ms i is x e h =
      let b = before_of os ms (i ∷ is) h in
      let r = h.room in
      record {
        some = omega arith;
        room = rw (row-long w n (row_of i x)) (omega arith);
        hold = hold-leaf w n os b is i x e ∙ h.hold;
        chain = chain-leaf w n top (row_of i x) os h.chain;
        marks = marked_row w n (row_of i x) os ms b h.marks;
        shut = rw e at h.shut;
      }

  -- a MarkerOpen: until its close comes, its link is the open around it
  pub write-open : (os ms : List ℕ) (m a l : ℕ) (is : List ReadNode) → m < 65536 → Writing whole w n top os ms (opens m a l ∷ is) → Writing whole (put_row w n (row marker_open_kind m a l top)) (suc n) n (n ∷ os) (m ∷ ms) is
  unfolding Closes
  write-open os ms m a l is low h =
      let b = before_of os ms (opens m a l ∷ is) h in
      let r = h.room in
      let one : 1 ≤ length (awaited (suc n) is) = omega (arith, awaited-length (suc n) is (suc (length os)) h.shut) in
      record {
        some = omega arith;
        room = rw (row-long w n (row marker_open_kind m a l top)) (omega arith);
        hold = hold-open w n os b is m a l top one ∙ h.hold;
        chain = chain-open w n top m a l os h.some (omega arith) h.chain;
        marks = marked-open w n m a l top os ms (omega arith) low b h.marks;
        shut = h.shut;
      }

  -- a MarkerClose or a BlockEnd: its marker is the innermost open's, which gets its link, and the open around that is the innermost
  pub write-close : (o m : ℕ) (os ms : List ℕ) (i : ReadNode) (is : List ReadNode) (x : ℕ) → shape_of i ≡ close_shape → Writing whole w n top (o ∷ os) (m ∷ ms) (i ∷ is) → (marker_at w top ≡ m) × Writing whole (put_row (put_link w top n) n (row_of i x)) (suc n) (link_at w top) os ms is
  unfolding Closes Marked
  write-close o m os ms i is x e h =
      let c = chain-close w n top o os n h.chain in
      let b = chain-before (put_link w o n) n n (link_at w o) os (omega arith) c.2 in
      let r = h.room in
      rw c.0 (
        h.marks.0,
        record {
          some = omega arith;
          room = rw (row-long (put_link w o n) n (row_of i x), link-long w o n) (omega arith);
          hold = hold-close w n os b is i x o e ∙ h.hold;
          chain = chain-leaf (put_link w o n) n (link_at w o) (row_of i x) os c.2;
          marks = marked_row (put_link w o n) n (row_of i x) os ms b (marked-link w o n os ms h.marks.1);
          shut = rw e at h.shut;
        },
      )

  -- when no node is left
  pub write-end : (os ms : List ℕ) → Writing whole w n top os ms [] → w ≡ whole
  unfolding Closes
  write-end [] ms h = sym (hold-end w n) ∙ h.hold
  write-end (o ∷ os) ms h = let z = h.shut in absurd (omega arith)

-- after the root
pub write-start : (w s : List ℕ) (is : List ReadNode) → 16 * node_count is ≤ length w → Closes is 0 → Writing (tape_of (rows_of s is) ++ drop (16 * node_count is) w) (put_row w 0 (root_row s is)) 1 0 [] [] is
unfolding laid linked OpensWait Marked
write-start w s is h c =
    let e : 0 + suc (length (rows_from 1 is)) ≡ suc (length is) = zero-add _ ∙ ap suc (rows-length 1 is) in
    let fits : 16 * (0 + length (rows_of s is)) ≤ length w = rw e h in
    record {
      some = omega arith;
      room = rw (row-long w 0 (root_row s is)) (omega arith);
      hold = laid-is w 0 (rows_of s is) fits ∙ rw e;
      chain = refl;
      marks = tt;
      shut = c;
    }
