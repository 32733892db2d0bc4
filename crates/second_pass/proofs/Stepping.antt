-- One piece of the pass that writes: it has room, and what the pass has left before it gives what it has left behind it.
-- Assumes nothing.
use Prim.Native.Nat.{ℕ, zero, suc, ◌+◌, ◌-◌, ◌<◌, ◌≤◌}
use native.Mathlib.Omega.{arith}
use mathlib.Core.Path.{◌≡◌, refl, sym}
use mathlib.Core.Bool.{Bool, true, false}
use mathlib.Core.List.{List, [], ◌∷◌, ◌++◌}
use Rattle.std.specs.Prelude.{Option, Some, None}
use lib.Dec.{eqb}
use lib.ListN.{length, take, length-append}
use borrow.Author.Tests.{eq-eqb, ne_eqb}
use Rattle.text.specs.Pick.{pick}
use Rattle.text.specs.Bytes.{equal}
use Rattle.text.specs.Characters.{find_byte}
use Rattle.text.proofs.Chars.{byte_le}
use Rattle.refusals.specs.Refusal.{unmatched_marker}
use Rattle.refusals.specs.Reasons.{number_of}
use Rattle.table.specs.Entries.{entries, nth}
use Rattle.reader_spec.specs.Pieces.{bar}
use Rattle.reader_spec.specs.Pieces as pieces
use Rattle.reader_spec.specs.Pass.{ReadNode, chapter_at, verse_at, opens, closes, OpenMarker, ReadState, state_with, nothing_open, goes, stops, with_text, with_attribute, run_nodes, with_block_end, milestone_nodes, piece_step, PassOutcome, passed, pass_on}
use Rattle.reader_spec.specs.Rows.{rows_from}
use Rattle.reader_spec.specs.InnerWriting.{laid, OpensWait, Marked, block_marker, markers_of}
use Rattle.reader_spec.proofs.Writing.{Writing}
use Rattle.reader_spec.proofs.Sound.{Fair}
use Rattle.reader_spec.proofs.Steps.{passed-goes}
use Rattle.pieces.specs.Shown.{link_by, shown, bytes_of}
use Rattle.pieces.specs.Depth.{depth_after}
use Rattle.pieces.specs.Closes.{is_fault}
use Rattle.pieces.specs.declared.Piece.{Piece}
use Rattle.pieces.specs.declared.Piece.TheVariants as found
use Rattle.node_writer.specs.declared.Written.{Written}
use Rattle.node_writer.specs.Written.{written, text_limit, node_limit, block_ends, ended_block, after_block}
use Rattle.node_writer.proofs.Leaves.{laid_both, both-length}
use Rattle.node_writer.proofs.Steps.{text-then, attribute-then, block-end-then, ready_for, after-leaf, after_text, after-attribute, after_open, after-close, after-milestone, after-block-end}
use Rattle.second_pass.specs.Laid.{run_nodes_at, piece_nodes, PieceReady, piece_laid, after_piece}
use Rattle.second_pass.proofs.Laws.{block-next}

-- behind a piece with the text l, where `rest` is the pass from there on: the state, the opens that wait, and the nodes that are left
pub record Stepped (whole tb t : List ℕ) (w : Written) (depth at : ℕ) (l : List ℕ) (p : Piece) (rest : ReadState → PassOutcome) : Type 0 where
  pub ready : PieceReady t w depth at l p
  pub state : ReadState
  pub waiting : List ℕ
  pub left : List ReadNode
  pub passes : rest state ≡ passed left
  pub deep : length state.opened ≡ depth_after p depth
  pub few : (after_piece t w depth at l p).next + length left ≤ node_limit
  pub writing : Writing whole (piece_laid tb t w depth at l p) (after_piece t w depth at l p).next (after_piece t w depth at l p).top waiting (markers_of state.block state.opened) left

-- how many nodes there are behind a piece
next-after : (t : List ℕ) (w : Written) (depth at : ℕ) (l : List ℕ) (p : Piece) → (after_piece t w depth at l p).next ≡ w.next + piece_nodes w depth at l p
next-after t w depth at l (found.Run n) = refl
next-after t w depth at l (found.Close n) = refl
next-after t w depth at l (found.Block m n) = omega (arith, block-next t w)
next-after t w depth at l (found.Chapter m n) = omega (arith, block-next t w)
next-after t w depth at l (found.Verse m n) = refl
next-after t w depth at l (found.Inline m n) = refl
next-after t w depth at l (found.Milestone m n x y) = refl
next-after t w depth at l (found.Fault k) = omega arith

-- a pass that stops has no nodes
stopped : {A : Type 0} (k at : ℕ) (rest : ReadState → PassOutcome) (js : List ReadNode) → pass_on (stops k) at rest ≡ passed js → A
stopped k at rest js h = let z : ◌≡◌ {A = ℕ} 0 1 = cc in absurd (omega arith)

-- so no piece of a pass that has nodes is a fault
pub passed-fair : (b : Option ℕ) (os : List OpenMarker) (at : ℕ) (rest : ReadState → PassOutcome) (js : List ReadNode) (x : pieces.Piece) → pass_on (piece_step b os at x) at rest ≡ passed js → is_fault x ≡ false
unfolding piece_step
passed-fair b os at rest js (pieces.run x y) h = refl
passed-fair b os at rest js (pieces.close name n) h = refl
passed-fair b os at rest js (pieces.block m n) h = refl
passed-fair b os at rest js (pieces.chapter m n link) h = refl
passed-fair b os at rest js (pieces.verse m n link) h = refl
passed-fair b os at rest js (pieces.inline m name n) h = refl
passed-fair b os at rest js (pieces.milestone m n x y) h = refl
passed-fair b os at rest js (pieces.fault number n) h = stopped number at rest js h

module _ (whole tb t : List ℕ) (w : Written) (at : ℕ) where
  -- the open node around the innermost one stands before the next node
  around : (os : List ℕ) → 1 ≤ w.next → OpensWait t w.next w.top os → (after_block t w).top < (after_block t w).next
  unfolding OpensWait
  around [] h c = rw (eq-eqb w.top 0 c) (omega arith)
  around (o ∷ []) h c =
      let a = c.0 in
      let b = c.1 in
      let d = c.3 in
      rw (ne_eqb w.top 0 (λ z. omega arith), a, d) (omega arith)
  around (o ∷ q ∷ os) h c =
      let a = c.0 in
      let b = c.1 in
      let i = c.2 in
      let d = c.3.0 in
      let e = c.3.2 in
      rw (ne_eqb w.top 0 (λ z. omega arith), a, d) (omega arith)

  -- a block's end is a node where a block is open
  ends-count : (b : Option ℕ) (waiting : List ℕ) (i : ReadNode) → OpensWait t w.next w.top waiting → Marked t waiting (block_marker b) → length (with_block_end b at (i ∷ [])) ≡ block_ends w + 1
  unfolding OpensWait Marked
  ends-count None [] i c m = rw (eq-eqb w.top 0 c)
  ends-count None (o ∷ os) i c m = absurd m
  ends-count (Some x) [] i c m = absurd m
  ends-count (Some x) (o ∷ os) i c m =
      let a = c.0 in
      let b = c.1 in
      rw (ne_eqb w.top 0 (λ z. omega arith))

  -- a run
  run-written : (waiting ms : List ℕ) (depth : ℕ) (l : List ℕ) (ks : List ReadNode) → Writing whole t w.next w.top waiting ms (run_nodes_at depth at l ++ ks) → Writing whole (laid t w.next (rows_from w.next (run_nodes_at depth at l))) (w.next + length (run_nodes_at depth at l)) w.top waiting ms ks
  run-written waiting ms zero l ks h = after_text whole t w.next w.top waiting ms ks _ _ at (length l) (refl, refl) (rw (text-then at (length l) [] ks) at h)
  run-written waiting ms (suc d) l ks h =
      let b = find_byte (eqb bar) l in
      let y = length l - b in
      let n = w.next in
      let deep = ne_eqb (suc d) 0 (λ z. omega arith) in
      let v = laid t n (rows_from n (with_text at b [])) in
      let k = n + length (with_text at b []) in
      let a : Writing whole t n w.top waiting ms (with_text at b (with_attribute (at + b) y ks)) = rw (deep, text-then at b (with_attribute (at + b) y []) ks, attribute-then (at + b) y [] ks) at h in
      let c = after_text whole t n w.top waiting ms (with_attribute (at + b) y ks) v k at b (refl, refl) a in
      let number : k + length (with_attribute (at + b) y []) ≡ n + length (with_text at b (with_attribute (at + b) y [])) = omega (arith, both-length at b (at + b) y []) in
      rw deep (after-attribute whole v k w.top waiting ms ks _ _ (at + b) y (sym (laid_both t n at b (at + b) y), sym number) c)

  run-nodes : (os : List OpenMarker) (l : List ℕ) (n : ℕ) → n ≡ length l → run_nodes os at (find_byte (eqb bar) l) (n - find_byte (eqb bar) l) ≡ run_nodes_at (length os) at l
  run-nodes [] l n own =
      let z : find_byte (eqb bar) l + (n - find_byte (eqb bar) l) ≡ length l = omega (arith, byte_le (eqb bar) l) in
      rw z
  run-nodes (o ∷ os) l n own = rw (ne_eqb (suc (length os)) 0 (λ z. omega arith), own)

  -- a piece with the text l, before the nodes js
  module _ (l : List ℕ) (near : at + length l ≤ text_limit) (rest : ReadState → PassOutcome) (js : List ReadNode) (few : w.next + length js ≤ node_limit) where
    -- it goes on, with the nodes xs
    gone : (depth : ℕ) (p : Piece) → bytes_of p (length l) ≡ length l → (waiting ms : List ℕ) (xs : List ReadNode) (st : ReadState) → length xs ≡ piece_nodes w depth at l p → length st.opened ≡ depth_after p depth → (waiting' : List ℕ) → ((ks : List ReadNode) → Writing whole t w.next w.top waiting ms (xs ++ ks) → Writing whole (piece_laid tb t w depth at l p) (after_piece t w depth at l p).next (after_piece t w depth at l p).top waiting' (markers_of st.block st.opened) ks) → Writing whole t w.next w.top waiting ms js → pass_on (goes xs st) at rest ≡ passed js → Stepped whole tb t w depth at l p rest
    gone depth p own waiting ms xs st long deep waiting' on h e =
        let r = passed-goes at xs js st rest e in
        let ks = r.0 in
        let k : Writing whole t w.next w.top waiting ms (xs ++ ks) = rw r.2 at h in
        let f : w.next + length (xs ++ ks) ≤ node_limit = rw r.2 at few in
        record {
          ready = record {
            own = own;
            ready = rw long at (ready_for whole t w.next w.top ms waiting ks xs (at + length l) k f near);
            around = around waiting k.some k.chain;
          };
          state = st;
          waiting = waiting';
          left = ks;
          passes = r.1;
          deep = deep;
          few = omega (arith, next-after t w depth at l p, length-append xs ks);
          writing = on ks k;
        }

    module _ (b : Option ℕ) where
      abbrev Before : List ℕ → List OpenMarker → Type 0
      Before waiting os = Writing whole t w.next w.top waiting (markers_of b os) js

      -- what the pass does there
      abbrev Passed : List OpenMarker → pieces.Piece → Type 0
      Passed os x = pass_on (piece_step b os at x) at rest ≡ passed js

      module _ (n : ℕ) (own : n ≡ length l) where
        run_step : (os : List OpenMarker) (waiting : List ℕ) → Before waiting os → Passed os (pieces.run (find_byte (eqb bar) l) (n - find_byte (eqb bar) l)) → Stepped whole tb t w (length os) at l (found.Run n) rest
        unfolding piece_step
        run_step os waiting h e =
            gone (length os) (found.Run n) own waiting (markers_of b os) (run_nodes_at (length os) at l) (state_with b os) refl refl waiting
            (λ ks a. run-written waiting (markers_of b os) (length os) l ks a)
            h (rw (run-nodes os l n own) at e)

        -- with none open, or of another name than the innermost, the pass stops
        close-step : (name : List ℕ) (os : List OpenMarker) (waiting : List ℕ) → Before waiting os → Passed os (pieces.close name n) → Stepped whole tb t w (length os) at l (found.Close n) rest
        unfolding piece_step Marked
        close-step name [] waiting h e = stopped unmatched_marker at rest js e
        close-step name (o ∷ os) [] h e = absurd h.marks
        close-step name (o ∷ os) (q ∷ qs) h e = by (equal o.name name) e
          where
            by : (x : Bool) → pass_on (pick x (goes (closes o.marker at n ∷ []) (state_with b os)) (stops unmatched_marker)) at rest ≡ passed js → Stepped whole tb t w (length (o ∷ os)) at l (found.Close n) rest
            by true e =
                let less : length os ≡ suc (length os) - 1 = omega arith in
                gone (suc (length os)) (found.Close n) own (q ∷ qs) (o.marker ∷ markers_of b os) (closes o.marker at n ∷ []) (state_with b os) refl less qs
                (λ ks a. after-close whole t w.next w.top qs (markers_of b os) ks _ _ q o.marker at n (refl, refl) a)
                h e
            by false e = stopped unmatched_marker at rest js e

        module _ (m : ℕ) where
          -- with a character or note open the pass stops
          block-step : m < 65536 → (os : List OpenMarker) (waiting : List ℕ) → Before waiting os → Passed os (pieces.block m n) → Stepped whole tb t w (length os) at l (found.Block m n) rest
          unfolding piece_step
          block-step low (o ∷ os) waiting h e = stopped unmatched_marker at rest js e
          block-step low [] waiting h e =
              let i = opens m at n in
              gone 0 (found.Block m n) own waiting (block_marker b) (with_block_end b at (i ∷ [])) (state_with (Some m) []) (ends-count b waiting i h.chain h.marks) refl ((after_block t w).next ∷ [])
              (λ ks a. after_open whole (ended_block t w at) (after_block t w).next (after_block t w).top [] [] ks _ (after_piece t w 0 at l (found.Block m n)) m at n low (refl, refl) (after-block-end whole t w.next w.top at (i ∷ ks) (ended_block t w at) (after_block t w) (refl, refl) b waiting (rw (block-end-then b at (i ∷ []) ks) at a)))
              h e

          -- so it does at a Chapter
          chapter-step : (os : List OpenMarker) (waiting : List ℕ) → Before waiting os → Passed os (pieces.chapter m n (link_by (nth (entries tb) m) l)) → Stepped whole tb t w (length os) at l (found.Chapter m n) rest
          unfolding piece_step
          chapter-step (o ∷ os) waiting h e = stopped unmatched_marker at rest js e
          chapter-step [] waiting h e =
              let i = chapter_at m at n (link_by (nth (entries tb) m) l) in
              gone 0 (found.Chapter m n) own waiting (block_marker b) (with_block_end b at (i ∷ [])) nothing_open (ends-count b waiting i h.chain h.marks) refl []
              (λ ks a. after-leaf whole (ended_block t w at) (after_block t w).next (after_block t w).top [] [] ks _ _ i refl (rw (← own), refl) (after-block-end whole t w.next w.top at (i ∷ ks) (ended_block t w at) (after_block t w) (refl, refl) b waiting (rw (block-end-then b at (i ∷ []) ks) at a)))
              h e

          verse-step : (os : List OpenMarker) (waiting : List ℕ) → Before waiting os → Passed os (pieces.verse m n (link_by (nth (entries tb) m) l)) → Stepped whole tb t w (length os) at l (found.Verse m n) rest
          unfolding piece_step
          verse-step os waiting h e =
              let i = verse_at m at n (link_by (nth (entries tb) m) l) in
              gone (length os) (found.Verse m n) own waiting (markers_of b os) (i ∷ []) (state_with b os) refl refl waiting
              (λ ks a. after-leaf whole t w.next w.top waiting (markers_of b os) ks _ _ i refl (rw (← own), refl) a)
              h e

          inline-step : m < 65536 → (name : List ℕ) (os : List OpenMarker) (waiting : List ℕ) → Before waiting os → Passed os (pieces.inline m name n) → Stepped whole tb t w (length os) at l (found.Inline m n) rest
          unfolding piece_step
          inline-step low name os waiting h e =
              let more : suc (length os) ≡ length os + 1 = omega arith in
              gone (length os) (found.Inline m n) own waiting (markers_of b os) (opens m at n ∷ []) (state_with b (record { marker = m; name = name } ∷ os)) refl more (w.next ∷ waiting)
              (λ ks a. after_open whole t w.next w.top waiting (markers_of b os) ks _ (written (w.next + 1) w.next) m at n low (refl, refl) a)
              h e

      milestone-step : (m n x y : ℕ) → m < 65536 → n + x + y + 2 ≡ length l → (os : List OpenMarker) (waiting : List ℕ) → Before waiting os → Passed os (pieces.milestone m n x y) → Stepped whole tb t w (length os) at l (found.Milestone m n x y) rest
      unfolding piece_step
      milestone-step m n x y low own os waiting h e =
          gone (length os) (found.Milestone m n x y) own waiting (markers_of b os) (milestone_nodes m at n x y) (state_with b os) refl refl waiting
          (λ ks a. after-milestone whole t w.next w.top waiting (markers_of b os) ks _ (written (w.next + length (milestone_nodes m at n x y)) w.top) m at n x y low (refl, refl) a)
          h e

  -- the piece p that is found where the text goes on with `on`
  module _ (on : List ℕ) (rest : ReadState → PassOutcome) (js : List ReadNode) (few : w.next + length js ≤ node_limit) (b : Option ℕ) (os : List OpenMarker) (waiting : List ℕ) (h : Writing whole t w.next w.top waiting (markers_of b os) js) where
    pub piece-step : (p : Piece) → Fair tb on (shown tb on p) → bytes_of p (length on) ≡ length (take (bytes_of p (length on)) on) → at + length (take (bytes_of p (length on)) on) ≤ text_limit → pass_on (piece_step b os at (shown tb on p)) at rest ≡ passed js → Stepped whole tb t w (length os) at (take (bytes_of p (length on)) on) p rest
    unfolding piece_step
    piece-step (found.Run n) fair own near e = run_step (take n on) near rest js few b n own os waiting h e
    piece-step (found.Close n) fair own near e = close-step (take n on) near rest js few b n own _ os waiting h e
    piece-step (found.Block m n) fair own near e = block-step (take n on) near rest js few b n own m fair.1 os waiting h e
    piece-step (found.Chapter m n) fair own near e = chapter-step (take n on) near rest js few b n own m os waiting h e
    piece-step (found.Verse m n) fair own near e = verse-step (take n on) near rest js few b n own m os waiting h e
    piece-step (found.Inline m n) fair own near e = inline-step (take n on) near rest js few b n own m fair.1 _ os waiting h e
    piece-step (found.Milestone m n x y) fair own near e = milestone-step (take (n + x + y + 2) on) near rest js few b m n x y fair.1 own os waiting h e
    piece-step (found.Fault k) fair own near e = stopped (number_of k) at rest js e
