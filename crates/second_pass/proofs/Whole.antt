-- The pass that writes, from the root to the text's end: what the list will hold at the end stays the same from piece to piece.
-- Assumes nothing.
use Prim.Native.Nat.{ℕ, ◌+◌, ◌-◌, ◌*◌, ◌<◌, ◌≤◌}
use native.Mathlib.Nat.{zero-add}
use native.Mathlib.Omega.{arith}
use mathlib.Core.Path.{◌≡◌, refl, sym, ap, ◌∙◌}
use mathlib.Core.Bool.{false}
use mathlib.Core.List.{List, [], ◌∷◌, ◌++◌}
use Rattle.std.specs.Prelude.{Option}
use lib.ListN.{length, take, drop}
use lib.Seq.{length-take-le}
use Rattle.text.specs.Utf8.{Made}
use Rattle.text.proofs.Exact.{utf8-exact}
use Rattle.tape.specs.Nodes.{root_kind}
use Rattle.definition.specs.Examples.{row}
use Rattle.reader_spec.specs.Pieces.{size_of, piece_at}
use Rattle.reader_spec.specs.Pass.{ReadNode, OpenMarker, ReadState, nothing_open, with_block_end, piece_step, passed, pass_on, pass_end, outcome}
use Rattle.reader_spec.specs.Rows.{node_count}
use Rattle.reader_spec.specs.Answer.{nodes_read, tape_read}
use Rattle.reader_spec.specs.Promise.{Legible}
use Rattle.reader_spec.specs.InnerSteps.{pass_at}
use Rattle.reader_spec.specs.InnerWriting.{put_row, will_hold, block_marker, markers_of}
use Rattle.reader_spec.proofs.Sound.{Fair}
use Rattle.reader_spec.proofs.Steps.{here-cut, pass_step, pass-end}
use Rattle.reader_spec.proofs.Whole.{reads-closes, read-yields}
use Rattle.reader_spec.proofs.Writing.{Writing, write-start, write-end}
use Rattle.pieces.specs.Shown.{shown, bytes_of}
use Rattle.pieces.specs.Depth.{depth_after}
use Rattle.pieces.specs.Closes.{is_fault}
use Rattle.pieces.specs.declared.Piece.{Piece}
use Rattle.pieces.proofs.Sizes.{depth-few}
use Rattle.pieces.proofs.Places.{rest_is, rest-length, found_here, here-size, goes_on, next-inside, within-rest, next-made}
use Rattle.node_writer.specs.declared.Written.{Written}
use Rattle.node_writer.specs.Written.{written, text_limit, node_limit, Ready, block_ends, ended_block, after_block}
use Rattle.node_writer.proofs.Steps.{ready-for-block-end, after-block-end}
use Rattle.second_pass.specs.Laid.{PieceReady, piece_laid, after_piece, Writable}
use Rattle.second_pass.proofs.Stepping.{Stepped, piece-step, passed-fair}

-- at a place between two pieces: the nodes that the pass has left from there on are those that the list still waits for
pub record Going (whole tb s t : List ℕ) (w : Written) (at depth : ℕ) : Type 0 where
  pub state : ReadState
  pub waiting : List ℕ
  pub left : List ReadNode
  pub inside : at ≤ length s
  pub made : Made (drop at s)
  pub passes : pass_at tb s at state ≡ passed left
  pub deep : length state.opened ≡ depth
  pub shallow : depth ≤ at
  pub few : w.next + length left ≤ node_limit
  pub writing : Writing whole t w.next w.top waiting (markers_of state.block state.opened) left

-- a turn of the loop, at a piece p with n bytes
pub record Turn (whole tb s t : List ℕ) (w : Written) (at depth : ℕ) (p : Piece) (n : ℕ) : Type 0 where
  pub inside : at + n ≤ length s
  pub some : 1 ≤ n
  pub ready : PieceReady t w depth at (take (at + n - at) (drop at s)) p
  pub on : (t' : List ℕ) (w' : Written) (d : ℕ) → (t' ≡ piece_laid tb t w depth at (take (at + n - at) (drop at s)) p) × (w' ≡ after_piece t w depth at (take (at + n - at) (drop at s)) p) → d ≡ depth_after p depth → Going whole tb s t' w' (at + n) d

-- the list as the root leaves it, and what it holds at the end
module _ {tb s t : List ℕ} {count : ℕ} (h : Writable tb s t count) where
  pub nodes-few : count ≤ node_limit
  nodes-few =
      let few = (read-yields tb s (nodes_read tb s) h.legible h.passes).few in
      let short = h.legible.short in
      let is = h.counted in
      omega arith

  pub root-fits : 16 ≤ length t
  root-fits = let room = h.room in omega arith

  module _ {t' : List ℕ} {first : ℕ} (root : (t' ≡ put_row t 0 (row root_kind 0 0 (length s) count)) × (first ≡ 0 + 1)) where
    started : Writing (tape_read tb s ++ drop (16 * node_count (nodes_read tb s)) t) t' first 0 [] [] (nodes_read tb s)
    started = rw (root.0, root.1, zero-add 1, h.counted) (write-start t s (nodes_read tb s) h.room (reads-closes tb s (nodes_read tb s) h.legible h.passes))

    pub going_start : Going (will_hold t' first [] (nodes_read tb s)) tb s t' (written first 0) 0 0
    unfolding outcome
    going_start =
        let one : first ≡ 1 = root.1 in
        let few = nodes-few in
        let is = h.counted in
        record {
          state = nothing_open;
          waiting = [];
          left = nodes_read tb s;
          inside = omega arith;
          made = (utf8-exact s).0 h.legible.utf8;
          passes = h.passes;
          deep = refl;
          shallow = omega arith;
          few = omega arith;
          writing = rw started.hold started;
        }

    pub whole_is : will_hold t' first [] (nodes_read tb s) ≡ tape_read tb s ++ drop (16 * node_count (nodes_read tb s)) t
    whole_is = started.hold

module _ {whole tb s t : List ℕ} {w : Written} {at depth : ℕ} (legible : Legible tb s) (g : Going whole tb s t w at depth) where
  pub few-open : depth < 4294967296
  few-open =
      let a = g.shallow in
      let b = g.inside in
      let c = legible.short in
      omega arith

  -- the piece there is no fault
  pub fair-here : at < length s → is_fault (piece_at tb (take (length s - at) (drop at s))) ≡ false
  fair-here here =
      rw (rest_is s at)
      (passed-fair g.state.block g.state.opened at (pass_at tb s (at + size_of (piece_at tb (drop at s)))) g.left (piece_at tb (drop at s)) (sym (pass_step tb s at legible.table g.made here g.state) ∙ g.passes))

  -- the piece p with n bytes, as the code finds them
  module _ (here : at < length s) (p : Piece) (is : shown tb (take (length s - at) (drop at s)) p ≡ piece_at tb (take (length s - at) (drop at s))) where
    pub size_fits : bytes_of p (length s - at) ≤ length s - at
    size_fits = within-rest tb s at p is legible.table g.made here

    module _ {n : ℕ} (size : n ≡ bytes_of p (length s - at)) where
      next_fits : at + n ≤ length s
      next_fits = rw size (next-inside tb s at p is legible.table g.made here)

      comes-on : 1 ≤ n
      comes-on = rw size (goes_on tb s at p is legible.table g.made here)

      -- its text
      abbrev own-text : List ℕ
      own-text = take (bytes_of p (length (drop at s))) (drop at s)

      own : bytes_of p (length (drop at s)) ≡ length own-text
      own = sym (length-take-le _ _ (rw (rest-length s at) size_fits))

      near : at + length own-text ≤ text_limit
      near =
          let a = next_fits in
          let b = legible.short in
          rw (← own, rest-length s at, ← size) (omega arith)

      stepped : Stepped whole tb t w depth at (take (at + n - at) (drop at s)) p (pass_at tb s (at + n))
      stepped =
          let there = found_here tb s at p is in
          let long : at + n - at ≡ bytes_of p (length (drop at s)) = rw (rest-length s at, ← size) (omega arith) in
          let fair : Fair tb (drop at s) (shown tb (drop at s) p) = rw there (here-cut tb s at legible.table g.made here).fair in
          let to : at + size_of (piece_at tb (drop at s)) ≡ at + n = ap (at +◌) (sym (here-size tb s at p is) ∙ sym size) in
          let e : pass_on (piece_step g.state.block g.state.opened at (shown tb (drop at s) p)) at (pass_at tb s (at + n)) ≡ passed g.left = rw (there, ← to) (sym (pass_step tb s at legible.table g.made here g.state) ∙ g.passes) in
          rw (← g.deep, long) (piece-step whole tb t w at (drop at s) (pass_at tb s (at + n)) g.left g.few g.state.block g.state.opened g.waiting g.writing p fair own near e)

      going_on : (t' : List ℕ) (w' : Written) (d : ℕ) → (t' ≡ piece_laid tb t w depth at (take (at + n - at) (drop at s)) p) × (w' ≡ after_piece t w depth at (take (at + n - at) (drop at s)) p) → d ≡ depth_after p depth → Going whole tb s t' w' (at + n) d
      going_on t' w' d e k =
          let a = g.shallow in
          let b = comes-on in
          let c = depth-few p depth in
          rw (e.0, e.1, k)
          (record {
            state = stepped.state;
            waiting = stepped.waiting;
            left = stepped.left;
            inside = next_fits;
            made = rw size (next-made tb s at p is legible.table g.made here);
            passes = stepped.passes;
            deep = stepped.deep;
            shallow = omega arith;
            few = stepped.few;
            writing = stepped.writing;
          })

      pub turned : Turn whole tb s t w at depth p n
      turned = record { inside = next_fits; some = comes-on; ready = stepped.ready; on = going_on }

  -- at the text's end only a block may be open, and its end is all that is left
  module _ (end : length s ≤ at) where
    abbrev Last : Option ℕ → Type 0
    Last b = Writing whole t w.next w.top g.waiting (block_marker b) (with_block_end b at []) × (w.next + length (with_block_end b at []) ≤ node_limit)

    last : Last g.state.block
    last = by g.state.opened g.left (sym (pass-end tb s at g.state end) ∙ g.passes) g.writing g.few
      where
        by : (os : List OpenMarker) (js : List ReadNode) → pass_end g.state.block os at ≡ passed js → Writing whole t w.next w.top g.waiting (markers_of g.state.block os) js → w.next + length js ≤ node_limit → Last g.state.block
        by [] js e h few = let z : js ≡ with_block_end g.state.block at [] = cc in (rw z at h, rw z at few)
        by (o ∷ os) js e h few = let z : ◌≡◌ {A = ℕ} 0 1 = cc in absurd (omega arith)

    pub last-ready : Ready t w (block_ends w) at
    last-ready =
        let a = g.inside in
        let b = legible.short in
        ready-for-block-end whole t w.next w.top at [] g.state.block g.waiting last.0 last.1 (omega arith)

    pub all-written : {t' : List ℕ} {r : Written} → (t' ≡ ended_block t w at) × (r ≡ after_block t w) → t' ≡ whole
    all-written {t'} {r} e = write-end whole t' r.next r.top [] [] (after-block-end whole t w.next w.top at [] t' r e g.state.block g.waiting last.0)
