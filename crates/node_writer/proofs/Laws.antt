-- What the functions store, part by part, is what their contracts say.
-- Assumes nothing.
use Prim.Native.Nat.{ℕ, suc, ◌+◌, ◌*◌, ◌/◌, ◌%◌, ◌<◌, ◌≤◌}
use native.Mathlib.Nat.{add-zero}
use native.Mathlib.Omega.{arith}
use native.Mathlib.Numerals.{towards_suc}
use mathlib.Core.Path.{◌≡◌, refl, ap, ◌∙◌}
use mathlib.Core.List.{List, [], ◌∷◌, append_assoc}
use lib.ListN.{length, set, take}
use lib.Seq.{drop-drop}
use borrow.Rule.Slice.PartMut.{put_mid}
use Rattle.std.specs.Int.{w16, w32, to_le_bytes}
use Rattle.std.proofs.lemmas.List.Edits.{sets, sets-eq}
use borrow.Author.Tests.{eq-eqb, ne_eqb}
use Rattle.tape.specs.Nodes.{marker_at, link_at, block_end_kind}
use Rattle.definition.specs.Examples.{row, four, tape_of}
use Rattle.reader_spec.specs.InnerWriting.{put_row, put_link}
use Rattle.node_writer.specs.declared.Written.{Written}
use Rattle.node_writer.specs.Written.{written, Ready, closed, after_close, block_ends, ended_block, after_block}

-- bytes copied over a part of a list
pub copied : (l vs : List ℕ) (at k : ℕ) → k ≡ length vs → at + length vs ≤ length l → put_mid at k l vs ≡ sets l at vs
copied l vs at k e h = rw (sets-eq vs l at h, e, drop-drop (length vs) at l, append_assoc (take at l) vs)

pub two-bytes : (n : ℕ) → n < 65536 → to_le_bytes w16 n ≡ n % 256 ∷ n / 256 ∷ []
two-bytes n h = ap (λ (x : ℕ). n % 256 ∷ x ∷ []) (omega arith)

pub four-bytes : (n : ℕ) → n < 4294967296 → to_le_bytes w32 n ≡ four n
four-bytes n h = ap (λ (x : ℕ). n % 256 ∷ n / 256 % 256 ∷ n / 65536 % 256 ∷ x ∷ []) (omega arith)

-- a row, from its kind, its marker and three numbers of four bytes
pub row-stored : (w w0 w1 w2 w3 : List ℕ) (n k m a l x : ℕ) → w0 ≡ sets (set (set w (16 * n) k) (16 * n + 1) 0) (16 * n + 2) (m % 256 ∷ m / 256 ∷ []) → w1 ≡ sets w0 (16 * n + 4) (four a) → w2 ≡ sets w1 (16 * n + 8) (four l) → w3 ≡ sets w2 (16 * n + 12) (four x) → w3 ≡ put_row w n (row k m a l x)
unfolding put_row tape_of
row-stored w w0 w1 w2 w3 n k m a l x d e f g =
    let z : 16 * n + 12 ≡ suc (suc (suc (suc (suc (suc (suc (suc (suc (suc (suc (suc (16 * n)))))))))))) = omega arith in
    g ∙ rw (f, e, d, z) (simp towards_suc)

-- a close, from what is read of the innermost open node before its link is set
pub close-stored : (t t1 t2 : List ℕ) (w : Written) (kind at len m outer next : ℕ) → m ≡ marker_at t w.top → outer ≡ link_at t w.top → t1 ≡ put_link t w.top w.next → (t2 ≡ put_row t1 w.next (row kind m at len 0)) × (next ≡ w.next + 1) → (t2 ≡ closed t w kind at len) × (written next outer ≡ after_close t w)
close-stored t t1 t2 w kind at len m outer next a b e f = (f.0 ∙ rw (e, a), rw (f.1, b))

-- a block's end, where no block is open and where one is
module _ (t : List ℕ) (w : Written) (at : ℕ) where
  pub no_block : w.top ≡ 0 → (t ≡ ended_block t w at) × (w ≡ after_block t w)
  no_block e = rw (eq-eqb w.top 0 e) (refl, refl)

  module _ (there : w.top ≡ 0 → ⊥) where
    pub block-ready : Ready t w (block_ends w) at → Ready t w 1 (at + 0)
    block-ready h =
        let r : Ready t w 1 at = rw (ne_eqb w.top 0 there) at h in
        rw (add-zero at) r

    pub block-stored : (t' : List ℕ) (r : Written) → (t' ≡ closed t w block_end_kind at 0) × (r ≡ after_close t w) → (t' ≡ ended_block t w at) × (r ≡ after_block t w)
    block-stored t' r e = rw (ne_eqb w.top 0 there) e
