-- What the nodes that the pass gives mean for the numbers 4 to 9.
-- Assumes nothing.
use Prim.Native.Nat.{ℕ, zero, suc, ◌+◌, ◌<◌, ◌≤◌}
use native.Mathlib.Omega.{arith}
use mathlib.Core.Path.{◌≡◌, refl, ◌∙◌}
use mathlib.Core.Bool.{false, ◌&&◌}
use mathlib.Core.List.{List, [], ◌∷◌}
use Rattle.std.specs.Prelude.{None}
use lib.ListN.{length, take, drop}
use borrow.Author.Tests.{le-ltb}
use Rattle.text.proofs.WellFormed.{boundary-le}
use Rattle.refusals.specs.Refusal.{first_bad, bad_node_kind, bad_node_span, split_label}
use Rattle.tape.specs.Nodes.{start_at, len_at, block_end_kind}
use Rattle.tape.specs.Reading.{bad_kind, bad_span}
use Rattle.table.specs.Entries.{entries, nth}
use Rattle.cursor.specs.Info.{has_marker, only_for, info_at}
use Rattle.numbers.specs.Label.{numbered, splits, bad_label}
use Rattle.reader_spec.specs.Pass.{ReadNode, text, attribute, chapter_at, verse_at, opens, closes, ends}
use Rattle.reader_spec.specs.Rows.{Shape, leaf_shape, open_shape, close_shape, shape_of, first_or0, awaited_before, awaited, row_of, rows_from}
use Rattle.reader_spec.specs.Promise.{Tiles}
use Rattle.reader_spec.proofs.Fields.{Fits, Has}
use Rattle.reader_spec.proofs.Links.{ClosesBy, Closes, AllHave, AllFit, row_is}
use Rattle.reader_spec.proofs.Sound.{len_of, Filled, NumberOk, Sound, Good}

module _ (t s : List ℕ) where
  -- the opens are closed
  pub good-closes : (is : List ReadNode) (at d : ℕ) → Good t s is at d → Closes is d
  unfolding Good Closes
  good-closes [] at d g = g.1
  good-closes (i ∷ is) at d g = go (shape_of i) d g.1 (good-closes is (at + len_of i))
    where
      go : (sh : Shape) (d : ℕ) → ClosesBy sh (Good t s is (at + len_of i)) d → ((d : ℕ) → Good t s is (at + len_of i) d → Closes is d) → ClosesBy sh (Closes is) d
      go leaf_shape d c ih = ih d c
      go open_shape d c ih = ih (suc d) c
      go close_shape zero c ih = c
      go close_shape (suc d) c ih = ih d c

  -- there are no more of them than bytes: each open has two at the least, and each other node but a BlockEnd has one
  pub good-few : (is : List ReadNode) (at d : ℕ) → at ≤ length s → Good t s is at d → at + length is ≤ length s + d
  unfolding Good
  good-few [] at d h g = omega arith
  good-few (i ∷ is) at d h g = go i g.0.filled d g.1 (λ d. good-few is (at + len_of i) d (boundary-le s (at + len_of i) g.0.last))
    where
      go : (i : ReadNode) → Filled i → (d : ℕ) → ClosesBy (shape_of i) (Good t s is (at + len_of i)) d → ((d : ℕ) → Good t s is (at + len_of i) d → at + len_of i + length is ≤ length s + d) → at + suc (length is) ≤ length s + d
      go (text a n) f d c ih = let r = ih d c in omega arith
      go (attribute a n) f d c ih = let r = ih d c in omega arith
      go (chapter_at m a n k) f d c ih = let r = ih d c in omega arith
      go (verse_at m a n k) f d c ih = let r = ih d c in omega arith
      go (opens m a n) f d c ih = let r = ih (suc d) c in omega arith
      go (closes m a n) f zero c ih = absurd c
      go (closes m a n) f (suc d) c ih = let r = ih d c in omega arith
      go (ends m a) f zero c ih = absurd c
      go (ends m a) f (suc d) c ih = let r = ih d c in omega arith

  -- some depth at which the nodes after one are good
  abbrev Later : List ReadNode → ℕ → Type 0
  Later is at = (d : ℕ) × Good t s is at d

  later : (i : ReadNode) (is : List ReadNode) (at d : ℕ) → ClosesBy (shape_of i) (Good t s is (at + len_of i)) d → Later is (at + len_of i)
  later i is at d c = go (shape_of i) d c
    where
      go : (sh : Shape) (d : ℕ) → ClosesBy sh (Good t s is (at + len_of i)) d → Later is (at + len_of i)
      go leaf_shape d c = (d, c)
      go open_shape d c = (suc d, c)
      go close_shape zero c = absurd c
      go close_shape (suc d) c = (d, c)

  -- they lie end to end
  tile : (i : ReadNode) (link : ℕ) → Filled i → ((row_of i link).kind ≡ block_end_kind → (row_of i link).len ≡ 0) × (((row_of i link).kind ≡ block_end_kind → ⊥) → 1 ≤ (row_of i link).len)
  tile (text a n) link f = (λ e. absurd (omega arith), λ h. f)
  tile (attribute a n) link f = (λ e. absurd (omega arith), λ h. f)
  tile (chapter_at m a n k) link f = (λ e. absurd (omega arith), λ h. f)
  tile (verse_at m a n k) link f = (λ e. absurd (omega arith), λ h. f)
  tile (opens m a n) link f = (λ e. absurd (omega arith), λ h. omega arith)
  tile (closes m a n) link f = (λ e. absurd (omega arith), λ h. f)
  tile (ends m a) link f = (λ e. refl, λ h. absurd (h refl))

  pub good-tiles : (n : ℕ) (is : List ReadNode) (at d : ℕ) → Good t s is at d → Tiles at (rows_from n is) (length s)
  unfolding Good Tiles rows_from
  good-tiles n [] at d g = g.0
  good-tiles n (i ∷ is) at d g =
      let link = first_or0 (awaited (suc n) is) in
      let h = tile i link g.0.filled in
      let l = later i is at d g.1 in
      ((row_is i link).start ∙ g.0.starts-at, h.0, h.1, rw (row_is i link).len (good-tiles (suc n) is (at + len_of i) l.0 l.1))

-- the links of opens are numbers of nodes
abbrev Below : ℕ → List ℕ → Type 0
Below b [] = Unit {0}
Below b (x ∷ xs) = (x < b) × Below b xs

first-low : (b : ℕ) (aw : List ℕ) → Below b aw → first_or0 aw ≤ b
first-low b [] h = omega arith
first-low b (x ∷ aw) h = omega (arith, h.0)

awaited-low : (n b : ℕ) (is : List ReadNode) → n + length is ≤ b → Below b (awaited n is)
unfolding awaited
awaited-low n b [] h = tt
awaited-low n b (i ∷ is) h = go (shape_of i) (awaited (suc n) is) (awaited-low (suc n) b is (omega arith))
  where
    go : (sh : Shape) (aw : List ℕ) → Below b aw → Below b (awaited_before sh n aw)
    go leaf_shape aw k = k
    go open_shape [] k = k
    go open_shape (x ∷ aw) k = k.1
    go close_shape aw k = (omega arith, k)

module _ (t s : List ℕ) (short : length s ≤ 1048576) where
  link-low : (i : ReadNode) (link : ℕ) → NumberOk t s i → link ≤ 65536 → (row_of i link).link < 4294967296
  link-low (text a n) link o l = omega arith
  link-low (attribute a n) link o l = omega arith
  link-low (chapter_at m a n k) link o l = o.low
  link-low (verse_at m a n k) link o l = o.low
  link-low (opens m a n) link o l = omega arith
  link-low (closes m a n) link o l = omega arith
  link-low (ends m a) link o l = omega arith

  fit : (i : ReadNode) (link at : ℕ) → Sound t s at i → link ≤ 65536 → Fits (row_of i link)
  fit i link at o l =
      let r = row_is i link in
      let f = boundary-le s (at + len_of i) o.last in
      record {
        marker = rw r.marker o.low;
        start = rw (r.start, o.starts-at) (omega arith);
        len = rw r.len (omega arith);
        link = link-low i link o.number l;
      }

  pub good-fit : (n : ℕ) (is : List ReadNode) (at d : ℕ) → n + length is ≤ 65536 → Good t s is at d → AllFit n is
  unfolding Good AllFit
  good-fit n [] at d h g = tt
  good-fit n (i ∷ is) at d h g =
      let link = first_or0 (awaited (suc n) is) in
      let low = first-low 65536 (awaited (suc n) is) (awaited-low (suc n) 65536 is (omega arith)) in
      let l = later t s i is at d g.1 in
      (fit i link at g.0 low, good-fit (suc n) is (at + len_of i) l.0 (omega arith) l.1)

-- number 9 for one node
label-by : (t s : List ℕ) (i : ReadNode) (link at : ℕ) → Sound t s at i → (numbered (row_of i link).kind && splits (only_for (has_marker (row_of i link).kind) (nth (entries t) (row_of i link).marker)) (take (row_of i link).len (drop (row_of i link).start s))) ≡ false
label-by t s (text a n) link at o = refl
label-by t s (attribute a n) link at o = refl
label-by t s (chapter_at m a n k) link at o = o.number.whole
label-by t s (verse_at m a n k) link at o = o.number.whole
label-by t s (opens m a n) link at o = refl
label-by t s (closes m a n) link at o = refl
label-by t s (ends m a) link at o = refl

module _ (table s t : List ℕ) where
  pub kinds-none : (n : ℕ) (is : List ReadNode) → AllHave t (suc n) is → first_bad bad_node_kind (bad_kind t) (suc n) (length is) ≡ None
  unfolding first_bad AllHave
  kinds-none n [] h = refl
  kinds-none n (i ∷ is) h = rw (h.0.kind, (row_is i (first_or0 (awaited (suc (suc n)) is))).good) (kinds-none (suc n) is h.1)

  span_none : (n : ℕ) (i : ReadNode) (link at : ℕ) → Has t n (row_of i link) → Sound table s at i → bad_span s t n ≡ false
  span_none n i link at h o =
      let a : start_at t n ≡ at = h.start ∙ (row_is i link).start ∙ o.starts-at in
      let l : len_at t n ≡ len_of i = h.len ∙ (row_is i link).len in
      rw (a, l, le-ltb (length s) (at + len_of i) (boundary-le s (at + len_of i) o.last), o.first, o.last)

  pub spans-none : (n : ℕ) (is : List ReadNode) (at d : ℕ) → AllHave t n is → Good table s is at d → first_bad bad_node_span (bad_span s t) n (length is) ≡ None
  unfolding first_bad AllHave Good
  spans-none n [] at d h g = refl
  spans-none n (i ∷ is) at d h g =
      let l = later table s i is at d g.1 in
      rw (span_none n i (first_or0 (awaited (suc n) is)) at h.0 g.0) (spans-none (suc n) is (at + len_of i) l.0 h.1 l.1)

  label-none : (n : ℕ) (i : ReadNode) (link at : ℕ) → Has t n (row_of i link) → Sound table s at i → bad_label table s t n ≡ false
  unfolding info_at
  label-none n i link at h o = rw (h.kind, h.marker, h.start, h.len) (label-by table s i link at o)

  pub labels-none : (n : ℕ) (is : List ReadNode) (at d : ℕ) → AllHave t n is → Good table s is at d → first_bad split_label (bad_label table s t) n (length is) ≡ None
  unfolding first_bad AllHave Good
  labels-none n [] at d h g = refl
  labels-none n (i ∷ is) at d h g =
      let l = later table s i is at d g.1 in
      rw (label-none n i (first_or0 (awaited (suc n) is)) at h.0 g.0) (labels-none (suc n) is (at + len_of i) l.0 h.1 l.1)
