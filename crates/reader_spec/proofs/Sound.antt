-- One induction over the pass: every node is sound and starts where the one before ended, and the nodes close what is open.
-- Assumes nothing.
use Prim.Native.Nat.{ℕ, zero, suc, ◌+◌, ◌<◌, ◌≤◌}
use native.Mathlib.Nat.{add-zero}
use native.Mathlib.Omega.{arith}
use mathlib.Core.Path.{◌≡◌, refl, ◌∙◌}
use mathlib.Core.Bool.{Bool, true, false}
use mathlib.Core.List.{List, [], ◌∷◌, ◌++◌}
use Rattle.std.specs.Prelude.{Option, Some, None}
use lib.ListN.{length, take, drop}
use Rattle.text.specs.Characters.{is_boundary}
use Rattle.text.proofs.WellFormed.{boundary-on}
use Rattle.text.specs.Pick.{pick}
use Rattle.text.specs.Bytes.{equal}
use Rattle.table.specs.Entries.{entries, nth}
use Rattle.table.specs.Names.{looked_up}
use Rattle.cursor.specs.Names.{name_of}
use Rattle.numbers.specs.Label.{splits}
use Rattle.refusals.specs.Refusal.{unmatched_marker}
use Rattle.reader_spec.specs.Pieces.{Piece, run, close, block, chapter, verse, inline, milestone, fault, size_of}
use Rattle.reader_spec.specs.Pass.{ReadNode, text, attribute, chapter_at, verse_at, opens, closes, ends, OpenMarker, ReadState, state_with, PieceStep, goes, stops, with_text, with_attribute, with_block_end, piece_step, PassOutcome, passed, faulty, with_nodes, pass_on, pass_end, pass}
use Rattle.reader_spec.specs.Rows.{shape_of, row_of}
use Rattle.reader_spec.proofs.Links.{ClosesBy}

-- where a node starts, how many bytes it has, and its marker: all but an open's link stands in its row, whatever its close
abbrev pub start_of : ReadNode → ℕ
start_of x = (row_of x 0).start

abbrev pub len_of : ReadNode → ℕ
len_of x = (row_of x 0).len

abbrev pub marker_of : ReadNode → ℕ
marker_of x = (row_of x 0).marker

-- just a BlockEnd is empty, and an open has a backslash and a name
abbrev pub Filled : ReadNode → Type 0
Filled (text a n) = 1 ≤ n
Filled (attribute a n) = 1 ≤ n
Filled (chapter_at m a n k) = 1 ≤ n
Filled (verse_at m a n k) = 1 ≤ n
Filled (opens m a n) = 2 ≤ n
Filled (closes m a n) = 1 ≤ n
Filled (ends m a) = Unit {0}

-- a number node: its link is a number of four bytes, and the cut of its name splits no character
pub record Numbered (t : List ℕ) (m k : ℕ) (label : List ℕ) : Type 0 where
  pub low : k < 4294967296
  pub whole : splits (nth (entries t) m) label ≡ false

abbrev pub NumberOk : List ℕ → List ℕ → ReadNode → Type 0
NumberOk t s (text a n) = Unit {0}
NumberOk t s (attribute a n) = Unit {0}
NumberOk t s (chapter_at m a n k) = Numbered t m k (take n (drop a s))
NumberOk t s (verse_at m a n k) = Numbered t m k (take n (drop a s))
NumberOk t s (opens m a n) = Unit {0}
NumberOk t s (closes m a n) = Unit {0}
NumberOk t s (ends m a) = Unit {0}

-- a place of the text between two characters, before the first or after the last
abbrev pub Edge : List ℕ → ℕ → Type 0
Edge s at = is_boundary s at ≡ true

pub record Sound (t s : List ℕ) (at : ℕ) (i : ReadNode) : Type 0 where
  pub starts-at : start_of i ≡ at
  pub filled : Filled i
  pub first : Edge s at
  pub last : Edge s (at + len_of i)
  pub low : marker_of i < 65536
  pub number : NumberOk t s i

-- the nodes from a place on to the end of the text, which close d opens that stand before them and all of their own
unfoldable pub Good : List ℕ → List ℕ → List ReadNode → ℕ → ℕ → Type 0
Good t s [] at d = (at ≡ length s) × (d ≡ 0)
Good t s (i ∷ is) at d = Sound t s at i × ClosesBy (shape_of i) (Good t s is (at + len_of i)) d

-- what is known of the piece that a list begins with
abbrev pub Fair : List ℕ → List ℕ → Piece → Type 0
Fair t l (run x y) = (1 ≤ x + y) × Edge l x
Fair t l (close name n) = 1 ≤ n
Fair t l (block m n) = (2 ≤ n) × (m < 65536)
Fair t l (chapter m n k) = (1 ≤ n) × (m < 65536) × Numbered t m k (take n l)
Fair t l (verse m n k) = (1 ≤ n) × (m < 65536) × Numbered t m k (take n l)
Fair t l (inline m name n) = (2 ≤ n) × (m < 65536) × (name ≡ name_of l) × (looked_up t (name_of l) ≡ Some m)
Fair t l (milestone m n x y) = (2 ≤ n) × (m < 65536) × Edge l n × Edge l (n + x) × Edge l (n + x + y)
Fair t l (fault k n) = 1 ≤ n

-- the pieces follow one another from a place to the end of the text
unfoldable pub Laid : List ℕ → List ℕ → ℕ → List Piece → Type 0
Laid t s at [] = at ≡ length s
Laid t s at (p ∷ ps) = Edge s at × Edge s (at + size_of p) × Fair t (drop at s) p × Laid t s (at + size_of p) ps

-- the markers that the state holds are numbers of two bytes
abbrev pub LowBlock : Option ℕ → Type 0
LowBlock None = Unit {0}
LowBlock (Some m) = m < 65536

abbrev pub LowOpened : List OpenMarker → Type 0
LowOpened [] = Unit {0}
LowOpened (o ∷ os) = (o.marker < 65536) × LowOpened os

-- how many opens the state holds
abbrev pub depth_block : Option ℕ → ℕ
depth_block None = 0
depth_block (Some m) = 1

abbrev pub depth_of : Option ℕ → List OpenMarker → ℕ
depth_of b [] = depth_block b
depth_of b (o ∷ os) = suc (depth_of b os)

-- a boundary of what stands from another on
pub edge_on : (s : List ℕ) (at k : ℕ) → Edge s at → Edge (drop at s) k → Edge s (at + k)
edge_on s at k e f = boundary-on s at k e ∙ f

module _ (t s : List ℕ) where
  -- a Text or an Attribute before others, of no bytes or some
  text-good : (at x : ℕ) (is : List ReadNode) (d : ℕ) → Edge s at → Edge s (at + x) → Good t s is (at + x) d → Good t s (with_text at x is) at d
  unfolding Good
  text-good at zero is d e f g = rw (add-zero at) at g
  text-good at (suc x) is d e f g = (record { starts-at = refl; filled = omega arith; first = e; last = f; low = omega arith; number = tt }, g)

  attribute-good : (at x : ℕ) (is : List ReadNode) (d : ℕ) → Edge s at → Edge s (at + x) → Good t s is (at + x) d → Good t s (with_attribute at x is) at d
  unfolding Good
  attribute-good at zero is d e f g = rw (add-zero at) at g
  attribute-good at (suc x) is d e f g = (record { starts-at = refl; filled = omega arith; first = e; last = f; low = omega arith; number = tt }, g)

  ended-good : (b : Option ℕ) (at : ℕ) (is : List ReadNode) → LowBlock b → Edge s at → Good t s is at 0 → Good t s (with_block_end b at is) at (depth_block b)
  unfolding Good
  ended-good None at is l e g = g
  ended-good (Some m) at is l e g = (record { starts-at = refl; filled = tt; first = e; last = rw (add-zero at) e; low = l; number = tt }, rw (add-zero at) g)

  -- a piece gives its nodes before any that are good after it
  Onward : Option ℕ → List OpenMarker → ℕ → ℕ → PieceStep → Type 0
  Onward b os at to (goes is st) = LowBlock st.block × LowOpened st.opened × ((js : List ReadNode) → Good t s js to (depth_of st.block st.opened) → Good t s (is ++ js) at (depth_of b os))
  Onward b os at to (stops k) = Unit {0}

  text-append : (at x : ℕ) (is js : List ReadNode) → with_text at x is ++ js ≡ with_text at x (is ++ js)
  text-append at zero is js = refl
  text-append at (suc x) is js = refl

  attribute-append : (at x : ℕ) (is js : List ReadNode) → with_attribute at x is ++ js ≡ with_attribute at x (is ++ js)
  attribute-append at zero is js = refl
  attribute-append at (suc x) is js = refl

  ended-append : (b : Option ℕ) (at : ℕ) (is js : List ReadNode) → with_block_end b at is ++ js ≡ with_block_end b at (is ++ js)
  ended-append None at is js = refl
  ended-append (Some m) at is js = refl

  step-onward : (b : Option ℕ) (os : List OpenMarker) (at : ℕ) (p : Piece) → LowBlock b → LowOpened os → Edge s at → Edge s (at + size_of p) → Fair t (drop at s) p → Onward b os at (at + size_of p) (piece_step b os at p)
  unfolding piece_step Onward Good
  step-onward b [] at (run x y) lb lo e f p = (lb, lo, λ js g. rw (text-append at (x + y) [] js) (text-good at (x + y) js (depth_block b) e f g))
  step-onward b (o ∷ os) at (run x y) lb lo e f p =
      let z : at + (x + y) ≡ at + x + y = omega arith in
      let middle : Edge s (at + x) = edge_on s at x e p.1 in (
        lb,
        lo,
        λ js g.
            rw (text-append at x (with_attribute (at + x) y []) js, attribute-append (at + x) y [] js)
            (text-good at x (with_attribute (at + x) y js) (suc (depth_of b os)) e middle (attribute-good (at + x) y js (suc (depth_of b os)) middle (rw z at f) (rw z at g))),
      )
  step-onward b [] at (close name n) lb lo e f p = tt
  step-onward b (o ∷ os) at (close name n) lb lo e f p = by_name (equal o.name name)
    where
      by_name : (x : Bool) → Onward b (o ∷ os) at (at + n) (pick x (goes (closes o.marker at n ∷ []) (state_with b os)) (stops unmatched_marker))
      by_name true = (lb, lo.1, λ js g. (record { starts-at = refl; filled = p; first = e; last = f; low = lo.0; number = tt }, g))
      by_name false = tt
  step-onward b [] at (block m n) lb lo e f p =
      (p.1, tt, λ js g. rw (ended-append b at (opens m at n ∷ []) js) (ended-good b at (opens m at n ∷ js) lb e (record { starts-at = refl; filled = p.0; first = e; last = f; low = p.1; number = tt }, g)))
  step-onward b (o ∷ os) at (block m n) lb lo e f p = tt
  step-onward b [] at (chapter m n k) lb lo e f p =
      (tt, tt, λ js g. rw (ended-append b at (chapter_at m at n k ∷ []) js) (ended-good b at (chapter_at m at n k ∷ js) lb e (record { starts-at = refl; filled = p.0; first = e; last = f; low = p.1; number = p.2 }, g)))
  step-onward b (o ∷ os) at (chapter m n k) lb lo e f p = tt
  step-onward b os at (verse m n k) lb lo e f p = (lb, lo, λ js g. (record { starts-at = refl; filled = p.0; first = e; last = f; low = p.1; number = p.2 }, g))
  step-onward b os at (inline m name n) lb lo e f p = (lb, (p.1, lo), λ js g. (record { starts-at = refl; filled = p.0; first = e; last = f; low = p.1; number = tt }, g))
  step-onward b os at (milestone m n x y) lb lo e f p =
      let z : at + (n + x + y + 2) ≡ at + n + x + y + 2 = omega arith in
      let one : at + (n + x) ≡ at + n + x = omega arith in
      let two : at + (n + x + y) ≡ at + n + x + y = omega arith in
      let named : Edge s (at + n) = edge_on s at n e p.2 in
      let barred : Edge s (at + n + x) = rw one at (edge_on s at (n + x) e p.3) in
      let closed : Edge s (at + n + x + y) = rw two at (edge_on s at (n + x + y) e p.4) in (
        lb,
        lo,
        λ js g.
            let shut : Good t s (closes m (at + n + x + y) 2 ∷ js) (at + n + x + y) (suc (depth_of b os)) = (record { starts-at = refl; filled = omega arith; first = closed; last = rw z at f; low = p.1; number = tt }, rw z at g) in
            let inner : Good t s (with_text (at + n) x (with_attribute (at + n + x) y (closes m (at + n + x + y) 2 ∷ js))) (at + n) (suc (depth_of b os)) = text-good (at + n) x _ (suc (depth_of b os)) named barred (attribute-good (at + n + x) y _ (suc (depth_of b os)) barred closed shut) in (
              record { starts-at = refl; filled = p.0; first = e; last = named; low = p.1; number = tt },
              rw (text-append (at + n) x (with_attribute (at + n + x) y (closes m (at + n + x + y) 2 ∷ [])) js, attribute-append (at + n + x) y (closes m (at + n + x + y) 2 ∷ []) js) inner,
            ),
      )
  step-onward b os at (fault k n) lb lo e f p = tt

  -- the whole pass
  pub pass-good : (at : ℕ) (ps : List Piece) (st : ReadState) (is : List ReadNode) → Edge s at → LowBlock st.block → LowOpened st.opened → Laid t s at ps → pass at ps st ≡ passed is → Good t s is at (depth_of st.block st.opened)
  unfolding pass Laid Good Onward
  pass-good at [] st is e lb lo l h = ending st.opened h
    where
      ending : (os : List OpenMarker) → pass_end st.block os at ≡ passed is → Good t s is at (depth_of st.block os)
      ending [] h = let z : with_block_end st.block at [] ≡ is = cc in rw (← z) (ended-good st.block at [] lb e (l, refl))
      ending (o ∷ os) h = let z : ◌≡◌ {A = ℕ} 0 1 = cc in absurd (omega arith)
  pass-good at (p ∷ ps) st is e lb lo l h =
      going (piece_step st.block st.opened at p) (step-onward st.block st.opened at p lb lo e l.1 l.2) h (λ st js a b c. pass-good (at + size_of p) ps st js l.1 a b l.3 c)
    where
      prefixed : (xs : List ReadNode) (o : PassOutcome) → with_nodes xs o ≡ passed is → (js : List ReadNode) × (o ≡ passed js) × (xs ++ js ≡ is)
      prefixed xs (passed js) h = let z : xs ++ js ≡ is = cc in (js, refl, z)
      prefixed xs (faulty k n) h = let z : ◌≡◌ {A = ℕ} 0 1 = cc in absurd (omega arith)

      going : (q : PieceStep) → Onward st.block st.opened at (at + size_of p) q → pass_on q at (pass (at + size_of p) ps) ≡ passed is →
          ((st' : ReadState) (js : List ReadNode) → LowBlock st'.block → LowOpened st'.opened → pass (at + size_of p) ps st' ≡ passed js → Good t s js (at + size_of p) (depth_of st'.block st'.opened)) → Good t s is at (depth_of st.block st.opened)
      going (goes xs st') o h ih =
          let r = prefixed xs (pass (at + size_of p) ps st') h in
          rw (← r.2) (o.2 r.0 (ih st' r.0 o.0 o.1 r.1))
      going (stops k) o h ih = let z : ◌≡◌ {A = ℕ} 0 1 = cc in absurd (omega arith)
