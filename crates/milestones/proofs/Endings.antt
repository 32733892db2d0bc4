-- The last two bytes of a name, what stands before them, and what the two say of a milestone.
-- Assumes nothing.
use Prim.Native.Nat.{ℕ, ◌+◌, ◌-◌, ◌<◌, ◌≤◌}
use native.Mathlib.Omega.{arith}
use mathlib.Core.Path.{◌≡◌, sym, ap, ◌∙◌}
use mathlib.Core.Bool.{Bool, true, false, ◌&&◌, and-true}
use mathlib.Core.List.{List, [], ◌∷◌}
use native.Mathlib.Decide.{dec_le}
use lib.Dec.{eqb, leb}
use lib.ListN.{length, get_or, take, drop, length-take, length-drop, drop_of_length-le}
use lib.Seq.{length-take-le, take-take}
use borrow.Author.Tests.{le-leb, lt-leb}
use Rattle.text.specs.Pick.{cut}
use Rattle.text.proofs.Rows.{place}
use Rattle.tape.specs.Nodes.{node_at, span, start_at, len_at}
use Rattle.text.proofs.Blocks.{equal-apart, equal-ends}
use Rattle.cursor.specs.Names.{name_part, name_of}
use Rattle.numbers.proofs.Labels.{part-from}
use Rattle.definition.specs.Milestones.{ends_in, base_of}
use Rattle.milestones.specs.Inner.{base_in, Measured}
use Rattle.text.specs.Bytes.{equal}

pub too_short : (name : List ℕ) (letter : ℕ) → length name < 2 → false ≡ ends_in letter name
too_short name letter h = sym (equal-apart (drop (length name - 2) name) (0x2D ∷ letter ∷ []) (λ e. omega (arith, e, length-drop (length name - 2) name)))

last-two : (name : List ℕ) → 2 ≤ length name → drop (length name - 2) name ≡ get_or name (length name - 2) 0 ∷ get_or name (length name - 1) 0 ∷ []
last-two name h =
    let e : length name - 2 + 1 ≡ length name - 1 = omega arith in
    let a : length name - 2 < length name = omega arith in
    let b : length name - 1 < length name = omega arith in
    let z : length name ≤ length name - 1 + 1 = omega arith in
    place name (length name - 2) a ∙ rw e (rw (place name (length name - 1) b) (rw (drop_of_length-le name z)))

-- the last two bytes of a name
pub ends_are : (name : List ℕ) (letter : ℕ) → ends_in letter name ≡ (leb 2 (length name) && (eqb (get_or name (length name - 2) 0) 0x2D && eqb (get_or name (length name - 1) 0) letter))
unfolding equal
ends_are name letter = go (dec_le 2 (length name))
  where
    go : Dec (2 ≤ length name) → equal (drop (length name - 2) name) (0x2D ∷ letter ∷ []) ≡ (leb 2 (length name) && (eqb (get_or name (length name - 2) 0) 0x2D && eqb (get_or name (length name - 1) 0) letter))
    go (yes h) = rw (last-two name h, le-leb 2 (length name) h, and-true (eqb (get_or name (length name - 1) 0) letter))
    go (no h) = rw (lt-leb 2 (length name) (omega arith)) (sym (too_short name letter (omega arith)))

pub no-base : (name : List ℕ) → length name < 2 → [] ≡ base_in name
no-base name h = let e : length name - 2 ≡ 0 = omega arith in rw e

-- the base of a node whose length is known
module _ (s t : List ℕ) (node len : ℕ) (m : Measured s t node len) where
  pub apart : (base : List ℕ) → (len ≡ length base → ⊥) → false ≡ equal (base_of (node_at s t node)) base
  apart base h = sym (equal-apart (base_of (node_at s t node)) base (λ e. h (m.is ∙ e)))

  pub none : (base : List ℕ) → len ≡ length base → len ≡ 0 → true ≡ equal (base_of (node_at s t node)) base
  none base h z = sym (equal-ends (base_of (node_at s t node)) base 0 (omega (arith, m.is)) (omega arith))

  abbrev x : List ℕ
  x = cut (span t node) s

  own-length : len ≡ length (name_of x) - 2
  own-length = m.is ∙ length-take-le (length (name_of x) - 2) (name_of x) (omega arith)

  pub own_name : (len ≡ 0 → ⊥) → 0 < length (name_of x)
  own_name h = omega (arith, h, own-length)

  -- the base stands where the name begins
  module _ (from : ℕ) (is : from ≡ start_at t node + (name_part x).start) (h : len ≡ 0 → ⊥) where
    long : length x ≡ len_at t node
    long = length-take-le (len_at t node) (drop (start_at t node) s) (rw length-drop (omega (arith, m.spanned.fits)))

    inside : (len + 2 ≤ (name_part x).len) × (len + 2 + (name_part x).start ≤ len_at t node)
    inside =
        let e = length-take (name_part x).len (drop (name_part x).start x) in
        let d = length-drop (name_part x).start x in
        let o = own_name h in
        (omega (arith, own-length), omega (arith, own-length, long))

    pub own-inside : from + len ≤ length s
    own-inside = omega (arith, is, inside.1, m.spanned.fits)

    placed : take (from + len - from) (drop from s) ≡ base_of (node_at s t node)
    placed =
        let a = start_at t node in
        let b = (name_part x).start in
        let n = len_at t node in
        let z : from + len - from ≡ len = omega arith in
        let y : a + n - a ≡ n = omega arith in
        let p : take (a + n - (a + b)) (drop (a + b) s) ≡ drop b x = rw y at (part-from s a (a + n) b (omega (arith, inside.1)) m.spanned.fits) in
        rw (z, is)
        (sym (take-take len (a + n - (a + b)) (drop (a + b) s) (omega (arith, inside.1)))
        ∙ ap (take len) p
        ∙ sym (take-take len (name_part x).len (drop b x) (omega (arith, inside.0)))
        ∙ ap (λ (k : ℕ). take k (name_of x)) own-length)

    pub own-base : (base : List ℕ) (r : Bool) → r ≡ equal (take (from + len - from) (drop from s)) base → r ≡ equal (base_of (node_at s t node)) base
    own-base base r e = e ∙ ap (λ (k : List ℕ). equal k base) placed

-- a part that lies in its list is as long as it says
pub part-long : (s : List ℕ) (at len : ℕ) → at + len ≤ length s → length (take len (drop at s)) ≡ len
part-long s at len h = length-take-le len (drop at s) (rw length-drop (omega arith))
