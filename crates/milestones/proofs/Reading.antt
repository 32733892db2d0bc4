-- A marker whose category is milestone, by its name where it stands in the source.
-- Assumes nothing.
use Prim.Native.Nat.{ℕ, ◌+◌, ◌-◌, ◌<◌, ◌≤◌}
use native.Mathlib.Omega.{arith}
use native.Mathlib.Decide.{dec_lt}
use mathlib.Core.Path.{◌≡◌, refl, sym, ap, ◌∙◌}
use mathlib.Core.Bool.{Bool, true, false, ◌&&◌, ◌||◌}
use mathlib.Core.List.{List}
use lib.Dec.{eqb}
use lib.ListN.{length, take, drop, length-drop}
use lib.Seq.{length-take-le, take-take}
use borrow.Author.Tests.{eq-eqb}
use Rattle.text.specs.Pick.{cut}
use Rattle.tape.specs.Nodes.{node_at, span, start_at, len_at}
use Rattle.table.specs.Entries.{Entry, milestone_category}
use Rattle.cursor.specs.declared.NameSpan.{NameSpan}
use Rattle.cursor.specs.Names.{name_of}
use Rattle.cursor.specs.Inner.{Named}
use Rattle.cursor.proofs.Named.{name-cut}
use Rattle.numbers.proofs.Labels.{part-from}
use Rattle.definition.specs.Milestones.{ends_in, is_start, is_milestone, base_of}
use Rattle.std.specs.Prelude.{Option, Some, None}
use Rattle.milestones.specs.declared.MilestoneSide.{MilestoneSide}
use Rattle.milestones.specs.declared.MilestoneSide.TheVariants as code
use Rattle.milestones.specs.Inner.{base_in, among_milestones, step_means, Placed}
use Rattle.milestones.specs.Inner as among
use Rattle.milestones.proofs.Endings.{too_short}

pub two_bytes : (name : List ℕ) (letter : ℕ) → ends_in letter name ≡ true → 2 ≤ length name
two_bytes name letter h = go (dec_lt (length name) 2)
  where
    go : Dec (length name < 2) → 2 ≤ length name
    go (no l) = omega (arith, l)
    go (yes l) = let z : ◌≡◌ {A = ℕ} 0 1 = let q : false ≡ true = too_short name letter l ∙ h in cc in absurd (omega arith)

-- what a node is among milestones, by the tests of its entry and its name
module _ (e : Entry) (s t : List ℕ) (i : ℕ) where
  among-neither : is_milestone e (node_at s t i) ≡ false → among.neither ≡ among_milestones e (node_at s t i)
  among-neither y = rw y

  module _ (y : is_milestone e (node_at s t i) ≡ true) where
    among-start : is_start (node_at s t i) ≡ true → {len : ℕ} → len ≡ length (base_of (node_at s t i)) → among.start i len ≡ among_milestones e (node_at s t i)
    among-start z l = rw (y, z) (ap (among.start i) l)

    among-end : is_start (node_at s t i) ≡ false → {base : List ℕ} → base ≡ base_of (node_at s t i) → among.end base ≡ among_milestones e (node_at s t i)
    among-end z b = rw (y, z) (ap among.end b)

module _ (s t : List ℕ) (i a n : ℕ) (here : a ≡ start_at t i) (len : n ≡ len_at t i) (fits : a + n ≤ length s) (at : NameSpan) (named : Named (take (a + n - a) (drop a s)) at) where
  abbrev pub x : List ℕ
  x = take (a + n - a) (drop a s)

  abbrev pub name : List ℕ
  name = take (at.end - at.start) (drop at.start x)

  is : name ≡ name_of (cut (span t i) s)
  is = let e : a + n - a ≡ n = omega arith in name-cut x at named ∙ ap name_of (rw (e, here, len))

  x-long : length x ≡ n
  x-long = let e : a + n - a ≡ n = omega arith in rw e (length-take-le n (drop a s) (rw length-drop (omega arith)))

  name-long : length name ≡ at.end - at.start
  name-long = length-take-le (at.end - at.start) (drop at.start x) (omega (arith, length-drop at.start x, named.inside))

  pub base-long : (letter : ℕ) → ends_in letter name ≡ true → 2 ≤ at.end - at.start
  base-long letter h = omega (arith, two_bytes name letter h, name-long)

  base-length : at.end - at.start - 2 ≡ length (base_of (node_at s t i))
  base-length = sym (ap (λ (y : List ℕ). length (base_in y)) (sym is) ∙ length-take-le (length name - 2) name (omega arith) ∙ ap (λ (k : ℕ). k - 2) name-long)

  base-place : at.start ≤ at.end → take (at.end - at.start - 2) (drop (a + at.start) s) ≡ base_of (node_at s t i)
  base-place o =
      let e = named.inside in
      let q : at.start ≤ a + n - a = omega (arith, x-long) in
      let p = part-from s a (a + n) at.start q fits in
      sym
      (ap base_in (sym is)
      ∙ ap (λ (k : ℕ). take (k - 2) name) name-long
      ∙ take-take (at.end - at.start - 2) (at.end - at.start) (drop at.start x) (omega arith)
      ∙ ap (take (at.end - at.start - 2)) (sym p)
      ∙ take-take (at.end - at.start - 2) (a + n - (a + at.start)) (drop (a + at.start) s) (omega (arith, x-long)))

  -- what is promised of the answer
  abbrev ReadAs : Option MilestoneSide → Type 0
  ReadAs r = ((e : Entry) → e.category ≡ milestone_category → step_means s r ≡ among_milestones e (node_at s t i)) × Placed s r

  -- by the tests of the name
  milestone : (e : Entry) → e.category ≡ milestone_category → (y z : Bool) → y ≡ ends_in 0x73 name → z ≡ ends_in 0x65 name → is_milestone e (node_at s t i) ≡ (y || z)
  milestone e of y z y-is z-is = ap (λ (k : List ℕ). (eqb e.category milestone_category && (ends_in 0x73 k || ends_in 0x65 k))) (sym is) ∙ rw (eq-eqb e.category milestone_category of, ← y-is, ← z-is)

  begins : (y : Bool) → y ≡ ends_in 0x73 name → is_start (node_at s t i) ≡ y
  begins y y-is = ap (ends_in 0x73) (sym is) ∙ sym y-is

  pub a-start : (y : Bool) → y ≡ ends_in 0x73 name → y ≡ true → ReadAs (Some (code.Start (record { node = i; base_len = at.end - at.start - 2 })))
  a-start y y-is h = (λ e of. among-start e s t i (milestone e of y (ends_in 0x65 name) y-is refl ∙ rw h) (begins y y-is ∙ h) base-length, tt)

  pub an-end : (y z : Bool) → y ≡ ends_in 0x73 name → z ≡ ends_in 0x65 name → y ≡ false → z ≡ true → at.start ≤ at.end → ReadAs (Some (code.End (a + at.start) (at.end - at.start - 2)))
  an-end y z y-is z-is h g o =
      let l = named.inside in
      (λ e of. among-end e s t i (milestone e of y z y-is z-is ∙ rw (h, g)) (begins y y-is ∙ h) (base-place o), omega (arith, x-long))

  pub neither : (y z : Bool) → y ≡ ends_in 0x73 name → z ≡ ends_in 0x65 name → y ≡ false → z ≡ false → ReadAs None
  neither y z y-is z-is h g = (λ e of. among-neither e s t i (milestone e of y z y-is z-is ∙ rw (h, g)), tt)

-- a marker of another category is no milestone, whatever its name
pub other-category : (e : Entry) (s t : List ℕ) (i : ℕ) (b : Bool) → b ≡ eqb e.category milestone_category → b ≡ false → among.neither ≡ among_milestones e (node_at s t i)
other-category e s t i b is h = let q : eqb e.category milestone_category ≡ false = sym is ∙ h in rw q
