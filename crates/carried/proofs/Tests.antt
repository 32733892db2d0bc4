-- The tests of number 19 on one record or one open start, by the answers that the code gets.
-- Assumes nothing.
use Prim.Native.Nat.{ℕ, ◌*◌, ◌%◌, ◌<◌, ◌≤◌}
use native.Mathlib.Decide.{ℕ_discrete}
use native.Mathlib.Omega.{arith}
use mathlib.Core.Path.{◌≡◌, refl, sym, ap, ◌∙◌}
use mathlib.Core.Bool.{Bool, true, false, not, ◌&&◌, ◌||◌}
use mathlib.Core.List.{List}
use Rattle.std.specs.Prelude.{Some, None}
use lib.Dec.{eqb}
use lib.ListN.{length, get_or-eq_default}
use borrow.Author.Tests.{eqb-true, eq-eqb, ne_eqb, lt-ltb, le-ltb, not-true, not-false}
use Rattle.text.specs.Pick.{pick}
use Rattle.text.proofs.Bool.{or_parts}
use Rattle.tape.specs.Nodes.{Node, node_at, count, kind_at, marker_open_kind, root_kind}
use Rattle.tape.specs.Reading.{bad_length}
use Rattle.tape.specs.Forest.{Accepted}
use Rattle.table.specs.Entries.{Entry, milestone_category}
use Rattle.cursor.specs.Info.{info_at}
use Rattle.cursor.specs.Inner.{Spanned}
use Rattle.cursor.specs.Names.{name_of}
use Rattle.cursor.proofs.Around.{spanned}
use Rattle.numbers.specs.Label.{numbered}
use Rattle.definition.specs.Milestones.{ends_in, is_start}
use Rattle.definition.specs.Sections.{is_border}
use Rattle.definition.specs.Carried.{misplaced, number_too_large, list_too_long, bad_anchor, bad_start, bad_starts, is_foreign, anchor_node}
use Rattle.definition.specs.Carried as carried
use Rattle.definition.specs.declared.OpenStart.{OpenStart}
use Rattle.milestones.specs.Inner.{base_in}
use Rattle.carried.specs.Record.{bad_record}
use Rattle.carried.specs.Inner.{is_start_of}

-- past the tape every kind is 0, the root's
pub past-kind : (t : List ℕ) (i : ℕ) → bad_length t ≡ false → count t ≤ i → kind_at t i ≡ root_kind
past-kind t i sized past =
    let a = or_parts (eqb (length t) 0) _ sized in
    let b = or_parts (not (eqb (length t % 16) 0)) _ a.1 in
    let c = eqb-true (length t % 16) 0 (not-false _ b.0) in
    get_or-eq_default t 0 {n = 16 * i} (omega arith)

module _ (t : List ℕ) (r : carried.CarriedRecord) where
  pub no-anchor : r.anchor ≡ 0 → false ≡ bad_anchor t r
  no-anchor e = rw (eq-eqb r.anchor 0 e)

  module _ (some-anchor : r.anchor ≡ 0 → ⊥) where
    pub past-anchor : bad_length t ≡ false → count t ≤ r.anchor → true ≡ bad_anchor t r
    past-anchor sized past = rw (ne_eqb r.anchor 0 some-anchor, past-kind t r.anchor sized past)

    pub anchor-by-kind : (k : ℕ) (b : Bool) → k ≡ kind_at t r.anchor → b ≡ numbered k → not b ≡ bad_anchor t r
    anchor-by-kind k b is has = rw (ne_eqb r.anchor 0 some-anchor, has, is)

-- a marker with its entry, by its category, its name and the base of its name
module _ (e : Entry) (x : Node) (len : ℕ) (m : Bool) (m-is : m ≡ eqb e.category milestone_category) where
  pub other-category : not m ≡ true → false ≡ is_start_of e x len
  other-category h = rw (← m-is, not-true m h)

  module _ (h : not m ≡ false) (name : List ℕ) (name-is : name ≡ name_of x.text) (y : Bool) (y-is : y ≡ ends_in 0x73 name) where
    begins : is_start x ≡ y
    begins = ap (ends_in 0x73) (sym name-is) ∙ sym y-is

    pub no_start : not y ≡ true → false ≡ is_start_of e x len
    no_start g = rw (← m-is, not-false m h, begins ∙ not-true y g)

    pub start-by-base : not y ≡ false → (base : List ℕ) → base ≡ base_in name → eqb len (length base) ≡ is_start_of e x len
    start-by-base g base is = rw (← m-is, not-false m h, begins ∙ not-false y g) (ap (λ (b : List ℕ). eqb len (length b)) (is ∙ ap base_in name-is))

-- an open start, by its node's kind and entry
module _ (table s t : List ℕ) (accepted : Accepted s t) (o : OpenStart) where
  pub past-start : count t ≤ o.node → true ≡ bad_start table s t o
  past-start past = rw (past-kind t o.node accepted.sized past)

  module _ (k : ℕ) (is : k ≡ kind_at t o.node) where
    pub no-open : (k ≡ marker_open_kind → ⊥) → true ≡ bad_start table s t o
    no-open n = rw (← is, ne_eqb k marker_open_kind n)

    module _ (e : k ≡ marker_open_kind) where
      -- an open marker isn't the root
      pub open-spanned : o.node < count t → Spanned s t o.node
      open-spanned inside = spanned s t o.node accepted (test (ℕ_discrete o.node 0)) inside
        where
          test : Dec (o.node ≡ 0) → 1 ≤ o.node
          test (no n) = omega (arith, n)
          test (yes z) =
              let root : kind_at t 0 ≡ root_kind = eqb-true (kind_at t 0) root_kind (not-false _ (accepted.kinds 0 (omega arith))) in
              let same : kind_at t o.node ≡ kind_at t 0 = ap (λ (i : ℕ). kind_at t i) z in
              absurd (omega arith)

      opened : eqb (kind_at t o.node) marker_open_kind ≡ true
      opened = eq-eqb (kind_at t o.node) marker_open_kind (sym is ∙ e)

      pub no-entry : None ≡ info_at table t o.node → true ≡ bad_start table s t o
      unfolding info_at
      no-entry h = rw (opened, ← h)

      pub with-entry : (x : Entry) (b : Bool) → Some x ≡ info_at table t o.node → b ≡ is_start_of x (node_at s t o.node) o.base_len → not b ≡ bad_start table s t o
      unfolding info_at
      with-entry x b h y = ap not y ∙ rw (opened, ← h)

module _ (s t : List ℕ) (r : carried.CarriedRecord) where
  pub bad-place : misplaced s t r ≡ true → true ≡ bad_record s t r
  bad-place h = rw h

  module _ (placed : misplaced s t r ≡ false) where
    pub bad-number : number_too_large r ≡ true → true ≡ bad_record s t r
    bad-number h = rw (placed, h)

    module _ (small : number_too_large r ≡ false) where
      pub bad-list : list_too_long r ≡ true → true ≡ bad_record s t r
      bad-list h = rw (placed, small, h)

      pub record-by-anchor : list_too_long r ≡ false → (b : Bool) → b ≡ bad_anchor t r → b ≡ bad_record s t r
      record-by-anchor h b is = is ∙ rw (placed, small, h)

  -- what `is_foreign` tests besides: the open starts
  pub foreign-parts : (table : List ℕ) (opens : List OpenStart) → is_foreign table s t opens r ≡ (bad_record s t r || bad_starts table s t opens r.open_len)
  foreign-parts table opens = grouped (misplaced s t r) (number_too_large r) (list_too_long r) (bad_anchor t r) (bad_starts table s t opens r.open_len)
    where
      grouped : (a b c d e : Bool) → (a || (b || (c || (d || e)))) ≡ ((a || (b || (c || d))) || e)
      grouped true b c d e = refl
      grouped false true c d e = refl
      grouped false false true d e = refl
      grouped false false false true e = refl
      grouped false false false false e = refl

  pub late-anchor : r.place ≤ r.anchor → 0 ≡ anchor_node s t r
  late-anchor h = rw (le-ltb r.anchor r.place h) (test (is_border s t r.anchor))
    where
      test : (v : Bool) → 0 ≡ pick (v && false) r.anchor 0
      test true = refl
      test false = refl

  module _ (earlier : r.anchor < r.place) (b : Bool) (is : b ≡ is_border s t r.anchor) where
    pub own-anchor : b ≡ true → r.anchor ≡ anchor_node s t r
    own-anchor h = rw (sym is ∙ h, lt-ltb r.anchor r.place earlier)

    pub inner-anchor : b ≡ false → 0 ≡ anchor_node s t r
    inner-anchor h = rw (sym is ∙ h)
