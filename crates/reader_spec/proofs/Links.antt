-- The links of the rows nest: the reading of opens and closes passes, or stops with number 8.
-- Assumes nothing.
use Prim.Native.Nat.{ℕ, zero, suc, ◌*◌, ◌<◌, ◌≤◌, max}
use native.Mathlib.Decide.{dec_lt}
use native.Mathlib.Omega.{arith}
use mathlib.Core.Path.{◌≡◌, refl, sym, ap}
use mathlib.Core.Bool.{true, false}
use mathlib.Core.List.{List, [], ◌∷◌}
use Rattle.std.specs.Prelude.{Option, None}
use lib.ListN.{length, drop}
use borrow.Author.Tests.{le-ltb}
use Rattle.text.specs.Pick.{within}
use Rattle.refusals.specs.Refusal.{Refusal, refuse, too_deep}
use Rattle.tape.specs.Nodes.{kind_at, link_at, is_open, is_close, marker_open_kind, error_kind}
use Rattle.tape.specs.Reading.{stop, step, resume, read}
use Rattle.tape.proofs.Accept.{step-top, step-opens, step_other}
use Rattle.definition.specs.Examples.{Row, tape_of}
use Rattle.reader_spec.specs.Pass.{ReadNode, text, attribute, chapter_at, verse_at, opens, closes, ends}
use Rattle.reader_spec.specs.Rows.{Shape, leaf_shape, open_shape, close_shape, shape_of, except_first, first_or0, awaited_before, awaited, row_of, rows_from}
use Rattle.reader_spec.specs.Promise.{deepest_by, deepest}
use Rattle.reader_spec.proofs.Fields.{Fits, Has, has, onward}

-- the nodes close d opens that stand before them, and all of their own
abbrev pub ClosesBy : Shape → (ℕ → Type 0) → ℕ → Type 0
ClosesBy leaf_shape rest d = rest d
ClosesBy open_shape rest d = rest (suc d)
ClosesBy close_shape rest zero = ⊥
ClosesBy close_shape rest (suc d) = rest d

unfoldable pub Closes : List ReadNode → ℕ → Type 0
Closes [] d = d ≡ 0
Closes (i ∷ is) d = ClosesBy (shape_of i) (Closes is) d

pub awaited-length : (n : ℕ) (is : List ReadNode) (d : ℕ) → Closes is d → length (awaited n is) ≡ d
unfolding Closes awaited
awaited-length n [] d c = sym c
awaited-length n (i ∷ is) d c = go (shape_of i) d c (awaited-length (suc n) is)
  where
    go : (sh : Shape) (d : ℕ) → ClosesBy sh (Closes is) d → ((d : ℕ) → Closes is d → length (awaited (suc n) is) ≡ d) → length (awaited_before sh n (awaited (suc n) is)) ≡ d
    go leaf_shape d c ih = ih d c
    go open_shape d c ih = tail (awaited (suc n) is) (ih (suc d) c)
      where
        tail : (aw : List ℕ) → length aw ≡ suc d → length (except_first aw) ≡ d
        tail [] e = omega arith
        tail (x ∷ aw) e = omega arith
    go close_shape zero c ih = absurd c
    go close_shape (suc d) c ih = ap suc (ih d c)

-- every node from number n on has its row's fields
unfoldable pub AllHave : List ℕ → ℕ → List ReadNode → Type 0
AllHave t n [] = Unit {0}
AllHave t n (i ∷ is) = Has t n (row_of i (first_or0 (awaited (suc n) is))) × AllHave t (suc n) is

unfoldable pub AllFit : ℕ → List ReadNode → Type 0
AllFit n [] = Unit {0}
AllFit n (i ∷ is) = Fits (row_of i (first_or0 (awaited (suc n) is))) × AllFit (suc n) is

pub all_have : (t : List ℕ) (n : ℕ) (is : List ReadNode) → drop (16 * n) t ≡ tape_of (rows_from n is) → AllFit n is → AllHave t n is
unfolding AllHave AllFit tape_of rows_from
all_have t n [] e f = tt
all_have t n (i ∷ is) e f =
    let r = row_of i (first_or0 (awaited (suc n) is)) in
    (has t n r (tape_of (rows_from (suc n) is)) e f.0, all_have t (suc n) is (onward t n r (tape_of (rows_from (suc n) is)) e) f.1)

-- the kind of a row by its shape
abbrev pub KindOf : Shape → ℕ → Type 0
KindOf leaf_shape k = (is_open k ≡ false) × (is_close k ≡ false)
KindOf open_shape k = is_open k ≡ true
KindOf close_shape k = is_close k ≡ true

abbrev pub LinkOf : Shape → ℕ → ℕ → Type 0
LinkOf leaf_shape x link = Unit {0}
LinkOf open_shape x link = x ≡ link
LinkOf close_shape x link = Unit {0}

-- the row of a node, by the node's shape: only an open's link depends on its close
pub record RowIs (x : ReadNode) (close : ℕ) (r : Row) : Type 0 where
  pub kind : KindOf (shape_of x) r.kind
  pub good : within marker_open_kind error_kind r.kind ≡ true
  pub marker : r.marker ≡ (row_of x 0).marker
  pub start : r.start ≡ (row_of x 0).start
  pub len : r.len ≡ (row_of x 0).len
  pub link : LinkOf (shape_of x) r.link close

pub row_is : (x : ReadNode) (close : ℕ) → RowIs x close (row_of x close)
row_is (text a n) close = record { kind = (refl, refl); good = refl; marker = refl; start = refl; len = refl; link = tt }
row_is (attribute a n) close = record { kind = (refl, refl); good = refl; marker = refl; start = refl; len = refl; link = tt }
row_is (chapter_at m a n link) close = record { kind = (refl, refl); good = refl; marker = refl; start = refl; len = refl; link = tt }
row_is (verse_at m a n link) close = record { kind = (refl, refl); good = refl; marker = refl; start = refl; len = refl; link = tt }
row_is (opens m a n) close = record { kind = refl; good = refl; marker = refl; start = refl; len = refl; link = refl }
row_is (closes m a n) close = record { kind = refl; good = refl; marker = refl; start = refl; len = refl; link = tt }
row_is (ends m a) close = record { kind = refl; good = refl; marker = refl; start = refl; len = refl; link = tt }

-- no refusal, or number 8 where the nodes nest too deep
abbrev pub Fine : ℕ → Option Refusal → Type 0
Fine deep x = (deep ≤ 64 → x ≡ None) × (64 < deep → (place : ℕ) × (x ≡ refuse too_deep place))

module _ (t : List ℕ) where
  too-deep : (n : ℕ) (aw : List ℕ) → is_open (kind_at t n) ≡ true → 64 ≤ length aw → step t n aw ≡ stop too_deep
  unfolding step
  too-deep n aw k h = rw (k, le-ltb (length aw) 64 h)

  -- an open, with the link x awaited after it
  opening : (n k d deep x : ℕ) (aw : List ℕ) → is_open (kind_at t n) ≡ true → link_at t n ≡ x → length aw ≡ d → Fine deep (read t k (suc n) (x ∷ aw)) → Fine (max (suc d) deep) (resume (step t n aw) n (read t k (suc n)))
  opening n k d deep x aw q l e f = room (dec_lt (length aw) 64)
    where
      room : Dec (length aw < 64) → Fine (max (suc d) deep) (resume (step t n aw) n (read t k (suc n)))
      room (yes h) = rw (step-opens t n aw q h, l) (λ u. f.0 (omega arith), λ u. f.1 (omega arith))
      room (no h) = rw (too-deep n aw q (omega arith)) (λ u. absurd (omega arith), λ u. (n, refl))

  pub reads : (n : ℕ) (is : List ReadNode) (d : ℕ) → AllHave t n is → Closes is d → Fine (deepest is d) (read t (length is) n (awaited n is))
  unfolding read awaited Closes AllHave deepest
  reads n [] d h c = (λ u. refl, λ u. absurd (omega arith))
  reads n (i ∷ is) d h c =
      let link = first_or0 (awaited (suc n) is) in
      go (shape_of i) d (rw h.0.kind (row_is i link).kind) (rw h.0.link (row_is i link).link) c (λ d c. reads (suc n) is d h.1 c)
    where
      go : (sh : Shape) (d : ℕ) → KindOf sh (kind_at t n) → LinkOf sh (link_at t n) (first_or0 (awaited (suc n) is)) → ClosesBy sh (Closes is) d → ((d : ℕ) → Closes is d → Fine (deepest is d) (read t (length is) (suc n) (awaited (suc n) is))) → Fine (deepest_by sh (deepest is) d) (resume (step t n (awaited_before sh n (awaited (suc n) is))) n (read t (length is) (suc n)))
      go leaf_shape d k l c ih = rw (step_other t n (awaited (suc n) is) k.0 k.1) (ih d c)
      go open_shape d k l c ih = inner (awaited (suc n) is) (awaited-length (suc n) is (suc d) c) l (ih (suc d) c)
        where
          inner : (aw : List ℕ) → length aw ≡ suc d → link_at t n ≡ first_or0 aw → Fine (deepest is (suc d)) (read t (length is) (suc n) aw) → Fine (max (suc d) (deepest is (suc d))) (resume (step t n (except_first aw)) n (read t (length is) (suc n)))
          inner [] e l f = absurd (omega arith)
          inner (x ∷ aw) e l f = opening n (length is) d (deepest is (suc d)) x aw k l (omega arith) f
      go close_shape zero k l c ih = absurd c
      go close_shape (suc d) k l c ih = rw (step-top t n (awaited (suc n) is) k) (ih d c)
