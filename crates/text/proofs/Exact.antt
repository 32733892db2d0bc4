-- The check accepts exactly the texts that are made of rows of Table 3-7, and its place is where the first sequence begins that is none.
-- Assumes nothing.
use mathlib.Core.Path.{◌≡◌, refl, sym, ap, ◌∙◌}
use mathlib.Core.Bool.{Bool, true, false, false≢true}
use mathlib.Core.List.{List, [], ◌∷◌, ◌++◌, append-nil, append_assoc, Memᴰ}
use mathlib.Core.Logic.{◌↔◌}
use Rattle.std.specs.Prelude.{Option, Some, None}
use Prim.Native.Nat.{ℕ, zero, suc, ◌+◌, ◌<◌, ◌≤◌}
use native.Mathlib.Nat.{add-zero, zero-add, not-suc-le-zero}
use native.Mathlib.Omega.{arith}
use lib.ListN.{length, take, drop, length-append, length-drop, take-append-drop}
use lib.Seq.{drop-append_seam, drop-drop, take-add, length-take-le}
use Rattle.text.specs.Pick.{Range, within, pick}
use Rattle.text.specs.Utf8.{begins, width_by, table3_7, width_of, scan, first_ill_formed, fits, Made, nothing, more, FirstIllFormed}
use Rattle.text.proofs.Induction.{by_length}
use Rattle.text.proofs.Rows.{width-le, row-long, row-begins}
use Rattle.text.proofs.Scan.{over, bad, ended}
use Rattle.text.proofs.Bool.{and_left, and_right}

pub fits-length : (row : List Range) (a : List ℕ) → fits row a ≡ true → length a ≡ length row
fits-length [] [] e = refl
fits-length [] (b ∷ a) e = absurd (false≢true e)
fits-length (r ∷ rs) [] e = absurd (false≢true e)
fits-length (r ∷ rs) (b ∷ a) e = ap suc (fits-length rs a (and_right (within r.lo r.hi b) (fits rs a) e))

pub fits-begins : (row : List Range) (a t : List ℕ) → fits row a ≡ true → begins row (a ++ t) ≡ true
unfolding begins
fits-begins [] [] t e = refl
fits-begins [] (b ∷ a) t e = absurd (false≢true e)
fits-begins (r ∷ rs) [] t e = absurd (false≢true e)
fits-begins (r ∷ rs) (b ∷ a) t e =
    rw (and_left (within r.lo r.hi b) (fits rs a) e) (fits-begins rs a t (and_right (within r.lo r.hi b) (fits rs a) e))

pub begins-fits : (row : List Range) (s : List ℕ) → begins row s ≡ true → fits row (take (length row) s) ≡ true
unfolding begins
begins-fits [] s e = refl
begins-fits (r ∷ rs) [] e = absurd (false≢true e)
begins-fits (r ∷ rs) (b ∷ s) e =
    rw (and_left (within r.lo r.hi b) (begins rs s) e) (begins-fits rs s (and_right (within r.lo r.hi b) (begins rs s) e))

-- the row that a width comes from
pub record Found (rows : List (List Range)) (s : List ℕ) (w : ℕ) : Type 0 where
  pub row : List Range
  pub is_row : Memᴰ row rows
  pub begins-so : begins row s ≡ true
  pub long : length row ≡ w

found-by : (rows : List (List Range)) (s : List ℕ) → 0 < width_by rows s → Found rows s (width_by rows s)
unfolding width_by
found-by [] s h = absurd (not-suc-le-zero h)
found-by (row ∷ rows) s h = go (begins row s) refl h (found-by rows s)
  where
    go : (t : Bool) → begins row s ≡ t → 0 < pick t (length row) (width_by rows s) → (0 < width_by rows s → Found rows s (width_by rows s)) → Found (row ∷ rows) s (pick t (length row) (width_by rows s))
    go true e l later = record { row = row; is_row = Memᴰ.head refl; begins-so = e; long = refl }
    go false e l later =
        let f = later l in
        record { row = f.row; is_row = Memᴰ.tail f.is_row; begins-so = f.begins-so; long = f.long }

pub found : (s : List ℕ) → 0 < width_of s → Found table3_7 s (width_of s)
unfolding width_of
found s h = found-by table3_7 s h

none_begins : (l : List ℕ) → width_of l ≡ 0 → (row : List Range) → Memᴰ row table3_7 → begins row l ≡ false
none_begins l e row m = go (begins row l) refl
  where
    go : (t : Bool) → begins row l ≡ t → t ≡ false
    go true y = absurd (omega (arith, row-long row m, row-begins row l m y, e))
    go false y = refl

-- where no row begins the list, its width is 0
no-width : (l : List ℕ) → ((row : List Range) → Memᴰ row table3_7 → begins row l ≡ false) → width_of l ≡ 0
no-width l h = go (width_of l) refl
  where
    go : (w : ℕ) → width_of l ≡ w → w ≡ 0
    go zero e = refl
    go (suc k) e =
        let f = found l (omega arith) in
        absurd (false≢true (sym (h f.row f.is_row) ∙ f.begins-so))

-- a scan passes what is made of rows
pub scan-made : {a : List ℕ} → Made a → (t : List ℕ) (at : ℕ) → scan (a ++ t) 0 at ≡ scan t 0 (at + length a)
scan-made nothing t at = ap (scan t 0) (sym (add-zero at))
scan-made (more row a {s} {l} m f r e) t at =
    let n = length a in
    let long : n ≡ length row = fits-length row a f in
    let wide : width_of (a ++ (s ++ t)) ≡ n = row-begins row (a ++ (s ++ t)) m (fits-begins row a (s ++ t) f) ∙ sym long in
    let first : scan (a ++ (s ++ t)) 0 at ≡ scan (s ++ t) 0 (at + n) = over (a ++ (s ++ t)) n at wide (omega (arith, row-long row m)) ∙ ap (λ (z : List ℕ). scan z 0 (at + n)) (drop-append_seam a (s ++ t)) in
    let total : length l ≡ n + length s = ap length e ∙ length-append a s in
    ap (λ (z : List ℕ). scan z 0 at) (ap (◌++ t) e ∙ append_assoc a s t) ∙ first ∙ scan-made r t (at + n) ∙ ap (scan t 0) (omega arith)

-- what a scan from a place on says
Says : List ℕ → ℕ → Option ℕ → Type 0
Says s at None = Made s
Says s at (Some p) = (k : ℕ) × (p ≡ at + k) × FirstIllFormed s k

-- a row before what a scan says it of
says-more : (l : List ℕ) (w at : ℕ) → Found table3_7 l w → w ≤ length l → (x : Option ℕ) → Says (drop w l) (at + w) x → Says l at x
unfolding Says
says-more l w at f h None m = more f.row (take w l) f.is_row (rw (← f.long) (begins-fits f.row l f.begins-so)) m (sym (take-append-drop w l))
says-more l w at f h (Some p) (k, e, q) = (
  w + k,
  omega arith,
  record {
    inside = omega (arith, q.inside, length-drop w l);
    before = more f.row (take w l) f.is_row (rw (← f.long) (begins-fits f.row l f.begins-so)) q.before (take-add w k l);
    none_begins = λ row m. rw (← drop-drop k w l) (q.none_begins row m);
  },
)

says-step : (s : List ℕ) → ((t : List ℕ) → length t < length s → (at : ℕ) → Says t at (scan t 0 at)) → (at : ℕ) → Says s at (scan s 0 at)
unfolding Says
says-step [] ih at = rw (ended 0 at) nothing
says-step (b ∷ s) ih at = go (width_of (b ∷ s)) refl
  where
    go : (w : ℕ) → width_of (b ∷ s) ≡ w → Says (b ∷ s) at (scan (b ∷ s) 0 at)
    go zero e = rw (bad (b ∷ s) at (omega arith) e) (0, omega arith, record { inside = omega arith; before = nothing; none_begins = none_begins (b ∷ s) e })
    go (suc k) e =
        let l = b ∷ s in
        let f : Found table3_7 l (suc k) = rw e at (found l (omega arith)) in
        let fits_in : suc k ≤ length l = omega (arith, width-le l, e) in
        rw (over l (suc k) at e (omega arith)) (says-more l (suc k) at f fits_in (scan (drop (suc k) l) 0 (at + suc k)) (ih (drop (suc k) l) (omega (arith, length-drop (suc k) l)) (at + suc k)))

says : (s : List ℕ) → Says s 0 (first_ill_formed s)
unfolding first_ill_formed
says s = by_length (λ (s : List ℕ). (at : ℕ) → Says s at (scan s 0 at)) says-step s 0

-- a text is accepted exactly if it is made of rows of the table
pub utf8-exact : (s : List ℕ) → (first_ill_formed s ≡ None) ↔ Made s
unfolding Says first_ill_formed
utf8-exact s = (λ e. rw e at (says s), λ m. ap (λ (l : List ℕ). scan l 0 0) (sym (append-nil s)) ∙ scan-made m [] 0 ∙ ended 0 (0 + length s))

-- the place that is given is the place of the first sequence that is no row
pub utf8-place : (s : List ℕ) (at : ℕ) → (first_ill_formed s ≡ Some at) ↔ FirstIllFormed s at
unfolding Says first_ill_formed
utf8-place s at = (there, back)
  where
    there : first_ill_formed s ≡ Some at → FirstIllFormed s at
    there e = let (k, p, f) = rw e at (says s) in let z : k ≡ at = omega arith in rw (← z) f

    back : FirstIllFormed s at → first_ill_formed s ≡ Some at
    back f =
        let here = f.inside in
        let passed : scan s 0 0 ≡ scan (drop at s) 0 (0 + length (take at s)) = ap (λ (l : List ℕ). scan l 0 0) (sym (take-append-drop at s)) ∙ scan-made f.before (drop at s) 0 in
        let long : 0 + length (take at s) ≡ at = zero-add _ ∙ length-take-le at s (omega arith) in
        passed ∙ ap (scan (drop at s) 0) long ∙ bad (drop at s) at (rw length-drop (omega arith)) (no-width (drop at s) f.none_begins)
