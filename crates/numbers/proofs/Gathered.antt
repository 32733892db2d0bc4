-- The Chapters and Verses among some nodes, gathered in order, and the first of them that is bad.
-- Assumes nothing.
use Prim.Native.Nat.{ℕ, zero, suc, ◌+◌, ◌-◌, ◌<◌, ◌≤◌}
use mathlib.Core.Path.{◌≡◌, refl, ap, ◌∙◌}
use mathlib.Core.Bool.{Bool, true, false}
use mathlib.Core.List.{List, ◌++◌, append_assoc, append-nil}
use Rattle.std.specs.Prelude.{Option, Some, None}
use native.Mathlib.Nat.{add-zero, zero-add}
use native.Mathlib.Numerals.{add-one}
use native.Mathlib.Omega.{arith}
use lib.ListN.{length, get_or, set, take, drop, length-set, drop_of_length-le}
use lib.Seq.{take-suc, take-set-le, get_or-set_same, drop-cons}
use Rattle.tape.specs.Nodes.{count, kind_at}
use Rattle.refusals.specs.Refusal.{Refusal, refuse, only_if, or_else, first_bad, split_label}
use Rattle.tape.specs.Forest.{Accepted}
use Rattle.cursor.specs.Inner.{Spanned}
use Rattle.cursor.proofs.Around.{spanned}
use Rattle.numbers.specs.Label.{numbered, bad_label}
use Rattle.numbers.specs.Inner.{kept_if, numbers_in, first_among}
use Rattle.text.specs.Pick.{pick}

-- one node more is written behind those that are kept, and kept or not
kept-turn : (x : Bool) (found : List ℕ) (k i : ℕ) (l : List ℕ) → k < length found → take (k + pick x 1 0) (set found k i) ++ l ≡ take k found ++ kept_if x i l
kept-turn false found k i l h = rw (add-zero, take-set-le k found k i (omega arith))
kept-turn true found k i l h =
    let e = take-suc (set found k i) k 0 (rw length-set (omega arith)) in
    rw (add-one, e, take-set-le k found k i (omega arith), get_or-set_same found k i 0 h, append_assoc)

pub gathered : (t found : List ℕ) (k i to : ℕ) (x : Bool) → k < length found → i < to → x ≡ numbered (kind_at t i)
    → take (k + pick x 1 0) (set found k i) ++ numbers_in t (i + 1) (to - (i + 1)) ≡ take k found ++ numbers_in t i (to - i)
unfolding numbers_in
gathered t found k i to x h l e =
    let n : to - i ≡ suc (to - (i + 1)) = omega arith in
    let p : suc i ≡ i + 1 = omega arith in
    rw (n, ← e, p) (kept-turn x found k i (numbers_in t (i + 1) (to - (i + 1))) h)

pub gathered-all : (t found : List ℕ) (k i to : ℕ) → to ≤ i → take k found ++ numbers_in t i (to - i) ≡ take k found
unfolding numbers_in
gathered-all t found k i to h = let n : to - i ≡ 0 = omega arith in rw n (append-nil (take k found))

-- what is kept are nodes from i on, before i + n
pub kept_from : (t : List ℕ) (i n j : ℕ) → j < length (numbers_in t i n) → (i ≤ get_or (numbers_in t i n) j 0) × (get_or (numbers_in t i n) j 0 < i + n)
unfolding numbers_in
kept_from t i zero j h = absurd (omega arith)
kept_from t i (suc n) j h = go (numbered (kind_at t i)) j h (kept_from t (suc i) n)
  where
    go : (x : Bool) (j : ℕ) → j < length (kept_if x i (numbers_in t (suc i) n))
        → ((j : ℕ) → j < length (numbers_in t (suc i) n) → (suc i ≤ get_or (numbers_in t (suc i) n) j 0) × (get_or (numbers_in t (suc i) n) j 0 < suc i + n))
        → (i ≤ get_or (kept_if x i (numbers_in t (suc i) n)) j 0) × (get_or (kept_if x i (numbers_in t (suc i) n)) j 0 < i + suc n)
    go true zero h ih = (omega arith, omega arith)
    go true (suc j) h ih = let r = ih j (omega arith) in (omega arith, omega arith)
    go false j h ih = let r = ih j h in (omega arith, omega arith)

-- a search among what is kept finds what a search among all nodes does, where only a Chapter or a Verse is bad
pub first-kept : (t : List ℕ) (bad : ℕ → Bool) → ((i : ℕ) → numbered (kind_at t i) ≡ false → bad i ≡ false) → (i n : ℕ) → first_among bad (numbers_in t i n) ≡ first_bad split_label bad i n
unfolding numbers_in first_among first_bad
first-kept t bad other i zero = refl
first-kept t bad other i (suc n) = go (numbered (kind_at t i)) refl (first-kept t bad other (suc i) n)
  where
    go : (x : Bool) → numbered (kind_at t i) ≡ x → first_among bad (numbers_in t (suc i) n) ≡ first_bad split_label bad (suc i) n → first_among bad (kept_if x i (numbers_in t (suc i) n)) ≡ or_else (only_if (bad i) (refuse split_label i)) (first_bad split_label bad (suc i) n)
    go true e ih = rw ih
    go false e ih = rw (other i e) ih

-- those of an accepted tape, gathered
module _ (s t found : List ℕ) (from to : ℕ) where
  pub kept-spanned : Accepted s t → 1 ≤ from → from ≤ to → to ≤ count t → found ≡ numbers_in t from (to - from) → (j : ℕ) → j < length found → Spanned s t (get_or found j 0)
  kept-spanned a low up high e j h =
      let k = kept_from t from (to - from) j (rw (← e) h) in
      rw e (spanned s t (get_or (numbers_in t from (to - from)) j 0) a (omega arith) (omega arith))

pub first-in : (table s t found : List ℕ) (from to : ℕ) → found ≡ numbers_in t from (to - from) → first_among (bad_label table s t) found ≡ first_bad split_label (bad_label table s t) from (to - from)
first-in table s t found from to e = ap (first_among (bad_label table s t)) e ∙ first-kept t (bad_label table s t) (λ i x. rw x) from (to - from)

-- a search in two parts
first-parts : (bad : ℕ → Bool) (i m n : ℕ) → first_bad split_label bad i (m + n) ≡ or_else (first_bad split_label bad i m) (first_bad split_label bad (i + m) n)
unfolding first_bad
first-parts bad i zero n = rw (zero-add, add-zero)
first-parts bad i (suc m) n =
    let e : suc m + n ≡ suc (m + n) = omega arith in
    let p : i + suc m ≡ suc i + m = omega arith in
    rw (e, p, first-parts bad (suc i) m n) (go (bad i))
  where
    go : (x : Bool) → or_else (only_if x (refuse split_label i)) (or_else (first_bad split_label bad (suc i) m) (first_bad split_label bad (suc i + m) n)) ≡ or_else (or_else (only_if x (refuse split_label i)) (first_bad split_label bad (suc i) m)) (first_bad split_label bad (suc i + m) n)
    go true = refl
    go false = refl

module _ (bad : ℕ → Bool) (i next n : ℕ) (low : i ≤ next) (high : next ≤ n) where
  split-there : first_bad split_label bad i (n - i) ≡ or_else (first_bad split_label bad i (next - i)) (first_bad split_label bad next (n - next))
  split-there =
      let e : n - i ≡ (next - i) + (n - next) = omega arith in
      let p : i + (next - i) ≡ next = omega arith in
      rw (e, first-parts bad i (next - i) (n - next), p)

  pub first-there : (r : Refusal) → Some r ≡ first_bad split_label bad i (next - i) → first_bad split_label bad i (n - i) ≡ Some r
  first-there r f = split-there ∙ rw (← f)

  pub first-later : (o : Option Refusal) → o ≡ None → o ≡ first_bad split_label bad i (next - i) → first_bad split_label bad i (n - i) ≡ first_bad split_label bad next (n - next)
  first-later o e f = split-there ∙ rw (← f, e)

-- a search among some nodes, a node at a time
module _ (bad : ℕ → Bool) (l : List ℕ) (j : ℕ) where
  among-step : j < length l → first_among bad (drop j l) ≡ or_else (only_if (bad (get_or l j 0)) (refuse split_label (get_or l j 0))) (first_among bad (drop (j + 1) l))
  unfolding first_among
  among-step h = rw (add-one, drop-cons l j 0 h)

  pub among-hit : j < length l → bad (get_or l j 0) ≡ true → first_among bad (drop j l) ≡ refuse split_label (get_or l j 0)
  among-hit h e = among-step h ∙ rw e

  pub among-pass : j < length l → bad (get_or l j 0) ≡ false → first_among bad (drop j l) ≡ first_among bad (drop (j + 1) l)
  among-pass h e = among-step h ∙ rw e

  pub among-end : length l ≤ j → first_among bad (drop j l) ≡ None
  unfolding first_among
  among-end h = rw (drop_of_length-le l {i = j} h)
