-- The counts, one record at a time.
-- Assumes nothing.
use Prim.Native.Nat.{ℕ, zero, suc, ◌+◌, ◌<◌, ◌≤◌, min}
use native.Mathlib.Omega.{arith}
use native.Mathlib.Nat.{zero-add, suc-add, add-suc, add-zero}
use native.Mathlib.Numerals.{add-one}
use native.Mathlib.Decide.{ℕ_discrete, dec_le}
use mathlib.Core.Path.{◌≡◌, refl, sym, ap, ◌∙◌}
use mathlib.Core.Bool.{Bool, true, false}
use mathlib.Core.List.{List, ◌++◌}
use lib.Dec.{eqb}
use lib.ListN.{length, get_or, set, take, drop, replicate, drop_of_length-le, length-set, get_or-replicate}
use lib.Seq.{get_or-set_same, get_or-set_other, set_out, ext_get_or, take_all}
use Rattle.std.proofs.lemmas.List.{take-replicate}
use Rattle.std.specs.Prelude.{None}
use borrow.Author.Tests.{eq-eqb, ne_eqb}
use Rattle.buffer.specs.Over.{over}
use Rattle.buffer.proofs.Over.{over-is, length_over, over-again, set-over, get_d_over}
use Rattle.findings.specs.Codes.{code_count}
use Rattle.tally.specs.Tally.{code_at, tally_refusal, with_code, counts_from, tally_of}
use Rattle.tally.proofs.Records.{NextRecord, known}
use Rattle.findings.specs.Written.{whole_records}
use Rattle.text.specs.Pick.{pick}
use Rattle.findings.specs.Codes.{code_count}

-- the counts that there are, cleared
pub cleared : (l x : List ℕ) (n : ℕ) → n ≡ min (length l) code_count → x ≡ replicate n 0 → x ++ drop n l ≡ over l 0 (replicate code_count 0)
cleared l x n e f = f-is ∙ sym (over-is l (replicate code_count 0))
  where
    go : Dec (length l ≤ code_count) → replicate n 0 ++ drop n l ≡ take (length l) (replicate code_count 0) ++ drop code_count l
    go (yes h) =
        let k : n ≡ length l = omega arith in
        rw (k, take-replicate {X = ℕ} (length l) code_count 0 h, drop_of_length-le l {i = length l} (omega arith), drop_of_length-le l {i = 36} h)
    go (no h) =
        let k : n ≡ code_count = omega arith in
        rw (k, take_all {A = ℕ} (length l) (replicate code_count 0) (omega arith))

    f-is : x ++ drop n l ≡ take (length l) (replicate code_count 0) ++ drop code_count l
    f-is = rw f (go (dec_le (length l) code_count))

length-counts : (l : List ℕ) (c n : ℕ) → length (counts_from l c n) ≡ n
unfolding counts_from
length-counts l c zero = refl
length-counts l c (suc n) = ap suc (length-counts l (suc c) n)

get_or-counts : (l : List ℕ) (c n d : ℕ) → d < n → get_or (counts_from l c n) d 0 ≡ with_code l (c + d) (whole_records l)
unfolding counts_from
get_or-counts l c zero d h = absurd (omega arith)
get_or-counts l c (suc n) zero h = rw add-zero
get_or-counts l c (suc n) (suc d) h = get_or-counts l (suc c) n d (omega arith) ∙ rw (suc-add, add-suc)

code-few : (l : List ℕ) (c n : ℕ) → with_code l c n ≤ n
unfolding with_code
code-few l c zero = omega arith
code-few l c (suc n) = test (eqb (code_at l n) c) (code-few l c n)
  where
    test : (b : Bool) → with_code l c n ≤ n → pick b 1 0 + with_code l c n ≤ suc n
    test true h = omega arith
    test false h = omega arith

-- the count of one record's code goes up, and no other
one_more : (l yet : List ℕ) (k d c b : ℕ) → d ≡ code_at l k → b ≡ suc (with_code l d k) → d < length yet → get_or yet c 0 ≡ with_code l c k → get_or (set yet d b) c 0 ≡ with_code l c (k + 1)
unfolding with_code
one_more l yet k d c b f e h g = rw (add-one k, ← f) (choose (ℕ_discrete c d))
  where
    choose : Dec (c ≡ d) → get_or (set yet d b) c 0 ≡ pick (eqb d c) 1 0 + with_code l c k
    choose (yes z) = rw (z, get_or-set_same yet d b 0 h, eq-eqb d d refl) (omega arith)
    choose (no z) = rw (get_or-set_other yet d c b 0 z, ne_eqb d c (λ q. z (sym q))) (omega arith)

-- the counts of the first k records are written over the list
pub record Counting (l out₀ out : List ℕ) (k : ℕ) : Type 0 where
  pub few : k ≤ whole_records l
  pub yet : List ℕ
  pub written : out ≡ over out₀ 0 yet
  pub size : length yet ≡ code_count
  pub each : (c : ℕ) → c < code_count → get_or yet c 0 ≡ with_code l c k

pub counting-start : (l out out₀ : List ℕ) → out₀ ≡ over out 0 (replicate code_count 0) → Counting l out₀ out₀ 0
unfolding with_code
counting-start l out out₀ e =
    record {
      few = omega arith;
      yet = replicate code_count 0;
      written = rw e (sym (over-again out (replicate code_count 0) (replicate code_count 0) (omega arith)));
      size = refl;
      each = λ c h. get_or-replicate {A = ℕ} code_count c 0 0 h;
    }

module _ (l out₀ out : List ℕ) (k : ℕ) (y : Counting l out₀ out k) where
  pub counting-same : length out ≡ length out₀
  counting-same = rw y.written (length_over out₀ 0 y.yet)

  -- all records are counted, in a list that was cleared
  pub counting-end : (before : List ℕ) → out₀ ≡ over before 0 (replicate code_count 0) → whole_records l ≤ k → out ≡ over before 0 (tally_of l)
  counting-end before e h =
      let f = y.few in
      let s = y.size in
      let q : k ≡ whole_records l = omega arith in
      let one : (c : ℕ) → c < length y.yet → get_or y.yet c 0 ≡ get_or (tally_of l) c 0 = λ c b. y.each c (omega arith) ∙ rw (q, get_or-counts l 0 code_count c (omega arith), zero-add) in
      let n = length-counts l 0 code_count in
      y.written ∙ rw (e, ext_get_or 0 y.yet (tally_of l) (s ∙ sym n) one) (over-again before (replicate code_count 0) (tally_of l) (omega arith))

  module _ {x left : List ℕ} (r : NextRecord l x left k) (good : tally_refusal l ≡ None) where
    code-known : get_or x 1 0 < code_count
    code-known = let h = known l good k r.within in omega (arith, r.code)

    counting-value : get_or x 1 0 < length out → get_or out (get_or x 1 0) 0 ≡ with_code l (get_or x 1 0) k
    counting-value h =
        let s = y.size in
        let n = length_over out₀ 0 y.yet in
        let e = counting-same in
        let q = code-known in
        rw y.written (get_d_over out₀ y.yet (get_or x 1 0) (omega arith) (omega arith) ∙ y.each (get_or x 1 0) q)

    pub counting-small : get_or x 1 0 < length out → get_or out (get_or x 1 0) 0 ≤ k
    counting-small h = omega (arith, counting-value h, code-few l (get_or x 1 0) k)

    -- one record more
    counting_more : (n b : ℕ) → n ≡ k + 1 → b ≡ suc (with_code l (get_or x 1 0) k) → Counting l out₀ (set out (get_or x 1 0) b) n
    counting_more n b z e =
        let s = y.size in
        let w = r.within in
        let q = code-known in
        record {
          few = omega arith;
          yet = set y.yet (get_or x 1 0) b;
          written = rw y.written (set-over out₀ y.yet (get_or x 1 0) b (omega arith));
          size = length-set y.yet (get_or x 1 0) b ∙ s;
          each = λ c h. rw z (one_more l y.yet k (get_or x 1 0) c b r.code e (omega arith) (y.each c h));
        }

    pub counting-stored : (n : ℕ) → n ≡ k + 1 → get_or x 1 0 < length out → Counting l out₀ (set out (get_or x 1 0) (get_or out (get_or x 1 0) 0 + 1)) n
    counting-stored n z h = counting_more n (get_or out (get_or x 1 0) 0 + 1) z (add-one _ ∙ ap suc (counting-value h))

    -- the list has no place for its code
    pub counting-passed : (n : ℕ) → n ≡ k + 1 → length out ≤ get_or x 1 0 → Counting l out₀ out n
    counting-passed n z h = rw (set_out out (get_or x 1 0) (suc (with_code l (get_or x 1 0) k)) h) at (counting_more n _ z refl)
