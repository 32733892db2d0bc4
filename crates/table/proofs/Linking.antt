-- How the entries are linked, from the last to the first.
-- Assumes nothing.
use mathlib.Core.Path.{◌≡◌, refl, sym, ap, ◌∙◌}
use mathlib.Core.Bool.{Bool, true, false}
use mathlib.Core.List.{List}
use Rattle.std.specs.Prelude.{Some, None}
use Prim.Native.Nat.{ℕ, ◌+◌, ◌-◌, ◌<◌, ◌≤◌}
use native.Mathlib.Omega.{arith}
use lib.Dec.{eqb}
use lib.ListN.{length, get_or, set, length-set}
use lib.Seq.{get_or-set_same, get_or-set_other}
use borrow.Author.Tests.{eqb-true, eqb-false}
use Rattle.text.specs.Pick.{cut}
use Rattle.table.specs.Entries.{Entry, entries, nth}
use Rattle.table.specs.Inner.{Indexed, Cleared, Chained, name_in, bucket_of, first_from, link_of}
use Rattle.table.proofs.Unpack.{There, there, info-past, word-name}
use Rattle.table.proofs.Buckets.{bucket-low, first-none, first-hit, first-miss}

-- the entries from number k on are linked
pub record Linked (t c : List ℕ) (k : ℕ) : Type 0 where
  pub room : 768 ≤ length c
  pub heads : (h : ℕ) → h < 256 → get_or c h 0 ≡ link_of (first_from t h k)
  pub nexts : (j : ℕ) (e : Entry) → k ≤ j → nth (entries t) j ≡ Some e → get_or c (256 + j) 0 ≡ link_of (first_from t (bucket_of (cut e.name t)) (j + 1))

module _ (t ix : List ℕ) (n : ℕ) (x : Indexed t ix n) (c : List ℕ) where
  pub link_start : 768 ≤ length c → Cleared 256 c → Linked t c n
  link_start r z =
      record {
        room = r;
        heads = λ h l. z h l ∙ ap link_of (sym (first-none t h n (omega (arith, x.count))));
        nexts = λ j e l is. absurd (none-some (sym (info-past (entries t) j (omega (arith, x.count))) ∙ is));
      }
    where
      none-some : {e : Entry} → None ≡ Some e → ⊥
      none-some p = let q : ◌≡◌ {A = ℕ} 0 1 = cc in omega arith

  module _ (k : ℕ) (g : Linked t c k) where
    pub link-end : k ≤ 0 → Chained t c
    link-end l =
        let z : k ≡ 0 = omega arith in
        record {
          room = g.room;
          heads = λ h b. g.heads h b ∙ ap (λ (j : ℕ). link_of (first_from t h j)) z;
          nexts = λ j e is. g.nexts j e (omega arith) is;
        }

    module _ (l : 0 < k) (m : k ≤ n) (h : ℕ) (is : h ≡ bucket_of (cut (name_in (get_or ix (k - 1) 0)) t)) where
      abbrev i : ℕ
      i = k - 1

      abbrev linked : List ℕ
      linked = set (set c (256 + i) (get_or c h 0)) h k

      th : There (entries t) i
      th = there t ix n x i (omega arith)

      bucket : bucket_of (cut th.entry.name t) ≡ h
      bucket = sym (is ∙ ap bucket_of (word-name t ix n x i th.entry th.is))

      back : i + 1 ≡ k
      back = omega arith

      head-low : h < 256
      head-low = rw is (bucket-low (cut (name_in (get_or ix i 0)) t))

      long : length (set c (256 + i) (get_or c h 0)) ≡ length c
      long = length-set c (256 + i) (get_or c h 0)

      heads-on : (j : ℕ) → j < 256 → get_or linked j 0 ≡ link_of (first_from t j i)
      heads-on j b = go (eqb j h) refl
        where
          go : (q : Bool) → eqb j h ≡ q → get_or linked j 0 ≡ link_of (first_from t j i)
          go true e =
              let same = eqb-true j h e in
              rw (same, first-hit t i th h bucket, back) (get_or-set_same (set c (256 + i) (get_or c h 0)) h k 0 (omega (arith, head-low, long, g.room)))
          go false e =
              let n = eqb-false j h e in
              get_or-set_other (set c (256 + i) (get_or c h 0)) h j k 0 n
              ∙ get_or-set_other c (256 + i) j (get_or c h 0) 0 (λ w. omega arith)
              ∙ g.heads j b
              ∙ ap link_of (sym (first-miss t i th j (λ w. n (sym w ∙ bucket)) ∙ ap (first_from t j) back))

      nexts-on : (j : ℕ) (e : Entry) → i ≤ j → nth (entries t) j ≡ Some e → get_or linked (256 + j) 0 ≡ link_of (first_from t (bucket_of (cut e.name t)) (j + 1))
      nexts-on j e b there-is =
          get_or-set_other (set c (256 + i) (get_or c h 0)) h (256 + j) k 0 (λ w. omega (arith, head-low)) ∙ go (eqb j i) refl
        where
          go : (q : Bool) → eqb j i ≡ q → get_or (set c (256 + i) (get_or c h 0)) (256 + j) 0 ≡ link_of (first_from t (bucket_of (cut e.name t)) (j + 1))
          go true z =
              let same = eqb-true j i z in
              let entry : Some th.entry ≡ Some e = sym th.is ∙ sym (ap (nth (entries t)) same) ∙ there-is in
              let e-is : th.entry ≡ e = cc in
              rw (same, back, ← e-is, bucket) (get_or-set_same c (256 + i) (get_or c h 0) 0 (omega (arith, x.few, g.room)) ∙ g.heads h head-low)
          go false z =
              let n = eqb-false j i z in
              get_or-set_other c (256 + i) (256 + j) (get_or c h 0) 0 (λ w. n (omega arith)) ∙ g.nexts j e (omega (arith, n)) there-is

      pub link_on : Linked t linked i
      link_on = record { room = rw (length-set (set c (256 + i) (get_or c h 0)) h k, long) g.room; heads = heads-on; nexts = nexts-on }
