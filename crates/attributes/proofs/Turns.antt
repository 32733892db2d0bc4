-- A turn of the scan: what is left to write, at each place of it.
-- Assumes nothing.
use mathlib.Core.Path.{◌≡◌, refl, ap, ◌∙◌}
use mathlib.Core.List.{List}
use Prim.Native.Nat.{ℕ, ◌≤◌}
use lib.ListN.{length, drop, drop_of_length-le}
use Rattle.text.specs.Inner.{Ended}
use Rattle.text.specs.Characters.{chars, find}
use Rattle.text.specs.Words.{not_blank}
use Rattle.findings.specs.declared.Counts.{Counts}
use Rattle.attributes.specs.declared.Where.{Where}
use Rattle.attributes.specs.Attributes.{between, attribute_scan}
use Rattle.attributes.proofs.Scanning.{First, scan-end, next-key, next-first}
use Rattle.attributes.proofs.Owed.{at, Owing, owing-start, owing-as, owing-end}
use Rattle.findings.specs.Inner.{Wrote, Room}

-- At a place of the list where a key begins, or at its end: the list and the counts at the start, and now.
pub record Going (w : Where) (s l₀ : List ℕ) (c₀ : Counts) (i : ℕ) (l : List ℕ) (c : Counts) : Type 0 where
  pub inside : i ≤ length s
  pub fresh : First not_blank (drop i s)
  pub same : length l ≡ length l₀
  pub owing : Owing w (at w (attribute_scan between (chars s))) l₀ c₀ (attribute_scan between (chars (drop i s))) l c

pub going_start : (w : Where) (s l : List ℕ) (c : Counts) (i : ℕ) → Room c (at w (attribute_scan between (chars s))) → Ended s 0 (find not_blank (drop 0 s)) i → Going w s l c i l c
going_start w s l c i r e =
    record {
      inside = e.inside;
      fresh = next-first s 0 i e.is;
      same = refl;
      owing = owing-as (next-key s 0 i e.is) (owing-start w (attribute_scan between (chars s)) l c r);
    }

module _ {w : Where} {s l₀ : List ℕ} {c₀ : Counts} where
  -- the place after a value, behind the blanks
  pub going_on : {l : List ℕ} {c : Counts} (j i : ℕ) → length l ≡ length l₀ → Owing w (at w (attribute_scan between (chars s))) l₀ c₀ (attribute_scan between (chars (drop j s))) l c → Ended s j (find not_blank (drop j s)) i → Going w s l₀ c₀ i l c
  going_on j i n o e = record { inside = e.inside; fresh = next-first s j i e.is; same = n; owing = owing-as (next-key s j i e.is) o }

  pub going_end : {l : List ℕ} {c : Counts} (i : ℕ) → Going w s l₀ c₀ i l c → length s ≤ i → Wrote (at w (attribute_scan between (chars s))) l₀ c₀ l c
  going_end i g h = owing-end (owing-as (ap (λ (x : List ℕ). attribute_scan between (chars x)) (drop_of_length-le s h) ∙ scan-end between) g.owing)
