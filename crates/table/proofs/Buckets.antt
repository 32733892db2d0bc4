-- The entries whose names share a bucket, and how a name is found among them.
-- Assumes nothing.
use mathlib.Core.Path.{◌≡◌, refl, sym, ap, subst, ◌∙◌}
use mathlib.Core.Bool.{Bool, true, false}
use mathlib.Core.List.{List, [], ◌∷◌}
use Rattle.std.specs.Prelude.{Option, Some, None}
use Prim.Native.Nat.{ℕ, zero, suc, ◌+◌, ◌-◌, ◌*◌, ◌/◌, ◌%◌, ◌<◌, ◌≤◌}
use native.Mathlib.Numerals.{add-one}
use native.Mathlib.Omega.{arith}
use lib.Dec.{eqb, ltb}
use lib.ListN.{length, get_or, drop, drop_of_length-le}
use borrow.Author.Tests.{eq-eqb, ne_eqb, eqb-true, eqb-false, ltb-true, ltb-false}
use Rattle.text.specs.Pick.{cut}
use Rattle.text.specs.Bytes.{equal}
use Rattle.text.proofs.Blocks.{equal-true}
use Rattle.table.specs.Entries.{entries}
use Rattle.table.specs.Names.{named_from, entry_named}
use Rattle.table.specs.Inner.{Indexed, Chained, name_in, bucket_of, bucket_from, first_from, link_of}
use Rattle.table.proofs.Unpack.{There, info-there, word-name}

pub bucket-low : (s : List ℕ) → bucket_of s < 256
unfolding bucket_of
bucket-low s = omega arith

pub bucket-empty : (s : List ℕ) → length s ≡ 0 → 0 ≡ bucket_of s
unfolding bucket_of
bucket-empty [] e = refl
bucket-empty (b ∷ s) e = absurd (omega arith)

pub bucket-is : (s : List ℕ) → (5 * get_or s 0 0 + get_or s (length s / 2) 0 + 8 * get_or s (length s - 1) 0) % 256 ≡ bucket_of s
unfolding bucket_of
bucket-is s = refl

-- equal names have one bucket
other-bucket : (a s : List ℕ) → (bucket_of a ≡ bucket_of s → ⊥) → equal a s ≡ false
other-bucket a s n = go (equal a s) refl
  where
    go : (b : Bool) → equal a s ≡ b → equal a s ≡ false
    go true e = absurd (n (ap bucket_of (equal-true a s e)))
    go false e = e

module _ (t : List ℕ) where
  pub first-none : (h j : ℕ) → length (entries t) ≤ j → first_from t h j ≡ None
  unfolding bucket_from
  first-none h j l = rw (drop_of_length-le (entries t) l)

  named_none : (s : List ℕ) (j : ℕ) → length (entries t) ≤ j → named_from t j (drop j (entries t)) s ≡ None
  unfolding named_from
  named_none s j l = rw (drop_of_length-le (entries t) l)

  module _ (j : ℕ) (th : There (entries t) j) where
    abbrev name : List ℕ
    name = cut th.entry.name t

    pub first-hit : (h : ℕ) → bucket_of name ≡ h → first_from t h j ≡ Some j
    unfolding bucket_from
    first-hit h e = rw (th.onward, eq-eqb (bucket_of name) h e)

    pub first-miss : (h : ℕ) → (bucket_of name ≡ h → ⊥) → first_from t h j ≡ first_from t h (j + 1)
    unfolding bucket_from
    first-miss h n = rw (th.onward, ne_eqb (bucket_of name) h n, add-one)

    named-hit : (s : List ℕ) → equal name s ≡ true → named_from t j (drop j (entries t)) s ≡ Some j
    unfolding named_from
    named-hit s e = rw (th.onward, e)

    named-miss : (s : List ℕ) → equal name s ≡ false → named_from t j (drop j (entries t)) s ≡ named_from t (j + 1) (drop (j + 1) (entries t)) s
    unfolding named_from
    named-miss s e = rw (th.onward, e, add-one)

-- entry k has the bucket of the name s, and no entry from j up to it has that name
pub record Reached (t s : List ℕ) (j k : ℕ) : Type 0 where
  pub on : j ≤ k
  pub inside : k < length (entries t)
  pub there : There (entries t) k
  pub shared : bucket_of (cut there.entry.name t) ≡ bucket_of s
  pub same : named_from t j (drop j (entries t)) s ≡ named_from t k (drop k (entries t)) s

-- what the first entry of the bucket from j on says of the name: where there is none, no entry from j on has it
abbrev Ahead : List ℕ → List ℕ → ℕ → Option ℕ → Type 0
Ahead t s j None = named_from t j (drop j (entries t)) s ≡ None
Ahead t s j (Some k) = Reached t s j k

module _ (t s : List ℕ) where
  widen : (j : ℕ) → named_from t j (drop j (entries t)) s ≡ named_from t (j + 1) (drop (j + 1) (entries t)) s → (o : Option ℕ) → Ahead t s (j + 1) o → Ahead t s j o
  widen j m None r = m ∙ r
  widen j m (Some k) r = record { on = let l = r.on in omega arith; inside = r.inside; there = r.there; shared = r.shared; same = m ∙ r.same }

  -- an entry of another bucket is passed
  pass : (j : ℕ) → j < length (entries t) → There (entries t) j → Ahead t s (j + 1) (first_from t (bucket_of s) (j + 1)) → Ahead t s j (first_from t (bucket_of s) j)
  pass j l th r = go (eqb (bucket_of (cut th.entry.name t)) (bucket_of s)) refl
    where
      go : (b : Bool) → eqb (bucket_of (cut th.entry.name t)) (bucket_of s) ≡ b → Ahead t s j (first_from t (bucket_of s) j)
      go true z =
          let e = eqb-true (bucket_of (cut th.entry.name t)) (bucket_of s) z in
          subst (Ahead t s j) (sym (first-hit t j th (bucket_of s) e)) (record { on = omega arith; inside = l; there = th; shared = e; same = refl })
      go false z =
          let n = eqb-false (bucket_of (cut th.entry.name t)) (bucket_of s) z in
          subst (Ahead t s j) (sym (first-miss t j th (bucket_of s) n)) (widen j (named-miss t j th s (other-bucket (cut th.entry.name t) s n)) (first_from t (bucket_of s) (j + 1)) r)

  past : (j : ℕ) → length (entries t) ≤ j → Ahead t s j (first_from t (bucket_of s) j)
  past j l = subst (Ahead t s j) (sym (first-none t (bucket_of s) j l)) (named_none t s j l)

  ahead-by : (d j : ℕ) → length (entries t) ≤ j + d → Ahead t s j (first_from t (bucket_of s) j)
  ahead-by zero j l = past j (omega arith)
  ahead-by (suc d) j l = go (ltb j (length (entries t))) refl (ahead-by d (j + 1) (omega arith))
    where
      go : (b : Bool) → ltb j (length (entries t)) ≡ b → Ahead t s (j + 1) (first_from t (bucket_of s) (j + 1)) → Ahead t s j (first_from t (bucket_of s) j)
      go true z r = let h = ltb-true j (length (entries t)) z in pass j h (info-there (entries t) j h) r
      go false z r = past j (ltb-false j (length (entries t)) z)

  ahead : (j : ℕ) → Ahead t s j (first_from t (bucket_of s) j)
  ahead j = ahead-by (length (entries t)) j (omega arith)

-- the search stands at a number of the chain: some entries are passed, and the others give what all the entries give
pub record OnChain (t s : List ℕ) (link : ℕ) : Type 0 where
  pub from : ℕ
  pub is : link ≡ link_of (first_from t (bucket_of s) from)
  pub same : entry_named t s ≡ named_from t from (drop from (entries t)) s

-- how many entries the search may still meet
abbrev pub left_of : ℕ → ℕ → ℕ
left_of n zero = 0
left_of n (suc k) = n - k

left_is : (n link : ℕ) → 0 < link → left_of n link ≡ n - (link - 1)
left_is n zero l = absurd (omega arith)
left_is n (suc k) l = let e : suc k - 1 ≡ k = omega arith in rw e

module _ (t ix c s : List ℕ) (n : ℕ) (x : Indexed t ix n) (h : Chained t c) where
  pub chain-start : OnChain t s (get_or c (bucket_of s) 0)
  chain-start = record { from = 0; is = h.heads (bucket_of s) (bucket-low s); same = refl }

  module _ (link : ℕ) (o : OnChain t s link) where
    pub chain-end : link ≤ 0 → None ≡ entry_named t s
    chain-end l = sym (o.same ∙ go (first_from t (bucket_of s) o.from) o.is (ahead t s o.from))
      where
        go : (f : Option ℕ) → link ≡ link_of f → Ahead t s o.from f → named_from t o.from (drop o.from (entries t)) s ≡ None
        go None e a = a
        go (Some k) e a = absurd (omega arith)

    module _ (l : 0 < link) where
      reached : Reached t s o.from (link - 1)
      reached = go (first_from t (bucket_of s) o.from) o.is (ahead t s o.from)
        where
          go : (f : Option ℕ) → link ≡ link_of f → Ahead t s o.from f → Reached t s o.from (link - 1)
          go None e a = absurd (omega arith)
          go (Some k) e a = let z : link - 1 ≡ k = omega arith in rw z a

      pub chain-low : link - 1 < n
      chain-low = omega (arith, reached.inside, x.count)

      named : cut (name_in (get_or ix (link - 1) 0)) t ≡ cut reached.there.entry.name t
      named = word-name t ix n x (link - 1) reached.there.entry reached.there.is

      next-is : get_or c (256 + (link - 1)) 0 ≡ link_of (first_from t (bucket_of s) (link - 1 + 1))
      next-is = rw (← reached.shared) (h.nexts (link - 1) reached.there.entry reached.there.is)

      module _ (p : List ℕ) (is : p ≡ cut (name_in (get_or ix (link - 1) 0)) t) where
        pub chain-hit : equal p s ≡ true → Some (link - 1) ≡ entry_named t s
        chain-hit e = sym (o.same ∙ reached.same ∙ named-hit t (link - 1) reached.there s (rw (← named, ← is) e))

        pub chain-on : equal p s ≡ false → OnChain t s (get_or c (256 + (link - 1)) 0)
        chain-on e =
            record {
              from = link - 1 + 1;
              is = next-is;
              same = o.same ∙ reached.same ∙ named-miss t (link - 1) reached.there s (rw (← named, ← is) e);
            }

      pub chain-less : left_of n (get_or c (256 + (link - 1)) 0) < left_of n link
      chain-less = rw (next-is, left_is n link l) (go (first_from t (bucket_of s) (link - 1 + 1)) (ahead t s (link - 1 + 1)))
        where
          go : (f : Option ℕ) → Ahead t s (link - 1 + 1) f → left_of n (link_of f) < n - (link - 1)
          go None a = omega (arith, chain-low)
          go (Some k) a =
              let e : k + 1 - 1 ≡ k = omega arith in
              rw (left_is n (k + 1) (omega arith), e) (omega (arith, a.on, a.inside, x.count, chain-low))
