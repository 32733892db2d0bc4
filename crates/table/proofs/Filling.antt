-- How the index is filled, a marker at a time: what is left of the text gives what the whole text gives.
-- Assumes nothing.
use mathlib.Core.Path.{◌≡◌, refl, sym, ap, ◌∙◌}
use mathlib.Core.Bool.{Bool, true, false}
use mathlib.Core.List.{List}
use Rattle.std.specs.Prelude.{Some, None}
use Prim.Native.Nat.{ℕ, suc, ◌+◌, ◌*◌, ◌%◌, ◌<◌, ◌≤◌}
use native.Mathlib.Nat.{zero-add, add-zero}
use native.Mathlib.Omega.{arith}
use lib.Dec.{ltb}
use lib.ListN.{length, get_or, drop, set, length-set}
use lib.Seq.{get_or-set_same, get_or-set_other}
use borrow.Author.Tests.{ltb-true, ltb-false}
use Rattle.table.specs.Lines.{lines, bad_from, bad_table}
use Rattle.table.specs.Entries.{Entry, entries, entries_of, nth}
use Rattle.table.specs.Inner.{LinesGood, pack, Sound, Indexed}
use Rattle.table.proofs.Parts.{line-there, line-none}
use Rattle.table.proofs.Unpack.{info-past}

-- k markers are read, and the text is left from a place on
pub record Going (t ix : List ℕ) (at k : ℕ) : Type 0 where
  pub within : at ≤ length t
  pub low : at ≤ 64 * k
  pub few : k ≤ 512
  pub room : 512 ≤ length ix
  pub bad : bad_from (length t) (3 * k) (lines at (drop at t)) ≡ bad_table t
  pub count : length (entries t) ≡ k + length (entries_of (lines at (drop at t)))
  pub rest : (j : ℕ) → nth (entries t) (k + j) ≡ nth (entries_of (lines at (drop at t))) j
  pub each : (j : ℕ) (e : Entry) → j < k → nth (entries t) j ≡ Some e → get_or ix j 0 ≡ pack e
  pub sound : (j : ℕ) (e : Entry) → j < k → nth (entries t) j ≡ Some e → Sound t e

pub starts : (t ix : List ℕ) → 512 ≤ length ix → Going t ix 0 0
unfolding bad_table entries
starts t ix h =
    record {
      within = omega arith;
      low = omega arith;
      few = omega arith;
      room = h;
      bad = refl;
      count = sym (zero-add _);
      rest = λ j. rw (zero-add j);
      each = λ j e l. absurd (omega arith);
      sound = λ j e l. absurd (omega arith);
    }

module _ (t ix : List ℕ) (at k : ℕ) (g : Going t ix at k) where
  module _ (l : k < 512) (w next : ℕ) (p : LinesGood t at w next) where
    -- the entry that the marker gives is the next of the table
    here : nth (entries t) k ≡ Some p.entry
    unfolding nth
    here = rw (add-zero k) at (g.rest 0) ∙ ap (λ (es : List Entry). nth es 0) p.first

    onward : (j : ℕ) → nth (entries t) (k + 1 + j) ≡ nth (entries_of (lines next (drop next t))) j
    unfolding nth
    onward j =
        let e : k + 1 + j ≡ k + suc j = omega arith in
        rw e (g.rest (suc j) ∙ ap (λ (es : List Entry). nth es (suc j)) p.first)

    more : length (entries t) ≡ k + 1 + length (entries_of (lines next (drop next t)))
    more = let e = ap length p.first in omega (arith, g.count)

    -- an entry that is read is one of those before, or the marker's
    split : (P : Entry → Type 0) (j : ℕ) (e : Entry) → j < k + 1 → nth (entries t) j ≡ Some e → (j < k → P e) → (j ≡ k → P p.entry) → P e
    split P j e h is f h' = go (ltb j k) refl
      where
        go : (b : Bool) → ltb j k ≡ b → P e
        go true z = f (ltb-true j k z)
        go false z =
            let u = ltb-false j k z in
            let same : j ≡ k = omega arith in
            let there : Some e ≡ Some p.entry = sym is ∙ rw same here in
            let entry : p.entry ≡ e = cc in
            rw entry at (h' same)

    pub goes_on : Going t (set ix k w) next (k + 1)
    goes_on =
        record {
          within = p.inside;
          low = omega (arith, p.near, g.low);
          few = omega arith;
          room = rw (length-set ix k w) g.room;
          bad = sym (p.good k l) ∙ g.bad;
          count = more;
          rest = onward;
          each = λ j e h is.
              split (λ (x : Entry). get_or (set ix k w) j 0 ≡ pack x) j e h is
              (λ b. get_or-set_other ix k j w 0 (λ z. omega arith) ∙ g.each j e b is)
              (λ z. rw z (get_or-set_same ix k w 0 (omega (arith, g.room)) ∙ p.word));
          sound = λ j e h is. split (Sound t) j e h is (λ b. g.sound j e b is) (λ z. p.sound);
        }

  -- a marker past the 512th, and the end of the text
  pub full : k ≡ 512 → at < length t → Some at ≡ bad_table t
  unfolding bad_from
  full e h = sym (sym g.bad ∙ rw (e, line-there t at h))

  module _ (h : length t ≤ at) where
    pub ends-well : None ≡ bad_table t
    unfolding bad_from
    ends-well =
        let z : (3 * k) % 3 ≡ 0 = omega arith in
        sym (sym g.bad ∙ rw (line-none t at h, z))

    all : length (entries t) ≡ k
    unfolding entries_of
    all = g.count ∙ rw (line-none t at h) (add-zero k)

    read : (j : ℕ) (e : Entry) → nth (entries t) j ≡ Some e → j < k
    read j e is = go (ltb j k) refl
      where
        go : (b : Bool) → ltb j k ≡ b → j < k
        go true z = ltb-true j k z
        go false z =
            let past = info-past (entries t) j (let u = ltb-false j k z in omega (arith, all)) in
            let n : ◌≡◌ {A = ℕ} 0 1 = cc in
            absurd (omega arith)

    pub indexed : Indexed t ix k
    indexed =
        record {
          count = sym all;
          few = g.few;
          room = omega (arith, g.few, g.room);
          each = λ j e is. g.each j e (read j e is) is;
          sound = λ j e is. g.sound j e (read j e is) is;
        }
