-- The name of a marker, from one place of its text to the next.
-- Assumes nothing.
use mathlib.Core.Path.{◌≡◌, refl, sym, ap, ◌∙◌}
use mathlib.Core.Bool.{Bool, true, false}
use mathlib.Core.List.{List, [], ◌∷◌}
use Prim.Native.Nat.{ℕ, zero, suc, ◌+◌, ◌-◌, ◌*◌, ◌%◌, ◌<◌, ◌≤◌}
use native.Mathlib.Decide.{dec_lt}
use native.Mathlib.Omega.{arith}
use lib.Dec.{eqb}
use lib.ListN.{length, get_or, take, drop, length-take, length-drop, get_or-eq_default}
use lib.Seq.{get_or-take, get_or-drop}
use borrow.Author.Tests.{eq-eqb, ne_eqb, eqb-true}
use Rattle.text.specs.Pick.{end, pick, within}
use Rattle.text.specs.Utf8.{width_of}
use Rattle.text.specs.declared.Decoded.{Decoded}
use Rattle.text.specs.Blank.{blank}
use Rattle.text.specs.Characters.{find}
use Rattle.text.proofs.Blank.{ascii-not-blank, high-not-blank}
use Rattle.text.proofs.Chars.{past}
use Rattle.text.proofs.Decode.{decode-3}
use Rattle.text.proofs.Rows.{within-lo, within-hi}
use Rattle.text.proofs.Find.{past_ascii}
use Rattle.text.proofs.Hits.{find-on}
use Rattle.cursor.specs.declared.NameSpan.{NameSpan}
use Rattle.cursor.specs.Names.{past_one, ends_name, name_part, name_of}
use Rattle.cursor.specs.Inner.{Reached, PlainByte, Named}
use Rattle.text.proofs.Bool.{or_parts}

module _ (s : List ℕ) (i b : ℕ) where
  pub one_end : b < 256 → length s ≤ i → i ≤ length s → Reached s (past_one b s i) i
  one_end l h k = record { is = rw (get_or-eq_default s 256 h, ne_eqb 256 b (λ e. omega arith)); inside = k }

  same_byte : i < length s → get_or s i 256 ≡ get_or s i 0
  same_byte h = go s i h
    where
      go : (s : List ℕ) (i : ℕ) → i < length s → get_or s i 256 ≡ get_or s i 0
      go (x ∷ s) zero h = refl
      go (x ∷ s) (suc i) h = go s i (omega arith)
      go [] i h = absurd (omega arith)

  pub one_hit : i < length s → get_or s i 0 ≡ b → Reached s (past_one b s i) (i + 1)
  one_hit h e = record { is = rw (same_byte h, eq-eqb (get_or s i 0) b e); inside = omega arith }

  pub one-miss : i < length s → (get_or s i 0 ≡ b → ⊥) → Reached s (past_one b s i) i
  one-miss h e = record { is = rw (same_byte h, ne_eqb (get_or s i 0) b e); inside = omega arith }

  -- a byte that does not pass a test is passed over
  over-one : (p : ℕ → Bool) → b < 0x80 → p b ≡ false → i + find p (drop i s) ≡ past_one b s i + find p (drop (past_one b s i) s)
  over-one p l y = go (eqb (get_or s i 256) b) refl (dec_lt i (length s))
    where
      go : (v : Bool) → eqb (get_or s i 256) b ≡ v → Dec (i < length s) → i + find p (drop i s) ≡ pick v (i + 1) i + find p (drop (pick v (i + 1) i) s)
      go false e h = refl
      go true e (no h) = let o : length s ≤ i = omega arith in absurd (omega (arith, eqb-true (get_or s i 256) b e, get_or-eq_default s 256 o))
      go true e (yes h) =
          let z : get_or s i 0 ≡ b = sym (same_byte h) ∙ eqb-true (get_or s i 256) b e in
          past_ascii p s i h (omega arith) (ap p z ∙ y)

past-least : (b : ℕ) (s : List ℕ) (i : ℕ) → i ≤ past_one b s i
past-least b s i = go (eqb (get_or s i 256) b)
  where
    go : (t : Bool) → i ≤ pick t (i + 1) i
    go true = omega arith
    go false = omega arith

-- where the name of a part begins in its list, if it isn't empty
module _ (s : List ℕ) (a n : ℕ) (fits : a + n ≤ length s) (some : 0 < length (name_of (take n (drop a s)))) where
  abbrev part : List ℕ
  part = take n (drop a s)

  long : length part ≤ n
  long = omega (arith, length-take n (drop a s))

  byte_at : (k : ℕ) → k < length part → get_or part k 256 ≡ get_or s (a + k) 0
  byte_at k h = same_byte part k 0 h ∙ get_or-take n (drop a s) k 0 (omega (arith, long)) ∙ get_or-drop a s k 0

  one_at : (b k : ℕ) → k < length part → a + past_one b part k ≡ a + k + pick (eqb (get_or s (a + k) 0) b) 1 0
  one_at b k h = rw (byte_at k h) (go (eqb (get_or s (a + k) 0) b))
    where
      go : (t : Bool) → a + pick t (k + 1) k ≡ a + k + pick t 1 0
      go true = omega arith
      go false = omega arith

  abbrev past_slash : ℕ
  past_slash = past_one 0x5C part 0

  slash-less : past_slash < length part
  unfolding name_part
  slash-less =
      omega
      (arith, some, past-least 0x2B part past_slash, length-take (name_part part).len (drop (name_part part).start part), length-drop (name_part part).start part)

  pub slash-inside : a < length s
  slash-inside = omega (arith, slash-less, long)

  slash-at : a + past_slash ≡ a + pick (eqb (get_or s a 0) 0x5C) 1 0
  slash-at =
      let z : a + 0 ≡ a = omega arith in
      rw z at (one_at 0x5C 0 (omega (arith, slash-less)))

  pub plus-inside : a + pick (eqb (get_or s a 0) 0x5C) 1 0 < length s
  plus-inside = omega (arith, slash-less, long, slash-at)

  pub named-at : a + pick (eqb (get_or s a 0) 0x5C) 1 0 + pick (eqb (get_or s (a + pick (eqb (get_or s a 0) 0x5C) 1 0) 0) 0x2B) 1 0 ≡ a + (name_part (take n (drop a s))).start
  unfolding name_part
  named-at = sym (rw (slash-at) at (one_at 0x2B past_slash slash-less))

pub is_plain : (b : ℕ) → 0x2A < b → b < 0x7C → (b ≡ 0x5C → ⊥) → PlainByte b
is_plain b h k n =
    record {
      ascii = omega arith;
      goes_on = rw (ascii-not-blank b (omega arith) (omega arith), ne_eqb b 0x2A (λ e. omega arith), ne_eqb b 0x7C (λ e. omega arith), ne_eqb b 0x5C n);
    }

-- nor does a sequence of three bytes from E4 on
high-goes-on : (c : ℕ) → 0x3000 < c → ends_name c ≡ false
high-goes-on c h = rw (high-not-blank c h, ne_eqb c 0x2A (λ e. omega arith), ne_eqb c 0x7C (λ e. omega arith), ne_eqb c 0x5C (λ e. omega arith))

three-goes-on : (a b c : ℕ) → within 0xE4 0xEC a ≡ true → ends_name (a % 16 * 4096 + b % 64 * 64 + c % 64) ≡ false
three-goes-on a b c h =
    let lo = within-lo 0xE4 0xEC a h in
    let hi = within-hi 0xE4 0xEC a h in
    let high : 0x3000 < a % 16 * 4096 + b % 64 * 64 + c % 64 = omega arith in
    high-goes-on (a % 16 * 4096 + b % 64 * 64 + c % 64) high

pub three-past : (s : List ℕ) (i : ℕ) → i < length s → within 0xE4 0xEC (get_or s i 0) ≡ true → width_of (drop i s) ≡ 3 → i + find ends_name (drop i s) ≡ i + 3 + find ends_name (drop (i + 3) s)
three-past s i h e w =
    let d = decode-3 s i h w in
    past ends_name s i 3 h (ap (λ (d : Decoded). d.width) d) (ap (λ (d : Decoded). ends_name d.cp) (sym d) ∙ three-goes-on (get_or s i 0) (get_or s (i + 1) 0) (get_or s (i + 2) 0) e)

pub name-starts : (s : List ℕ) (a b : ℕ) → a ≡ past_one 0x5C s 0 → b ≡ past_one 0x2B s a → b ≡ (name_part s).start
unfolding name_part
name-starts s a b p q = q ∙ rw p

pub name-ends : (s : List ℕ) (b e : ℕ) → b ≡ (name_part s).start → e ≡ b + find ends_name (drop b s) → e ≡ end (name_part s)
unfolding name_part
name-ends s b e p q = q ∙ rw p

pub name-cut : (s : List ℕ) (r : NameSpan) → Named s r → take (r.end - r.start) (drop r.start s) ≡ name_of s
name-cut s r h =
    let n : r.end - r.start ≡ (name_part s).len = omega (arith, h.begins, h.stops) in
    rw (n, h.begins)

-- nothing before the end of the name is blank
pub name-not-blank : (s : List ℕ) → 0 + find blank s ≡ end (name_part s) + find blank (drop (end (name_part s)) s)
unfolding name_part
name-not-blank s =
    over-one s 0 0x5C blank (omega arith) (ascii-not-blank 0x5C (omega arith) (omega arith))
    ∙ over-one s (past_one 0x5C s 0) 0x2B blank (omega arith) (ascii-not-blank 0x2B (omega arith) (omega arith))
    ∙ find-on blank ends_name (λ c y. (or_parts (blank c) _ y).0) s (past_one 0x2B s (past_one 0x5C s 0))
