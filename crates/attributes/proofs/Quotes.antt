-- A value between quotes: the scan of its characters, and the search for its closing quote among its bytes.
-- Assumes nothing.
use mathlib.Core.Path.{◌≡◌, refl, sym, ◌∙◌}
use mathlib.Core.Bool.{Bool, true, false, not, false≢true, ◌&&◌, ◌||◌, and-true, and-false}
use mathlib.Core.List.{List, [], ◌∷◌, ◌++◌}
use Prim.Native.Nat.{ℕ, zero, suc, ◌+◌, ◌-◌, ◌<◌, ◌≤◌}
use native.Mathlib.Nat.{add-zero, le_refl}
use native.Mathlib.Omega.{arith}
use lib.Dec.{eqb, ltb, leb-suc-suc}
use lib.ListN.{length, get_or, drop, length-drop, drop_of_length-le}
use lib.Seq.{drop-drop}
use borrow.Author.Tests.{lt-ltb, le-ltb, eq-eqb, ne_eqb, eqb-true, ltb-true}
use Rattle.text.specs.Pick.{pick}
use Rattle.text.specs.Utf8.{decode}
use Rattle.text.specs.Characters.{chars, find_byte}
use Rattle.text.proofs.Rows.{place}
use Rattle.text.proofs.Find.{find-bytes}
use Rattle.findings.specs.Finding.{Kind}
use Rattle.attributes.specs.Attributes.{Mode, between, value, opened, quoted, escaping, go, in_quotes, scan_step, attribute_scan, empty_value, unterminated}
use Rattle.attributes.specs.Inner.{leads, escapes}
use Rattle.attributes.proofs.Scanning.{scan-end, scan-char, scan-byte, same_code, neither, stay, leads-at}
use Rattle.text.proofs.Bool.{and_left}

-- how many bytes of a value stand before the quote that closes it, all where none does. The byte before them is a backslash, or isn't
unfoldable pub closing_place : Bool → List ℕ → ℕ
closing_place escaped [] = 0
closing_place escaped (b ∷ s) = pick (eqb b 0x22 && not escaped) 0 (suc (closing_place (eqb b 0x5C) s))

-- a quote or a backslash
abbrev special : ℕ → Bool
special c = eqb c 0x22 || eqb c 0x5C

special-flat : (c d : ℕ) → 0x80 ≤ c → 0x80 ≤ d → special c ≡ special d
special-flat c d h k = high c h ∙ sym (high d k)
  where
    high : (c : ℕ) → 0x80 ≤ c → special c ≡ false
    high c h = rw (ne_eqb c 0x22 (λ e. omega arith), ne_eqb c 0x5C (λ e. omega arith))

quoted-stays : (c : ℕ) → special c ≡ false → scan_step quoted c ≡ go quoted
unfolding scan_step
quoted-stays c h = neither (eqb c 0x22) (eqb c 0x5C) (go between) (go escaping) (go quoted) h

-- other bytes of a value are passed over, one by one
quoted-bytes : (l : List ℕ) → attribute_scan quoted (chars l) ≡ attribute_scan quoted (chars (drop (find_byte special l) l))
quoted-bytes l = stay quoted special quoted-stays l ∙ rw (find-bytes special special-flat l)

quoted-plain : (b : ℕ) (s : List ℕ) → special b ≡ false → attribute_scan quoted (chars (b ∷ s)) ≡ attribute_scan quoted (chars s)
unfolding find_byte
quoted-plain b s h = quoted-bytes (b ∷ s) ∙ rw h (sym (quoted-bytes s))

-- where no quote stands, all is as in a value
no-quote : (m : Mode) (b : ℕ) (s : List ℕ) → ((c : ℕ) → eqb c 0x22 ≡ false → scan_step m c ≡ in_quotes c) → eqb b 0x22 ≡ false → attribute_scan m (chars (b ∷ s)) ≡ attribute_scan quoted (chars (b ∷ s))
unfolding scan_step
no-quote m b s alike h =
    let e = same_code 0x22 b s (omega arith) ∙ h in
    rw (scan-char m b s, scan-char quoted b s, alike (decode (b ∷ s)).cp e, e)

-- in a value, with a backslash just before, or without
abbrev inside : Bool → Mode
inside true = escaping
inside false = quoted

inside-plain : (e : Bool) (b : ℕ) (s : List ℕ) → eqb b 0x22 ≡ false → attribute_scan (inside e) (chars (b ∷ s)) ≡ attribute_scan quoted (chars (b ∷ s))
unfolding scan_step
inside-plain true b s h = no-quote escaping b s (λ c e. refl) h
inside-plain false b s h = refl

inside-byte : (e : Bool) (b : ℕ) (s : List ℕ) → (eqb b 0x22 && not e) ≡ false → attribute_scan (inside e) (chars (b ∷ s)) ≡ attribute_scan (inside (eqb b 0x5C)) (chars s)
unfolding scan_step
inside-byte e b s h = test e (eqb b 0x22) (eqb b 0x5C) refl refl h
  where
    test : (e t u : Bool) → eqb b 0x22 ≡ t → eqb b 0x5C ≡ u → (t && not e) ≡ false → attribute_scan (inside e) (chars (b ∷ s)) ≡ attribute_scan (inside u) (chars s)
    test true true true q r h = absurd (omega (arith, eqb-true b 0x22 q, eqb-true b 0x5C r))
    test true true false q r h = scan-byte escaping 0x22 (b ∷ s) (omega arith) q
    test false true u q r h = absurd (false≢true (sym h))
    test e false true q r h = inside-plain e b s q ∙ scan-byte quoted 0x5C (b ∷ s) (omega arith) r
    test e false false q r h = inside-plain e b s q ∙ quoted-plain b s (rw (q, r))

-- what the scan finds of a value that closes after n bytes, or doesn't
abbrev closed_by : ℕ → List ℕ → List Kind
closed_by n l = pick (ltb n (length l)) (attribute_scan between (chars (drop (suc n) l))) (unterminated ∷ [])

closes_here : (b : ℕ) (s : List ℕ) → eqb b 0x22 ≡ true → attribute_scan quoted (chars (b ∷ s)) ≡ closed_by 0 (b ∷ s)
unfolding scan_step
closes_here b s h = scan-byte quoted 0x22 (b ∷ s) (omega arith) h ∙ rw (lt-ltb 0 (length (b ∷ s)) (omega arith))

quoted-closes : (e : Bool) (l : List ℕ) → attribute_scan (inside e) (chars l) ≡ closed_by (closing_place e l) l
unfolding closing_place
quoted-closes true [] = scan-end escaping
quoted-closes false [] = scan-end quoted
quoted-closes e (b ∷ s) = test (eqb b 0x22 && not e) refl (quoted-closes (eqb b 0x5C) s)
  where
    closes_at : (e : Bool) → (eqb b 0x22 && not e) ≡ true → attribute_scan (inside e) (chars (b ∷ s)) ≡ closed_by 0 (b ∷ s)
    closes_at true h = absurd (false≢true (sym (and-false (eqb b 0x22)) ∙ h))
    closes_at false h = closes_here b s (and_left (eqb b 0x22) true h)

    test : (t : Bool) → (eqb b 0x22 && not e) ≡ t → attribute_scan (inside (eqb b 0x5C)) (chars s) ≡ closed_by (closing_place (eqb b 0x5C) s) s → attribute_scan (inside e) (chars (b ∷ s)) ≡ closed_by (pick t 0 (suc (closing_place (eqb b 0x5C) s))) (b ∷ s)
    test true h ih = closes_at e h
    test false h ih = inside-byte e b s h ∙ ih ∙ rw (leb-suc-suc (suc (closing_place (eqb b 0x5C) s)) (length s))

opened-closes : (l : List ℕ) → attribute_scan opened (chars l) ≡ pick (ltb (closing_place false l) (length l)) (pick (eqb (closing_place false l) 0) (empty_value ∷ []) [] ++ attribute_scan between (chars (drop (suc (closing_place false l)) l))) (unterminated ∷ [])
unfolding closing_place scan_step
opened-closes [] = scan-end opened
opened-closes (b ∷ s) = test (eqb b 0x22) refl
  where
    test : (t : Bool) → eqb b 0x22 ≡ t → attribute_scan opened (chars (b ∷ s)) ≡ pick (ltb (closing_place false (b ∷ s)) (length (b ∷ s))) (pick (eqb (closing_place false (b ∷ s)) 0) (empty_value ∷ []) [] ++ attribute_scan between (chars (drop (suc (closing_place false (b ∷ s))) (b ∷ s)))) (unterminated ∷ [])
    test true q = scan-byte opened 0x22 (b ∷ s) (omega arith) q ∙ rw (q, lt-ltb 0 (length (b ∷ s)) (omega arith))
    test false q = no-quote opened b s (λ c e. rw e) q ∙ quoted-closes false (b ∷ s) ∙ rw (q, ne_eqb (suc (closing_place (eqb b 0x5C) s)) 0 (λ e. omega arith))

same_test : (a n : ℕ) → eqb n 0 ≡ eqb (a + n) a
same_test a zero = rw (add-zero a) (sym (eq-eqb a a refl))
same_test a (suc n) = ne_eqb (suc n) 0 (λ e. omega arith) ∙ sym (ne_eqb (a + suc n) a (λ e. omega arith))

-- a byte of a value is the quote that closes it, by the tests that the code takes
abbrev closing : List ℕ → ℕ → ℕ → Bool
closing s from j = leads 0x22 (drop j s) && not (ltb from j && escapes (drop (j - 1) s))

module _ (s : List ℕ) (from j : ℕ) where
  pub not-quote : leads 0x22 (drop j s) ≡ false → false ≡ closing s from j
  not-quote h = rw h

  pub first-quote : leads 0x22 (drop j s) ≡ true → j ≤ from → true ≡ closing s from j
  first-quote h k = rw (h, le-ltb from j k)

  -- a backslash before a quote escapes it
  escaped : from < j → leads 0x22 (drop j s) ≡ true → escapes (drop (j - 1) s) ≡ leads 0x5C (drop (j - 1) s)
  escaped k h =
      let e : j - 1 + 1 ≡ j = omega arith in
      rw (drop-drop 1 (j - 1) s, e, h) (and-true (leads 0x5C (drop (j - 1) s)))

  pub later-quote : (x : Bool) → leads 0x22 (drop j s) ≡ true → from < j → x ≡ leads 0x5C (drop (j - 1) s) → not x ≡ closing s from j
  later-quote x h k e = rw (h, lt-ltb from j k, escaped k h, ← e)

-- a backslash stands before a byte of the value
abbrev slashed : List ℕ → ℕ → ℕ → Bool
slashed s from j = ltb from j && leads 0x5C (drop (j - 1) s)

closing-is : (s : List ℕ) (from j : ℕ) → j < length s → closing s from j ≡ (eqb (get_or s j 0) 0x22 && not (slashed s from j))
closing-is s from j h = test (leads 0x22 (drop j s)) (ltb from j) refl refl
  where
    test : (t u : Bool) → leads 0x22 (drop j s) ≡ t → ltb from j ≡ u → closing s from j ≡ (eqb (get_or s j 0) 0x22 && not (slashed s from j))
    test false u q p = rw (leads-at 0x22 s j h, q)
    test true false q p = rw (leads-at 0x22 s j h, q, p)
    test true true q p = rw (leads-at 0x22 s j h, q, p, escaped s from j (ltb-true from j p) q)

-- The search for the quote that closes a value, from a place in it on, has come to another place: the quote lies as far from the one as from the other.
pub record Seeking (s : List ℕ) (from j : ℕ) : Type 0 where
  pub past : from ≤ j
  pub inside : j ≤ length s
  pub as-far : from + closing_place false (drop from s) ≡ j + closing_place (slashed s from j) (drop j s)

pub seeking-start : (s : List ℕ) (from : ℕ) → from ≤ length s → Seeking s from from
seeking-start s from h = record { past = le_refl from; inside = h; as-far = rw (le-ltb from from (le_refl from)) }

module _ {s : List ℕ} {from j : ℕ} (g : Seeking s from j) where
  -- at the end of the text, and at the quote
  seeking-ends : length s ≤ j → j ≡ from + closing_place false (drop from s)
  unfolding closing_place
  seeking-ends h = sym (g.as-far ∙ rw (drop_of_length-le s h) (add-zero j))

  seeking-here : j < length s → closing s from j ≡ true → j ≡ from + closing_place false (drop from s)
  unfolding closing_place
  seeking-here h e = sym (g.as-far ∙ rw (place s j h, sym (closing-is s from j h) ∙ e) (add-zero j))

  -- past a byte that isn't that quote
  one_further : j < length s → closing s from j ≡ false → closing_place (slashed s from j) (drop j s) ≡ suc (closing_place (eqb (get_or s j 0) 0x5C) (drop (j + 1) s))
  unfolding closing_place
  one_further h e = rw (place s j h, sym (closing-is s from j h) ∙ e)

  slashed-next : j < length s → slashed s from (j + 1) ≡ eqb (get_or s j 0) 0x5C
  slashed-next h =
      let d : j + 1 - 1 ≡ j = omega arith in
      rw (lt-ltb from (j + 1) (omega (arith, g.past)), d) (sym (leads-at 0x5C s j h))

  pub seeking-on : j < length s → closing s from j ≡ false → Seeking s from (j + 1)
  seeking-on h e =
      let f = one_further h e in
      record { past = omega (arith, g.past); inside = omega arith; as-far = g.as-far ∙ rw (slashed-next h) (omega (arith, f)) }

-- from the byte after a `=` on: a value whose quote is never closed, and one whose quote is
module _ (s : List ℕ) (k j : ℕ) (quote : leads 0x22 (drop (k + 1) s) ≡ true) (g : Seeking s (k + 2) j) where
  opens : attribute_scan value (chars (drop (k + 1) s)) ≡ attribute_scan opened (chars (drop (k + 2) s))
  unfolding scan_step
  opens =
      let e : k + 1 + 1 ≡ k + 2 = omega arith in
      scan-byte value 0x22 (drop (k + 1) s) (omega arith) quote ∙ rw (drop-drop 1 (k + 1) s, e)

  pub unclosed : length s ≤ j → attribute_scan value (chars (drop (k + 1) s)) ≡ unterminated ∷ []
  unclosed h =
      let l = length-drop (k + 2) s in
      let is = seeking-ends g h in
      opens ∙ opened-closes (drop (k + 2) s) ∙ rw (le-ltb (closing_place false (drop (k + 2) s)) (length (drop (k + 2) s)) (omega arith))

  pub closed : j < length s → closing s (k + 2) j ≡ true → attribute_scan value (chars (drop (k + 1) s)) ≡ pick (eqb j (k + 2)) (empty_value ∷ []) [] ++ attribute_scan between (chars (drop (j + 1) s))
  closed h q =
      let l = length-drop (k + 2) s in
      let is = seeking-here g h q in
      let d : k + 2 + suc (closing_place false (drop (k + 2) s)) ≡ j + 1 = omega arith in
      opens ∙ opened-closes (drop (k + 2) s)
      ∙ rw (lt-ltb (closing_place false (drop (k + 2) s)) (length (drop (k + 2) s)) (omega arith), drop-drop (suc (closing_place false (drop (k + 2) s))) (k + 2) s, d, is, same_test (k + 2) (closing_place false (drop (k + 2) s)))
