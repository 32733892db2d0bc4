-- The scan of a list of attributes, from one place to the next.
-- Assumes nothing.
use mathlib.Core.Path.{◌≡◌, refl, sym, ap, ◌∙◌}
use mathlib.Core.Bool.{Bool, true, false, not, false≢true, ◌||◌}
use mathlib.Core.List.{List, [], ◌∷◌}
use Prim.Native.Nat.{ℕ, ◌+◌, ◌<◌, ◌≤◌}
use native.Mathlib.Nat.{not-suc-le-zero}
use native.Mathlib.Decide.{dec_lt}
use native.Mathlib.Omega.{arith}
use lib.Dec.{eqb}
use lib.ListN.{length, get_or, drop, length-drop, drop_of_length-le}
use lib.Seq.{drop-nil, drop-drop}
use borrow.Author.Tests.{ne_eqb, eqb-true, not-true}
use Rattle.text.specs.Pick.{pick}
use Rattle.text.specs.Utf8.{decode}
use Rattle.text.specs.Blank.{blank}
use Rattle.text.specs.Characters.{chars, bytes_before, find}
use Rattle.text.specs.Words.{not_blank}
use Rattle.text.proofs.Induction.{by_length}
use Rattle.text.proofs.Rows.{place}
use Rattle.text.proofs.Decode.{decode-width}
use Rattle.text.proofs.Chars.{chars-nil, chars-cons}
use Rattle.text.proofs.Find.{low-decode, high-decode}
use Rattle.text.proofs.Hits.{find-hits}
use Rattle.attributes.specs.Attributes.{Mode, between, key, value, unquoted, ScanStep, go, report, stop, scan_step, end_of_text, scan_on, attribute_scan, key_alone, unquoted_value}
use Rattle.attributes.specs.Inner.{leads, ends_key}

-- the byte at a place
pub leads-end : (b : ℕ) (s : List ℕ) (i : ℕ) → length s ≤ i → false ≡ leads b (drop i s)
leads-end b s i h = rw (drop_of_length-le s h)

pub leads-at : (b : ℕ) (s : List ℕ) (i : ℕ) → i < length s → eqb (get_or s i 0) b ≡ leads b (drop i s)
leads-at b s i h = rw (place s i h)

pub leads-in : (b : ℕ) (s : List ℕ) (i : ℕ) → leads b (drop i s) ≡ true → i < length s
leads-in b s i h = test (dec_lt i (length s))
  where
    test : Dec (i < length s) → i < length s
    test (yes l) = l
    test (no l) =
        let z : length s ≤ i = omega arith in
        absurd (false≢true (leads-end b s i z ∙ h))

-- the text is at its end, or its first character passes the test
abbrev pub First : (ℕ → Bool) → List ℕ → Type 0
First p l = 0 < length l → p (decode l).cp ≡ true

pub first-hit : (p : ℕ → Bool) (l : List ℕ) → First p (drop (find p l) l)
first-hit p l h = find-hits p l (omega (arith, length-drop (find p l) l))

-- a test for an ASCII character is one for its byte
pub same_code : (a b : ℕ) (s : List ℕ) → a < 0x80 → eqb (decode (b ∷ s)).cp a ≡ eqb b a
same_code a b s h = test (dec_lt b 0x80)
  where
    test : Dec (b < 0x80) → eqb (decode (b ∷ s)).cp a ≡ eqb b a
    test (yes l) = rw (low-decode b s l)
    test (no l) =
        let d = high-decode b s (omega arith) in
        ne_eqb (decode (b ∷ s)).cp a (λ e. omega arith) ∙ sym (ne_eqb b a (λ e. omega arith))

pub scan-end : (m : Mode) → attribute_scan m (chars []) ≡ end_of_text m
unfolding attribute_scan
scan-end m = rw chars-nil

pub scan-char : (m : Mode) (b : ℕ) (s : List ℕ) → attribute_scan m (chars (b ∷ s)) ≡ scan_on (scan_step m (decode (b ∷ s)).cp) (λ n. attribute_scan n (chars (drop (decode (b ∷ s)).width (b ∷ s))))
unfolding attribute_scan
scan-char m b s = rw (chars-cons (b ∷ s) (decode (b ∷ s)).width (omega arith) refl)

pub scan-byte : (m : Mode) (b : ℕ) (l : List ℕ) → b < 0x80 → leads b l ≡ true → attribute_scan m (chars l) ≡ scan_on (scan_step m b) (λ n. attribute_scan n (chars (drop 1 l)))
scan-byte m b [] h e = absurd (false≢true e)
scan-byte m b (x ∷ s) h e =
    let z : x ≡ b = eqb-true x b e in
    scan-char m x s ∙ rw (z, low-decode b s h)

-- none of two tests passes
pub neither : (t u : Bool) (a b m : ScanStep) → (t || u) ≡ false → pick t a (pick u b m) ≡ m
neither true u a b m h = absurd (false≢true (sym h))
neither false true a b m h = absurd (false≢true (sym h))
neither false false a b m h = refl

-- characters that leave the scan as it is are passed over
module _ (m : Mode) (p : ℕ → Bool) (stays : (c : ℕ) → p c ≡ false → scan_step m c ≡ go m) where
  stay-step : (l : List ℕ) → ((k : List ℕ) → length k < length l → attribute_scan m (chars k) ≡ attribute_scan m (chars (drop (find p k) k))) → attribute_scan m (chars l) ≡ attribute_scan m (chars (drop (find p l) l))
  unfolding bytes_before
  stay-step [] ih = ap (λ (l : List ℕ). attribute_scan m (chars l)) (sym (drop-nil (find p [])))
  stay-step (b ∷ s) ih =
      let l = b ∷ s in
      let w = (decode l).width in
      let d = decode-width l (omega arith) in
      let e : find p l ≡ pick (p (decode l).cp) 0 (w + find p (drop w l)) = rw (chars-cons l w (omega arith) refl) in
      rw e (test w (p (decode l).cp) refl refl d.0)
    where
      test : (w : ℕ) (t : Bool) → (decode (b ∷ s)).width ≡ w → p (decode (b ∷ s)).cp ≡ t → 0 < w → attribute_scan m (chars (b ∷ s)) ≡ attribute_scan m (chars (drop (pick t 0 (w + find p (drop w (b ∷ s)))) (b ∷ s)))
      test w true z y d = refl
      test w false z y d =
          scan-char m b s ∙ rw (stays _ y, z) (ih (drop w (b ∷ s)) (omega (arith, length-drop w (b ∷ s))) ∙ rw (drop-drop (find p (drop w (b ∷ s))) w (b ∷ s)))

  pub stay : (l : List ℕ) → attribute_scan m (chars l) ≡ attribute_scan m (chars (drop (find p l) l))
  stay l = by_length (λ (l : List ℕ). attribute_scan m (chars l) ≡ attribute_scan m (chars (drop (find p l) l))) stay-step l

-- the blanks before a key
between_stays : (c : ℕ) → not_blank c ≡ false → scan_step between c ≡ go between
unfolding scan_step
between_stays c h = test (blank c) h
  where
    test : (t : Bool) → not t ≡ false → pick t (go between) (pick (eqb c 0x3D) (go value) (go key)) ≡ go between
    test true h = refl
    test false h = absurd (false≢true (sym h))

pub next-key : (s : List ℕ) (j i : ℕ) → i ≡ j + find not_blank (drop j s) → attribute_scan between (chars (drop j s)) ≡ attribute_scan between (chars (drop i s))
next-key s j i e = stay between not_blank between_stays (drop j s) ∙ rw (drop-drop (find not_blank (drop j s)) j s, e)

pub next-first : (s : List ℕ) (j i : ℕ) → i ≡ j + find not_blank (drop j s) → First not_blank (drop i s)
next-first s j i e = rw (e, ← drop-drop (find not_blank (drop j s)) j s) (first-hit not_blank (drop j s))

-- a key
key-starts : (l : List ℕ) → First not_blank l → 0 < length l → attribute_scan between (chars l) ≡ attribute_scan key (chars l)
unfolding scan_step
key-starts [] f h = absurd (not-suc-le-zero h)
key-starts (b ∷ s) f h = rw (scan-char between b s, scan-char key b s, not-true (blank (decode (b ∷ s)).cp) (f h))

key-stays : (c : ℕ) → ends_key c ≡ false → scan_step key c ≡ go key
unfolding scan_step
key-stays c h = neither (eqb c 0x3D) (blank c) (go value) (stop key_alone) (go key) h

alone : (l : List ℕ) → First ends_key l → leads 0x3D l ≡ false → attribute_scan key (chars l) ≡ key_alone ∷ []
unfolding scan_step
alone [] f h = scan-end key
alone (b ∷ s) f h =
    let e = same_code 0x3D b s (omega arith) ∙ h in
    let y : blank (decode (b ∷ s)).cp ≡ true = rw e at (f (omega arith)) in
    scan-char key b s ∙ rw (e, y)

module _ (s : List ℕ) (i k : ℕ) (fresh : First not_blank (drop i s)) (some : i < length s) (is : k ≡ i + find ends_key (drop i s)) where
  to_end : attribute_scan between (chars (drop i s)) ≡ attribute_scan key (chars (drop k s))
  to_end = key-starts (drop i s) fresh (omega (arith, length-drop i s)) ∙ stay key ends_key key-stays (drop i s) ∙ rw (drop-drop (find ends_key (drop i s)) i s, is)

  end-hit : First ends_key (drop k s)
  end-hit = rw (is, ← drop-drop (find ends_key (drop i s)) i s) (first-hit ends_key (drop i s))

  pub key-alone : leads 0x3D (drop k s) ≡ false → attribute_scan between (chars (drop i s)) ≡ key_alone ∷ []
  key-alone h = to_end ∙ alone (drop k s) end-hit h

  pub key-valued : leads 0x3D (drop k s) ≡ true → attribute_scan between (chars (drop i s)) ≡ attribute_scan value (chars (drop (k + 1) s))
  unfolding scan_step
  key-valued h = to_end ∙ scan-byte key 0x3D (drop k s) (omega arith) h ∙ rw (drop-drop 1 k s)

-- a value without quotes
unquoted-stays : (c : ℕ) → blank c ≡ false → scan_step unquoted c ≡ go unquoted
unfolding scan_step
unquoted-stays c h = rw h

pub unquoted-starts : (l : List ℕ) → leads 0x22 l ≡ false → attribute_scan value (chars l) ≡ unquoted_value ∷ attribute_scan unquoted (chars l)
unfolding scan_step
unquoted-starts [] h = scan-end value ∙ ap (unquoted_value ∷◌) (sym (scan-end unquoted))
unquoted-starts (b ∷ s) h = scan-char value b s ∙ rw (same_code 0x22 b s (omega arith), h, scan-char unquoted b s) (test (blank (decode (b ∷ s)).cp))
  where
    test : (t : Bool) → scan_on (pick t (report unquoted_value between) (report unquoted_value unquoted)) (λ n. attribute_scan n (chars (drop (decode (b ∷ s)).width (b ∷ s)))) ≡ unquoted_value ∷ scan_on (pick t (go between) (go unquoted)) (λ n. attribute_scan n (chars (drop (decode (b ∷ s)).width (b ∷ s))))
    test true = refl
    test false = refl

unquoted-ends : (l : List ℕ) → First blank l → attribute_scan unquoted (chars l) ≡ attribute_scan between (chars l)
unfolding scan_step
unquoted-ends [] f = scan-end unquoted ∙ sym (scan-end between)
unquoted-ends (b ∷ s) f = rw (scan-char unquoted b s, scan-char between b s, f (omega arith))

pub unquoted-next : (s : List ℕ) (m j : ℕ) → j ≡ m + find blank (drop m s) → attribute_scan unquoted (chars (drop m s)) ≡ attribute_scan between (chars (drop j s))
unquoted-next s m j e = stay unquoted blank unquoted-stays (drop m s) ∙ unquoted-ends _ (first-hit blank (drop m s)) ∙ rw (drop-drop (find blank (drop m s)) m s, ← e)
