-- A search among bytes is one among characters, where the test does not tell apart what lies above ASCII.
-- Assumes nothing.
use mathlib.Core.Path.{◌≡◌, refl, sym, ap, ◌∙◌}
use mathlib.Core.Bool.{Bool, true, false, not, false≢true, and-false}
use mathlib.Core.List.{List, [], ◌∷◌, ◌++◌, Memᴰ}
use Prim.Native.Nat.{ℕ, zero, suc, ◌+◌, ◌<◌, ◌≤◌}
use native.Mathlib.Nat.{not-suc-le-zero, le_of_suc-le-suc, zero-add}
use native.Mathlib.Decide.{dec_lt}
use native.Mathlib.Omega.{arith}
use lib.Dec.{leb, eqb}
use lib.ListN.{length, get_or, take, drop, length-drop}
use lib.Seq.{get_or-take}
use borrow.Author.Tests.{ne_eqb, lt-leb}
use Rattle.text.specs.Pick.{Range, range, within, pick}
use Rattle.text.specs.declared.Decoded.{Decoded}
use Rattle.text.specs.Utf8.{begins, table3_7, width_of, fits, decoded, decode}
use Rattle.text.specs.Number.{digit}
use Rattle.text.specs.Characters.{bytes_before, find, find_byte}
use Rattle.text.proofs.Rows.{within-lo, within-hi}
use Rattle.text.proofs.Scan.{ascii-one}
use Rattle.text.proofs.Decode.{decode-1, decode-width}
use Rattle.text.proofs.Chars.{chars-nil, chars-cons, tested-by, past, stops}
use Rattle.text.proofs.Exact.{found, begins-fits, fits-length}
use Rattle.text.proofs.Shape.{row-further}
use Rattle.text.proofs.Induction.{by_length}
use Rattle.text.proofs.Bool.{and_left, and_right}

-- the bytes that a row begins with
pub byte-lo : (r : Range) (rs : List Range) (l : List ℕ) → begins (r ∷ rs) l ≡ true → r.lo ≤ get_or l 0 0
unfolding begins
byte-lo r rs [] e = absurd (false≢true e)
byte-lo r rs (b ∷ s) e = within-lo r.lo r.hi b (and_left (within r.lo r.hi b) (begins rs s) e)

pub byte-hi : (r : Range) (rs : List Range) (l : List ℕ) → begins (r ∷ rs) l ≡ true → get_or l 0 0 ≤ r.hi
unfolding begins
byte-hi r rs [] e = absurd (false≢true e)
byte-hi r rs (b ∷ s) e = within-hi r.lo r.hi b (and_left (within r.lo r.hi b) (begins rs s) e)

-- the first two bytes of a sequence that is a row
two_bytes : (r q : Range) (rs row : List Range) (l : List ℕ) → row ≡ r ∷ q ∷ rs → begins row l ≡ true → (r.lo ≤ get_or l 0 0) × (get_or l 0 0 ≤ r.hi) × (q.lo ≤ get_or l 1 0) × (get_or l 1 0 ≤ q.hi)
unfolding begins
two_bytes r q rs row [] e b = absurd (false≢true (rw e at b))
two_bytes r q rs row (x ∷ s) e b =
    let f : begins (r ∷ q ∷ rs) (x ∷ s) ≡ true = rw e at b in
    let g = and_right (within r.lo r.hi x) (begins (q ∷ rs) s) f in
    (byte-lo r (q ∷ rs) (x ∷ s) f, byte-hi r (q ∷ rs) (x ∷ s) f, byte-lo q rs s g, byte-hi q rs s g)

-- a sequence of more than one byte is a code point above ASCII, and so are its bytes
high-code : (row : List Range) (l : List ℕ) → Memᴰ row table3_7 → begins row l ≡ true → 1 < length row → 0x80 ≤ (decoded (length row) l).cp
unfolding table3_7 decoded
high-code row l (Memᴰ.head e) b h = absurd (omega (arith, ap length e))
high-code row l (Memᴰ.tail (Memᴰ.head e)) b h = let f = two_bytes (range 0xC2 0xDF) (range 0x80 0xBF) [] row l e b in rw e (omega arith)
high-code row l (Memᴰ.tail (Memᴰ.tail (Memᴰ.head e))) b h = let f = two_bytes (range 0xE0 0xE0) (range 0xA0 0xBF) (range 0x80 0xBF ∷ []) row l e b in rw e (omega arith)
high-code row l (Memᴰ.tail (Memᴰ.tail (Memᴰ.tail (Memᴰ.head e)))) b h = let f = two_bytes (range 0xE1 0xEC) (range 0x80 0xBF) (range 0x80 0xBF ∷ []) row l e b in rw e (omega arith)
high-code row l (Memᴰ.tail (Memᴰ.tail (Memᴰ.tail (Memᴰ.tail (Memᴰ.head e))))) b h = let f = two_bytes (range 0xED 0xED) (range 0x80 0x9F) (range 0x80 0xBF ∷ []) row l e b in rw e (omega arith)
high-code row l (Memᴰ.tail (Memᴰ.tail (Memᴰ.tail (Memᴰ.tail (Memᴰ.tail (Memᴰ.head e)))))) b h = let f = two_bytes (range 0xEE 0xEF) (range 0x80 0xBF) (range 0x80 0xBF ∷ []) row l e b in rw e (omega arith)
high-code row l (Memᴰ.tail (Memᴰ.tail (Memᴰ.tail (Memᴰ.tail (Memᴰ.tail (Memᴰ.tail (Memᴰ.head e))))))) b h = let f = two_bytes (range 0xF0 0xF0) (range 0x90 0xBF) (range 0x80 0xBF ∷ range 0x80 0xBF ∷ []) row l e b in rw e (omega arith)
high-code row l (Memᴰ.tail (Memᴰ.tail (Memᴰ.tail (Memᴰ.tail (Memᴰ.tail (Memᴰ.tail (Memᴰ.tail (Memᴰ.head e)))))))) b h = let f = two_bytes (range 0xF1 0xF3) (range 0x80 0xBF) (range 0x80 0xBF ∷ range 0x80 0xBF ∷ []) row l e b in rw e (omega arith)
high-code row l (Memᴰ.tail (Memᴰ.tail (Memᴰ.tail (Memᴰ.tail (Memᴰ.tail (Memᴰ.tail (Memᴰ.tail (Memᴰ.tail (Memᴰ.head e))))))))) b h = let f = two_bytes (range 0xF4 0xF4) (range 0x80 0x8F) (range 0x80 0xBF ∷ range 0x80 0xBF ∷ []) row l e b in rw e (omega arith)
high-code row l (mathlib.Core.List.Memᴰ.tail (mathlib.Core.List.Memᴰ.tail (mathlib.Core.List.Memᴰ.tail (mathlib.Core.List.Memᴰ.tail (mathlib.Core.List.Memᴰ.tail (mathlib.Core.List.Memᴰ.tail (mathlib.Core.List.Memᴰ.tail (mathlib.Core.List.Memᴰ.tail (mathlib.Core.List.Memᴰ.tail x38))))))))) b h = elim x38 [ ]

-- the code point that starts at a byte above ASCII lies above it too
pub high-decode : (b : ℕ) (s : List ℕ) → 0x80 ≤ b → 0x80 ≤ (decode (b ∷ s)).cp
unfolding decode decoded
high-decode b s h = go (width_of (b ∷ s)) refl
  where
    go : (w : ℕ) → width_of (b ∷ s) ≡ w → 0x80 ≤ (decoded (width_of (b ∷ s)) (b ∷ s)).cp
    go zero e = rw e (omega arith)
    go (suc zero) e = rw e h
    go (suc (suc k)) e =
        let f = found (b ∷ s) (omega arith) in
        rw (← f.long) (high-code f.row (b ∷ s) f.is_row f.begins-so (omega (arith, f.long)))

decode_is : (b : ℕ) (s : List ℕ) → decode (b ∷ s) ≡ decoded (width_of (b ∷ s)) (b ∷ s)
unfolding decode
decode_is b s = refl

-- a character of more than one byte is no longer than its sequence
decoded-more : (w : ℕ) (l : List ℕ) (k : ℕ) → suc k < (decoded w l).width → suc k < w
unfolding decoded
decoded-more zero l k h = absurd (omega arith)
decoded-more (suc zero) l k h = absurd (omega arith)
decoded-more (suc (suc zero)) l k h = h
decoded-more (suc (suc (suc zero))) l k h = h
decoded-more (suc (suc (suc (suc w)))) l k h = omega arith

begun-high : (row : List Range) (b : ℕ) (s : List ℕ) (k : ℕ) → Memᴰ row table3_7 → begins row (b ∷ s) ≡ true → suc k < length row → 0x80 ≤ get_or s k 0
begun-high [] b s k m e h = absurd (not-suc-le-zero h)
begun-high (r ∷ rs) b s k m e h =
    let fit : fits (r ∷ rs) (b ∷ take (length rs) s) ≡ true = begins-fits (r ∷ rs) (b ∷ s) e in
    let long : length (take (length rs) s) ≡ length rs = (let e2 = fits-length (r ∷ rs) (b ∷ take (length rs) s) fit in omega arith) in
    let byte = row-further (r ∷ rs) b (take (length rs) s) k m fit (omega arith) in
    rw (get_or-take (length rs) s k 0 (omega arith)) at (within-lo 0x80 0xBF (get_or (take (length rs) s) k 0) byte)

-- and so do the bytes that it takes
high-bytes : (b : ℕ) (s : List ℕ) (k : ℕ) → 0x80 ≤ b → k < (decode (b ∷ s)).width → 0x80 ≤ get_or (b ∷ s) k 0
high-bytes b s zero h l = h
high-bytes b s (suc k) h l = go (width_of (b ∷ s)) refl (rw (decode_is b s) at l)
  where
    go : (w : ℕ) → width_of (b ∷ s) ≡ w → suc k < (decoded (width_of (b ∷ s)) (b ∷ s)).width → 0x80 ≤ get_or s k 0
    go w e l =
        let z : suc k < w = decoded-more w (b ∷ s) k (rw e at l) in
        let f = found (b ∷ s) (omega arith) in
        begun-high f.row b s k f.is_row f.begins-so (omega (arith, f.long))

-- an ASCII byte is a character of its own
pub low-decode : (b : ℕ) (s : List ℕ) → b < 0x80 → decode (b ∷ s) ≡ record { cp = b; width = 1 }
low-decode b s h = sym (decode-1 (b ∷ s) 0 (omega arith) (ascii-one (b ∷ s) 0 (omega arith) h))

-- past one that does not pass the test
pub past_ascii : (p : ℕ → Bool) (s : List ℕ) (i : ℕ) → i < length s → get_or s i 0 < 0x80 → p (get_or s i 0) ≡ false → i + find p (drop i s) ≡ i + 1 + find p (drop (i + 1) s)
past_ascii p s i h l y =
    let d = decode-1 s i h (ascii-one s i h l) in
    past p s i 1 h (ap (λ (x : Decoded). x.width) d) (tested-by p s i _ (p (get_or s i 0)) false d refl y)

-- one that passes ends the search
pub stops-ascii : (p : ℕ → Bool) (s : List ℕ) (i : ℕ) → i < length s → get_or s i 0 < 0x80 → p (get_or s i 0) ≡ true → i + find p (drop i s) ≡ i
stops-ascii p s i h l y = stops p s i h (tested-by p s i _ (p (get_or s i 0)) true (decode-1 s i h (ascii-one s i h l)) refl y)

module _ (p : ℕ → Bool) (flat : (c d : ℕ) → 0x80 ≤ c → 0x80 ≤ d → p c ≡ p d) where
  -- bytes that do not pass are passed over
  skip : (n : ℕ) (l : List ℕ) → n ≤ length l → ((k : ℕ) → k < n → p (get_or l k 0) ≡ false) → find_byte p l ≡ n + find_byte p (drop n l)
  unfolding find_byte
  skip zero l h out = sym (zero-add (find_byte p l))
  skip (suc n) [] h out = absurd (not-suc-le-zero h)
  skip (suc n) (b ∷ s) h out = rw (out 0 (omega arith), skip n s (le_of_suc-le-suc h) (λ k g. out (suc k) (omega arith))) (omega arith)

  -- the test says the same of a character's code point and of each of its bytes
  alike-code : (b : ℕ) (s : List ℕ) → p (decode (b ∷ s)).cp ≡ p b
  alike-code b s = go (dec_lt b 0x80)
    where
      go : Dec (b < 0x80) → p (decode (b ∷ s)).cp ≡ p b
      go (yes h) = rw (low-decode b s h)
      go (no h) = flat (decode (b ∷ s)).cp b (high-decode b s (omega arith)) (omega arith)

  alike-byte : (b : ℕ) (s : List ℕ) (k : ℕ) → k < (decode (b ∷ s)).width → p (get_or (b ∷ s) k 0) ≡ p b
  alike-byte b s k l = go (dec_lt b 0x80)
    where
      go : Dec (b < 0x80) → p (get_or (b ∷ s) k 0) ≡ p b
      go (yes h) = let z : k ≡ 0 = omega (arith, ap (λ (d : Decoded). d.width) (low-decode b s h)) in rw z
      go (no h) = flat (get_or (b ∷ s) k 0) b (high-bytes b s k (omega arith) l) (omega arith)

  none_left : find_byte p [] ≡ 0
  unfolding find_byte
  none_left = refl

  at_once : (b : ℕ) (s : List ℕ) → p b ≡ true → find_byte p (b ∷ s) ≡ 0
  unfolding find_byte
  at_once b s e = rw e

  find-step : (l : List ℕ) → ((m : List ℕ) → length m < length l → find_byte p m ≡ find p m) → find_byte p l ≡ find p l
  unfolding bytes_before
  find-step [] ih = rw chars-nil none_left
  find-step (b ∷ s) ih =
      rw (chars-cons (b ∷ s) (decode (b ∷ s)).width (omega arith) refl, alike-code b s) (go (decode (b ∷ s)).width (p b) refl refl)
    where
      go : (w : ℕ) (t : Bool) → w ≡ (decode (b ∷ s)).width → p b ≡ t → find_byte p (b ∷ s) ≡ pick t 0 (w + find p (drop w (b ∷ s)))
      go w true z e = at_once b s e
      go w false z e =
          let d = decode-width (b ∷ s) (omega arith) in
          skip w (b ∷ s) (omega arith) (λ k g. alike-byte b s k (omega arith) ∙ e) ∙ ap (w +◌) (ih (drop w (b ∷ s)) (omega (arith, length-drop w (b ∷ s))))

  pub find-bytes : (s : List ℕ) → find_byte p s ≡ find p s
  find-bytes s = by_length (λ (s : List ℕ). find_byte p s ≡ find p s) find-step s

-- the search for an ASCII byte, and for what is no digit
pub find-ascii : (b : ℕ) (s : List ℕ) → b < 0x80 → find_byte (eqb b) s ≡ find (eqb b) s
find-ascii b s h = find-bytes (eqb b) (λ c d g k. ne_eqb b c (λ e. omega arith) ∙ sym (ne_eqb b d (λ e. omega arith))) s

pub find-no-digit : (s : List ℕ) → find_byte (λ (b : ℕ). not (digit b)) s ≡ find (λ (b : ℕ). not (digit b)) s
find-no-digit s = find-bytes (λ (b : ℕ). not (digit b)) (λ c d g k. ap not (high c g ∙ sym (high d k))) s
  where
    high : (c : ℕ) → 0x80 ≤ c → digit c ≡ false
    high c g = rw (lt-leb c 0x39 (omega arith), and-false (leb 0x30 c))
