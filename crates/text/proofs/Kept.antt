-- How many bytes a text has up to the end of its last character that isn't blank: from the front, and from the back where the last byte is ASCII.
-- Assumes nothing.
use mathlib.Core.Path.{◌≡◌, refl, sym, ap, ◌∙◌}
use mathlib.Core.Bool.{Bool, true, false, ◌&&◌}
use mathlib.Core.List.{List, [], ◌∷◌, ◌++◌}
use Prim.Native.Nat.{ℕ, zero, suc, ◌+◌, ◌-◌, ◌<◌, ◌≤◌, zero-le}
use native.Mathlib.Nat.{add-zero, zero-add}
use native.Mathlib.Omega.{arith}
use lib.ListN.{length, get_or, take, drop, length-drop, drop_of_length-le, get_or-append}
use lib.Seq.{drop-append-le, take-suc, take-length, length-take-le}
use borrow.Author.Tests.{lt-leb}
use Rattle.text.specs.Pick.{Range, within, pick}
use Rattle.text.specs.declared.Decoded.{Decoded}
use Rattle.text.specs.Utf8.{begins, table3_7, width_by, width_of, decoded, decode}
use Rattle.text.specs.Blank.{blank}
use Rattle.text.specs.Characters.{chars_past, chars, bytes_before, find}
use Rattle.text.specs.Words.{kept_by, kept}
use Rattle.text.proofs.Induction.{by_length}
use Rattle.text.proofs.Rows.{every, width-le}
use Rattle.text.proofs.Shape.{further, further-lo, further-rest, apart, shaped, table-shaped}
use Rattle.text.proofs.Scan.{ascii-one}
use Rattle.text.proofs.Decode.{decode-width}
use Rattle.text.proofs.Chars.{chars-nil, chars-cons, chars-at}
use Rattle.text.proofs.Bool.{and_left, and_right}

-- what is kept of the whole text, where `end` is kept of its first i bytes, and k of the rest
abbrev pub end_of : ℕ → ℕ → ℕ → ℕ
end_of end i zero = end
end_of end i (suc k) = i + suc k

end-blank : (end i w k : ℕ) → end_of end i (kept_by true w k) ≡ end_of end (i + w) k
end-blank end i w zero = refl
end-blank end i zero (suc k) = simp (zero-add, add-zero)
end-blank end i (suc w) (suc k) = go (suc w + suc k) refl
  where
    go : (n : ℕ) → suc w + suc k ≡ n → end_of end i n ≡ i + suc w + suc k
    go zero e = absurd (omega arith)
    go (suc n) e = omega arith

end-not-blank : (end i w k : ℕ) → 0 < w → end_of end i (kept_by false w k) ≡ end_of (i + w) (i + w) k
end-not-blank end i w k h = go (w + k) k refl refl
  where
    go : (n m : ℕ) → w + k ≡ n → k ≡ m → end_of end i n ≡ end_of (i + w) (i + w) m
    go zero m e f = absurd (omega arith)
    go (suc n) zero e f = omega arith
    go (suc n) (suc m) e f = omega arith

module _ (s : List ℕ) (end i w : ℕ) where
  kept_at : i < length s → w ≡ (decode (drop i s)).width → kept (chars (drop i s)) ≡ kept_by (blank (decode (drop i s)).cp) w (kept (chars (drop (i + w) s)))
  unfolding kept
  kept_at h e = rw (chars-at s i w h e, ← e)

  pub kept-blank : i < length s → w ≡ (decode (drop i s)).width → blank (decode (drop i s)).cp ≡ true → end_of end i (kept (chars (drop i s))) ≡ end_of end (i + w) (kept (chars (drop (i + w) s)))
  kept-blank h e y = rw (kept_at h e, y) (end-blank end i w (kept (chars (drop (i + w) s))))

  pub kept-not-blank : i < length s → w ≡ (decode (drop i s)).width → 0 < w → blank (decode (drop i s)).cp ≡ false → end_of end i (kept (chars (drop i s))) ≡ end_of (i + w) (i + w) (kept (chars (drop (i + w) s)))
  kept-not-blank h e l y = rw (kept_at h e, y) (end-not-blank end i w (kept (chars (drop (i + w) s))) l)

pub kept-end : (s : List ℕ) (end i : ℕ) → length s ≤ i → end_of end i (kept (chars (drop i s))) ≡ end
unfolding kept
kept-end s end i h = rw (drop_of_length-le s h, chars-nil)

pub kept-start : (s : List ℕ) → kept (chars s) ≡ end_of 0 0 (kept (chars s))
kept-start s = go (kept (chars s))
  where
    go : (k : ℕ) → k ≡ end_of 0 0 k
    go zero = refl
    go (suc k) = sym (zero-add (suc k))

snoc-blank : (cs : List Decoded) (c : Decoded) → blank c.cp ≡ true → kept (cs ++ c ∷ []) ≡ kept cs
unfolding kept
snoc-blank [] c e = rw e
snoc-blank (x ∷ cs) c e = ap (kept_by (blank x.cp) x.width) (snoc-blank cs c e)

-- how many bytes the characters take
unfoldable widths : List Decoded → ℕ
widths [] = 0
widths (c ∷ cs) = c.width + widths cs

snoc-not-blank : (cs : List Decoded) (c : Decoded) → blank c.cp ≡ false → 0 < c.width → kept (cs ++ c ∷ []) ≡ widths cs + c.width
unfolding kept widths
snoc-not-blank [] c e h = rw e (omega arith)
snoc-not-blank (x ∷ cs) c e h = go (blank x.cp) (kept (cs ++ c ∷ [])) (snoc-not-blank cs c e h)
  where
    go : (t : Bool) (k : ℕ) → k ≡ widths cs + c.width → kept_by t x.width k ≡ x.width + widths cs + c.width
    go true zero z = absurd (omega arith)
    go true (suc k) z = omega arith
    go false k z = omega arith

widths-step : (l : List ℕ) → ((m : List ℕ) → length m < length l → widths (chars m) ≡ length m) → widths (chars l) ≡ length l
unfolding widths
widths-step [] ih = rw chars-nil
widths-step (x ∷ s) ih =
    let l = x ∷ s in
    let w = (decode l).width in
    let d = decode-width l (omega arith) in
    rw (chars-cons l w (omega arith) refl, ih (drop w l) (omega (arith, length-drop w l))) (omega (arith, length-drop w l))

widths-all : (l : List ℕ) → widths (chars l) ≡ length l
widths-all l = by_length (λ (l : List ℕ). widths (chars l) ≡ length l) widths-step l

before-le : (p : ℕ → Bool) (cs : List Decoded) → bytes_before p cs ≤ widths cs
unfolding bytes_before widths
before-le p [] = zero-le
before-le p (c ∷ cs) = go (p c.cp) (before-le p cs)
  where
    go : (t : Bool) → bytes_before p cs ≤ widths cs → pick t 0 (c.width + bytes_before p cs) ≤ c.width + widths cs
    go true h = zero-le
    go false h = omega arith

-- what is found lies in the text, or at its end
pub find-le : (p : ℕ → Bool) (s : List ℕ) → find p s ≤ length s
find-le p s = rw (widths-all s) at (before-le p (chars s))

module _ (b : ℕ) (low : b < 0x80) where
  -- an ASCII byte after a list makes no sequence of it longer
  begins-snoc : (rs : List Range) (s : List ℕ) → further rs ≡ true → begins rs (s ++ b ∷ []) ≡ begins rs s
  unfolding begins further
  begins-snoc [] s e = refl
  begins-snoc (r ∷ rs) [] e =
      let up : 0x80 ≤ r.lo = further-lo r rs e in
      rw (lt-leb r.lo b (omega arith))
  begins-snoc (r ∷ rs) (x ∷ s) e = ap (◌&&◌ (within r.lo r.hi x)) (begins-snoc rs s (further-rest r rs e))

  rows_snoc : (rows : List (List Range)) (x : ℕ) (s : List ℕ) → every shaped rows ≡ true → width_by rows (x ∷ s ++ b ∷ []) ≡ width_by rows (x ∷ s)
  unfolding width_by every shaped begins
  rows_snoc [] x s e = refl
  rows_snoc ([] ∷ rows) x s e = refl
  rows_snoc ((r ∷ rs) ∷ rows) x s e =
      rw (begins-snoc rs s (and_right (apart r) (further rs) (and_left (shaped (r ∷ rs)) (every shaped rows) e)), rows_snoc rows x s (and_right (shaped (r ∷ rs)) (every shaped rows) e))

  width-snoc : (x : ℕ) (s : List ℕ) → width_of (x ∷ s ++ b ∷ []) ≡ width_of (x ∷ s)
  unfolding width_of
  width-snoc x s = rows_snoc table3_7 x s table-shaped

  decoded-snoc : (w : ℕ) (l : List ℕ) → w ≤ length l → decoded w (l ++ b ∷ []) ≡ decoded w l
  unfolding decoded
  decoded-snoc zero l h = refl
  decoded-snoc (suc zero) l h = rw (get_or-append l (b ∷ []) 0 0 h)
  decoded-snoc (suc (suc zero)) l h = rw (get_or-append l (b ∷ []) 0 0 (omega arith), get_or-append l (b ∷ []) 0 1 (omega arith))
  decoded-snoc (suc (suc (suc zero))) l h = rw (get_or-append l (b ∷ []) 0 0 (omega arith), get_or-append l (b ∷ []) 0 1 (omega arith), get_or-append l (b ∷ []) 0 2 (omega arith))
  decoded-snoc (suc (suc (suc (suc w)))) l h = rw (get_or-append l (b ∷ []) 0 0 (omega arith), get_or-append l (b ∷ []) 0 1 (omega arith), get_or-append l (b ∷ []) 0 2 (omega arith), get_or-append l (b ∷ []) 0 3 (omega arith))

  decode-snoc : (x : ℕ) (s : List ℕ) → decode (x ∷ s ++ b ∷ []) ≡ decode (x ∷ s)
  unfolding decode
  decode-snoc x s = rw (width-snoc x s) (decoded-snoc (width_of (x ∷ s)) (x ∷ s) (width-le (x ∷ s)))

  chars-step : (l : List ℕ) → ((m : List ℕ) → length m < length l → chars (m ++ b ∷ []) ≡ chars m ++ decode (b ∷ []) ∷ []) → chars (l ++ b ∷ []) ≡ chars l ++ decode (b ∷ []) ∷ []
  unfolding chars_past
  chars-step [] ih = refl
  chars-step (x ∷ s) ih =
      let l = x ∷ s in
      let w = (decode l).width in
      let d = decode-width l (omega arith) in
      let same : decode (l ++ b ∷ []) ≡ decode l = decode-snoc x s in
      let here : chars (l ++ b ∷ []) ≡ decode l ∷ chars (drop w (l ++ b ∷ [])) = chars-cons (l ++ b ∷ []) w (omega arith) (ap (λ (c : Decoded). c.width) (sym same)) ∙ ap (λ (c : Decoded). c ∷ chars (drop w (l ++ b ∷ []))) same in
      let rest : chars (drop w (l ++ b ∷ [])) ≡ chars (drop w l) ++ decode (b ∷ []) ∷ [] = rw (drop-append-le w l (b ∷ []) d.1) (ih (drop w l) (omega (arith, length-drop w l))) in
      here ∙ ap (decode l ∷◌) rest ∙ ap (λ (cs : List Decoded). cs ++ decode (b ∷ []) ∷ []) (sym (chars-cons l w (omega arith) refl))

  chars-snoc : (l : List ℕ) → chars (l ++ b ∷ []) ≡ chars l ++ decode (b ∷ []) ∷ []
  chars-snoc l = by_length (λ (l : List ℕ). chars (l ++ b ∷ []) ≡ chars l ++ decode (b ∷ []) ∷ []) chars-step l

  decode-one : decode (b ∷ []) ≡ record { cp = b; width = 1 }
  unfolding decode decoded
  decode-one = rw (ascii-one (b ∷ []) 0 (omega arith) low)

  -- all but the last of the first e bytes
  last-is : (s : List ℕ) (e : ℕ) → 0 < e → e ≤ length s → get_or s (e - 1) 0 ≡ b → take e s ≡ take (e - 1) s ++ b ∷ []
  last-is s e h k y =
      let z : e ≡ suc (e - 1) = omega arith in
      ap (λ (n : ℕ). take n s) z ∙ take-suc s (e - 1) 0 (omega arith) ∙ ap (λ (x : ℕ). take (e - 1) s ++ x ∷ []) y

  pub ends-blank : (s : List ℕ) (e : ℕ) → 0 < e → e ≤ length s → get_or s (e - 1) 0 ≡ b → blank b ≡ true → kept (chars (take e s)) ≡ kept (chars (take (e - 1) s))
  ends-blank s e h k y t = rw (last-is s e h k y, chars-snoc (take (e - 1) s), decode-one) (snoc-blank (chars (take (e - 1) s)) (record { cp = b; width = 1 }) t)

  pub ends-not-blank : (s : List ℕ) (e : ℕ) → 0 < e → e ≤ length s → get_or s (e - 1) 0 ≡ b → blank b ≡ false → kept (chars (take e s)) ≡ e
  ends-not-blank s e h k y t =
      rw (last-is s e h k y, chars-snoc (take (e - 1) s), decode-one)
      (snoc-not-blank (chars (take (e - 1) s)) (record { cp = b; width = 1 }) t (omega arith) ∙ rw (widths-all (take (e - 1) s), length-take-le (e - 1) s (omega arith)) (omega arith))

-- what is kept of all the bytes, and of none
pub kept-all : (s : List ℕ) → kept (chars s) ≡ kept (chars (take (length s) s))
kept-all s = rw take-length

pub kept-none : (s : List ℕ) (e : ℕ) → e ≤ 0 → kept (chars (take e s)) ≡ 0
unfolding kept
kept-none s e h = let z : e ≡ 0 = omega arith in rw (z, chars-nil)
