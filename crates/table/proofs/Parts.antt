-- The lines of a text, one after the other.
-- Assumes nothing.
use mathlib.Core.Path.{◌≡◌, refl, sym, ap, ◌∙◌}
use mathlib.Core.Bool.{Bool, true, false}
use mathlib.Core.List.{List, [], ◌∷◌}
use Rattle.std.specs.Prelude.{Some, None}
use Prim.Native.Nat.{ℕ, suc, ◌+◌, ◌-◌, ◌<◌, ◌≤◌}
use native.Mathlib.Nat.{not-suc-le-zero}
use native.Mathlib.Omega.{arith}
use lib.Dec.{eqb, ltb, leb-suc-suc}
use lib.ListN.{length, take, drop, length-drop, drop_of_length-le}
use lib.Seq.{drop-drop}
use borrow.Author.Tests.{lt-ltb, eq-eqb, ne_eqb, eqb-true, eqb-false}
use Rattle.text.specs.Characters.{find_byte}
use Rattle.text.proofs.Chars.{found-le}
use Rattle.text.proofs.Cuts.{rest_all}
use Rattle.table.specs.Lines.{Line, lines, on_first, line_by}
use Rattle.table.specs.Books.{code_from}
use Rattle.table.specs.Inner.{on_word, lines_of}
use Rattle.table.proofs.Words.{code-hit, code-miss, code-none}
use Rattle.text.specs.Pick.{pick}
use Rattle.text.specs.Bytes.{equal}

flip : (a b : ℕ) → eqb a b ≡ eqb b a
flip a b = go (eqb b a) refl
  where
    go : (t : Bool) → eqb b a ≡ t → eqb a b ≡ t
    go true e = eq-eqb a b (sym (eqb-true b a e))
    go false e = ne_eqb a b (λ z. eqb-false b a e (sym z))

-- how many bytes stand before the first byte 10
abbrev pub width : List ℕ → ℕ
width l = find_byte (eqb 10) l

abbrev pub first : ℕ → List ℕ → Line
first at l = record { at = at; body = take (width l) l; ended = ltb (width l) (length l) }

-- a byte in front of the first line
in-front : (at b : ℕ) (s : List ℕ) → (0 < length s → lines (suc at) s ≡ first (suc at) s ∷ lines (suc at + width s + 1) (drop (width s + 1) s)) → on_first at b (lines (suc at) s) ≡ record { at = at; body = b ∷ take (width s) s; ended = ltb (suc (width s)) (suc (length s)) } ∷ lines (at + suc (width s) + 1) (drop (suc (width s) + 1) (b ∷ s))
unfolding lines find_byte
in-front at b [] ih = refl
in-front at b (c ∷ s) ih =
    let n : ℕ = width (c ∷ s) in
    let e : suc at + n + 1 ≡ at + suc n + 1 = omega arith in
    let f : suc n + 1 ≡ suc (n + 1) = omega arith in
    rw (f, ← e, ih (omega arith)) (ap (λ (t : Bool). record { at = at; body = b ∷ take n (c ∷ s); ended = t } ∷ lines (suc at + n + 1) (drop (n + 1) (c ∷ s))) (sym (leb-suc-suc (suc n) (suc (length s)))))

lines_cons : (at : ℕ) (l : List ℕ) → 0 < length l → lines at l ≡ first at l ∷ lines (at + width l + 1) (drop (width l + 1) l)
unfolding lines find_byte
lines_cons at [] h = absurd (not-suc-le-zero h)
lines_cons at (b ∷ s) h = rw (flip b 10) (go (eqb 10 b) (in-front at b s (lines_cons (suc at) s)))
  where
    go : (t : Bool) → on_first at b (lines (suc at) s) ≡ record { at = at; body = b ∷ take (width s) s; ended = ltb (suc (width s)) (suc (length s)) } ∷ lines (at + suc (width s) + 1) (drop (suc (width s) + 1) (b ∷ s)) →
        line_by t at b (lines (suc at) s) ≡
        record { at = at; body = take (pick t 0 (suc (width s))) (b ∷ s); ended = ltb (pick t 0 (suc (width s))) (suc (length s)) } ∷ lines (at + pick t 0 (suc (width s)) + 1) (drop (pick t 0 (suc (width s)) + 1) (b ∷ s))
    go true e =
        let n : at + 0 + 1 ≡ suc at = omega arith in
        rw (n, lt-ltb 0 (suc (length s)) (omega arith))
    go false e = e

-- at a place of the text, and at its end
module _ (t : List ℕ) (at : ℕ) where
  pub line-there : at < length t → lines at (drop at t) ≡ first at (drop at t) ∷ lines (at + width (drop at t) + 1) (drop (at + width (drop at t) + 1) t)
  line-there h =
      let longer : 0 < length (drop at t) = rw length-drop (omega arith) in
      let e : at + (width (drop at t) + 1) ≡ at + width (drop at t) + 1 = omega arith in
      lines_cons at (drop at t) longer ∙ ap (λ (l : List ℕ). first at (drop at t) ∷ lines (at + width (drop at t) + 1) l) (drop-drop (width (drop at t) + 1) at t ∙ ap (λ (n : ℕ). drop n t) e)

  pub line-none : length t ≤ at → lines at (drop at t) ≡ []
  unfolding lines
  line-none h = rw (drop_of_length-le t h)

-- the first byte 10 from a place on, as it is searched for
module _ (l : List ℕ) (at n : ℕ) (is : n ≡ width (take (length l - at) (drop at l))) where
  pub break-le : n ≤ length (take (length l - at) (drop at l))
  break-le = found-le (eqb 10) (take (length l - at) (drop at l)) n is

  module _ (h : at ≤ length l) where
    pub break-inside : at + n ≤ length l
    break-inside = omega (arith, break-le, ap length (rest_all l at), length-drop at l)

    pub break-at : n ≡ width (drop at l)
    break-at = rw (rest_all l at) at is

-- the words of a list in which byte 10 ends each are what stands in its lines
unfoldable pub bodies : List Line → List (List ℕ)
bodies [] = []
bodies (l ∷ ls) = l.body ∷ bodies ls

pub words_are : (at : ℕ) (l : List ℕ) → lines_of l ≡ bodies (lines at l)
unfolding lines_of bodies lines
words_are at [] = refl
words_are at (b ∷ s) = rw (words_are (suc at) s) (go (eqb b 10) (lines (suc at) s))
  where
    go : (t : Bool) (ls : List Line) → on_word t b (bodies ls) ≡ bodies (line_by t at b ls)
    go true ls = refl
    go false [] = refl
    go false (l ∷ ls) = refl

-- at a place of the list
module _ (l s : List ℕ) (k at n : ℕ) (is : n ≡ width (take (length l - at) (drop at l))) where
  abbrev rest : List ℕ
  rest = take (length l - at) (drop at l)

  word-there : at < length l → bodies (lines at (drop at l)) ≡ take n rest ∷ bodies (lines (at + n + 1) (drop (at + n + 1) l))
  unfolding bodies
  word-there h =
      let g : at ≤ length l = omega arith in
      rw (line-there l at h, rest_all l at, break-at l at n is g)

  pub word-hit : at < length l → equal (take n rest) s ≡ true → code_from k (bodies (lines at (drop at l))) s ≡ Some k
  word-hit h e = code-hit k s _ _ _ (word-there h) e

  pub word-miss : at < length l → equal (take n rest) s ≡ false → code_from k (bodies (lines at (drop at l))) s ≡ code_from (k + 1) (bodies (lines (at + n + 1) (drop (at + n + 1) l))) s
  word-miss h e = code-miss k s _ _ _ (word-there h) e

pub word_end : (l s : List ℕ) (k at : ℕ) → length l ≤ at → code_from k (bodies (lines at (drop at l))) s ≡ None
unfolding bodies
word_end l s k at h = code-none k s _ (ap bodies (line-none l at h))
