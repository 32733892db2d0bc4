-- The line at the head of a text, by the tests that the code makes in one pass.
-- Assumes nothing.
use mathlib.Core.Path.{◌≡◌, refl, sym, ap, ◌∙◌}
use mathlib.Core.Bool.{Bool, true, false, not, false≢true, ◌&&◌, and-false}
use mathlib.Core.List.{List, [], ◌∷◌, ◌++◌}
use Rattle.std.specs.Prelude.{Option, Some, None}
use Prim.Native.Nat.{ℕ, suc, ◌+◌, ◌<◌, ◌≤◌}
use native.Mathlib.Nat.{add-zero, zero-add}
use native.Mathlib.Omega.{arith}
use lib.Dec.{eqb, leb, ltb, leb-suc-suc}
use lib.ListN.{length, get_or, take, drop, take-append-drop, get_or-eq_default}
use lib.Seq.{length-take-le}
use borrow.Author.Tests.{lt-ltb, le-leb, lt-leb, eq-eqb, ne_eqb, eqb-true, eqb-false, not-true}
use Rattle.text.specs.Pick.{within, pick}
use Rattle.text.specs.Characters.{find_byte}
use Rattle.text.specs.Inner.{eight_bytes}
use Rattle.text.proofs.Chars.{byte_le}
use Rattle.table.specs.Lines.{name_byte}
use Rattle.table.specs.Books.{code_from}
use Rattle.table.specs.Inner.{name_length, keyed, step_by, step_with, behind_key}
use Rattle.table.proofs.Parts.{width}
use Rattle.table.proofs.Words.{every}
use Rattle.text.proofs.Blocks.{equal-true, parts}
use Rattle.table.proofs.HeadBytes.{eight, HeadIs}
use Rattle.text.proofs.Bool.{and_left, and_right}
use Rattle.text.specs.Bytes.{equal, all, starting}

step-none : (t : Bool) (next : ℕ) → step_by t None next ≡ None
step-none true next = refl
step-none false next = refl

-- the line is as long as what fills it
filled : (l s : List ℕ) → s ≡ take (width l) l → width l ≡ length s
filled l s e = sym (ap length e ∙ length-take-le (width l) l (byte_le (eqb 10) l))

-- no byte 10 is in the list
abbrev pub plain : List ℕ → Bool
plain s = all (λ (b : ℕ). not (eqb 10 b)) s

module _ (x : ℕ) (s : List ℕ) (h : plain (x ∷ s) ≡ true) where
  plain-rest : plain s ≡ true
  unfolding all
  plain-rest = and_right (not (eqb 10 x)) (plain s) h

  other_byte : (b : ℕ) → eqb 10 b ≡ true → eqb x b ≡ false
  unfolding all
  other_byte b e = ne_eqb x b (λ f. eqb-false 10 x (not-true (eqb 10 x) (and_left (not (eqb 10 x)) (plain s) h)) (eqb-true 10 b e ∙ sym f))

-- a key is passed: the line's end and what stands in it lie behind the key
abbrev KeyPassed : List ℕ → (List ℕ → Option ℕ) → ℕ → List ℕ → Type 0
KeyPassed key value at l = step_with (keyed key value) at l ≡ step_with value (at + length key) (behind_key key l)

key-passed : (key : List ℕ) (value : List ℕ → Option ℕ) (at : ℕ) (l : List ℕ) → plain key ≡ true → KeyPassed key value at l
unfolding find_byte equal
key-passed [] value at l h = rw add-zero
key-passed (x ∷ key) value at [] h = refl
key-passed (x ∷ key) value at (b ∷ l) h = go (eqb 10 b) (eqb x b) refl refl (key-passed key value (suc at) l (plain-rest x key h))
  where
    go : (t u : Bool) → eqb 10 b ≡ t → eqb x b ≡ u → KeyPassed key value (suc at) l → KeyPassed (x ∷ key) value at (b ∷ l)
    go true u e f ih = rw (e, other_byte x key h b e) (step-none (ltb 0 (suc (length l))) (at + 0 + 1))
    go false true e f ih =
        let n : at + suc (width l) + 1 ≡ suc at + width l + 1 = omega arith in
        let m : at + suc (length key) ≡ suc at + length key = omega arith in
        rw (e, f, leb-suc-suc (suc (width l)) (length l), n, m) ih
    go false false e f ih = rw (e, f) (step-none (ltb (suc (width l)) (suc (length l))) (at + suc (width l) + 1))

pub key_step : (key : List ℕ) (value : List ℕ → Option ℕ) (l m : List ℕ) → plain key ≡ true → m ≡ behind_key key l → step_with value (length key) m ≡ step_with (keyed key value) 0 l
key_step key value l m h e = sym (key-passed key value 0 l h ∙ rw (zero-add (length key), e))

-- the line of a word, its first eight bytes, and those behind them
abbrev pub line : List ℕ → List ℕ
line w = w ++ (10 ∷ [])

abbrev pub front : List ℕ → List ℕ
front w = take 8 (line w)

abbrev pub back : List ℕ → List ℕ
back w = drop 8 (line w)

-- a word fills a line exactly if it stands there with a byte 10 behind it
abbrev WordFills : List ℕ → List ℕ → Type 0
WordFills w l = (ltb (width l) (length l) && equal w (take (width l) l)) ≡ starting (line w) l

word-fills : (w l : List ℕ) → plain w ≡ true → WordFills w l
unfolding find_byte equal
word-fills [] [] h = refl
word-fills [] (b ∷ l) h = go (eqb 10 b) refl
  where
    go : (t : Bool) → eqb 10 b ≡ t → WordFills [] (b ∷ l)
    go true e = rw (e, lt-ltb 0 (suc (length l)) (omega arith))
    go false e = rw e (and-false (ltb (suc (width l)) (suc (length l))))
word-fills (x ∷ w) [] h = refl
word-fills (x ∷ w) (b ∷ l) h = go (eqb 10 b) (eqb x b) refl refl (word-fills w l (plain-rest x w h))
  where
    go : (t u : Bool) → eqb 10 b ≡ t → eqb x b ≡ u → WordFills w l → WordFills (x ∷ w) (b ∷ l)
    go true u e f ih = rw (e, other_byte x w h b e) (and-false (ltb 0 (suc (length l))))
    go false true e f ih = rw (e, f, leb-suc-suc (suc (width l)) (length l)) ih
    go false false e f ih = rw (e, f) (and-false (ltb (suc (width l)) (suc (length l))))

-- a word's line does not stand at the head
abbrev pub absent : List ℕ → List ℕ → Bool
absent l w = not (starting (front w) l && starting (back w) (drop 8 l))

module _ (n : ℕ) (l : List ℕ) where
  -- at the line of a word
  pub line-there : (value : List ℕ → Option ℕ) (w : List ℕ) → plain w ≡ true → starting (line w) l ≡ true → step_by true (value w) (n + length w + 1) ≡ step_with value n l
  line-there value w h e =
      let f = word-fills w l h ∙ e in
      let ends = and_left (ltb (width l) (length l)) (equal w (take (width l) l)) f in
      let same = equal-true w (take (width l) l) (and_right (ltb (width l) (length l)) (equal w (take (width l) l)) f) in
      rw (ends, ← same, filled l w same)

  -- at no word's line
  word-past : (k : ℕ) (w : List ℕ) (ws : List (List ℕ)) → plain w ≡ true → starting (line w) l ≡ false → step_with (code_from k (w ∷ ws)) n l ≡ step_with (code_from (suc k) ws) n l
  unfolding code_from
  word-past k w ws h e = go (ltb (width l) (length l)) (equal w (take (width l) l)) (word-fills w l h ∙ e)
    where
      go : (t u : Bool) → (t && u) ≡ false → step_by t (pick u (Some k) (code_from (suc k) ws (take (width l) l))) (n + width l + 1) ≡ step_by t (code_from (suc k) ws (take (width l) l)) (n + width l + 1)
      go true true f = absurd (false≢true (sym f))
      go true false f = refl
      go false u f = refl

  pub words-absent : (k : ℕ) (ws : List (List ℕ)) → every plain ws ≡ true → every (absent l) ws ≡ true → None ≡ step_with (code_from k ws) n l
  unfolding code_from every
  words-absent k [] h e = sym (step-none (ltb (width l) (length l)) (n + width l + 1))
  words-absent k (w ∷ ws) h e =
      let here = parts 8 (line w) l ∙ not-true _ (and_left (absent l w) (every (absent l) ws) e) in
      words-absent (suc k) ws (and_right (plain w) (every plain ws) h) (and_right (absent l w) (every (absent l) ws) e) ∙ sym (word-past k w ws (and_left (plain w) (every plain ws) h) here)

-- at the first eight bytes of a word's line, with which no other word's begins: what stands behind them decides
module _ (n : ℕ) (ws : List (List ℕ)) (l : List ℕ) (r k : ℕ) where
  abbrev w : List ℕ
  w = get_or ws k []

  pub front-there : every plain ws ≡ true → plain w ≡ true → eight (front w) ≡ true → code_from 0 ws w ≡ Some k → ((m : List ℕ) → starting (back w) m ≡ false → every (absent (front w ++ m)) ws ≡ true) → HeadIs l r → r ≡ eight_bytes (front w) 0 → step_by (starting (back w) (drop 8 l)) (Some k) (n + length w + 1) ≡ step_with (code_from 0 ws) n l
  front-there hs h long is alone head_of f = go (starting (back w) (drop 8 l)) refl
    where
      there : starting (front w) l ≡ true
      there = head_of.begins (front w) long f

      split : front w ++ drop 8 l ≡ l
      split =
          let size : length (front w) ≡ 8 = eqb-true (length (front w)) 8 (and_left _ _ long) in
          ap (λ (x : List ℕ). x ++ drop 8 l) (equal-true (front w) (take 8 l) (rw size at there)) ∙ take-append-drop 8 l

      go : (t : Bool) → starting (back w) (drop 8 l) ≡ t → step_by t (Some k) (n + length w + 1) ≡ step_with (code_from 0 ws) n l
      go true e = rw is at (line-there n l (code_from 0 ws) w h (parts 8 (line w) l ∙ rw (there, e)))
      go false e = words-absent n l 0 ws hs (rw split at (alone (drop 8 l) e))

-- the bytes that end a name
abbrev pub unnamed : ℕ → Bool
unnamed b = not (name_byte b)

-- name bytes fill a line exactly if byte 10 stands behind those at its head, and the line is then as long as they are
abbrev NameFills : List ℕ → Type 0
NameFills l = ((ltb (width l) (length l) && all name_byte (take (width l) l)) ≡ eqb (get_or l (find_byte unnamed l) 0) 10) × (eqb (get_or l (find_byte unnamed l) 0) 10 ≡ true → width l ≡ find_byte unnamed l)

name-fills : (l : List ℕ) → NameFills l
unfolding find_byte all
name-fills [] = (refl, λ e. refl)
name-fills (b ∷ l) = go (eqb 10 b) (name_byte b) refl refl (name-fills l)
  where
    go : (t u : Bool) → eqb 10 b ≡ t → name_byte b ≡ u → NameFills l → NameFills (b ∷ l)
    go true true e f ih = absurd (false≢true (rw (← eqb-true 10 b e) at f))
    go true false e f ih = rw (e, f, lt-ltb 0 (suc (length l)) (omega arith)) (sym (eq-eqb b 10 (sym (eqb-true 10 b e))), λ g. refl)
    go false true e f ih = rw (e, f, leb-suc-suc (suc (width l)) (length l)) (ih.0, λ g. ap suc (ih.1 g))
    go false false e f ih =
        let n : eqb b 10 ≡ false = ne_eqb b 10 (λ g. eqb-false 10 b e (sym g)) in
        rw (e, f, n) (and-false (ltb (suc (width l)) (suc (length l))), λ g. absurd (false≢true g))

-- the tests of a text whose first r bytes, and no more of them, are name bytes
module _ (l : List ℕ) (r : ℕ) (is : r ≡ find_byte unnamed l) where
  name-not : eqb (get_or l r 0) 10 ≡ false → None ≡ step_with name_length 5 l
  name-not e = go (ltb (width l) (length l)) (within 1 16 (length (take (width l) l))) (all name_byte (take (width l) l)) ((name-fills l).0 ∙ rw is at e)
    where
      go : (t u v : Bool) → (t && v) ≡ false → None ≡ step_by t (pick (u && v) (Some (length (take (width l) l))) None) (5 + width l + 1)
      go true true true f = absurd (false≢true (sym f))
      go true false v f = refl
      go true true false f = refl
      go false u v f = refl

  pub name-open : r ≡ length l → None ≡ step_with name_length 5 l
  name-open h = let z : length l ≤ r = omega arith in name-not (rw (get_or-eq_default l 0 z))

  pub name-other : (get_or l r 0 ≡ 10 → ⊥) → None ≡ step_with name_length 5 l
  name-other h = name-not (ne_eqb (get_or l r 0) 10 h)

  module _ (h : get_or l r 0 ≡ 10) where
    name-there : (t : Bool) → within 1 16 r ≡ t → step_by true (pick t (Some r) None) (r + 6) ≡ step_with name_length 5 l
    name-there t e =
        let f : eqb (get_or l (find_byte unnamed l) 0) 10 ≡ true = rw is at (eq-eqb (get_or l r 0) 10 h) in
        let g = (name-fills l).0 ∙ f in
        let ends = and_left (ltb (width l) (length l)) (all name_byte (take (width l) l)) g in
        let named = and_right (ltb (width l) (length l)) (all name_byte (take (width l) l)) g in
        let wide : width l ≡ r = (name-fills l).1 f ∙ sym is in
        let size : length (take (width l) l) ≡ r = sym (filled l (take (width l) l) refl) ∙ wide in
        let next : 5 + r + 1 ≡ r + 6 = omega arith in
        rw (ends, named, size, wide, next, e) (go t)
      where
        go : (t : Bool) → step_by true (pick t (Some r) None) (r + 6) ≡ step_by true (pick (t && true) (Some r) None) (r + 6)
        go true = refl
        go false = refl

    pub name-good : 1 ≤ r → r < 17 → Some (r, (r + 6)) ≡ step_with name_length 5 l
    name-good a b = name-there true (rw (le-leb 1 r a, le-leb r 16 (omega arith)))

    pub name-empty : r < 1 → None ≡ step_with name_length 5 l
    name-empty a = name-there false (rw (lt-leb 1 r a))

    pub name-long : 17 ≤ r → None ≡ step_with name_length 5 l
    name-long a = name-there false (rw (lt-leb r 16 (omega arith)) (and-false (leb 1 r)))
