-- The first word of a list that equals another.
-- Assumes nothing.
use mathlib.Core.Path.{◌≡◌, refl, sym, ◌∙◌}
use mathlib.Core.Bool.{Bool, true, false, false≢true, not, ◌&&◌, ◌||◌}
use mathlib.Core.List.{List, [], ◌∷◌, ◌++◌}
use Rattle.std.specs.Prelude.{Some, None}
use Rattle.std.proofs.Common.{cond}
use Rattle.std.specs.List.{position_or_len}
use Rattle.std.specs.Slice.Iter.{chunks_exact_rest, chunks_exact_size, chunks_exact_steps}
use Rattle.std.proofs.lemmas.Iterator.{YieldsList}
use Rattle.std.proofs.lemmas.Iterator.Splits.{YieldsList-from_shown_while}
use Prim.Native.Nat.{ℕ, suc, ◌+◌, ◌<◌}
use native.Mathlib.Numerals.{add-one}
use native.Mathlib.Omega.{arith}
use lib.Dec.{eqb, ltb, leb-suc-suc}
use lib.ListN.{length, get_or}
use borrow.Author.Tests.{ne_eqb, lt-ltb}
use Rattle.text.specs.Pick.{pick, known}
use Rattle.table.specs.Entries.{position}
use Rattle.table.specs.Names.{note_only}
use Rattle.table.specs.Books.{code_from}
use Rattle.table.specs.Inner.{triples}
use Rattle.text.proofs.Bool.{and_left, and_right}
use Rattle.text.specs.Literal.{ascii}
use Rattle.text.proofs.Blocks.{equal-true}
use Rattle.text.specs.Bytes.{equal, one_of}

-- the first word that equals the list, and the words before it
module _ (k : ℕ) (s : List ℕ) where
  pub code-hit : (w : List ℕ) (ws l : List (List ℕ)) → l ≡ w ∷ ws → equal w s ≡ true → code_from k l s ≡ Some k
  unfolding code_from
  code-hit w ws l f e = rw (f, e)

  pub code-miss : (w : List ℕ) (ws l : List (List ℕ)) → l ≡ w ∷ ws → equal w s ≡ false → code_from k l s ≡ code_from (k + 1) ws s
  unfolding code_from
  code-miss w ws l f e = rw (f, e, add-one)

  pub code-none : (l : List (List ℕ)) → l ≡ [] → code_from k l s ≡ None
  unfolding code_from
  code-none l f = rw f

pub one-of : (ws : List (List ℕ)) (s : List ℕ) (k : ℕ) → one_of ws s ≡ known (code_from k ws s)
unfolding one_of code_from
one-of [] s k = refl
one-of (w ∷ ws) s k = go (equal w s) (one-of ws s (suc k))
  where
    go : (t : Bool) → one_of ws s ≡ known (code_from (suc k) ws s) → (t || one_of ws s) ≡ known (pick t (Some k) (code_from (suc k) ws s))
    go true e = refl
    go false e = e

-- what a test says of every word, it says of each list that is one of them
unfoldable pub every : (List ℕ → Bool) → List (List ℕ) → Bool
every p [] = true
every p (w ∷ ws) = p w && every p ws

pub one_passes : (p : List ℕ → Bool) (ws : List (List ℕ)) (s : List ℕ) → every p ws ≡ true → one_of ws s ≡ true → p s ≡ true
unfolding every one_of
one_passes p [] s h e = absurd (false≢true e)
one_passes p (w ∷ ws) s h e = go (equal w s) refl e (one_passes p ws s (and_right (p w) (every p ws) h))
  where
    go : (t : Bool) → equal w s ≡ t → (t || one_of ws s) ≡ true → (one_of ws s ≡ true → p s ≡ true) → p s ≡ true
    go true f g ih = rw (equal-true w s f) at (and_left (p w) (every p ws) h)
    go false f g ih = ih g

-- the names that stand in notes alone begin with f or x
pub not_noted : (s : List ℕ) → (get_or s 0 0 ≡ 102 → ⊥) → (get_or s 0 0 ≡ 120 → ⊥) → false ≡ one_of note_only s
unfolding ascii every note_only
not_noted s h k = go (one_of note_only s) refl
  where
    go : (t : Bool) → one_of note_only s ≡ t → false ≡ t
    go true e = sym (rw (ne_eqb (get_or s 0 0) 102 h, ne_eqb (get_or s 0 0) 120 k)) ∙ one_passes (λ (w : List ℕ). (eqb (get_or w 0 0) 102 || eqb (get_or w 0 0) 120)) note_only s refl e
    go false e = refl

-- where a word is found
pub record At (ws : List (List ℕ)) (s : List ℕ) (k p : ℕ) : Type 0 where
  pub is : p ≡ k + position ws s
  pub inside : p < k + length ws
  pub there : one_of ws s ≡ true

pub found : (ws : List (List ℕ)) (s : List ℕ) (k p : ℕ) → code_from k ws s ≡ Some p → At ws s k p
unfolding one_of code_from position
found [] s k p e = let z : ◌≡◌ {A = ℕ} 0 1 = cc in absurd (omega arith)
found (w ∷ ws) s k p e = let g = go (equal w s) e (found ws s (suc k) p) in record { is = g.0; inside = g.1; there = g.2 }
  where
    go : (t : Bool) → pick t (Some k) (code_from (suc k) ws s) ≡ Some p → (code_from (suc k) ws s ≡ Some p → At ws s (suc k) p) →
        (p ≡ k + pick t 0 (suc (position ws s))) × (p < k + suc (length ws)) × ((t || one_of ws s) ≡ true)
    go true e ih = let z : k ≡ p = cc in (omega arith, omega arith, refl)
    go false e ih = let a = ih e in (omega arith, omega arith, a.there)

-- the first word that equals the list, as `position` finds it
module _ (s : List ℕ) where
  abbrev is : List ℕ → Bool
  is w = equal w s

  position-from : (ws : List (List ℕ)) (k : ℕ) → code_from k ws s ≡ cond (ltb (position_or_len is ws) (length ws)) (Some (k + position_or_len is ws)) None
  unfolding code_from
  position-from [] k = refl
  position-from (w ∷ ws) k = go (equal w s) (position_or_len is ws) (position-from ws (suc k))
    where
      go : (t : Bool) (n : ℕ) → code_from (suc k) ws s ≡ cond (ltb n (length ws)) (Some (suc k + n)) None →
          pick t (Some k) (code_from (suc k) ws s) ≡ cond (ltb (cond (not t) (1 + n) 0) (suc (length ws))) (Some (k + cond (not t) (1 + n) 0)) None
      go true n h = let e : k + 0 ≡ k = omega arith in rw (lt-ltb 0 (suc (length ws)) (omega arith), e)
      go false n h = let e : 1 + n ≡ suc n = omega arith in let f : k + suc n ≡ suc k + n = omega arith in rw (e, f, leb-suc-suc (suc n) (length ws)) h

  pub position-is : (ws : List (List ℕ)) → cond (ltb (position_or_len is ws) (length ws)) (Some (position_or_len is ws)) None ≡ code_from 0 ws s
  position-is ws = let e : 0 + position_or_len is ws ≡ position_or_len is ws = omega arith in sym (position-from ws 0 ∙ rw e)

triples-step : (a b : List ℕ) → length a ≡ 3 → triples (a ++ b) ≡ a ∷ triples b
unfolding triples
triples-step [] b h = absurd (omega arith)
triples-step (x ∷ []) b h = absurd (omega arith)
triples-step (x ∷ y ∷ []) b h = absurd (omega arith)
triples-step (x ∷ y ∷ z ∷ []) b h = refl
triples-step (x ∷ y ∷ z ∷ w ∷ a) b h = absurd (omega arith)

triples-end : (l : List ℕ) → length l < 3 → triples l ≡ []
unfolding triples
triples-end [] g = refl
triples-end (a ∷ []) g = refl
triples-end (a ∷ b ∷ []) g = refl
triples-end (a ∷ b ∷ c ∷ m) g = absurd (omega arith)

-- the chunks of three bytes
pub YieldsList-from_codes : {it : _} (l : List ℕ) → chunks_exact_rest it ≡ l → chunks_exact_size it ≡ 3 → YieldsList chunks_exact_steps (λ x. x.now) it (triples l)
YieldsList-from_codes {it} l e z = rw (← e) (YieldsList-from_shown_while chunks_exact_steps (λ x. x.now) (λ s. triples (chunks_exact_rest s)) (λ s. chunks_exact_size s ≡ 3)
    (λ s t p h. rw (triples-end (chunks_exact_rest s) (omega (arith, p, h.1.0)))) (λ s x t p h. (h.0 ∙ p, rw h.1.0 (triples-step x.now (chunks_exact_rest t) (h.1.1 ∙ p)))) it z)
