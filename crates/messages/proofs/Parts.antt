-- What a text shows of a source is no longer than the source; a verse position has one letter or none.
-- Assumes nothing.
use Prim.Native.Nat.{ℕ, zero, suc, ◌+◌, ◌≤◌}
use mathlib.Core.Path.{◌≡◌, refl}
use mathlib.Core.List.{List, [], ◌∷◌}
use native.Mathlib.Omega.{arith}
use lib.Dec.{eqb}
use lib.ListN.{length}
use Rattle.text.specs.Pick.{cut}
use Rattle.text.specs.Words.{first_word}
use Rattle.tape.specs.Nodes.{span, node_at, text_kind}
use Rattle.tape.specs.Forest.{forest, Nested, done, one, inner}
use Rattle.tape.proofs.Nest.{forest-done, forest-leaf, forest-node}
use Rattle.cursor.specs.Inner.{Run}
use Rattle.definition.specs.Checks.{book_code}
use Rattle.message_texts.proofs.Filling.{pick-within}
use Rattle.messages.specs.Message.{letter_bytes}
use Rattle.messages.proofs.Lengths.{cut_short}

-- the book code of a run
code-short : (s t : List ℕ) {d a b : ℕ} → Nested t d a b → length (book_code (forest s t a b)) ≤ length s
unfolding book_code
code-short s t {d} {a} {b} (done e) = rw (forest-done s t a b (omega arith)) (omega arith)
code-short s t {d} {a} {b} (one h z r) =
    let x = node_at s t a in
    let w = cut_short (first_word x.text) x.text in
    let c = cut_short (span t a) s in
    rw (forest-leaf s t h z r) (pick-within (length s) (eqb x.kind text_kind) (cut (first_word x.text) x.text) (book_code (forest s t (a + 1) b)) (omega (arith, w, c)) (code-short s t r))
code-short s t (inner h z c r) = rw (forest-node s t h z c r) (code-short s t r)

pub code_inside : (s t : List ℕ) (a b : ℕ) (code : List ℕ) → Run s t a b → code ≡ book_code (forest s t a b) → length code ≤ length s
code_inside s t a b code run is = rw is (code-short s t run.nested)

-- the letter of a verse position
pub letter-none : (n : ℕ) → n ≡ 0 → letter_bytes n ≡ []
letter-none zero e = refl
letter-none (suc n) e = absurd (omega arith)

pub letter-one : (n : ℕ) → (n ≡ 0 → ⊥) → letter_bytes n ≡ n ∷ []
letter-one zero e = absurd (e refl)
letter-one (suc n) e = refl
