-- Book codes have three bytes, and so has a code in upper case that is a book.
-- Assumes nothing.
use Prim.Native.Nat.{ℕ, ◌-◌}
use mathlib.Core.Path.{◌≡◌, refl, sym, ◌∙◌}
use mathlib.Core.Bool.{Bool, true, false}
use mathlib.Core.List.{List, [], ◌∷◌}
use native.Mathlib.Omega.{arith}
use lib.Dec.{eqb}
use lib.ListN.{length, get_or}
use borrow.Author.Tests.{ne_eqb}
use Rattle.text.specs.Pick.{within, pick}
use Rattle.table.specs.Books.{book_codes, book_of}
use Rattle.table.proofs.Words.{one-of, every, one_passes}
use Rattle.definition.specs.Checks.{is_book}
use Rattle.text.specs.Literal.{ascii}
use Rattle.text.specs.Bytes.{one_of, upper}

book-one : (s : List ℕ) → is_book s ≡ one_of book_codes s
unfolding book_of
book-one s = sym (one-of book_codes s 0)

pub no-book : (s : List ℕ) → (length s ≡ 3 → ⊥) → false ≡ is_book s
unfolding ascii every book_codes
no-book s h = go (one_of book_codes s) refl ∙ sym (book-one s)
  where
    go : (t : Bool) → one_of book_codes s ≡ t → false ≡ one_of book_codes s
    go true e = sym (ne_eqb (length s) 3 h) ∙ one_passes (λ (w : List ℕ). eqb (length w) 3) book_codes s refl e ∙ sym e
    go false e = sym e

pub length-upper : (s : List ℕ) → length (upper s) ≡ length s
unfolding upper
length-upper [] = refl
length-upper (b ∷ s) = let e = length-upper s in omega arith

pub no-upper-book : (s : List ℕ) → (length s ≡ 3 → ⊥) → false ≡ is_book (upper s)
no-upper-book s h = no-book (upper s) (λ e. h (sym (length-upper s) ∙ e))

abbrev pub upper_byte : ℕ → ℕ
upper_byte b = pick (within 0x61 0x7A b) (b - 32) b

pub upper-three : (s : List ℕ) (a b c : ℕ) → length s ≡ 3 → a ≡ upper_byte (get_or s 0 0) → b ≡ upper_byte (get_or s 1 0) → c ≡ upper_byte (get_or s 2 0) → is_book (a ∷ b ∷ c ∷ []) ≡ is_book (upper s)
unfolding upper
upper-three (x ∷ y ∷ z ∷ []) a b c h p q r = rw (p, q, r)
upper-three [] a b c h p q r = absurd (omega arith)
upper-three (x ∷ []) a b c h p q r = absurd (omega arith)
upper-three (x ∷ y ∷ []) a b c h p q r = absurd (omega arith)
upper-three (x ∷ y ∷ z ∷ w ∷ s) a b c h p q r = absurd (omega arith)
