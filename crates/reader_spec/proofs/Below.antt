-- Laws about parts of a text and the bytes at their ends.
-- Assumes nothing.
use mathlib.Core.Path.{◌≡◌, refl, sym, ap, ◌∙◌}
use mathlib.Core.Bool.{Bool, true, false}
use mathlib.Core.List.{List, [], ◌∷◌, ◌++◌, append_assoc, Memᴰ}
use Prim.Native.Nat.{ℕ, zero, suc, ◌+◌, ◌<◌, ◌≤◌}
use native.Mathlib.Nat.{not-suc-le-zero}
use native.Mathlib.Omega.{arith}
use lib.Dec.{eqb}
use lib.ListN.{length, get_or, take, drop, length-append, get_or-append}
use borrow.Author.Tests.{eqb-true}
use Rattle.text.specs.Pick.{Range, pick}
use Rattle.text.specs.Utf8.{table3_7, width_of, fits, Made, nothing, more, decoded, decode}
use Rattle.text.specs.Characters.{bytes_before, find, find_byte, is_boundary}
use Rattle.text.proofs.Rows.{row-long, row-begins}
use Rattle.text.proofs.Chars.{chars-nil}
use Rattle.text.proofs.Exact.{fits-length, fits-begins}
use Rattle.text.proofs.Boundary.{seq-decode, seq-chars}
use Rattle.text.proofs.Find.{find-ascii}
use Rattle.text.proofs.WellFormed.{made-find-from, made-past-ascii}

-- the code point of a sequence depends on its own bytes alone
decoded-same : (w : ℕ) (l v : List ℕ) → w ≤ length l → decoded w (l ++ v) ≡ decoded w l
unfolding decoded
decoded-same zero l v h = refl
decoded-same (suc zero) l v h = rw (get_or-append l v 0 0 h)
decoded-same (suc (suc zero)) l v h = rw (get_or-append l v 0 0 (omega arith), get_or-append l v 0 1 (omega arith))
decoded-same (suc (suc (suc zero))) l v h = rw (get_or-append l v 0 0 (omega arith), get_or-append l v 0 1 (omega arith), get_or-append l v 0 2 (omega arith))
decoded-same (suc (suc (suc (suc w)))) l v h = rw (get_or-append l v 0 0 (omega arith), get_or-append l v 0 1 (omega arith), get_or-append l v 0 2 (omega arith), get_or-append l v 0 3 (omega arith))

decode-row : (row : List Range) (b : ℕ) (a t : List ℕ) → Memᴰ row table3_7 → fits row (b ∷ a) ≡ true → decode (b ∷ a ++ t) ≡ decoded (suc (length a)) (b ∷ a)
unfolding decode
decode-row row b a t m f =
    let wide : width_of (b ∷ a ++ t) ≡ suc (length a) = row-begins row (b ∷ a ++ t) m (fits-begins row (b ∷ a) t f) ∙ sym (fits-length row (b ∷ a) f) in
    rw wide (decoded-same (suc (length a)) (b ∷ a) t (omega arith))

-- what is found in a text, where it is found in a beginning of it
pub find-part : (p : ℕ → Bool) {u : List ℕ} (v : List ℕ) → Made u → find p (u ++ v) ≤ length u → find p u ≡ find p (u ++ v)
unfolding bytes_before
find-part p v nothing h = rw chars-nil (omega arith)
find-part p v (more row [] m f r e) h = absurd (omega (arith, row-long row m, fits-length row [] f))
find-part p v (more row (b ∷ a) {s} {l} m f r e) h =
    let same : decode (b ∷ a ++ s) ≡ decode (b ∷ a ++ (s ++ v)) = decode-row row b a s m f ∙ sym (decode-row row b a (s ++ v) m f) in
    rw (e, append_assoc a s v, seq-chars row b a s m f, seq-chars row b a (s ++ v) m f, same, seq-decode row b a (s ++ v) m f)
    (go (p (decode (b ∷ a ++ (s ++ v))).cp) (rw (e, append_assoc a s v, seq-chars row b a (s ++ v) m f, seq-decode row b a (s ++ v) m f) at h) (find-part p v r))
  where
    go : (x : Bool) → pick x 0 (suc (length a) + find p (s ++ v)) ≤ length (b ∷ a ++ s) → (find p (s ++ v) ≤ length s → find p s ≡ find p (s ++ v)) → pick x 0 (suc (length a) + find p s) ≡ pick x 0 (suc (length a) + find p (s ++ v))
    go true h ih = refl
    go false h ih = ap (suc (length a) +◌) (ih (omega (arith, length-append a s)))

-- a byte is found in a beginning of a list as in the list, or not at all
pub part-or-end : (p : ℕ → Bool) (l : List ℕ) (n : ℕ) → n ≤ length l → (find_byte p (take n l) ≡ find_byte p l → ⊥) → find_byte p (take n l) ≡ n
unfolding find_byte
part-or-end p l zero h k = refl
part-or-end p [] (suc n) h k = absurd (not-suc-le-zero h)
part-or-end p (b ∷ l) (suc n) h k = go (p b) k (part-or-end p l n (omega arith))
  where
    go : (x : Bool) → (pick x 0 (suc (find_byte p (take n l))) ≡ pick x 0 (suc (find_byte p l)) → ⊥) → ((find_byte p (take n l) ≡ find_byte p l → ⊥) → find_byte p (take n l) ≡ n) → pick x 0 (suc (find_byte p (take n l))) ≡ suc n
    go true k ih = absurd (k refl)
    go false k ih = ap suc (ih (λ z. k (ap suc z)))

-- a byte that is there
pub record There (l : List ℕ) (k c : ℕ) : Type 0 where
  pub inside : k < length l
  pub is : get_or l k 0 ≡ c

pub byte-there : (c : ℕ) (l : List ℕ) (k : ℕ) → c < 256 → eqb (get_or l k 256) c ≡ true → There l k c
byte-there c l k h e = go l k (eqb-true (get_or l k 256) c e)
  where
    go : (l : List ℕ) (k : ℕ) → get_or l k 256 ≡ c → There l k c
    go [] k z = absurd (omega arith)
    go (b ∷ l) zero z = record { inside = omega arith; is = z }
    go (b ∷ l) (suc k) z = let r = go l k z in let i = r.inside in record { inside = omega arith; is = r.is }

-- boundaries of a well-formed text: before an ASCII byte that is looked for, and past one that is there
pub byte-boundary : {l : List ℕ} → Made l → (c k : ℕ) → c < 0x80 → is_boundary l k ≡ true → is_boundary l (k + find_byte (eqb c) (drop k l)) ≡ true
byte-boundary {l} m c k h b = rw (find-ascii c (drop k l) h) (made-find-from m (eqb c) k b)

pub past-byte : {l : List ℕ} → Made l → (c k : ℕ) → c < 0x80 → eqb (get_or l k 256) c ≡ true → is_boundary l k ≡ true → is_boundary l (k + 1) ≡ true
past-byte {l} m c k h e b = let t = byte-there c l k (omega arith) e in made-past-ascii m k b t.inside (rw t.is h)
