-- A line written part by part, and how long lines are.
-- Assumes nothing.
use Prim.Native.Nat.{ℕ, ◌+◌, ◌<◌, ◌≤◌}
use Prim.Native.String.{String}
use native.Mathlib.Omega.{arith}
use mathlib.Core.Path.{◌≡◌}
use mathlib.Core.List.{List, [], ◌∷◌, ◌++◌}
use lib.ListN.{length, length-append}
use Rattle.buffer.specs.Over.{Put}
use Rattle.buffer.proofs.Over.{put_then}
use Rattle.text.specs.Literal.{ascii}
use Rattle.buffer.specs.Decimal.{decimal}
use Rattle.buffer.proofs.Decimal.{decimal-length}
use Rattle.listing.specs.Lines.{line, refused_lines, checked_lines}
use Rattle.listing.specs.Inner.{line_of, Near}

pub line-written : {key value l l₁ l₂ l₃ l₄ : List ℕ} {at a b c r : ℕ} → Put key l at l₁ a → Put (0x3D ∷ []) l₁ a l₂ b → Put value l₂ b l₃ c → Put (10 ∷ []) l₃ c l₄ r → Put (line_of key value) l at l₄ r
line-written p q v e = put_then p (put_then q (put_then v e))

-- a line with a short key, and a value of at most n bytes
pub line-near : (n : ℕ) (key value : List ℕ) {l l' : List ℕ} {at r : ℕ} → Put (line_of key value) l at l' r → length key ≤ 8 → length value ≤ n → Near (n + 10) (line_of key value) l at l' r
line-near n key value p h k =
    record {
      written = p;
      near = (let e = p.end in omega (arith, length-append key (0x3D ∷ value ++ (10 ∷ [])), length-append value (10 ∷ [])));
    }

pub line-length : (key : String) (value : List ℕ) → length (line key value) ≡ length (ascii key) + length value + 2
line-length key value = omega (arith, length-append (ascii key) (0x3D ∷ value ++ (10 ∷ [])), length-append value (10 ∷ []))

pub put-short : {s l l' : List ℕ} {at r : ℕ} (n : ℕ) → Put s l at l' r → length s ≤ n → r ≤ at + n
put-short n p h = let e = p.end in omega arith

-- a line with a number of 64 bits
pub count-length : (key : String) (n : ℕ) → n < 18446744073709551616 → length (line key (decimal n)) ≤ length (ascii key) + 22
count-length key n h = omega (arith, line-length key (decimal n), decimal-length n h)

pub refused-short : (number place : ℕ) → number < 18446744073709551616 → place < 18446744073709551616 → length (refused_lines number place) ≤ 256
unfolding refused_lines ascii
refused-short number place a b =
    omega
    (arith, line-length "verdict" (ascii "refused"), count-length "refusal" number a, count-length "place" place b, length-append (line "verdict" (ascii "refused")) (line "refusal" (decimal number) ++ line "place" (decimal place)), length-append (line "refusal" (decimal number)) (line "place" (decimal place)))

pub checked-short : (errors warnings infos total : ℕ) → errors < 18446744073709551616 → warnings < 18446744073709551616 → infos < 18446744073709551616 → total < 18446744073709551616 → length (checked_lines errors warnings infos total) ≤ 256
unfolding checked_lines ascii
checked-short errors warnings infos total a b c d =
    let last = line "findings" (decimal total) in
    let third = line "infos" (decimal infos) in
    let second = line "warnings" (decimal warnings) in
    let first = line "errors" (decimal errors) in
    omega
    (arith, line-length "verdict" (ascii "checked"), count-length "errors" errors a, count-length "warnings" warnings b, count-length "infos" infos c, count-length "findings" total d, length-append (line "verdict" (ascii "checked")) (first ++ (second ++ (third ++ last))), length-append first (second ++ (third ++ last)), length-append second (third ++ last), length-append third last)
