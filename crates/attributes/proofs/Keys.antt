-- The letters of a key.
-- Assumes nothing.
use Prim.Native.Nat.{ℕ, ◌+◌, ◌*◌, ◌%◌, ◌<◌}
use native.Mathlib.Omega.{arith}
use mathlib.Core.Path.{◌≡◌, sym, ap, ◌∙◌}
use mathlib.Core.Bool.{true, false}
use mathlib.Core.Logic.{inr}
use lib.ListN.{length, get_or, drop}
use mathlib.Core.List.{List}
use borrow.Author.Tests.{ne_eqb}
use Rattle.text.specs.Pick.{within}
use Rattle.text.specs.Utf8.{width_of}
use Rattle.text.specs.Characters.{find}
use Rattle.text.specs.declared.Decoded.{Decoded}
use Rattle.text.proofs.Rows.{within-lo, within-hi}
use Rattle.text.proofs.Blank.{low-not-blank, middle-not-blank}
use Rattle.text.proofs.Scan.{ascii-one}
use Rattle.text.proofs.Decode.{decode-1, decode-2}
use Rattle.text.proofs.Chars.{past}
use Rattle.attributes.specs.Inner.{ends_key}

-- a small letter ends no key
letter-goes-on : (b : ℕ) → within 0x61 0x7A b ≡ true → ends_key b ≡ false
letter-goes-on b h =
    let lo = within-lo 0x61 0x7A b h in
    let hi = within-hi 0x61 0x7A b h in
    rw (ne_eqb b 0x3D (λ z. omega arith)) (low-not-blank b (omega arith) (λ z. omega arith) (inr (omega arith)))

two-goes-on : (b c : ℕ) → within 0xC3 0xDF b ≡ true → ends_key (b % 32 * 64 + c % 64) ≡ false
two-goes-on b c h =
    let lo = within-lo 0xC3 0xDF b h in
    let hi = within-hi 0xC3 0xDF b h in
    let low : 0xA0 < b % 32 * 64 + c % 64 = omega arith in
    let high : b % 32 * 64 + c % 64 < 0x1680 = omega arith in
    rw (ne_eqb (b % 32 * 64 + c % 64) 0x3D (λ z. omega arith)) (middle-not-blank (b % 32 * 64 + c % 64) low high)

pub letter-past : (s : List ℕ) (i : ℕ) → i < length s → within 0x61 0x7A (get_or s i 0) ≡ true → i + find ends_key (drop i s) ≡ i + 1 + find ends_key (drop (i + 1) s)
letter-past s i h e =
    let hi = within-hi 0x61 0x7A (get_or s i 0) e in
    let d = decode-1 s i h (ascii-one s i h (omega arith)) in
    past ends_key s i 1 h (ap (λ (d : Decoded). d.width) d) (ap (λ (d : Decoded). ends_key d.cp) (sym d) ∙ letter-goes-on (get_or s i 0) e)

-- nor does a character of two bytes from C3 80 on
pub two_past : (s : List ℕ) (i : ℕ) → i < length s → within 0xC3 0xDF (get_or s i 0) ≡ true → width_of (drop i s) ≡ 2 → i + find ends_key (drop i s) ≡ i + 2 + find ends_key (drop (i + 2) s)
two_past s i h e w =
    let d = decode-2 s i h w in
    past ends_key s i 2 h (ap (λ (d : Decoded). d.width) d) (ap (λ (d : Decoded). ends_key d.cp) (sym d) ∙ two-goes-on (get_or s i 0) (get_or s (i + 1) 0) e)
