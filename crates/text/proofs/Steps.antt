-- What a search for the first character that passes a test may do at a place: past a character, or at one that passes.
-- Assumes nothing.
use mathlib.Core.Path.{◌≡◌, refl, ap}
use mathlib.Core.Bool.{Bool, true, false}
use mathlib.Core.List.{List}
use Prim.Native.Nat.{ℕ, ◌+◌, ◌<◌}
use native.Mathlib.Omega.{arith}
use lib.ListN.{length, get_or, drop}
use Rattle.text.specs.declared.Decoded.{Decoded}
use Rattle.text.specs.Utf8.{decode}
use Rattle.text.specs.Characters.{find}
use Rattle.text.specs.Inner.{NonePass}
use Rattle.text.proofs.Scan.{ascii-one}
use Rattle.text.proofs.Decode.{decode-1}
use Rattle.text.proofs.Chars.{in-text, past, stops, tested-by}

module _ (p : ℕ → Bool) (s : List ℕ) (at : ℕ) (some : at < length s) where
  -- a character that is decoded
  module _ (d : Decoded) (x : Bool) (is : d ≡ decode (drop at s)) (test : x ≡ p d.cp) where
    pub decoded_past : x ≡ false → NonePass p s at d.width
    decoded_past y =
        let w = ap (λ (d : Decoded). d.width) is in
        let t = in-text s at some in
        record { some = omega arith; inside = omega arith; same = past p s at d.width some w (tested-by p s at d x false is test y) }

    pub decoded-stops : x ≡ true → at + find p (drop at s) ≡ at
    decoded-stops y = stops p s at some (tested-by p s at d x true is test y)

  -- an ASCII byte
  module _ (low : get_or s at 0 < 0x80) where
    ascii : record { cp = get_or s at 0; width = 1 } ≡ decode (drop at s)
    ascii = decode-1 s at some (ascii-one s at some low)

    pub ascii_past : p (get_or s at 0) ≡ false → NonePass p s at 1
    ascii_past y = decoded_past (record { cp = get_or s at 0; width = 1 }) (p (get_or s at 0)) ascii refl y

    pub ascii-stops : p (get_or s at 0) ≡ true → at + find p (drop at s) ≡ at
    ascii-stops y = decoded-stops (record { cp = get_or s at 0; width = 1 }) (p (get_or s at 0)) ascii refl y
