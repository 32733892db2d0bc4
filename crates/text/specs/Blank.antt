-- Document 01, module 1: "A code point is blank exactly in these ranges (hexadecimal, Unicode White_Space): 9 to D, 20, 85, A0, 1680, 2000 to 200A, 2028, 2029, 202F, 205F, 3000."
use Rattle.std.specs.Prelude.{ℕ, Bool, List, [], ◌∷◌}
use Rattle.text.specs.Pick.{Range, range, in_any}

unfoldable pub blank_ranges : List Range
blank_ranges =
    range 0x09 0x0D
    ∷ range 0x20 0x20
    ∷ range 0x85 0x85
    ∷ range 0xA0 0xA0
    ∷ range 0x1680 0x1680
    ∷ range 0x2000 0x200A
    ∷ range 0x2028 0x2028
    ∷ range 0x2029 0x2029
    ∷ range 0x202F 0x202F
    ∷ range 0x205F 0x205F
    ∷ range 0x3000 0x3000
    ∷ []

unfoldable pub blank : ℕ → Bool
blank c = in_any blank_ranges c
