-- Hexadecimal digits, upper case.
use Rattle.std.specs.Prelude.{ℕ, ◌-◌, leb}
use Rattle.text.specs.Pick.{pick}

-- the value of a digit, 0 to 9 and A to F; 16 for any other byte
abbrev pub hex_digit : ℕ → ℕ
hex_digit b =
    pick (leb b 0x2F) 16 (pick (leb b 0x39) (b - 0x30) (pick (leb b 0x40) 16 (pick (leb b 0x46) (b - 0x37) 16)))
