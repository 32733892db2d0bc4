-- Document 01, module 1: "`parse` to u32: one optional `+`, then one or more digits, value at most 4,294,967,295."
use Rattle.std.specs.Prelude.{ℕ, ◌+◌, ◌-◌, ◌*◌, Bool, true, ◌&&◌, List, [], ◌∷◌, leb, eqb}
use Rattle.std.specs.Prelude.{Option, Some, None}
use Rattle.text.specs.Pick.{within, pick}

-- the ASCII digits, 0 to 9
abbrev pub digit : ℕ → Bool
digit b = within 0x30 0x39 b

unfoldable pub all_digits : List ℕ → Bool
all_digits [] = true
all_digits (b ∷ s) = digit b && all_digits s

-- the number that the digits make behind the number n
unfoldable pub value_from : ℕ → List ℕ → ℕ
value_from n [] = n
value_from n (b ∷ s) = value_from (n * 10 + (b - 0x30)) s

-- the digits behind the number n, if they are digits and their number is at most the limit
unfoldable pub digits_from : ℕ → List ℕ → Option ℕ
digits_from n s = pick (all_digits s && leb (value_from n s) 4294967295) (Some (value_from n s)) None

unfoldable pub digits : List ℕ → Option ℕ
digits [] = None
digits (b ∷ s) = digits_from 0 (b ∷ s)

-- 0x2B is `+`
unfoldable pub parsed : List ℕ → Option ℕ
parsed [] = None
parsed (b ∷ s) = pick (eqb b 0x2B) (digits s) (digits (b ∷ s))
