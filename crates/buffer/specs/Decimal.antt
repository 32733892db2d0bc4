-- A number in decimal digits.
use Rattle.std.specs.Prelude.{ℕ, zero, suc, ◌+◌, ◌/◌, ◌%◌, cond, List, [], ◌∷◌, ◌++◌, ltb}

-- the digits of a number below k; a `let`, so that `more` is computed only where it is read
unfoldable pub decimal_fuel : ℕ → ℕ → List ℕ
decimal_fuel zero n = []
decimal_fuel (suc k) n =
    let more = decimal_fuel k (n / 10) ++ ((48 + n % 10) ∷ []) in
    cond (ltb n 10) ((48 + n) ∷ []) more

-- the decimal digits of a number, the most significant first, without leading zeros
unfoldable pub decimal : ℕ → List ℕ
decimal n = decimal_fuel (suc n) n
