-- Document 02, K3: "Column becomes one plus the number of code points that begin at or after the line's start and before the finding's."
-- The line is that of `line_and_column`, whose column counts bytes.
use Rattle.std.specs.Prelude.{ℕ, zero, suc, ◌+◌, ◌-◌, Bool, not, ◌&&◌, List, [], ◌∷◌, eqb, leb, ltb, get_or, take, drop}
use Rattle.text.specs.Pick.{pick, within}
use Rattle.text.specs.Characters.{chars}
use Rattle.text.specs.declared.Decoded.{Decoded}

-- where the line of a place starts: behind the last byte 10 before the place, or at the text's start
unfoldable pub line_start : List ℕ → ℕ → ℕ
line_start s zero = 0
line_start s (suc n) = pick (eqb (get_or s n 0) 10) (suc n) (line_start s n)

-- where each of some characters begins, the first of them at a place
unfoldable pub beginnings : ℕ → List Decoded → List ℕ
beginnings at [] = []
beginnings at (c ∷ cs) = at ∷ beginnings (at + c.width) cs

-- how many of some places lie at or after one and before another
unfoldable pub count_between : ℕ → ℕ → List ℕ → ℕ
count_between from to [] = 0
count_between from to (p ∷ ps) = pick (leb from p && ltb p to) (suc (count_between from to ps)) (count_between from to ps)

-- the column of a place
unfoldable pub column_at : List ℕ → ℕ → ℕ
column_at s at = suc (count_between (line_start s at) at (beginnings 0 (chars s)))

-- ---- What the laws of the column speak of

-- the bytes from the start of a place's line up to the place
abbrev pub line_before : List ℕ → ℕ → List ℕ
line_before s at = take (at - line_start s at) (drop (line_start s at) s)

-- the byte lies outside 80 to BF
abbrev pub outside80_bf : ℕ → Bool
outside80_bf b = not (within 0x80 0xBF b)

-- how many of the bytes pass the test
unfoldable pub how_many : (ℕ → Bool) → List ℕ → ℕ
how_many p [] = 0
how_many p (b ∷ s) = pick (p b) (suc (how_many p s)) (how_many p s)
