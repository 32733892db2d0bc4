-- Lists of bytes: equality, tests of every byte, membership, and capitals.
use Rattle.std.specs.Prelude.{ℕ, ◌-◌, Bool, true, false, ◌&&◌, ◌||◌, List, [], ◌∷◌, eqb, length, take, drop}
use Rattle.text.specs.Pick.{within, pick}

unfoldable pub equal : List ℕ → List ℕ → Bool
equal [] [] = true
equal [] (b ∷ t) = false
equal (a ∷ s) [] = false
equal (a ∷ s) (b ∷ t) = eqb a b && equal s t

-- every byte passes the test
unfoldable pub all : (ℕ → Bool) → List ℕ → Bool
all p [] = true
all p (b ∷ s) = p b && all p s

-- the list is one of the words
unfoldable pub one_of : List (List ℕ) → List ℕ → Bool
one_of [] s = false
one_of (w ∷ ws) s = equal w s || one_of ws s

-- the list begins with the word
abbrev pub starting : List ℕ → List ℕ → Bool
starting w s = equal w (take (length w) s)

-- what follows the word that the list begins with
abbrev pub beyond : List ℕ → List ℕ → List ℕ
beyond w s = drop (length w) s

-- a capital for a small letter of ASCII
abbrev pub capital : ℕ → ℕ
capital b = pick (within 0x61 0x7A b) (b - 32) b

unfoldable pub upper : List ℕ → List ℕ
upper [] = []
upper (b ∷ s) = capital b ∷ upper s
