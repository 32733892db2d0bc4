-- What the functions inside the crate promise of a place that they reach.
use Rattle.std.specs.Prelude.{ℕ, ◌+◌, ◌*◌, ◌%◌, ◌^◌, ◌<◌, ◌≤◌, ◌≡◌, Bool, List, length, get_or, drop}
use Rattle.text.specs.Pick.{same}
use Rattle.text.specs.Utf8.{width_of, scan}
use Rattle.std.specs.Prelude.{Option, Some, None}
use Rattle.text.specs.Blank.{blank}
use Rattle.text.specs.Characters.{find}

-- the code point is blank (t is true), or isn't
abbrev pub blank_is : Bool → ℕ → Bool
blank_is t c = same t (blank c)

-- the byte at a place of the text lies between the two ends, both included
pub record Led (s : List ℕ) (at lo hi : ℕ) : Type 0 where
  pub inside : at < length s
  pub low : lo ≤ get_or s at 0
  pub high : get_or s at 0 ≤ hi

-- a scan passes r bytes at a place, or none, where an ill-formed sequence begins
pub record Passed (s : List ℕ) (at r : ℕ) : Type 0 where
  pub none : r ≡ 0 → width_of (drop at s) ≡ 0
  pub some : 0 < r → scan (drop at s) 0 at ≡ scan (drop (at + r) s) 0 (at + r)
  pub inside : at + r ≤ length s

-- the bytes from one place to another are ASCII
abbrev pub Ascii : List ℕ → ℕ → ℕ → Type 0
Ascii s from to = (k : ℕ) → from ≤ k → k < to → get_or s k 0 < 0x80

-- four bytes as a number, the first the lowest
abbrev pub four_bytes : List ℕ → ℕ → ℕ
four_bytes s at = get_or s at 0 + 256 * get_or s (at + 1) 0 + 65536 * get_or s (at + 2) 0 + 16777216 * get_or s (at + 3) 0

-- eight bytes likewise
abbrev pub eight_bytes : List ℕ → ℕ → ℕ
eight_bytes s at = four_bytes s at + 4294967296 * four_bytes s (at + 4)

-- as many of eight bytes are ASCII as the number has bytes of zero at its low end
abbrev pub High : List ℕ → ℕ → ℕ → Type 0
High s at r = (j : ℕ) → j ≤ 8 → r % 2 ^ (8 * j) ≡ 0 → Ascii s at (at + j)

-- the place lies n bytes past another, inside the text or at its end
pub record Ended (s : List ℕ) (from n r : ℕ) : Type 0 where
  pub is : r ≡ from + n
  pub inside : r ≤ length s

-- no character that passes the test begins among the n bytes at a place
pub record NonePass (p : ℕ → Bool) (s : List ℕ) (at n : ℕ) : Type 0 where
  pub some : 0 < n
  pub inside : at + n ≤ length s
  pub same : at + find p (drop at s) ≡ at + n + find p (drop (at + n) s)

-- how many bytes a search for the first character that passes goes on from a place, or none where one passes there
abbrev pub IsStep : (ℕ → Bool) → List ℕ → ℕ → Option ℕ → Type 0
IsStep p s at None = at + find p (drop at s) ≡ at
IsStep p s at (Some n) = NonePass p s at n

-- whether a byte passes a test of ASCII characters, where that is known of the byte alone
abbrev pub IsOfByte : (ℕ → Bool) → ℕ → Option Bool → Type 0
IsOfByte p b None = Unit {0}
IsOfByte p b (Some t) = (b < 0x80) × (p b ≡ t)
