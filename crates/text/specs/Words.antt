-- The words of a text, between runs of blank characters, and the text without the blanks around it.
use Rattle.std.specs.Prelude.{ℕ, zero, suc, ◌+◌, ◌-◌, Bool, true, false, not, List, [], ◌∷◌, eqb, length, drop}
use Rattle.text.specs.Pick.{Part, end}
use Rattle.text.specs.declared.Decoded.{Decoded}
use Rattle.text.specs.Blank.{blank}
use Rattle.text.specs.Characters.{chars, find}

abbrev pub not_blank : ℕ → Bool
not_blank c = not (blank c)

-- the Rust's `trim_start`
unfoldable pub trim_start : List ℕ → Part
trim_start s = record { start = find not_blank s; len = length s - find not_blank s }

-- of a blank character of the width, or one that isn't blank, and how many bytes are kept after it
abbrev pub kept_by : Bool → ℕ → ℕ → ℕ
kept_by true w zero = 0
kept_by true w (suc k) = w + suc k
kept_by false w k = w + k

-- how many bytes the characters take up to the end of the last that isn't blank
unfoldable pub kept : List Decoded → ℕ
kept [] = 0
kept (c ∷ cs) = kept_by (blank c.cp) c.width (kept cs)

-- the Rust's `trim`
unfoldable pub trim : List ℕ → Part
trim s = record { start = find not_blank s; len = kept (chars (drop (find not_blank s) s)) }

-- the Rust's `trim().is_empty()`
unfoldable pub blank_text : List ℕ → Bool
blank_text s = eqb (trim s).len 0

-- the first word from a place on; at the end, and empty, where there is none
unfoldable pub word_from : ℕ → List ℕ → Part
word_from i s = record { start = i + find not_blank (drop i s); len = find blank (drop (i + find not_blank (drop i s)) s) }

-- the Rust's `split_whitespace`, its first word and its second
abbrev pub first_word : List ℕ → Part
first_word s = word_from 0 s

abbrev pub second_word : List ℕ → Part
second_word s = word_from (end (first_word s)) s
