-- When number 1 is given, and with which place: "first byte of the first bad line, or the text's length if a triple is unfinished".
use Rattle.std.specs.Prelude.{ℕ, suc, ◌%◌, ◌≡◌, Bool, true, false, ◌&&◌, List, [], ◌∷◌, ◌++◌, ◌⊎◌, length}
use Rattle.table.specs.Lines.{Line, lines, good_line}

-- the lines from line number k on are good
unfoldable pub good_from : ℕ → List Line → Bool
good_from k [] = true
good_from k (l ∷ ls) = good_line k l && good_from (suc k) ls

-- the first byte of the first bad line
pub record BadLine (t : List ℕ) (p : ℕ) : Type 0 where
  pub before : List Line
  pub line : Line
  pub after : List Line
  pub all : lines 0 t ≡ before ++ (line ∷ after)
  pub good : good_from 0 before ≡ true
  pub bad : good_line (length before) line ≡ false
  pub place : line.at ≡ p

-- or the text's length, where no line is bad and a triple is unfinished
pub record Unfinished (t : List ℕ) (p : ℕ) : Type 0 where
  pub good : good_from 0 (lines 0 t) ≡ true
  pub unfinished : length (lines 0 t) % 3 ≡ 0 → ⊥
  pub place : length t ≡ p

abbrev pub NumberOne : List ℕ → ℕ → Type 0
NumberOne t p = BadLine t p ⊎ Unfinished t p
