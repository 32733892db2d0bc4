-- How many characters and notes are open behind a piece.
use Rattle.std.specs.Prelude.{ℕ, ◌+◌, ◌-◌}
use Rattle.pieces.specs.declared.Piece.{Piece}
use Rattle.pieces.specs.declared.Piece.TheVariants as found

-- a character or note marker is one more, a close one less
abbrev pub depth_after : Piece → ℕ → ℕ
depth_after (found.Run n) d = d
depth_after (found.Close n) d = d - 1
depth_after (found.Block m n) d = d
depth_after (found.Chapter m n) d = d
depth_after (found.Verse m n) d = d
depth_after (found.Inline m n) d = d + 1
depth_after (found.Milestone m n x y) d = d
depth_after (found.Fault k) d = d
