-- What the code's answer means: the piece that it stands for, at the bytes that it was found at.
use Rattle.std.specs.Prelude.{ℕ, ◌+◌, ◌-◌, List, eqb, length, take}
use Rattle.std.specs.Prelude.{Option, Some, None}
use Rattle.text.specs.Characters.{find_byte}
use Rattle.table.specs.Entries.{Entry, entries, nth}
use Rattle.cursor.specs.Names.{name_of}
use Rattle.numbers.specs.Label.{label_of}
use Rattle.numbers.specs.Verse.{verse_part}
use Rattle.reader_spec.specs.Pieces.{bar, number_or0, run, close, block, chapter, verse, inline, milestone, fault}
use Rattle.reader_spec.specs.Pieces as pieces
use Rattle.refusals.specs.Reasons.{number_of}
use Rattle.pieces.specs.declared.Piece.{Piece}
use Rattle.pieces.specs.declared.Piece.TheVariants as found

-- the link of a Chapter or Verse of an entry with this text; a number that the table doesn't have has no link
abbrev pub link_by : Option Entry → List ℕ → ℕ
link_by None x = 0
link_by (Some e) x = number_or0 (verse_part (label_of (Some e) x))

-- of a table and a list of bytes. The answer leaves out what a caller may read off the bytes when it needs it: a run's first `|`, a name, a link
abbrev pub shown : List ℕ → List ℕ → Piece → pieces.Piece
shown t l (found.Run n) = run (find_byte (eqb bar) (take n l)) (n - find_byte (eqb bar) (take n l))
shown t l (found.Close n) = close (name_of l) n
shown t l (found.Block m n) = block m n
shown t l (found.Chapter m n) = chapter m n (link_by (nth (entries t) m) (take n l))
shown t l (found.Verse m n) = verse m n (link_by (nth (entries t) m) (take n l))
shown t l (found.Inline m n) = inline m (name_of l) n
shown t l (found.Milestone m n x y) = milestone m n x y
shown t l (found.Fault r) = fault (number_of r) (length l)

-- how many bytes belong to it, of so many that are left from its first on
abbrev pub bytes_of : Piece → ℕ → ℕ
bytes_of (found.Run n) rest = n
bytes_of (found.Close n) rest = n
bytes_of (found.Block m n) rest = n
bytes_of (found.Chapter m n) rest = n
bytes_of (found.Verse m n) rest = n
bytes_of (found.Inline m n) rest = n
bytes_of (found.Milestone m n x y) rest = n + x + y + 2
bytes_of (found.Fault r) rest = rest
