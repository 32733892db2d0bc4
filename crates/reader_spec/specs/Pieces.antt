-- Document 02, K5: the pieces of a text. How far a piece reaches depends on the text and the table alone, never on what is open around it.
use Rattle.std.specs.Prelude.{ℕ, zero, suc, pred, ◌+◌, ◌-◌, Bool, ◌&&◌, ◌||◌, List, [], ◌∷◌, eqb, length, get_or, take, drop}
use Rattle.std.specs.Prelude.{Option, Some, None}
use Rattle.text.specs.Pick.{pick, end}
use Rattle.text.specs.Blank.{blank}
use Rattle.text.specs.Characters.{find, find_byte}
use Rattle.text.specs.Words.{not_blank}
use Rattle.table.specs.Entries.{Entry, entries, nth}
use Rattle.table.specs.Inner.{category_at}
use Rattle.table.specs.Names.{looked_up}
use Rattle.table.specs.declared.Category.{Category}
use Rattle.table.specs.declared.Category.TheVariants as category
use Rattle.cursor.specs.Names.{name_part, name_of}
use Rattle.numbers.specs.Label.{is_glued, label_of}
use Rattle.numbers.specs.Verse.{PartReading, position, no_digits, too_large, verse_part}
use Rattle.refusals.specs.Refusal.{unknown_marker, unmatched_marker}

-- a piece, with the numbers of bytes that belong to it
pub data Piece : Type 0 where
  -- up to a backslash or the end: the bytes before the first `|`, and those from there on
  run : ℕ → ℕ → Piece
  -- `\name*`: the name as written, and the bytes
  close : List ℕ → ℕ → Piece
  -- a paragraph or identification marker: its number in the table, and the bytes
  block : ℕ → ℕ → Piece
  -- a Chapter or a Verse: its marker, the bytes, and the link
  chapter : ℕ → ℕ → ℕ → Piece
  verse : ℕ → ℕ → ℕ → Piece
  -- a character or note marker: its number in the table, its name as written, and the bytes
  inline : ℕ → List ℕ → ℕ → Piece
  -- a milestone: its marker, the bytes of the marker, of the blanks and of the attributes after it. `\*` closes it
  milestone : ℕ → ℕ → ℕ → ℕ → Piece
  -- number 16 or 17 where the piece begins; all the rest of the text belongs to it
  fault : ℕ → ℕ → Piece

-- how many bytes belong to a piece; a milestone's `\*` are two
abbrev pub size_of : Piece → ℕ
size_of (run x y) = x + y
size_of (close name n) = n
size_of (block m n) = n
size_of (chapter m n link) = n
size_of (verse m n link) = n
size_of (inline m name n) = n
size_of (milestone m n x y) = n + x + y + 2
size_of (fault number n) = n

-- `\`, `*` and `|`
abbrev pub backslash : ℕ
backslash = 0x5C

abbrev pub star : ℕ
star = 0x2A

abbrev pub bar : ℕ
bar = 0x7C

-- the byte stands at a place of the list; past its end there is none
abbrev pub byte_is : ℕ → List ℕ → ℕ → Bool
byte_is b l k = eqb (get_or l k 256) b

-- `\*` stands at a place of the list
abbrev pub star_at : List ℕ → ℕ → Bool
star_at l k = byte_is backslash l k && byte_is star l (k + 1)

-- where the name ends of the marker that the list begins with: up to there reach a backslash, `+` if any, and the name
abbrev pub name_end : List ℕ → ℕ
name_end l = end (name_part l)

-- how many bytes are blank from a place on
abbrev pub blanks_at : List ℕ → ℕ → ℕ
blanks_at l k = find not_blank (drop k l)

-- "its number word, which stops before a blank or backslash"
abbrev pub ends_word : ℕ → Bool
ends_word c = blank c || eqb c backslash

-- "the blanks after it and, where there are any, its number word": without blanks there is no number word
abbrev pub with_word : ℕ → ℕ → List ℕ → ℕ
with_word at zero l = at
with_word at (suc k) l = at + suc k + find ends_word (drop (at + suc k) l)

-- "A Chapter or Verse is one node with its marker, the blanks after it and, where there are any, its number word ..; a glued one ends with its name."
unfoldable pub number_size : Entry → List ℕ → ℕ
number_size e l = pick (is_glued (Some e) (name_of l)) (name_end l) (with_word (name_end l) (blanks_at l (name_end l)) l)

abbrev pub number_or0 : PartReading → ℕ
number_or0 (position p) = p.number
number_or0 no_digits = 0
number_or0 too_large = 0

-- "Its link is the label's leading number, or 0 if none can be read.": of the label that the check reads off the node's text
unfoldable pub number_link : Entry → List ℕ → ℕ
number_link e l = number_or0 (verse_part (label_of (Some e) (take (number_size e l) l)))

-- "to the next backslash": how many bytes from a place on
abbrev pub to_backslash : List ℕ → ℕ → ℕ
to_backslash l k = find_byte (eqb backslash) (drop k l)

-- where a milestone's `|` must stand, and the `\*` after its attributes
abbrev pub bar_at : List ℕ → ℕ
bar_at l = name_end l + blanks_at l (name_end l)

abbrev pub last_at : List ℕ → ℕ
last_at l = bar_at l + to_backslash l (bar_at l)

-- "attributes that only blanks part from it", and `\*` after these
abbrev pub closed_after : List ℕ → Bool
closed_after l = byte_is bar l (bar_at l) && star_at l (last_at l)

-- "milestones [close] by `\*` directly after the name, or after attributes that only blanks part from it"; 17 for "a milestone not closed as above"
unfoldable pub milestone_piece : ℕ → List ℕ → Piece
milestone_piece m l =
    pick (star_at l (name_end l)) (milestone m (name_end l) 0 0)
    (pick (closed_after l) (milestone m (name_end l) (blanks_at l (name_end l)) (to_backslash l (bar_at l)))
    (fault unmatched_marker (length l)))

-- a star directly behind a known name makes a close of it, whatever its category
abbrev pub unless_star : List ℕ → Piece → Piece
unless_star l p = pick (byte_is star l (name_end l)) (close (name_of l) (name_end l + 1)) p

-- a marker of a category: "16 for .. one of category other", also with a star behind it
unfoldable pub known_piece : Category → ℕ → Entry → List ℕ → Piece
known_piece category.Identification m e l = unless_star l (block m (name_end l))
known_piece category.Chapter m e l = unless_star l (chapter m (number_size e l) (number_link e l))
known_piece category.Verse m e l = unless_star l (verse m (number_size e l) (number_link e l))
known_piece category.Paragraph m e l = unless_star l (block m (name_end l))
known_piece category.Character m e l = unless_star l (inline m (name_of l) (name_end l))
known_piece category.Note m e l = unless_star l (inline m (name_of l) (name_end l))
known_piece category.Milestone m e l = unless_star l (milestone_piece m l)
known_piece category.Other m e l = fault unknown_marker (length l)

abbrev pub entry_piece : ℕ → Option Entry → List ℕ → Piece
entry_piece m None l = fault unknown_marker (length l)
entry_piece m (Some e) l = known_piece (category_at e.category) m e l

-- "Markers are found by `lookup`."; "16 for an unknown marker"
abbrev pub found_piece : List ℕ → Option ℕ → List ℕ → Piece
found_piece t None l = fault unknown_marker (length l)
found_piece t (Some m) l = entry_piece m (nth (entries t) m) l

unfoldable pub marker_piece : List ℕ → List ℕ → Piece
marker_piece t l = found_piece t (looked_up t (name_of l)) l

-- "`\*` is a close, no marker": one that no milestone has taken is "a close without its open", 17
abbrev pub backslash_piece : List ℕ → List ℕ → Piece
backslash_piece t l = pick (byte_is star l 1) (fault unmatched_marker (length l)) (marker_piece t l)

-- a run reaches to the next backslash or the end; its first `|` parts it
abbrev pub run_bar : List ℕ → ℕ
run_bar l = find_byte (eqb bar) (take (to_backslash l 0) l)

unfoldable pub run_piece : List ℕ → Piece
run_piece l = run (run_bar l) (to_backslash l 0 - run_bar l)

-- the piece that the list begins with
unfoldable pub piece_at : List ℕ → List ℕ → Piece
piece_at t l = pick (byte_is backslash l 0) (backslash_piece t l) (run_piece l)

-- the pieces of a text whose first k bytes belong to a piece that has begun
unfoldable pub pieces_past : List ℕ → ℕ → List ℕ → List Piece
pieces_past t k [] = []
pieces_past t (suc k) (b ∷ l) = pieces_past t k l
pieces_past t zero (b ∷ l) = piece_at t (b ∷ l) ∷ pieces_past t (pred (size_of (piece_at t (b ∷ l)))) l

abbrev pub pieces : List ℕ → List ℕ → List Piece
pieces t s = pieces_past t 0 s
