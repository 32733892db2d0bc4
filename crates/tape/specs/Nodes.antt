-- Document 01, "Lent lists": "Tape: 1 to 65,535 nodes of 16 bytes, little-endian: kind u8 (0 to 8 in `NodeKind` order), flags u8, marker u16, start, len, link u32."
use Rattle.std.specs.Prelude.{ℕ, zero, suc, ◌+◌, ◌*◌, ◌/◌, Bool, ◌||◌, List, [], ◌∷◌, eqb, length, get_or}
use Rattle.text.specs.Pick.{Part, cut}
use Rattle.tape.specs.declared.NodeKind.{NodeKind}
use Rattle.tape.specs.declared.NodeKind.TheVariants.{Root, MarkerOpen, MarkerClose, Chapter, Verse, Text, Attribute, BlockEnd, Error}

abbrev pub byte : List ℕ → ℕ → ℕ
byte t k = get_or t k 0

-- two bytes and four, the lowest first
unfoldable pub half : List ℕ → ℕ → ℕ
half t k = byte t k + 256 * byte t (k + 1)

unfoldable pub word : List ℕ → ℕ → ℕ
word t k = byte t k + 256 * byte t (k + 1) + 65536 * byte t (k + 2) + 16777216 * byte t (k + 3)

-- the number of nodes
abbrev pub count : List ℕ → ℕ
count t = length t / 16

-- the fields of node i. Nothing reads its flags
abbrev pub kind_at : List ℕ → ℕ → ℕ
kind_at t i = byte t (16 * i)

abbrev pub marker_at : List ℕ → ℕ → ℕ
marker_at t i = half t (16 * i + 2)

abbrev pub start_at : List ℕ → ℕ → ℕ
start_at t i = word t (16 * i + 4)

abbrev pub len_at : List ℕ → ℕ → ℕ
len_at t i = word t (16 * i + 8)

abbrev pub link_at : List ℕ → ℕ → ℕ
link_at t i = word t (16 * i + 12)

-- "kind u8 (0 to 8 in `NodeKind` order)"
abbrev pub root_kind : ℕ
root_kind = 0

abbrev pub marker_open_kind : ℕ
marker_open_kind = 1

abbrev pub marker_close_kind : ℕ
marker_close_kind = 2

abbrev pub chapter_kind : ℕ
chapter_kind = 3

abbrev pub verse_kind : ℕ
verse_kind = 4

abbrev pub text_kind : ℕ
text_kind = 5

abbrev pub attribute_kind : ℕ
attribute_kind = 6

abbrev pub block_end_kind : ℕ
block_end_kind = 7

abbrev pub error_kind : ℕ
error_kind = 8

-- "kinds MarkerClose, BlockEnd"
abbrev pub is_close : ℕ → Bool
is_close k = eqb k marker_close_kind || eqb k block_end_kind

abbrev pub is_open : ℕ → Bool
is_open k = eqb k marker_open_kind

-- the number of a kind
abbrev pub kind_of : NodeKind → ℕ
kind_of Root = root_kind
kind_of MarkerOpen = marker_open_kind
kind_of MarkerClose = marker_close_kind
kind_of Chapter = chapter_kind
kind_of Verse = verse_kind
kind_of Text = text_kind
kind_of Attribute = attribute_kind
kind_of BlockEnd = block_end_kind
kind_of Error = error_kind

-- a node with all that a check of it reads: its number, its fields, and the bytes of its text
pub record Node : Type 0 where
  pub number : ℕ
  pub kind : ℕ
  pub marker : ℕ
  pub start : ℕ
  pub len : ℕ
  pub link : ℕ
  pub text : List ℕ

abbrev pub span : List ℕ → ℕ → Part
span t i = record { start = start_at t i; len = len_at t i }

abbrev pub node_at : List ℕ → List ℕ → ℕ → Node
node_at s t i =
    record {
      number = i;
      kind = kind_at t i;
      marker = marker_at t i;
      start = start_at t i;
      len = len_at t i;
      link = link_at t i;
      text = cut (span t i) s;
    }

-- the n nodes from node a on
unfoldable pub nodes : List ℕ → List ℕ → ℕ → ℕ → List Node
nodes s t a zero = []
nodes s t a (suc n) = node_at s t a ∷ nodes s t (suc a) n
