-- The entries of a table: "marker k is the k-th from 0".
use Rattle.std.specs.Prelude.{ℕ, zero, suc, ◌+◌, ◌-◌, List, [], ◌∷◌, length}
use Rattle.std.specs.Prelude.{Option, Some, None}
use Rattle.text.specs.Pick.{Part, pick}
use Rattle.table.specs.Lines.{Line, lines, categories, roles, category_key, role_key}
use Rattle.table.specs.declared.Category.{Category}
use Rattle.table.specs.declared.Category.TheVariants.{Identification, Chapter, Verse, Paragraph, Character, Note, Milestone, Other}
use Rattle.table.specs.declared.TextRole.{TextRole}
use Rattle.table.specs.declared.TextRole.TheVariants.{Content, Excluded, Boundary}
use Rattle.table.specs.declared.MarkerInfo.{MarkerInfo}
use Rattle.text.specs.Bytes.{equal, beyond}

-- how many words stand before the first that equals the list
unfoldable pub position : List (List ℕ) → List ℕ → ℕ
position [] s = 0
position (w ∷ ws) s = pick (equal w s) 0 (suc (position ws s))

-- an entry: where its name stands in the table, and the positions of its category and its role in the lists of document 01
pub record Entry : Type 0 where
  pub name : Part
  pub category : ℕ
  pub role : ℕ

abbrev pub entry_from : Line → Line → Line → Entry
entry_from a b c =
    record {
      name = record { start = a.at + 5; len = length a.body - 5 };
      category = position categories (beyond category_key b.body);
      role = position roles (beyond role_key c.body);
    }

unfoldable pub entries_of : List Line → List Entry
entries_of [] = []
entries_of (a ∷ []) = []
entries_of (a ∷ b ∷ []) = []
entries_of (a ∷ b ∷ c ∷ ls) = entry_from a b c ∷ entries_of ls

unfoldable pub entries : List ℕ → List Entry
entries t = entries_of (lines 0 t)

-- the k-th of a list, or none
unfoldable pub nth : List Entry → ℕ → Option Entry
nth [] k = None
nth (e ∷ es) zero = Some e
nth (e ∷ es) (suc k) = nth es k

-- "`category=` (identification, chapter, verse, paragraph, character, note, milestone, other)"
abbrev pub identification_category : ℕ
identification_category = 0

abbrev pub chapter_category : ℕ
chapter_category = 1

abbrev pub verse_category : ℕ
verse_category = 2

abbrev pub paragraph_category : ℕ
paragraph_category = 3

abbrev pub character_category : ℕ
character_category = 4

abbrev pub note_category : ℕ
note_category = 5

abbrev pub milestone_category : ℕ
milestone_category = 6

abbrev pub other_category : ℕ
other_category = 7

-- "`role=` (content, excluded, boundary)"
abbrev pub content_role : ℕ
content_role = 0

abbrev pub excluded_role : ℕ
excluded_role = 1

abbrev pub boundary_role : ℕ
boundary_role = 2

-- the positions that the enums stand for
abbrev pub category_of : Category → ℕ
category_of Identification = identification_category
category_of Chapter = chapter_category
category_of Verse = verse_category
category_of Paragraph = paragraph_category
category_of Character = character_category
category_of Note = note_category
category_of Milestone = milestone_category
category_of Other = other_category

abbrev pub role_of : TextRole → ℕ
role_of Content = content_role
role_of Excluded = excluded_role
role_of Boundary = boundary_role

abbrev pub entry_of_info : MarkerInfo → Entry
entry_of_info m = record { name = record { start = m.name_start; len = m.name_len }; category = category_of m.category; role = role_of m.text_role }

-- what `info` says: an entry, or that the number is past the table
abbrev pub info_of : Option MarkerInfo → Option Entry
info_of (Some m) = Some (entry_of_info m)
info_of None = None
