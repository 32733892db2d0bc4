-- Document 01, module 4: "A label is what the marker name has beyond its table name (glued), else the second word of the node's text."
use Rattle.std.specs.Prelude.{ℕ, ◌-◌, Bool, not, ◌&&◌, ◌||◌, List, eqb, ltb, length, drop}
use Rattle.std.specs.Prelude.{Option, Some, None}
use Rattle.text.specs.Pick.{cut, pick}
use Rattle.text.specs.Characters.{is_boundary}
use Rattle.text.specs.Words.{second_word}
use Rattle.tape.specs.Nodes.{count, kind_at, span, chapter_kind, verse_kind}
use Rattle.refusals.specs.Refusal.{Refusal, first_bad, split_label}
use Rattle.table.specs.Entries.{Entry}
use Rattle.cursor.specs.Names.{name_of}
use Rattle.cursor.specs.Info.{info_at}

-- how long the table's name is; without an entry there is nothing that the name could be longer than
abbrev pub base_len : Option Entry → List ℕ → ℕ
base_len None name = length name
base_len (Some e) name = e.name.len

-- the name is longer than the table's
abbrev pub is_glued : Option Entry → List ℕ → Bool
is_glued e name = ltb (base_len e name) (length name)

-- of a node's entry and its text
unfoldable pub label_of : Option Entry → List ℕ → List ℕ
label_of e text = pick (is_glued e (name_of text)) (drop (base_len e (name_of text)) (name_of text)) (cut (second_word text) text)

-- "longer than its table name and the cut splits a character"
unfoldable pub splits : Option Entry → List ℕ → Bool
splits e text = is_glued e (name_of text) && not (is_boundary (name_of text) (base_len e (name_of text)))

-- Chapter and Verse
abbrev pub numbered : ℕ → Bool
numbered k = eqb k chapter_kind || eqb k verse_kind

-- 9: "A Chapter or Verse name is longer than its table name and the cut splits a character; place: that node."
abbrev pub bad_label : List ℕ → List ℕ → List ℕ → ℕ → Bool
bad_label table s t i = numbered (kind_at t i) && splits (info_at table t i) (cut (span t i) s)

-- node 0 is the root
unfoldable pub label_refusal : List ℕ → List ℕ → List ℕ → Option Refusal
label_refusal table s t = first_bad split_label (bad_label table s t) 1 (count t - 1)
