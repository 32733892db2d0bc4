-- What the functions that find a text's values promise.
use Rattle.std.specs.Prelude.{ℕ, ◌<◌, ◌≤◌, Bool, ◌||◌, List, [], eqb, length}
use Rattle.std.specs.Prelude.{Option, Some, None}
use Rattle.text.specs.Pick.{cut}
use Rattle.tape.specs.Nodes.{count}
use Rattle.tape.specs.Forest.{Accepted}
use Rattle.table.specs.Entries.{Entry}
use Rattle.findings.specs.Codes.{note_submarker_outside_note, missing_required_attribute, body_paragraph_before_chapter, leading_zeros, unreadable_verse_number}
use Rattle.message_texts.specs.Filled.{all_texts, code_of}
use Rattle.message_texts.specs.Inner.{WrittenAs, WrittenFrom}
use Rattle.messages.specs.Message as message
use Rattle.messages.specs.Message.{shown, text_by}
use Rattle.table.specs.Inner.{Indexed}

-- a document that numbers 1 to 9 pass, with its table's index, and a node of it
pub record DocumentNode (table index : List ℕ) (entries : ℕ) (s t : List ℕ) (node : ℕ) : Type 0 where
  pub indexed : Indexed table index entries
  pub accepted : Accepted s t
  pub short : length s ≤ 1048576
  pub inside : node < count t

-- the requested text is written over the list, if there is one and it has room
abbrev pub WrittenBy : List ℕ → List ℕ → List ℕ → message.Request → List ℕ → List ℕ → Option ℕ → Type 0
WrittenBy table s t q l l' r = WrittenAs (text_by (shown table s t q) (code_of all_texts q.code) q.form) l l' r

-- the text of the code and the form with these values is written over the list, if there is one and it has room
abbrev pub WrittenWith : message.Request → List ℕ → List ℕ → List ℕ → List ℕ → List ℕ → Option ℕ → Type 0
WrittenWith q a b c l l' r = WrittenFrom all_texts q.code q.form a b c l l' r

-- "`\fr` outside a note shows the table's name"
abbrev pub is_tables : ℕ → Bool
is_tables code = eqb code note_submarker_outside_note || (eqb code missing_required_attribute || eqb code body_paragraph_before_chapter)

-- the codes whose texts show a label alone
abbrev pub is_labels : ℕ → Bool
is_labels code = eqb code leading_zeros || eqb code unreadable_verse_number

-- the name in the table, empty where there is no entry
abbrev pub name_or : List ℕ → Option Entry → List ℕ
name_or table None = []
name_or table (Some e) = cut e.name table
