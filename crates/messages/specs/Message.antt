-- Document 01, module 10 and numbers 12 and 13: the text of a finding.
use Rattle.std.specs.Prelude.{ℕ, zero, suc, ◌+◌, ◌-◌, Bool, true, false, not, ◌&&◌, ◌||◌, List, [], ◌∷◌, ◌++◌, eqb, ltb, leb, length, get_or, take}
use Rattle.std.specs.Prelude.{Option, Some, None}
use Rattle.text.specs.Pick.{cut, pick}
use Rattle.text.specs.Literal.{ascii}
use Rattle.tape.specs.Nodes.{Node, count, link_at, is_open, node_at}
use Rattle.tape.specs.Forest.{forest}
use Rattle.table.specs.Entries.{Entry}
use Rattle.cursor.specs.Names.{name_of}
use Rattle.cursor.specs.Info.{info_at}
use Rattle.numbers.specs.Label.{is_glued, label_of, numbered}
use Rattle.findings.specs.Finding.{Finding}
use Rattle.definition.specs.Checks.{book_code, number_markers}
use Rattle.definition.specs.Milestones.{is_start, is_end, base_of}
use Rattle.buffer.specs.Decimal.{decimal}
use Rattle.message_texts.specs.Texts as texts
use Rattle.message_texts.specs.Texts.{Hole, Code}
use Rattle.message_texts.specs.Filled.{Values, all_texts, code_of, form_of, filled_by}
use Rattle.text.specs.Bytes.{one_of}

-- a request for a text: of a finding's words, those that the text depends on
pub record Request : Type 0 where
  pub code : ℕ
  pub form : ℕ
  pub node : ℕ
  pub first : ℕ
  pub second : ℕ

abbrev pub request_of : Finding → Request
request_of f = record { code = f.code; form = f.form; node = f.node; first = f.first; second = f.second }

abbrev pub only_if_true : Bool → List ℕ → Option (List ℕ)
only_if_true true s = Some s
only_if_true false s = None

-- the letter of a verse position: a byte, or none
abbrev pub letter_bytes : ℕ → List ℕ
letter_bytes zero = []
letter_bytes (suc n) = suc n ∷ []

-- the name in the table: "`\fr` outside a note shows the table's name"
abbrev pub name_in : List ℕ → Option Entry → Option (List ℕ)
name_in table None = None
name_in table (Some e) = Some (cut e.name table)

-- "a Chapter's or Verse's nonempty label (glued for code 34)"
abbrev pub label_in : Option Entry → Node → Option (List ℕ)
label_in e x = only_if_true (numbered x.kind && not (eqb (length (label_of e x.text)) 0)) (label_of e x.text)

abbrev pub has_glued_label : Option Entry → Node → Bool
has_glued_label e x = numbered x.kind && is_glued e (name_of x.text)

abbrev pub unit_of : Bool → List ℕ
unit_of true = ascii "chapter"
unit_of false = ascii "verse"

-- "for code 33 one of its four names": the name as written, of which `ca` and `cp` are a chapter's; the root has no text
abbrev pub is_number : ℕ → Node → Bool
is_number i x = not (eqb i 0) && one_of number_markers (name_of x.text)

abbrev pub of_chapter : Node → Bool
of_chapter x = eqb (get_or (name_of x.text) 0 0) 0x63

-- "a milestone base"
abbrev pub has_base : ℕ → Node → Bool
has_base i x = not (eqb i 0) && (is_start x || is_end x)

-- "a MarkerOpen's book code"
abbrev pub code_in : Node → List ℕ → Option (List ℕ)
code_in x code = only_if_true (is_open x.kind && not (eqb (length code) 0)) code

-- what a text shows of the node with its table entry and the children's book code, or none where it lacks that
unfoldable pub shown_of : List ℕ → List ℕ → List ℕ → Request → Option Entry → Node → Hole → Option (List ℕ)
shown_of table s t q e x texts.empty = Some []
shown_of table s t q e x texts.first = Some (decimal q.first)
shown_of table s t q e x texts.second = Some (decimal q.second)
shown_of table s t q e x texts.position = only_if_true (leb q.second 127) (decimal q.first ++ letter_bytes q.second)
shown_of table s t q e x texts.entry_name = name_in table e
shown_of table s t q e x texts.owner_name = only_if_true (not (eqb q.first 0) && ltb q.first (count t)) (name_of (node_at s t q.first).text)
shown_of table s t q e x texts.label = label_in e x
shown_of table s t q e x texts.glued_label = only_if_true (has_glued_label e x) (label_of e x.text)
shown_of table s t q e x texts.bare_name = only_if_true (has_glued_label e x) (take (length (name_of x.text) - length (label_of e x.text)) (name_of x.text))
shown_of table s t q e x texts.glued_name = only_if_true (has_glued_label e x) (name_of x.text)
shown_of table s t q e x texts.base = only_if_true (has_base q.node x) (base_of x)
shown_of table s t q e x texts.number_name = only_if_true (is_number q.node x) (name_of x.text)
shown_of table s t q e x texts.owner = only_if_true (is_number q.node x) (take 1 (name_of x.text))
shown_of table s t q e x texts.unit = only_if_true (is_number q.node x) (unit_of (of_chapter x))
shown_of table s t q e x texts.book_code = code_in x (book_code (forest s t (q.node + 1) (link_at t q.node)))

abbrev pub shown : List ℕ → List ℕ → List ℕ → Request → Hole → Option (List ℕ)
shown table s t q h = shown_of table s t q (info_at table t q.node) (node_at s t q.node) h

abbrev pub three : Option (List ℕ) → Option (List ℕ) → Option (List ℕ) → Option Values
three None y z = None
three (Some a) None z = None
three (Some a) (Some b) None = None
three (Some a) (Some b) (Some c) = Some (record { a = a; b = b; c = c })

abbrev pub text_by : (Hole → Option (List ℕ)) → Option Code → ℕ → Option (List ℕ)
text_by shown None form = None
text_by shown (Some c) form = filled_by (form_of c.forms form) (three (shown c.h1) (shown c.h2) (shown c.h3))

-- the text, or none: "code and form unknown to validate.rs, node or owner not on the tape, letter over 127, or the node lacks what the text needs"
unfoldable pub message_text : List ℕ → List ℕ → List ℕ → Request → Option (List ℕ)
message_text table s t q = pick (ltb q.node (count t)) (text_by (shown table s t q) (code_of all_texts q.code) q.form) None
