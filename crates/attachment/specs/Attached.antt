-- Document 01, module 7: "`attached_numbers`, compared by start offset as in `is_attached`."
use Rattle.std.specs.Prelude.{ℕ, Bool, true, false, not, ◌&&◌, ◌||◌, List, [], ◌∷◌, ◌++◌, ◌≡◌, eqb, take}
use Rattle.text.specs.Pick.{pick}
use Rattle.text.specs.Words.{blank_text}
use Rattle.tape.specs.Nodes.{Node, chapter_kind, text_kind}
use Rattle.tape.specs.Forest.{Forest, end, leaf, node}
use Rattle.cursor.specs.Names.{name_of}
use Rattle.attachment.specs.declared.Attached.{Attached}
use Rattle.text.specs.Bytes.{equal}

-- `c` of a Chapter, `v` of a Verse: the letter with which the names of its numbers begin
abbrev pub number_letter : ℕ → ℕ
number_letter kind = pick (eqb kind chapter_kind) 0x63 0x76

-- "`\ca`/`\va` (alternate)"
unfoldable pub is_alternate : ℕ → List ℕ → Bool
is_alternate kind name = equal name (number_letter kind ∷ 0x61 ∷ [])

-- "`\cp`/`\vp` (published)"
unfoldable pub is_published : ℕ → List ℕ → Bool
is_published kind name = equal name (number_letter kind ∷ 0x70 ∷ [])

-- a number of this kind of anchor whose place is still free: "at most one of each"
abbrev pub claims : ℕ → Bool → Bool → List ℕ → Bool
claims kind alt pubn name = (is_alternate kind name && not alt) || (is_published kind name && not pubn)

-- a blank or empty Text
abbrev pub is_blank : Node → Bool
is_blank x = eqb x.kind text_kind && blank_text x.text

-- "no nested marker children"
unfoldable pub plain : Forest → Bool
plain end = true
plain (leaf x r) = plain r
plain (node x c r) = false

abbrev pub nodes_if : Bool → List Node → List Node
nodes_if true xs = xs
nodes_if false xs = []

-- the numbers of an anchor of the kind among the siblings, where its alternate or its published number has been found: "the run of them directly after it, separated only by whitespace"; a number with markup belongs to it and ends it
unfoldable pub run_of : ℕ → Bool → Bool → Forest → List Node
run_of kind alt pubn end = []
run_of kind alt pubn (leaf x r) = nodes_if (is_blank x) (run_of kind alt pubn r)
run_of kind alt pubn (node x c r) =
    nodes_if (claims kind alt pubn (name_of x.text))
    (x ∷ nodes_if (plain c) (run_of kind (alt || is_alternate kind (name_of x.text)) (pubn || is_published kind (name_of x.text)) r))

-- the numbers attached to an anchor of the kind, of the siblings that follow it
abbrev pub attached_numbers : ℕ → Forest → List Node
attached_numbers kind f = run_of kind false false f

unfoldable pub start_offsets : List Node → List ℕ
start_offsets [] = []
start_offsets (x ∷ xs) = x.start ∷ start_offsets xs

unfoldable pub among : ℕ → List ℕ → Bool
among at [] = false
among at (x ∷ xs) = eqb x at || among at xs

-- "compared by start offset"
abbrev pub is_attached : ℕ → Forest → ℕ → Bool
is_attached kind f at = among at (start_offsets (attached_numbers kind f))

-- what the answer says: the start offsets of the attached numbers, in order
abbrev pub starts_of : Attached → List ℕ
starts_of a = take a.count (a.first ∷ a.second ∷ [])

-- one list is another with more at its end
pub record Longer (xs ys : List Node) : Type 0 where
  pub more : List Node
  pub is : ys ≡ xs ++ more
