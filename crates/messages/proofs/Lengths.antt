-- Which name a text shows by its code, and how long the names and labels are that it shows.
-- Assumes nothing.
use Prim.Native.Nat.{ℕ, ◌≤◌}
use mathlib.Core.Path.{◌≡◌, refl, ap, ◌∙◌}
use mathlib.Core.Bool.{Bool, true, false, false≢true}
use mathlib.Core.List.{List, [], ◌∷◌}
use Rattle.std.specs.Prelude.{Option, Some, None}
use native.Mathlib.Omega.{arith}
use lib.ListN.{length, take, drop, length-take, length-drop}
use Rattle.text.specs.Pick.{Part, cut, pick}
use Rattle.text.specs.Words.{second_word}
use Rattle.tape.specs.Nodes.{node_at, span}
use Rattle.table.specs.Entries.{Entry}
use Rattle.cursor.specs.Names.{name_part, name_of}
use Rattle.cursor.specs.Info.{info_at}
use Rattle.numbers.specs.Label.{label_of, is_glued, base_len}
use Rattle.definition.specs.Checks.{number_markers}
use Rattle.messages.specs.Inner.{name_or, is_tables}
use Rattle.messages.proofs.Shown.{entry-sound}
use Rattle.text.specs.Literal.{ascii}
use Rattle.text.specs.Bytes.{equal, one_of}
use Rattle.table.specs.Inner.{Indexed}

-- the table's name for some codes, the source's for the others
module _ (code : ℕ) (a b name : List ℕ) (is : name ≡ pick (is_tables code) a b) where
  pub by-table : is_tables code ≡ true → name ≡ a
  by-table h = is ∙ ap (λ (x : Bool). pick x a b) h

  pub by-source : (n : ℕ) → is_tables n ≡ false → code ≡ n → name ≡ b
  by-source n h e = is ∙ ap (λ (k : ℕ). pick (is_tables k) a b) e ∙ ap (λ (x : Bool). pick x a b) h

pub take_short : (n : ℕ) (s : List ℕ) → length (take n s) ≤ length s
take_short n s = omega (arith, length-take n s)

drop-short : (n : ℕ) (s : List ℕ) → length (drop n s) ≤ length s
drop-short n s = omega (arith, length-drop n s)

pub cut_short : (p : Part) (s : List ℕ) → length (cut p s) ≤ length s
cut_short p s =
    let d = drop-short p.start s in
    let k = take_short p.len (drop p.start s) in
    omega arith

label-short : (e : Option Entry) (text : List ℕ) → length (label_of e text) ≤ length text
unfolding label_of
label-short e text = go (is_glued e (name_of text))
  where
    go : (b : Bool) → length (pick b (drop (base_len e (name_of text)) (name_of text)) (cut (second_word text) text)) ≤ length text
    go true =
        let d = drop-short (base_len e (name_of text)) (name_of text) in
        let k = cut_short (name_part text) text in
        omega arith
    go false = cut_short (second_word text) text

-- what the source shows
module _ (s t : List ℕ) (i : ℕ) (short : length s ≤ 1048576) where
  pub name-fits : (name : List ℕ) → name ≡ name_of (node_at s t i).text → length name ≤ 1048576
  name-fits name is =
      let e = ap length is in
      let k = cut_short (name_part (cut (span t i) s)) (cut (span t i) s) in
      let l = cut_short (span t i) s in
      omega arith

  pub label-fits : (b : Bool) (e : Option Entry) (label : List ℕ) → label ≡ pick b (label_of e (node_at s t i).text) [] → length label ≤ 1048576
  label-fits b e label is = go b is
    where
      go : (b : Bool) → label ≡ pick b (label_of e (node_at s t i).text) [] → length label ≤ 1048576
      go true z =
          let l = ap length z in
          let k = label-short e (cut (span t i) s) in
          let m = cut_short (span t i) s in
          omega arith
      go false z = let l : length label ≡ 0 = ap length z in omega arith

-- a glued label is the end of the name
pub glued-fits : (e : Option Entry) (text name label : List ℕ) → is_glued e (name_of text) ≡ true → name ≡ name_of text → label ≡ label_of e text → length label ≤ length name
unfolding label_of
glued-fits e text name label g is l =
    let z : label ≡ drop (base_len e (name_of text)) (name_of text) = l ∙ ap (λ (b : Bool). pick b (drop (base_len e (name_of text)) (name_of text)) (cut (second_word text) text)) g in
    let d = drop-short (base_len e (name_of text)) (name_of text) in
    let m = ap length z in
    let n = ap length is in
    omega arith

-- what the table shows
pub entry-fits : (table index : List ℕ) (n : ℕ) → Indexed table index n → (t : List ℕ) (i : ℕ) (name : List ℕ) → name ≡ name_or table (info_at table t i) → length name ≤ 1048576
entry-fits table index n ix t i name is = go (info_at table t i) refl
  where
    go : (o : Option Entry) → info_at table t i ≡ o → length name ≤ 1048576
    go None z = let l : length name ≡ 0 = ap length (is ∙ ap (name_or table) z) in omega arith
    go (Some k) z =
        let l = ap length (is ∙ ap (name_or table) z) in
        let m = length-take k.name.len (drop k.name.start table) in
        omega (arith, (entry-sound table index n ix t i k z).short)

-- none of the four names is empty
pub four-named : (name : List ℕ) → one_of number_markers name ≡ true → 1 ≤ length name
unfolding ascii one_of number_markers equal
four-named [] h = absurd (false≢true h)
four-named (b ∷ bs) h = omega arith
