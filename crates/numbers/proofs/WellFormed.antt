-- A label is well-formed where the node's text is and number 9 does not turn the node back, and number 9's test is that the cut lies inside a character of the name.
-- Assumes nothing.
use mathlib.Core.Path.{◌≡◌, ap}
use mathlib.Core.Bool.{Bool, true, false, not, ◌&&◌}
use mathlib.Core.List.{List}
use Rattle.std.specs.Prelude.{Option}
use Prim.Native.Nat.{ℕ}
use borrow.Author.Tests.{not-false}
use lib.ListN.{drop}
use Rattle.text.specs.Pick.{cut, pick}
use Rattle.text.specs.Utf8.{Made}
use Rattle.text.specs.Characters.{chars, between, is_boundary}
use Rattle.text.specs.Words.{second_word}
use Rattle.text.proofs.Boundary.{boundary}
use Rattle.text.proofs.WellFormed.{made-from, made-second-word}
use Rattle.table.specs.Entries.{Entry}
use Rattle.cursor.specs.Names.{name_of}
use Rattle.cursor.proofs.WellFormed.{made-name}
use Rattle.numbers.specs.Label.{base_len, is_glued, label_of, splits}

-- number 9's test: the name is longer than the table's, and the cut lies inside a character
pub splits-is : {text : List ℕ} → Made text → (e : Option Entry) → splits e text ≡ (is_glued e (name_of text) && not (between (chars (name_of text)) (base_len e (name_of text))))
unfolding splits
splits-is {text} m e = ap (λ (t : Bool). (is_glued e (name_of text) && not t)) (boundary (made-name m) (base_len e (name_of text)))

-- what number 9 does not turn back
pub made-label : {text : List ℕ} → Made text → (e : Option Entry) → splits e text ≡ false → Made (label_of e text)
unfolding splits label_of
made-label {text} m e n = go (is_glued e (name_of text)) n
  where
    go : (t : Bool) → (t && not (is_boundary (name_of text) (base_len e (name_of text)))) ≡ false → Made (pick t (drop (base_len e (name_of text)) (name_of text)) (cut (second_word text) text))
    go true n = made-from (made-name m) (base_len e (name_of text)) (not-false _ n)
    go false n = made-second-word m
