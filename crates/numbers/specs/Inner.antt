-- What the inner functions promise.
use Rattle.std.specs.Prelude.{ℕ, zero, suc, ◌-◌, ◌≤◌, ◌≡◌, Bool, true, false, not, ◌&&◌, List, [], ◌∷◌, ltb, length, get_or, take, drop}
use Rattle.std.specs.Prelude.{Option, None}
use Rattle.text.specs.Pick.{within, cut, pick}
use Rattle.text.specs.Characters.{is_boundary}
use Rattle.tape.specs.Nodes.{kind_at}
use Rattle.refusals.specs.Refusal.{Refusal, refuse, only_if, or_else, split_label}
use Rattle.table.specs.Entries.{Entry}
use Rattle.cursor.specs.Names.{name_of}
use Rattle.numbers.specs.declared.LabelSpan.{LabelSpan}
use Rattle.text.specs.Words.{second_word}
use Rattle.numbers.specs.Label.{is_glued, label_of, numbered}

-- the name is longer, and that length splits a character of it
abbrev pub split_at : List ℕ → ℕ → Bool
split_at name n = ltb n (length name) && not (is_boundary name n)

-- the places of the label in the text of a node
pub record Labelled (e : Option Entry) (s : List ℕ) (r : LabelSpan) : Type 0 where
  pub glued_is : r.glued ≡ is_glued e (name_of s)
  pub label_is : take (r.end - r.start) (drop r.start s) ≡ label_of e s
  pub ordered : r.start ≤ r.end
  pub inside : r.end ≤ length s

-- the same where the table's name has so many bytes
pub record LabelledBy (base : ℕ) (s : List ℕ) (r : LabelSpan) : Type 0 where
  pub glued_is : r.glued ≡ ltb base (length (name_of s))
  pub label_is : take (r.end - r.start) (drop r.start s) ≡ pick (ltb base (length (name_of s))) (drop base (name_of s)) (cut (second_word s) s)
  pub ordered : r.start ≤ r.end
  pub inside : r.end ≤ length s

-- the text begins as `\v 1` does, with any small letter and any digit
pub record Usual (s : List ℕ) : Type 0 where
  pub long : 4 ≤ length s
  pub backslash : get_or s 0 0 ≡ 0x5C
  pub letter : within 0x61 0x7A (get_or s 1 0) ≡ true
  pub space : get_or s 2 0 ≡ 0x20
  pub digit : within 0x30 0x39 (get_or s 3 0) ≡ true

-- of the n nodes from node i on, the Chapters and Verses
abbrev pub kept_if : Bool → ℕ → List ℕ → List ℕ
kept_if true i l = i ∷ l
kept_if false i l = l

unfoldable pub numbers_in : List ℕ → ℕ → ℕ → List ℕ
numbers_in t i zero = []
numbers_in t i (suc n) = kept_if (numbered (kind_at t i)) i (numbers_in t (suc i) n)

-- the first of some nodes that is bad, with number 9
unfoldable pub first_among : (ℕ → Bool) → List ℕ → Option Refusal
first_among bad [] = None
first_among bad (i ∷ l) = or_else (only_if (bad i) (refuse split_label i)) (first_among bad l)
