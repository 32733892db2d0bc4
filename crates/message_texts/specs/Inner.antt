-- What the functions that write a text promise.
use Rattle.std.specs.Prelude.{ℕ, ◌≤◌, ◌≡◌, Bool, nat_lt, List, ltb, length}
use Rattle.std.specs.Prelude.{Option, Some, None, option_map, slice_get}
use Rattle.buffer.specs.Over.{over}
use Rattle.message_texts.specs.Texts.{Code}
use Rattle.message_texts.specs.Filled.{Values, filled_by, text_in}
use Rattle.text.specs.Pick.{pick}

abbrev pub values : List ℕ → List ℕ → List ℕ → Values
values a b c = record { a = a; b = b; c = c }

-- values that are no longer than a source
pub record Short (a b c : List ℕ) : Type 0 where
  pub a_short : length a ≤ 1048576
  pub b_short : length b ≤ 1048576
  pub c_short : length c ≤ 1048576

-- the byte stands for a value
abbrev pub is_value : ℕ → Bool
is_value b = nat_lt b 5

-- the list afterwards: with the text written over its start, if that has room
abbrev pub over_by : Option (List ℕ) → List ℕ → List ℕ
over_by None l = l
over_by (Some s) l = pick (ltb (length l) (length s)) l (over l 0 s)

-- the text is written over the list, if there is one and it has room; its length is answered
pub record WrittenAs (o : Option (List ℕ)) (l l' : List ℕ) (r : Option ℕ) : Type 0 where
  pub answer_is : r ≡ option_map length o
  pub list_is : l' ≡ over_by o l

-- the text that the code and the form have among these, with the values
abbrev pub WrittenFrom : List Code → ℕ → ℕ → List ℕ → List ℕ → List ℕ → List ℕ → List ℕ → Option ℕ → Type 0
WrittenFrom cs code form a b c l l' r = WrittenAs (filled_by (text_in cs code form) (Some (values a b c))) l l' r

-- the text that the form has among these, with the values
pub record WrittenOf (ts : List (List ℕ)) (form : ℕ) (a b c l l' : List ℕ) (r : Option ℕ) : Type 0 where
  pub written_as : WrittenAs (filled_by (slice_get ts form) (Some (values a b c))) l l' r
