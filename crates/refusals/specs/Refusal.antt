-- Document 01, "Turned back, in checking order", and the numbers that document 02 adds: "Each gives number and place and writes nothing. Of several nodes the first counts."
use Rattle.std.specs.Prelude.{ℕ, zero, suc, ◌<◌, ◌≤◌, ◌≡◌, Bool, true, false}
use Rattle.std.specs.Prelude.{Option, Some, None}

-- "The table text breaks its layout"
abbrev pub bad_table_layout : ℕ
bad_table_layout = 1

-- "The source is too long"
abbrev pub source_too_long : ℕ
source_too_long = 2

-- "The source isn't UTF-8"
abbrev pub source_not_utf8 : ℕ
source_not_utf8 = 3

-- "The tape's length is 0, no multiple of 16, or over 65,535 nodes"
abbrev pub bad_tape_length : ℕ
bad_tape_length = 4

-- "A kind is over 8, or Root is missing at 0 or present elsewhere"
abbrev pub bad_node_kind : ℕ
bad_node_kind = 5

-- "A span from node 1 on leaves the source or splits a character"
abbrev pub bad_node_span : ℕ
bad_node_span = 6

-- "The links break module 2's reading"
abbrev pub broken_links : ℕ
broken_links = 7

-- "A 65th open nests inside 64"
abbrev pub too_deep : ℕ
too_deep = 8

-- "A Chapter or Verse name is longer than its table name and the cut splits a character"
abbrev pub split_label : ℕ
split_label = 9

-- "A working list has fewer than n entries"
abbrev pub working_list_too_short : ℕ
working_list_too_short = 10

-- "Tally: length no multiple of 8, severity over 2 or code over 34"; document 02, K6: "number 11 starts above code 35"
abbrev pub bad_tally_list : ℕ
bad_tally_list = 11

-- "Message (after 1 to 9): code and form unknown to validate.rs, .. or the node lacks what the text needs"; document 02, K6: "number 12 knows both forms"
abbrev pub no_message : ℕ
no_message = 12

-- "Message list too short"
abbrev pub message_list_too_short : ℕ
message_list_too_short = 13

-- document 02, K1: "14 when any of the three counts is over 1,000,000"
abbrev pub count_too_large : ℕ
count_too_large = 14

-- "15 when verses is 0"
abbrev pub no_verses : ℕ
no_verses = 15

-- document 02, K5: "16 for an unknown marker (`\*` is a close, no marker) or one of category other"
abbrev pub unknown_marker : ℕ
unknown_marker = 16

-- "17 for a close without its open innermost, a milestone not closed as above, or a block marker, Chapter or text's end met with a character or note marker open"
abbrev pub unmatched_marker : ℕ
unmatched_marker = 17

-- "18 when the node list is too short"
abbrev pub node_list_too_short : ℕ
node_list_too_short = 18

-- document 02, K7: "19 when a section doesn't start where the last ended, ends before its start or doesn't end between top-level nodes, when close comes early, or when the record can't be this tape's"
abbrev pub section_out_of_order : ℕ
section_out_of_order = 19

pub record Refusal : Type 0 where
  pub number : ℕ
  pub place : ℕ

abbrev pub refuse : ℕ → ℕ → Option Refusal
refuse number place = Some (record { number = number; place = place })

-- a number with a place, if there is one
abbrev pub at_place : ℕ → Option ℕ → Option Refusal
at_place number None = None
at_place number (Some place) = refuse number place

abbrev pub only_if : Bool → Option Refusal → Option Refusal
only_if true r = r
only_if false r = None

-- a number that is tried before others
abbrev pub or_else : Option Refusal → Option Refusal → Option Refusal
or_else (Some r) later = Some r
or_else None later = later

-- the first of the n nodes from node a on that is bad, with the number
unfoldable pub first_bad : ℕ → (ℕ → Bool) → ℕ → ℕ → Option Refusal
first_bad number bad a zero = None
first_bad number bad a (suc n) = or_else (only_if (bad a) (refuse number a)) (first_bad number bad (suc a) n)

abbrev pub is_none : Option Refusal → Bool
is_none None = true
is_none (Some r) = false

-- no node from a on and before b is bad
abbrev pub AllGood : (ℕ → Bool) → ℕ → ℕ → Type 0
AllGood bad a b = (i : ℕ) → a ≤ i → i < b → bad i ≡ false

-- "Of several nodes the first counts."
pub record First (bad : ℕ → Bool) (a b place : ℕ) : Type 0 where
  pub from : a ≤ place
  pub below : place < b
  pub is : bad place ≡ true
  pub earlier : AllGood bad a place
