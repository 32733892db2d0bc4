-- What a refusal of the code says: its number and its place.
use Rattle.std.specs.Prelude.{ℕ, Option, Some, None, Result, Ok, Err}
use Rattle.refusals.specs.declared.Reason.{Reason}
use Rattle.refusals.specs.declared.Reason.TheVariants as reason
use Rattle.refusals.specs.declared.Refusal as code
use Rattle.refusals.specs.Refusal.{Refusal, bad_table_layout, source_too_long, source_not_utf8, bad_tape_length, bad_node_kind, bad_node_span, broken_links, too_deep, split_label, working_list_too_short, bad_tally_list, no_message, message_list_too_short, count_too_large, no_verses, unknown_marker, unmatched_marker, node_list_too_short}

-- the number of each reason
abbrev pub number_of : Reason → ℕ
number_of reason.BadTableLayout = bad_table_layout
number_of reason.SourceTooLong = source_too_long
number_of reason.SourceNotUtf8 = source_not_utf8
number_of reason.BadTapeLength = bad_tape_length
number_of reason.BadNodeKind = bad_node_kind
number_of reason.BadNodeSpan = bad_node_span
number_of reason.BrokenLinks = broken_links
number_of reason.TooDeep = too_deep
number_of reason.SplitLabel = split_label
number_of reason.WorkingListTooShort = working_list_too_short
number_of reason.BadTallyList = bad_tally_list
number_of reason.NoMessage = no_message
number_of reason.MessageListTooShort = message_list_too_short
number_of reason.CountTooLarge = count_too_large
number_of reason.NoVerses = no_verses
number_of reason.UnknownMarker = unknown_marker
number_of reason.UnmatchedMarker = unmatched_marker
number_of reason.NodeListTooShort = node_list_too_short

abbrev pub refusal_of : code.Refusal → Refusal
refusal_of r = record { number = number_of r.reason; place = r.place }

-- the refusal that an answer is, if it is one
abbrev pub refusal_in : {A : Type 0} → Result A code.Refusal → Option Refusal
refusal_in (Ok a) = None
refusal_in (Err r) = Some (refusal_of r)
