-- Results of wrong functions, each of which contradicts a promise.
-- Assumes nothing.
use Prim.Native.Nat.{ℕ, zero, suc, ◌+◌, ◌<◌, ◌≤◌}
use native.Mathlib.Omega.{arith}
use mathlib.Core.Path.{◌≡◌, refl, ◌∙◌, sym, ap, subst}
use mathlib.Core.Bool.{Bool, true, false, ◌&&◌, false≢true}
use mathlib.Core.List.{List, [], ◌∷◌, ◌++◌}
use Rattle.std.specs.Prelude.{Option, Some, None, Ok, Err}
use Rattle.refusals.specs.Refusal.{refuse}
use Rattle.refusals.specs.declared.Refusal as code
use Rattle.refusals.specs.declared.Reason.TheVariants as reason
use Rattle.refusals.specs.Reasons.{number_of, refusal_in}
use Rattle.std.proofs.lemmas.Option.{none-some}
use lib.Dec.{leb, ltb}
use lib.ListN.{length, get_or, set}
use borrow.Author.Tests.{eqb-false, ltb-true, leb-true}
use Rattle.text.specs.Literal.{ascii}
use Rattle.text.specs.Pick.{in_any}
use Rattle.text.specs.Blank.{blank_ranges, blank}
use Rattle.text.specs.Utf8 as utf8
use Rattle.text.specs.Bytes.{equal, all, one_of}
use Rattle.text.specs.Characters.{chars_past, bytes_before, find_byte}
use Rattle.text.specs.Words.{trim_start, kept, trim, blank_text, word_from}
use Rattle.text.specs.Number.{all_digits, value_from, digits_from, digits, parsed}
use Rattle.text.proofs.Bool.{and_left, and_right}
use Rattle.buffer.specs.Over.{Put, over}
use Rattle.buffer.specs.Decimal.{decimal, decimal_fuel}
use Rattle.refusals.specs.Refusal.{Refusal, first_bad}
use Rattle.tape.specs.Nodes.{Node, half, word, nodes, node_at}
use Rattle.tape.specs.Forest as forests
use Rattle.tape.specs.Forest.{followed, runs, done, one, inner, Accepted}
use Rattle.tape.specs.Reading as reading
use Rattle.table.specs.Lines as lines
use Rattle.table.specs.Entries as entries
use Rattle.table.specs.Names as names
use Rattle.table.specs.Books as books
use Rattle.table.specs.Inner.{pack, Sound, Indexed}
use Rattle.table.specs.declared.MarkerInfo.{MarkerInfo}
use Rattle.table.specs.declared.Category.TheVariants.{Milestone, Paragraph}
use Rattle.table.specs.declared.TextRole.TheVariants.{Content, Boundary}
use Rattle.cursor.specs.Inner.{Spanned}
use Rattle.cursor.specs.Names.{name_part}
use Rattle.cursor.specs.Info.{info_at}
use Rattle.numbers.specs.Verse.{part_of, verse_part, verse_end, next, in_sequence}
use Rattle.numbers.specs.Label as label
use Rattle.attributes.specs.Attributes as attributes
use Rattle.attachment.specs.Attached.{is_alternate, is_published, plain, run_of, start_offsets, among}
use Rattle.attachment.specs.declared.Attached.{Attached}
use Rattle.findings.specs.Finding.{Finding}
use Rattle.findings.specs.Inner.{Wrote, Room, counted, count_limit}
use Rattle.findings.specs.Written.{put, overlay}
use Rattle.findings.specs.declared.Counts.{Counts}
use Rattle.definition.specs.State.{WalkState, WalkContext, Anchor, NodeChecked, outside}
use Rattle.definition.specs.Checks as checks
use Rattle.definition.specs.Milestones.{base_of, milestone_checks, waits_by, after_milestone_by, after_milestone}
use Rattle.definition.specs.Walk.{Walked, walk_by, walk, open_checked_by}
use Rattle.definition.specs.Document.{text_before, unclosed, closing, findings, verses_visited}
use Rattle.definition.specs.Outcome.{Lent, repeated, cleared, no_start, refusal, answer, list_after, seen_after, open_after, checked_of, of_severity}
use Rattle.definition.specs.Outcome as outcome
use Rattle.definition.specs.declared.OpenStart.{OpenStart}
use Rattle.definition.specs.Examples as worked
use Rattle.definition.proofs.Demand3.{checked-accepted}
use Rattle.definition.proofs.Worked.{worked-examples, worked-accepted}
use Rattle.state.specs.Inner.{Opens, state_of, anchor_of, open_nodes, latest, counts_of, with_counts, with_anchor}
use Rattle.state.specs.InnerSetters.{put_has_id, put_has_chapter}
use Rattle.state.specs.declared.State.{State}
use Rattle.milestones.specs.declared.MilestoneSide.{MilestoneSide}
use Rattle.milestones.specs.declared.MilestoneSide.TheVariants as side
use Rattle.milestones.specs.Inner.{AmongMilestones, among_milestones, step_means, Placed, base_at, nearest_in, removed, opens_by, paired_by, with_opens}
use Rattle.milestones.specs.Inner as among
use Rattle.milestones.specs.InnerStep.{Milestoned, Steppable}
use Rattle.closing.specs.Inner.{Left}
use Rattle.walk.specs.Inner.{nowhere, behind, Ready, Visitable, Visited, visit_findings, visit_state, Passable, PassedBy, numbers_after}
use Rattle.validate.specs.Entry.{lent, answer_of}
use Rattle.validate.specs.Inner.{fresh, from_table, Fit, Ran, Finished}
use Rattle.validate.specs.declared.Report.{Report}
use Rattle.message_texts.specs.Filled.{filled, joined, all_texts, code_of, form_of}
use Rattle.message_texts.specs.Texts.{document_texts, number_texts, marker_texts, attribute_texts}
use Rattle.messages.specs.Message.{Request, shown_of, message_text}
use Rattle.messages.specs.Answer.{first_nine, message_answer, message_after, message_answer_of}
use Rattle.messages.specs.Answer as text-answer
use Rattle.messages.specs.Messages.{texts_from, ends_from, messages_answer, messages_after, ends_after, messages_answer_of}
use Rattle.messages.specs.Messages as text-answers
use Rattle.tally.specs.Tally.{tally_refusal, with_code, counts_from, counts_after}
use Rattle.listing.specs.Lines.{too_large_lines, refused_lines, checked_lines, finding_lines, severity_names, code_names, name_at, place_from}
use Rattle.listing.specs.Columns.{line_start, beginnings, count_between, column_at}
use Rattle.listing.specs.LinesAndColumns.{each_from, lines_from, columns_from}
use Rattle.listing.specs.Listing.{listing}
use Rattle.listing.specs.Pieces.{head_lines, held_count, whole_in, piece_of, next_of}
use Rattle.mark.specs.Mark as marks
use Rattle.mark.specs.Mark.{mark_refusal, mark_answer}
use Rattle.reader_spec.specs.Pieces as pieces
use Rattle.reader_spec.specs.Pass as passes
use Rattle.reader_spec.specs.Rows as rows
use Rattle.reader_spec.specs.Answer as reading-answer
use Rattle.reader.specs.Output.{Printed}
use Rattle.harkoxin.specs.Words.{verdict_of, answer_words, message_words, messages_words, tally_words, mark_words, read_words}
use Rattle.harkoxin.specs.Report.{report_answer, report_text}
use Rattle.theorems.specs.ListingExample.{table_file, output}
use Rattle.theorems.proofs.Printed.{listing-example}

-- ---- Inputs, and what the laws read of results

-- the open start of a node with a base of two bytes
abbrev start : ℕ → OpenStart
start n = record { node = n; base_len = 2 }

-- example 9, lent to the check: its nodes 5 and 7 are starts of the base `qt`, which stands at byte 28, and its node 9 is an end
abbrev here : Lent
here = worked.lent_of worked.example9

-- the node of an entry, and an entry of a list of numbers
abbrev node_in : ℕ → List OpenStart → ℕ
node_in k opens = (get_or opens k no_start).node

abbrev word_in : ℕ → List ℕ → ℕ
word_in k words = get_or words k 0

-- the entry that a search finds, or how many open starts a marker leaves, from 1; 0 for none
abbrev from_one : Option ℕ → ℕ
from_one None = 0
from_one (Some k) = suc k

-- the number of the first node
abbrev first_number : List Node → ℕ
first_number [] = 0
first_number (x ∷ xs) = x.number

-- a word of a check's answer: from 0 the verdict (0 checked, 1 cut, 2 refused), a refusal's number and place, the total
abbrev said : ℕ → outcome.Answer → ℕ
said k a = word_in k (answer_words a)

-- a refusal's number in an answer for a text, 0 for none
abbrev number_said : text-answer.MessageAnswer → ℕ
number_said (text-answer.refused r) = r.number
number_said (text-answer.written n) = 0

-- whether texts are all written (0), stopped (1) or refused (2), and how many are written
abbrev verdict_said : text-answers.MessagesAnswer → ℕ
verdict_said (text-answers.refused r) = 2
verdict_said (text-answers.all records bytes) = 0
verdict_said (text-answers.stopped records bytes r) = 1

abbrev records_said : text-answers.MessagesAnswer → ℕ
records_said (text-answers.refused r) = 0
records_said (text-answers.all records bytes) = records
records_said (text-answers.stopped records bytes r) = records

-- the loss, whether the mark is over 0 (1), and the number of a refusal (0 for none) in an answer for a mark
abbrev loss_said : marks.MarkAnswer → ℕ
loss_said (marks.refused r) = 0
loss_said (marks.marked m) = m.loss

abbrev first_of_mark : marks.MarkAnswer → ℕ
first_of_mark (marks.refused r) = 0
first_of_mark (marks.marked m) = some_of m.mark
  where
    some_of : ℕ → ℕ
    some_of zero = 0
    some_of (suc n) = 1

abbrev mark_number_said : marks.MarkAnswer → ℕ
mark_number_said (marks.refused r) = r.number
mark_number_said (marks.marked m) = 0

-- 1 for a refusal, 0 for none
abbrev turned_back : Option Refusal → ℕ
turned_back None = 0
turned_back (Some r) = 1

-- ---- milestones::push

-- a push that leaves the list as it was
push-nothing : no_start ∷ no_start ∷ [] ≡ set (no_start ∷ no_start ∷ []) 0 (start 5) → ⊥
push-nothing e = eqb-false 0 5 refl (ap (node_in 0) e)

-- a push that writes one entry further
push-elsewhere : no_start ∷ start 5 ∷ [] ≡ set (no_start ∷ no_start ∷ []) 0 (start 5) → ⊥
push-elsewhere e = eqb-false 0 5 refl (ap (node_in 0) e)

-- a push that writes over the entry before
push-over : start 5 ∷ no_start ∷ [] ≡ set (start 3 ∷ no_start ∷ []) 1 (start 5) → ⊥
push-over e = eqb-false 5 3 refl (ap (node_in 0) e)

-- ---- milestones::nearest

-- the search in example 9 for the base that stands at a place
abbrev nearest_here : ℕ → ℕ → ℕ → Option ℕ
nearest_here k at len = nearest_in here.source here.tape (start 5 ∷ start 7 ∷ []) k (base_at here.source at len)

-- these inputs meet what the search requires
nearest-allowed : Opens here.source here.tape (start 5 ∷ start 7 ∷ []) 2 × (28 + 2 ≤ length here.source)
unfolding ascii worked.example9 worked.tape_of name_part bytes_before chars_past word blank in_any blank_ranges utf8.decode utf8.decoded utf8.width_of utf8.width_by utf8.table3_7 utf8.begins
nearest-allowed = (record { room = leb-true 2 2 refl; spanned = spanned; bases = bases }, leb-true 30 57 refl)
  where
    spanned : (j : ℕ) → j < 2 → Spanned here.source here.tape (node_in j (start 5 ∷ start 7 ∷ []))
    spanned zero l = record { inside = ltb-true 5 19 refl; fits = leb-true 18 57 refl }
    spanned (suc zero) l = record { inside = ltb-true 7 19 refl; fits = leb-true 25 57 refl }
    spanned (suc (suc j)) l = absurd (omega arith)

    bases : (j : ℕ) → j < 2 → (get_or (start 5 ∷ start 7 ∷ []) j no_start).base_len ≡ length (base_of (node_at here.source here.tape (node_in j (start 5 ∷ start 7 ∷ []))))
    bases zero l = refl
    bases (suc zero) l = refl
    bases (suc (suc j)) l = absurd (omega arith)

-- the right results
nearest-right : (nearest_here 2 28 2 ≡ Some 1) × (nearest_here 1 28 2 ≡ Some 0) × (nearest_here 2 1 2 ≡ None)
unfolding nearest_in ascii worked.example9 worked.tape_of equal name_part bytes_before chars_past word blank in_any blank_ranges utf8.decode utf8.decoded utf8.width_of utf8.width_by utf8.table3_7 utf8.begins
nearest-right = (refl, refl, refl)

-- a search that finds nothing
nearest-nothing : None ≡ nearest_here 2 28 2 → ⊥
nearest-nothing e = eqb-false 0 2 refl (ap from_one (e ∙ nearest-right.0))

-- a search that finds the earliest start and not the latest
nearest-earliest : Some 0 ≡ nearest_here 2 28 2 → ⊥
nearest-earliest e = eqb-false 1 2 refl (ap from_one (e ∙ nearest-right.0))

-- a search that looks past the first k entries
nearest-past : Some 1 ≡ nearest_here 1 28 2 → ⊥
nearest-past e = eqb-false 2 1 refl (ap from_one (e ∙ nearest-right.1))

-- a search that takes any base for its own: `id` stands at byte 1
nearest-any : Some 1 ≡ nearest_here 2 1 2 → ⊥
nearest-any e = eqb-false 2 0 refl (ap from_one (e ∙ nearest-right.2))

-- ---- milestones::remove

-- a removal that leaves the list as it was
remove-nothing : start 3 ∷ start 5 ∷ start 7 ∷ [] ≡ removed (start 3 ∷ start 5 ∷ start 7 ∷ []) 3 1 → ⊥
unfolding removed
remove-nothing e = eqb-false 5 7 refl (ap (node_in 1) e)

-- a removal of the first entry in place of the one asked for
remove_first : start 5 ∷ start 7 ∷ start 7 ∷ [] ≡ removed (start 3 ∷ start 5 ∷ start 7 ∷ []) 3 1 → ⊥
unfolding removed
remove_first e = eqb-false 5 3 refl (ap (node_in 0) e)

-- a removal that empties the entry and moves none down
remove-empties : start 3 ∷ no_start ∷ start 7 ∷ [] ≡ removed (start 3 ∷ start 5 ∷ start 7 ∷ []) 3 1 → ⊥
unfolding removed
remove-empties e = eqb-false 0 7 refl (ap (node_in 1) e)

-- ---- milestones::pair

-- the open starts, and how many they are, after a marker of example 9 that finds the start of node 5 open
abbrev opens_here : Option MilestoneSide → List OpenStart
opens_here s = opens_by here.source here.tape (start 5 ∷ no_start ∷ []) 1 (step_means here.source s)

abbrev paired_here : Option MilestoneSide → Option ℕ
paired_here s = paired_by here.source here.tape (start 5 ∷ no_start ∷ []) 1 (step_means here.source s)

-- these inputs meet what it requires, with an end whose base stands at byte 28
pair-allowed : Opens here.source here.tape (start 5 ∷ no_start ∷ []) 1 × (1 < length (start 5 ∷ no_start ∷ [])) × Placed here.source (Some (side.End 28 2))
unfolding ascii worked.example9 worked.tape_of name_part bytes_before chars_past word blank in_any blank_ranges utf8.decode utf8.decoded utf8.width_of utf8.width_by utf8.table3_7 utf8.begins
pair-allowed = (record { room = leb-true 1 2 refl; spanned = spanned; bases = bases }, ltb-true 1 2 refl, leb-true 30 57 refl)
  where
    spanned : (j : ℕ) → j < 1 → Spanned here.source here.tape (node_in j (start 5 ∷ no_start ∷ []))
    spanned zero l = record { inside = ltb-true 5 19 refl; fits = leb-true 18 57 refl }
    spanned (suc j) l = absurd (omega arith)

    bases : (j : ℕ) → j < 1 → (get_or (start 5 ∷ no_start ∷ []) j no_start).base_len ≡ length (base_of (node_at here.source here.tape (node_in j (start 5 ∷ no_start ∷ []))))
    bases zero l = refl
    bases (suc j) l = absurd (omega arith)

-- the right results of an end with this base, and of one with the base `id`, which stands at byte 1
pair-right : (paired_here (Some (side.End 28 2)) ≡ Some 0) × (paired_here (Some (side.End 1 2)) ≡ None)
unfolding nearest_in ascii worked.example9 worked.tape_of equal name_part bytes_before chars_past word blank in_any blank_ranges utf8.decode utf8.decoded utf8.width_of utf8.width_by utf8.table3_7 utf8.begins
pair-right = (refl, refl)

-- a start that is not added
pair-start-lost : start 5 ∷ no_start ∷ [] ≡ opens_here (Some (side.Start (start 7))) → ⊥
pair-start-lost e = eqb-false 0 7 refl (ap (node_in 1) e)

-- a start that is not counted
pair-start-uncounted : Some 1 ≡ paired_here (Some (side.Start (start 7))) → ⊥
pair-start-uncounted e = eqb-false 2 3 refl (ap from_one e)

-- a marker that is neither and is added
pair-neither-added : start 5 ∷ start 7 ∷ [] ≡ opens_here None → ⊥
pair-neither-added e = eqb-false 7 0 refl (ap (node_in 1) e)

-- an end that leaves its start open
pair-end-keeps : Some 1 ≡ paired_here (Some (side.End 28 2)) → ⊥
pair-end-keeps e = eqb-false 2 1 refl (ap from_one (e ∙ pair-right.0))

-- an end that misses its start
pair-end-alone : None ≡ paired_here (Some (side.End 28 2)) → ⊥
pair-end-alone e = eqb-false 0 1 refl (ap from_one (e ∙ pair-right.0))

-- an end that takes a start of another base
pair-end-any : Some 0 ≡ paired_here (Some (side.End 1 2)) → ⊥
pair-end-any e = eqb-false 1 0 refl (ap from_one (e ∙ pair-right.1))

-- ---- milestones::milestone

-- the table's entry of a milestone
abbrev milestone_info : MarkerInfo
milestone_info = record { name_start = 0; name_len = 0; category = Milestone; text_role = Content }

-- what is promised of a node of example 9 that finds no start open
abbrev MilestonedHere : ℕ → List ℕ → List OpenStart → List ℕ → State → Type 0
MilestonedHere i l opens l' q = Milestoned (entries.entry_of_info milestone_info) here.source here.tape i here.open_starts l fresh opens l' q

-- the record of the definition for it, so many errors, the counts with its findings, and the open starts after it
abbrev errors : ℕ → Counts
errors n = record { errors = n; warnings = 0; infos = 0 }

abbrev state_here : WalkState
state_here = state_of here.source here.tape [] here.open_starts fresh

abbrev counts_here : ℕ → Counts
counts_here i = counted (errors 0) (checks.given (milestone_checks (entries.entry_of_info milestone_info) state_here (node_at here.source here.tape i)))

abbrev open_here : ℕ → List Node
open_here i = (after_milestone (entries.entry_of_info milestone_info) state_here (node_at here.source here.tape i)).open_starts

-- nodes 5 and 9 meet what it requires
milestone-allowed : Steppable (entries.entry_of_info milestone_info) here.source here.tape 5 here.open_starts fresh × Steppable (entries.entry_of_info milestone_info) here.source here.tape 9 here.open_starts fresh
unfolding checks.given waits_by open_nodes half repeated ascii worked.example9 worked.tape_of equal name_part bytes_before chars_past word blank in_any blank_ranges utf8.decode utf8.decoded utf8.width_of utf8.width_by utf8.table3_7 utf8.begins
milestone-allowed = (
  record { spanned = record { inside = ltb-true 5 19 refl; fits = leb-true 18 57 refl }; low = ltb-true 5 4294967296 refl; known = none_open; more = ltb-true 0 19 refl; room = leb-true 0 count_limit refl },
  record { spanned = record { inside = ltb-true 9 19 refl; fits = leb-true 32 57 refl }; low = ltb-true 9 4294967296 refl; known = none_open; more = ltb-true 0 19 refl; room = leb-true 1 count_limit refl },
)
  where
    none_open : Opens here.source here.tape here.open_starts 0
    none_open = record { room = leb-true 0 19 refl; spanned = λ j l. absurd (omega arith); bases = λ j l. absurd (omega arith) }

-- the right results: an end has one finding, a start none, and it is open after it
milestone-right : (counts_here 9 ≡ errors 1) × (counts_here 5 ≡ errors 0) × (open_here 5 ≡ node_at here.source here.tape 5 ∷ [])
unfolding counted checks.given waits_by after_milestone_by open_nodes half latest ascii worked.example9 worked.tape_of equal name_part bytes_before chars_past word blank in_any blank_ranges utf8.decode utf8.decoded utf8.width_of utf8.width_by utf8.table3_7 utf8.begins
milestone-right = (refl, refl, refl)

-- an end without an open start that has no finding
milestone-end-passed : (l l' : List ℕ) (opens : List OpenStart) → MilestonedHere 9 l opens l' fresh → ⊥
milestone-end-passed l l' opens m = eqb-false 0 1 refl (ap (λ c. c.errors) (m.wrote.counts ∙ milestone-right.0))

-- an end without an open start that has two findings
milestone-end-twice : (l l' : List ℕ) (opens : List OpenStart) → MilestonedHere 9 l opens l' (with_counts fresh (errors 2)) → ⊥
milestone-end-twice l l' opens m = eqb-false 2 1 refl (ap (λ c. c.errors) (m.wrote.counts ∙ milestone-right.0))

-- a start that has a finding
milestone-start-found : (l l' : List ℕ) (opens : List OpenStart) → MilestonedHere 5 l opens l' (with_counts (with_opens fresh 1) (errors 1)) → ⊥
milestone-start-found l l' opens m = eqb-false 1 0 refl (ap (λ c. c.errors) (m.wrote.counts ∙ milestone-right.1))

-- a start that is not added
milestone-start-lost : (l l' : List ℕ) (opens : List OpenStart) → MilestonedHere 5 l opens l' fresh → ⊥
unfolding open_nodes
milestone-start-lost l l' opens m = eqb-false 0 1 refl (ap (λ st. length st.open_starts) (m.step.state []) ∙ ap length milestone-right.2)

-- a start that adds another node
milestone-start-other : (l l' : List ℕ) (rest : List OpenStart) → MilestonedHere 5 l (start 7 ∷ rest) l' (with_opens fresh 1) → ⊥
unfolding open_nodes
milestone-start-other l l' rest m = eqb-false 7 5 refl (ap (λ st. first_number st.open_starts) (m.step.state []) ∙ ap first_number milestone-right.2)

-- ---- milestones::step_of

-- what a node of example 9 is under an entry of the table
abbrev among_here : MarkerInfo → ℕ → AmongMilestones
among_here m i = among_milestones (entries.entry_of_info m) (node_at here.source here.tape i)

-- the entry of `\p` in the examples' table
abbrev paragraph_info : MarkerInfo
paragraph_info = record { name_start = 123; name_len = 1; category = Paragraph; text_role = Boundary }

-- what the code's answer says of it
abbrev meant : Option MilestoneSide → AmongMilestones
meant s = step_means here.source s

-- as numbers: 0 for neither; 1 for a start, its node and the length of its base; 2 for an end, and the bytes of its base
abbrev as_numbers : AmongMilestones → List ℕ
as_numbers among.neither = 0 ∷ []
as_numbers (among.start node len) = 1 ∷ node ∷ len ∷ []
as_numbers (among.end base) = 2 ∷ base

-- nodes 5 and 9 meet what it requires
step-of-allowed : (Spanned here.source here.tape 5 × (5 < 4294967296)) × (Spanned here.source here.tape 9 × (9 < 4294967296))
step-of-allowed = ((milestone-allowed.0.spanned, milestone-allowed.0.low), (milestone-allowed.1.spanned, milestone-allowed.1.low))

-- the right results: node 5 is a start, node 9 an end; a node whose entry is a paragraph's is neither, whatever its name
step-of-right : (among_here milestone_info 5 ≡ among.start 5 2) × (among_here milestone_info 9 ≡ among.end (ascii "qt")) × (among_here paragraph_info 5 ≡ among.neither)
unfolding ascii worked.example9 worked.tape_of equal name_part bytes_before chars_past word blank in_any blank_ranges utf8.decode utf8.decoded utf8.width_of utf8.width_by utf8.table3_7 utf8.begins
step-of-right = (refl, refl, refl)

-- a start read as neither
step-of-start-passed : meant None ≡ among_here milestone_info 5 → ⊥
step-of-start-passed e = eqb-false 0 1 refl (ap (λ m. word_in 0 (as_numbers m)) (e ∙ step-of-right.0))

-- a start read as an end
step-of-start-ends : (at len : ℕ) → meant (Some (side.End at len)) ≡ among_here milestone_info 5 → ⊥
step-of-start-ends at len e = eqb-false 2 1 refl (ap (λ m. word_in 0 (as_numbers m)) (e ∙ step-of-right.0))

-- a start with another node
step-of-other-node : meant (Some (side.Start (start 7))) ≡ among_here milestone_info 5 → ⊥
step-of-other-node e = eqb-false 7 5 refl (ap (λ m. word_in 1 (as_numbers m)) (e ∙ step-of-right.0))

-- a start with the length of its whole name
step-of-whole-name : meant (Some (side.Start (record { node = 5; base_len = 4 }))) ≡ among_here milestone_info 5 → ⊥
step-of-whole-name e = eqb-false 4 2 refl (ap (λ m. word_in 2 (as_numbers m)) (e ∙ step-of-right.0))

-- an end with another base: `id`, which stands at byte 1
step-of-other-base : meant (Some (side.End 1 2)) ≡ among_here milestone_info 9 → ⊥
unfolding ascii worked.example9
step-of-other-base e = eqb-false 0x69 0x71 refl (ap (λ m. word_in 1 (as_numbers m)) (e ∙ step-of-right.1))

-- an end whose base leaves the source
step-of-leaves-source : (source : List ℕ) (len : ℕ) → Placed source (Some (side.End (length source) (suc len))) → ⊥
step-of-leaves-source source len p = absurd (omega arith)

-- a start under an entry of another category
step-of-any-category : meant (Some (side.Start (start 5))) ≡ among_here paragraph_info 5 → ⊥
step-of-any-category e = eqb-false 1 0 refl (ap (λ m. word_in 0 (as_numbers m)) (e ∙ step-of-right.2))

-- ---- closing::clear_opens

-- a clearing that leaves the list as it was
clear-opens-nothing : start 3 ∷ start 5 ∷ start 7 ∷ [] ≡ cleared no_start 2 (start 3 ∷ start 5 ∷ start 7 ∷ []) → ⊥
unfolding repeated
clear-opens-nothing e = eqb-false 3 0 refl (ap (node_in 0) e)

-- a clearing that stops one entry early
clear-opens-short : no_start ∷ start 5 ∷ start 7 ∷ [] ≡ cleared no_start 2 (start 3 ∷ start 5 ∷ start 7 ∷ []) → ⊥
unfolding repeated
clear-opens-short e = eqb-false 5 0 refl (ap (node_in 1) e)

-- a clearing that goes on past n entries
clear-opens-past : no_start ∷ no_start ∷ no_start ∷ [] ≡ cleared no_start 2 (start 3 ∷ start 5 ∷ start 7 ∷ []) → ⊥
unfolding repeated
clear-opens-past e = eqb-false 0 7 refl (ap (node_in 2) e)

-- ---- closing::clear_seen

-- a clearing that leaves the list as it was
clear-seen-nothing : ◌≡◌ {A = List ℕ} (3 ∷ 5 ∷ 7 ∷ []) (cleared 0 2 (3 ∷ 5 ∷ 7 ∷ [])) → ⊥
unfolding repeated
clear-seen-nothing e = eqb-false 3 0 refl (ap (word_in 0) e)

-- a clearing that goes on past n entries
clear-seen-past : ◌≡◌ {A = List ℕ} (0 ∷ 0 ∷ 0 ∷ []) (cleared 0 2 (3 ∷ 5 ∷ 7 ∷ [])) → ⊥
unfolding repeated
clear-seen-past e = eqb-false 0 7 refl (ap (word_in 2) e)

-- ---- closing::unclosed

-- the words of the findings of unclosed starts, nodes 5 and 7
abbrev words5 : List ℕ
words5 = 0 ∷ 16 ∷ 13 ∷ 5 ∷ 5 ∷ 0 ∷ 0 ∷ 0 ∷ []

abbrev words7 : List ℕ
words7 = 0 ∷ 16 ∷ 20 ∷ 5 ∷ 7 ∷ 0 ∷ 0 ∷ 0 ∷ []

-- the record with both open, and what is promised of it over a list with room for two findings
abbrev both_open : State
both_open = with_opens fresh 2

abbrev UnclosedHere : List ℕ → Counts → Type 0
UnclosedHere l' c = Wrote (unclosed (open_nodes here.source here.tape (start 5 ∷ start 7 ∷ []) both_open.open_len)) (repeated 0 16) (counts_of both_open) l' c

-- these inputs meet what it requires
unclosed-allowed : Left here.source here.tape (start 5 ∷ start 7 ∷ []) both_open
unfolding open_nodes unclosed
unclosed-allowed = record { known = nearest-allowed.0; room = leb-true 2 count_limit refl }

-- the latest start first
unclosed-latest-first : UnclosedHere (words7 ++ words5) (errors 2) → ⊥
unfolding worked.example9 worked.tape_of half word open_nodes unclosed repeated put overlay counted
unclosed-latest-first w = eqb-false 7 5 refl (ap (word_in 4) w.words)

-- one finding for both starts
unclosed-once : UnclosedHere (words5 ++ repeated 0 8) (errors 1) → ⊥
unfolding worked.example9 worked.tape_of half word open_nodes unclosed repeated put overlay counted
unclosed-once w = eqb-false 1 2 refl (ap (λ c. c.errors) w.counts)

-- findings that are counted and not written
unclosed-unwritten : UnclosedHere (repeated 0 16) (errors 2) → ⊥
unfolding worked.example9 worked.tape_of half word open_nodes unclosed repeated put overlay counted
unclosed-unwritten w = eqb-false 0 16 refl (ap (word_in 1) w.words)

-- ---- validate::check

-- a document with one finding, the unclosed start that is its node 5, lent with lists
abbrev document : List ℕ → List OpenStart → List ℕ → Lent
document seen opens list = lent worked.example_table (worked.shorter_document).source (worked.tape_of (worked.shorter_document).nodes) seen opens list

-- where its working lists hold something, and its list has room for the finding
abbrev roomy : Lent
roomy = document (repeated 4 7) (repeated (start 5) 7) (repeated 0 8)

-- where its list has no room
abbrev cramped : Lent
cramped = document (repeated 0 7) (repeated no_start 7) []

-- where its list of open starts has one entry for seven nodes, so that number 10 turns it back
abbrev too_short : Lent
too_short = document (repeated 4 7) (start 5 ∷ []) (repeated 0 8)

-- a document without a node, which number 4 turns back
abbrev empty : Lent
empty = lent worked.example_table [] [] (4 ∷ []) (start 5 ∷ []) (0 ∷ [])

-- the right answers of the four, as words
answers-right : (answer_words (answer roomy) ≡ 0 ∷ 0 ∷ 0 ∷ 1 ∷ 1 ∷ 0 ∷ 1 ∷ 0 ∷ 0 ∷ []) × (answer_words (answer cramped) ≡ 1 ∷ 0 ∷ 0 ∷ 1 ∷ 0 ∷ 0 ∷ 1 ∷ 0 ∷ 0 ∷ []) × (answer_words (answer empty) ≡ 2 ∷ 4 ∷ 0 ∷ 0 ∷ 0 ∷ 0 ∷ 0 ∷ 0 ∷ 0 ∷ []) × (answer_words (answer too_short) ≡ 2 ∷ 10 ∷ 7 ∷ 0 ∷ 0 ∷ 0 ∷ 0 ∷ 0 ∷ 0 ∷ [])
unfolding checked_of of_severity ascii worked.shorter_document worked.example_table worked.tape_of utf8.table3_7 utf8.begins utf8.width_by utf8.width_of utf8.decoded utf8.decode in_any blank_ranges blank chars_past bytes_before blank_text word_from half word equal all one_of lines.lines lines.categories lines.roles entries.position entries.entries_of entries.entries entries.nth name_part refusal repeated utf8.scan utf8.after_width utf8.first_ill_formed lines.bad_from lines.bad_table reading.step reading.read reading.tape_refusal first_bad label.splits label.label_refusal info_at nodes runs names.front_matter names.note_only books.book_codes books.code_from books.book_of attributes.attributes_findings label.label_of among checks.given checks.after_chapter checks.leaf_checked checks.book_code checks.after_id checks.number_markers after_milestone_by open_checked_by walk_by text_before unclosed closing
answers-right = (refl, refl, refl, refl)

-- the right lists after a document that is checked, and after one that is turned back
checked-right : (list_after roomy ≡ words5) × (seen_after roomy ≡ repeated 0 7) × (open_after roomy ≡ repeated no_start 7)
unfolding put overlay ascii worked.shorter_document worked.example_table worked.tape_of utf8.table3_7 utf8.begins utf8.width_by utf8.width_of utf8.decoded utf8.decode in_any blank_ranges blank chars_past bytes_before blank_text word_from half word equal all one_of lines.lines lines.categories lines.roles entries.position entries.entries_of entries.entries entries.nth name_part refusal repeated utf8.scan utf8.after_width utf8.first_ill_formed lines.bad_from lines.bad_table reading.step reading.read reading.tape_refusal first_bad label.splits label.label_refusal info_at nodes runs names.front_matter names.note_only books.book_codes books.code_from books.book_of attributes.attributes_findings label.label_of among checks.given checks.after_chapter checks.leaf_checked checks.book_code checks.after_id checks.number_markers after_milestone_by open_checked_by walk_by text_before unclosed closing
checked-right = (refl, refl, refl)

refused-right : (list_after too_short ≡ repeated 0 8) × (seen_after too_short ≡ repeated 4 7) × (open_after too_short ≡ start 5 ∷ [])
unfolding ascii worked.shorter_document worked.example_table worked.tape_of utf8.table3_7 utf8.begins utf8.width_by utf8.width_of utf8.decoded utf8.decode in_any blank_ranges blank chars_past bytes_before blank_text word_from half word equal all one_of lines.lines lines.categories lines.roles entries.position entries.entries_of entries.entries entries.nth name_part refusal repeated utf8.scan utf8.after_width utf8.first_ill_formed lines.bad_from lines.bad_table reading.step reading.read reading.tape_refusal first_bad label.splits label.label_refusal info_at label.label_of
refused-right = (refl, refl, refl)

empty-list : list_after empty ≡ 0 ∷ []
unfolding ascii worked.example_table equal lines.lines lines.categories lines.roles refusal utf8.scan utf8.first_ill_formed lines.bad_from lines.bad_table reading.tape_refusal all one_of
empty-list = refl

-- the verdict of a checked document is no refusal's
is-no-refusal : (cut : Bool) → verdict_of cut ≡ 2 → ⊥
is-no-refusal true e = eqb-false 1 2 refl e
is-no-refusal false e = eqb-false 0 2 refl e

-- a check that turns back a good document
roomy-passes : (number place : ℕ) → outcome.refused (record { number = number; place = place }) ≡ answer roomy → ⊥
roomy-passes number place e = eqb-false 2 0 refl (ap (said 0) e ∙ ap (word_in 0) answers-right.0)

check-refuses : (r : code.Refusal) → answer_of (Err r) ≡ answer roomy → ⊥
check-refuses r e = roomy-passes (number_of r.reason) r.place e

-- a check that finds nothing
check-finds-nothing : (r : Report) → r.total ≡ 0 → answer_of (Ok r) ≡ answer roomy → ⊥
check-finds-nothing r nothing e = eqb-false 0 1 refl (sym nothing ∙ ap (said 3) e ∙ ap (word_in 3) answers-right.0)

-- a check that calls a whole list cut
check-whole-as-cut : (r : Report) → r.is_cut ≡ true → answer_of (Ok r) ≡ answer roomy → ⊥
check-whole-as-cut r cut e = eqb-false 1 0 refl (ap verdict_of (sym cut) ∙ ap (said 0) e ∙ ap (word_in 0) answers-right.0)

-- a check that calls a cut list whole
check-cut-as-whole : (r : Report) → r.is_cut ≡ false → answer_of (Ok r) ≡ answer cramped → ⊥
check-cut-as-whole r whole e = eqb-false 0 1 refl (ap verdict_of (sym whole) ∙ ap (said 0) e ∙ ap (word_in 0) answers-right.1)

-- a check that leaves the list unwritten
check-unwritten : repeated 0 8 ≡ list_after roomy → ⊥
unfolding repeated
check-unwritten e = eqb-false 0 16 refl (ap (word_in 1) (e ∙ checked-right.0))

-- a check that leaves the chapters seen in their list
check-seen-kept : repeated 4 7 ≡ seen_after roomy → ⊥
unfolding repeated
check-seen-kept e = eqb-false 4 0 refl (ap (word_in 0) (e ∙ checked-right.1))

-- a check that leaves the open starts in their list
check-opens-kept : repeated (start 5) 7 ≡ open_after roomy → ⊥
unfolding repeated
check-opens-kept e = eqb-false 5 0 refl (ap (node_in 0) (e ∙ checked-right.2))

-- a check that passes a document without a node
check-passes-empty : (r : Report) → answer_of (Ok r) ≡ answer empty → ⊥
check-passes-empty r e = is-no-refusal r.is_cut (ap (said 0) e ∙ ap (word_in 0) answers-right.2)

-- a refusal with another number
check-other-number : (place : ℕ) → answer_of (Err (record { reason = reason.WorkingListTooShort; place = place })) ≡ answer empty → ⊥
check-other-number place e = eqb-false 10 4 refl (ap (said 1) e ∙ ap (word_in 1) answers-right.2)

-- a refusal with another place
check-other-place : answer_of (Err (record { reason = reason.BadTapeLength; place = 1 })) ≡ answer empty → ⊥
check-other-place e = eqb-false 1 0 refl (ap (said 2) e ∙ ap (word_in 2) answers-right.2)

-- a refusal that writes to the list
check-refused-writes : 1 ∷ [] ≡ list_after empty → ⊥
check-refused-writes e = eqb-false 1 0 refl (ap (word_in 0) (e ∙ empty-list))

-- a check that passes a list of open starts which is too short
check-passes-short : (r : Report) → answer_of (Ok r) ≡ answer too_short → ⊥
check-passes-short r e = is-no-refusal r.is_cut (ap (said 0) e ∙ ap (word_in 0) answers-right.3)

-- a refusal that writes the finding
check-refused-finds : words5 ≡ list_after too_short → ⊥
unfolding repeated
check-refused-finds e = eqb-false 16 0 refl (ap (word_in 1) (e ∙ refused-right.0))

-- a refusal that clears the chapters seen
check-refused-clears-seen : repeated 0 7 ≡ seen_after too_short → ⊥
unfolding repeated
check-refused-clears-seen e = eqb-false 0 4 refl (ap (word_in 0) (e ∙ refused-right.1))

-- a refusal that clears the open starts
check-refused-clears-opens : no_start ∷ [] ≡ open_after too_short → ⊥
check-refused-clears-opens e = eqb-false 0 5 refl (ap (node_in 0) (e ∙ refused-right.2))

-- ---- harkoxin::harkoxin_check

-- a document whose list is cut, written as checked
harkoxin-cut-as-checked : ◌≡◌ {A = List ℕ} (0 ∷ 0 ∷ 0 ∷ 1 ∷ 0 ∷ 0 ∷ 1 ∷ 0 ∷ 0 ∷ []) (over (repeated 9 9) 0 (answer_words (answer cramped))) → ⊥
unfolding over repeated
harkoxin-cut-as-checked e = eqb-false 0 1 refl (ap (word_in 0) (e ∙ ap (over (repeated 9 9) 0) answers-right.1))

-- a refusal without its verdict
harkoxin-verdict-lost : ◌≡◌ {A = List ℕ} (0 ∷ 4 ∷ 0 ∷ 0 ∷ 0 ∷ 0 ∷ 0 ∷ 0 ∷ 0 ∷ []) (over (repeated 9 9) 0 (answer_words (answer empty))) → ⊥
unfolding over repeated
harkoxin-verdict-lost e = eqb-false 0 2 refl (ap (word_in 0) (e ∙ ap (over (repeated 9 9) 0) answers-right.2))

-- an answer that is not written
harkoxin-unwritten : repeated 9 9 ≡ over (repeated 9 9) 0 (answer_words (answer cramped)) → ⊥
unfolding over repeated
harkoxin-unwritten e = eqb-false 9 1 refl (ap (word_in 0) (e ∙ ap (over (repeated 9 9) 0) answers-right.1))

-- ---- harkoxin::harkoxin_report

-- the words of both answers, with room for a text of 40 bytes
abbrev report_here : Lent → List ℕ
report_here l = over (repeated 9 14) 0 (answer_words (answer l) ++ messages_words (report_answer l 40))

-- the text of the finding
abbrev mismatch : List ℕ
mismatch = ascii "milestone \\qt-s has no matching \\qt-e"

-- the right results
report-right : (report_here roomy ≡ 0 ∷ 0 ∷ 0 ∷ 1 ∷ 1 ∷ 0 ∷ 1 ∷ 0 ∷ 0 ∷ 0 ∷ 0 ∷ 0 ∷ 1 ∷ 37 ∷ []) × (report_here cramped ≡ 1 ∷ 0 ∷ 0 ∷ 1 ∷ 0 ∷ 0 ∷ 1 ∷ 0 ∷ 0 ∷ 0 ∷ 0 ∷ 0 ∷ 0 ∷ 0 ∷ []) × (report_here empty ≡ 2 ∷ 4 ∷ 0 ∷ 0 ∷ 0 ∷ 0 ∷ 0 ∷ 0 ∷ 0 ∷ 2 ∷ 4 ∷ 0 ∷ 0 ∷ 0 ∷ [])
unfolding checked_of of_severity ascii worked.shorter_document worked.example_table worked.tape_of utf8.table3_7 utf8.begins utf8.width_by utf8.width_of utf8.decoded utf8.decode in_any blank_ranges blank chars_past bytes_before blank_text word_from half word equal all one_of lines.lines lines.categories lines.roles entries.position entries.entries_of entries.entries entries.nth name_part refusal repeated utf8.scan utf8.after_width utf8.first_ill_formed lines.bad_from lines.bad_table reading.step reading.read reading.tape_refusal first_bad label.splits label.label_refusal info_at nodes runs names.front_matter names.note_only books.book_codes books.code_from books.book_of attributes.attributes_findings label.label_of among checks.given checks.after_chapter checks.leaf_checked checks.book_code checks.after_id checks.number_markers after_milestone_by open_checked_by walk_by text_before unclosed closing first_nine message_text all_texts document_texts number_texts marker_texts attribute_texts code_of form_of joined filled shown_of texts_from ends_from over put overlay
report-right = (refl, refl, refl)

report-text : report_text roomy (repeated 0 40) ≡ mismatch ++ repeated 0 3
unfolding checked_of of_severity ascii worked.shorter_document worked.example_table worked.tape_of utf8.table3_7 utf8.begins utf8.width_by utf8.width_of utf8.decoded utf8.decode in_any blank_ranges blank chars_past bytes_before blank_text word_from half word equal all one_of lines.lines lines.categories lines.roles entries.position entries.entries_of entries.entries entries.nth name_part refusal repeated utf8.scan utf8.after_width utf8.first_ill_formed lines.bad_from lines.bad_table reading.step reading.read reading.tape_refusal first_bad label.splits label.label_refusal info_at nodes runs names.front_matter names.note_only books.book_codes books.code_from books.book_of attributes.attributes_findings label.label_of among checks.given checks.after_chapter checks.leaf_checked checks.book_code checks.after_id checks.number_markers after_milestone_by open_checked_by walk_by text_before unclosed closing first_nine message_text all_texts document_texts number_texts marker_texts attribute_texts code_of form_of joined filled shown_of texts_from ends_from over put overlay
report-text = refl

-- a document whose list is cut, written as checked
report-cut-as-checked : ◌≡◌ {A = List ℕ} (0 ∷ 0 ∷ 0 ∷ 1 ∷ 0 ∷ 0 ∷ 1 ∷ 0 ∷ 0 ∷ 0 ∷ 0 ∷ 0 ∷ 0 ∷ 0 ∷ []) (report_here cramped) → ⊥
report-cut-as-checked e = eqb-false 0 1 refl (ap (word_in 0) (e ∙ report-right.1))

-- a refusal whose second verdict says that all texts are written
report-verdict-lost : ◌≡◌ {A = List ℕ} (2 ∷ 4 ∷ 0 ∷ 0 ∷ 0 ∷ 0 ∷ 0 ∷ 0 ∷ 0 ∷ 0 ∷ 0 ∷ 0 ∷ 0 ∷ 0 ∷ []) (report_here empty) → ⊥
report-verdict-lost e = eqb-false 0 2 refl (ap (word_in 9) (e ∙ report-right.2))

-- a report of the findings without their texts
report-no-texts : ◌≡◌ {A = List ℕ} (0 ∷ 0 ∷ 0 ∷ 1 ∷ 1 ∷ 0 ∷ 1 ∷ 0 ∷ 0 ∷ 0 ∷ 0 ∷ 0 ∷ 0 ∷ 0 ∷ []) (report_here roomy) → ⊥
report-no-texts e = eqb-false 0 1 refl (ap (word_in 12) (e ∙ report-right.0))

-- a text that is counted and not written: its first byte is `m`
report-text-unwritten : repeated 0 40 ≡ report_text roomy (repeated 0 40) → ⊥
unfolding ascii repeated
report-text-unwritten e = eqb-false 0 0x6D refl (ap (word_in 0) (e ∙ report-text))

-- ---- messages::message

-- a request for a text about node 5
abbrev asked : ℕ → ℕ → Request
asked code form = record { code = code; form = form; node = 5; first = 0; second = 0 }

abbrev answer_here : Request → ℕ → text-answer.MessageAnswer
answer_here q room = message_answer roomy.table roomy.source roomy.tape q (repeated 0 room)

abbrev text_here : Request → ℕ → List ℕ
text_here q room = message_after roomy.table roomy.source roomy.tape q (repeated 0 room)

-- the right results: MilestoneMismatch of form 0 with room, with too little room, and a code that has no text
message-right : (answer_here (asked 16 0) 40 ≡ text-answer.written 37) × (answer_here (asked 16 0) 9 ≡ text-answer.refused (record { number = 13; place = 37 })) × (answer_here (asked 0 0) 40 ≡ text-answer.refused (record { number = 12; place = 0 }))
unfolding ascii worked.shorter_document worked.example_table worked.tape_of utf8.table3_7 utf8.begins utf8.width_by utf8.width_of utf8.decoded utf8.decode in_any blank_ranges blank chars_past bytes_before half word equal one_of lines.lines lines.categories lines.roles entries.entries_of entries.entries entries.nth name_part refusal repeated utf8.scan utf8.after_width utf8.first_ill_formed lines.bad_from lines.bad_table reading.step reading.read reading.tape_refusal first_bad label.splits label.label_refusal info_at first_nine message_text all_texts document_texts number_texts marker_texts attribute_texts code_of form_of joined filled shown_of all
message-right = (refl, refl, refl)

message-text : (text_here (asked 16 0) 40 ≡ mismatch ++ repeated 0 3) × (text_here (asked 16 0) 9 ≡ repeated 0 9)
unfolding ascii worked.shorter_document worked.example_table worked.tape_of utf8.table3_7 utf8.begins utf8.width_by utf8.width_of utf8.decoded utf8.decode in_any blank_ranges blank chars_past bytes_before half word equal one_of lines.lines lines.categories lines.roles entries.entries_of entries.entries entries.nth name_part refusal repeated utf8.scan utf8.after_width utf8.first_ill_formed lines.bad_from lines.bad_table reading.step reading.read reading.tape_refusal first_bad label.splits label.label_refusal info_at first_nine message_text all_texts document_texts number_texts marker_texts attribute_texts code_of form_of joined filled shown_of over all
message-text = (refl, refl)

-- number 12 for a code that has a text
message-refused : (place : ℕ) → message_answer_of (Err (record { reason = reason.NoMessage; place = place })) ≡ answer_here (asked 16 0) 40 → ⊥
message-refused place e = eqb-false 12 0 refl (ap number_said (e ∙ message-right.0))

-- a text for a code that has none
message-invented : (n : ℕ) → message_answer_of (Ok n) ≡ answer_here (asked 0 0) 40 → ⊥
message-invented n e = eqb-false 0 12 refl (ap number_said (e ∙ message-right.2))

-- a text that is cut where it has too little room
message-cut : (n : ℕ) → message_answer_of (Ok n) ≡ answer_here (asked 16 0) 9 → ⊥
message-cut n e = eqb-false 0 13 refl (ap number_said (e ∙ message-right.1))

-- the text of form 1 in place of form 0: it has `e` where the other has `s`
message-other-form : ascii "milestone \\qt-e has no matching \\qt-s" ++ repeated 0 3 ≡ text_here (asked 16 0) 40 → ⊥
unfolding ascii repeated
message-other-form e = eqb-false 0x65 0x73 refl (ap (word_in 14) (e ∙ message-text.0))

-- a text that is not written
message-unwritten : repeated 0 40 ≡ text_here (asked 16 0) 40 → ⊥
unfolding ascii repeated
message-unwritten e = eqb-false 0 0x6D refl (ap (word_in 0) (e ∙ message-text.0))

-- ---- messages::messages

-- the texts of a list with one finding, the one of node 5
abbrev answers_here : ℕ → text-answers.MessagesAnswer
answers_here room = messages_answer roomy.table roomy.source roomy.tape words5 room

abbrev texts_here : List ℕ
texts_here = messages_after roomy.table roomy.source roomy.tape words5 (repeated 0 40)

abbrev ends_here : List ℕ
ends_here = ends_after roomy.table roomy.source roomy.tape words5 40 (0 ∷ [])

-- the right results
messages-right : (answers_here 40 ≡ text-answers.all 1 37) × (answers_here 9 ≡ text-answers.stopped 0 0 (record { number = 13; place = 37 })) × (texts_here ≡ mismatch ++ repeated 0 3) × (ends_here ≡ 37 ∷ [])
unfolding ascii worked.shorter_document worked.example_table worked.tape_of utf8.table3_7 utf8.begins utf8.width_by utf8.width_of utf8.decoded utf8.decode in_any blank_ranges blank chars_past bytes_before half word equal one_of lines.lines lines.categories lines.roles entries.entries_of entries.entries entries.nth name_part refusal repeated utf8.scan utf8.after_width utf8.first_ill_formed lines.bad_from lines.bad_table reading.step reading.read reading.tape_refusal first_bad label.splits label.label_refusal info_at first_nine message_text all_texts document_texts number_texts marker_texts attribute_texts code_of form_of joined filled shown_of texts_from ends_from over all
messages-right = (refl, refl, refl, refl)

-- no text for a list that has a finding
messages-none : (bytes : ℕ) → messages_answer_of (Ok (record { records = 0; bytes = bytes; stop = None })) ≡ answers_here 40 → ⊥
messages-none bytes e = eqb-false 0 1 refl (ap records_said (e ∙ messages-right.0))

-- texts that stop though there is room
texts-go-on : (bytes number place : ℕ) → text-answers.stopped 1 bytes (record { number = number; place = place }) ≡ answers_here 40 → ⊥
texts-go-on bytes number place e = eqb-false 1 0 refl (ap verdict_said (e ∙ messages-right.0))

messages-stopped : (bytes : ℕ) (r : code.Refusal) → messages_answer_of (Ok (record { records = 1; bytes = bytes; stop = Some r })) ≡ answers_here 40 → ⊥
messages-stopped bytes r e = texts-go-on bytes (number_of r.reason) r.place e

-- texts that are all written though there is no room
messages-all : (records bytes : ℕ) → messages_answer_of (Ok (record { records = records; bytes = bytes; stop = None })) ≡ answers_here 9 → ⊥
messages-all records bytes e = eqb-false 0 1 refl (ap verdict_said (e ∙ messages-right.1))

-- a text that is not written
messages-unwritten : repeated 0 40 ≡ texts_here → ⊥
unfolding ascii repeated
messages-unwritten e = eqb-false 0 0x6D refl (ap (word_in 0) (e ∙ messages-right.2))

-- a text without its end
messages-no-end : 0 ∷ [] ≡ ends_here → ⊥
messages-no-end e = eqb-false 0 37 refl (ap (word_in 0) (e ∙ messages-right.3))

-- ---- tally::tally

-- a record whose severity is over 2, and one whose code is over 35
abbrev bad_severity : List ℕ
bad_severity = 3 ∷ 16 ∷ 13 ∷ 5 ∷ 5 ∷ 0 ∷ 0 ∷ 0 ∷ []

abbrev bad_code : List ℕ
bad_code = 0 ∷ 36 ∷ 13 ∷ 5 ∷ 5 ∷ 0 ∷ 0 ∷ 0 ∷ []

-- the right counts of a record with the code 16: its count stands at 16
tally-right : counts_after words5 (repeated 9 36) ≡ set (repeated 0 36) 16 1
unfolding tally_refusal first_bad with_code counts_from over repeated
tally-right = refl

-- a finding that is not counted
tally-nothing : repeated 0 36 ≡ counts_after words5 (repeated 9 36) → ⊥
unfolding repeated
tally-nothing e = eqb-false 0 1 refl (ap (word_in 16) (e ∙ tally-right))

-- a count in the wrong place
tally-elsewhere : set (repeated 0 36) 15 1 ≡ counts_after words5 (repeated 9 36) → ⊥
unfolding repeated
tally-elsewhere e = eqb-false 1 0 refl (ap (word_in 15) (e ∙ tally-right))

-- counts that are added to what the list held
tally-added : set (repeated 9 36) 16 10 ≡ counts_after words5 (repeated 9 36) → ⊥
unfolding repeated
tally-added e = eqb-false 10 1 refl (ap (word_in 16) (e ∙ tally-right))

-- a good record that is turned back
words-pass : (number place : ℕ) → refuse number place ≡ tally_refusal words5 → ⊥
unfolding tally_refusal first_bad
words-pass number place e = eqb-false 1 0 refl (ap turned_back e)

tally-refuses : (r : code.Refusal) → refusal_in {A = Unit {0}} (Err r) ≡ tally_refusal words5 → ⊥
tally-refuses r e = words-pass (number_of r.reason) r.place e

-- a bad record that is let in
tally-bad-severity : refusal_in (Ok (tt {0})) ≡ tally_refusal bad_severity → ⊥
unfolding tally_refusal first_bad
tally-bad-severity e = eqb-false 0 1 refl (ap turned_back e)

tally-bad-code : refusal_in (Ok (tt {0})) ≡ tally_refusal bad_code → ⊥
unfolding tally_refusal first_bad
tally-bad-code e = eqb-false 0 1 refl (ap turned_back e)

-- a list that is let in though its length is no multiple of 8
tally-bad-length : refusal_in (Ok (tt {0})) ≡ tally_refusal (0 ∷ words5) → ⊥
unfolding tally_refusal first_bad
tally-bad-length e = eqb-false 0 1 refl (ap turned_back e)

-- a refusal that writes
tally-refused-writes : repeated 0 36 ≡ counts_after bad_code (repeated 9 36) → ⊥
unfolding tally_refusal first_bad repeated
tally-refused-writes e = eqb-false 0 9 refl (ap (word_in 0) e)

-- ---- listing::put_too_large

-- the line without its byte 10
too-large-open : (l l' : List ℕ) → Put too_large_lines l 0 l' 16 → ⊥
unfolding ascii
too-large-open l l' p = eqb-false 16 17 refl p.end

-- nothing written
too-large-unwritten : Put too_large_lines (repeated 0 17) 0 (repeated 0 17) 17 → ⊥
unfolding ascii repeated over
too-large-unwritten p = eqb-false 0 0x76 refl (ap (word_in 0) p.list)

-- ---- listing::put_refused

-- the line `place=` missing: 26 bytes in place of 34
put-refused-short : (l l' : List ℕ) → Put (refused_lines 4 0) l 0 l' 26 → ⊥
unfolding refused_lines ascii decimal decimal_fuel
put-refused-short l l' p = eqb-false 26 34 refl p.end

-- the place as the number, and the number as the place
put-refused-swapped : Put (refused_lines 4 7) (repeated 0 34) 0 (refused_lines 7 4) 34 → ⊥
unfolding refused_lines ascii decimal decimal_fuel repeated over
put-refused-swapped p = eqb-false 0x37 0x34 refl (ap (word_in 24) p.list)

-- ---- listing::put_checked

-- the line `findings=` missing: 44 bytes in place of 55
put-checked-short : (l l' : List ℕ) → Put (checked_lines 1 0 0 1) l 0 l' 44 → ⊥
unfolding checked_lines ascii decimal decimal_fuel
put-checked-short l l' p = eqb-false 44 55 refl p.end

-- the errors as warnings
put-checked-swapped : Put (checked_lines 1 0 0 1) (repeated 0 55) 0 (checked_lines 0 1 0 1) 55 → ⊥
unfolding checked_lines ascii decimal decimal_fuel repeated over
put-checked-swapped p = eqb-false 0x30 0x31 refl (ap (word_in 23) p.list)

-- ---- listing::put_head

-- a document whose check is cut, with one finding that it found and none that it wrote
abbrev cut_report : Report
cut_report = record { total = 1; written = 0; is_cut = true; verses = 0; errors = 1; warnings = 0; infos = 0 }

-- the number written in place of the total
head-written : (l l' : List ℕ) (r : ℕ) → Put (head_lines (answer_of (Ok cut_report))) l 0 l' r → l' ≡ over l 0 (checked_lines 1 0 0 0) → l ≡ repeated 0 55 → ⊥
unfolding checked_lines ascii decimal decimal_fuel repeated over
head-written l l' r p e z = eqb-false 0x30 0x31 refl (ap (word_in 53) (ap (λ (o : List ℕ). over o 0 (checked_lines 1 0 0 0)) (sym z) ∙ sym e ∙ p.list ∙ ap (λ (o : List ℕ). over o 0 (checked_lines 1 0 0 1)) z))

-- a refusal's head for a checked document: 34 bytes in place of 55
head-refused : (l l' : List ℕ) → Put (head_lines (answer_of (Ok cut_report))) l 0 l' 34 → ⊥
unfolding checked_lines ascii decimal decimal_fuel
head-refused l l' p = eqb-false 34 55 refl p.end

-- ---- listing::held

-- the total in place of what is written
held-total : 1 ≡ held_count (answer_of (Ok cut_report)) → ⊥
held-total e = eqb-false 1 0 refl e

-- findings held after a refusal
held-refused : (n : ℕ) → suc n ≡ held_count (answer_of (Err (record { reason = reason.BadTapeLength; place = 0 }))) → ⊥
held-refused n e = omega (arith, e)

-- ---- listing::put_finding

-- line and column exchanged: `line=12` in place of `line=3`
finding-turned : (l l' : List ℕ) (r : ℕ) → l ≡ repeated 0 80 → l' ≡ over l 0 (finding_lines 0 0 12 3 []) → Put (finding_lines 0 0 3 12 []) l 0 l' r → ⊥
unfolding finding_lines severity_names code_names name_at ascii decimal decimal_fuel repeated over
finding-turned l l' r z e p = eqb-false 0x31 0x33 refl (ap (word_in 39) (ap (λ (o : List ℕ). over o 0 (finding_lines 0 0 12 3 [])) (sym z) ∙ sym e ∙ p.list ∙ ap (λ (o : List ℕ). over o 0 (finding_lines 0 0 3 12 [])) z))

-- the message missing: two bytes fewer
finding-bare : (l l' : List ℕ) → Put (finding_lines 0 0 3 12 (ascii "ab")) l 0 l' (length (finding_lines 0 0 3 12 [])) → ⊥
unfolding finding_lines severity_names code_names name_at ascii decimal decimal_fuel
finding-bare l l' p = eqb-false (length (finding_lines 0 0 3 12 [])) (length (finding_lines 0 0 3 12 (ascii "ab"))) refl p.end

-- ---- listing::put_findings

-- two texts in place of the lines of two findings
abbrev two_texts : List (List ℕ)
two_texts = ascii "ab" ∷ ascii "cde" ∷ []

-- the right pieces: with room for four bytes the first, then the second; with room for five both; with room for one none
pieces-right : (piece_of two_texts 0 4 ≡ ascii "ab") × (next_of two_texts 0 4 ≡ 1) × (piece_of two_texts 1 4 ≡ ascii "cde") × (next_of two_texts 0 5 ≡ 2) × (next_of two_texts 0 1 ≡ 0)
unfolding ascii whole_in joined
pieces-right = (refl, refl, refl, refl, refl)

-- a piece that is cut inside a finding
piece_cut : (l l' : List ℕ) → Put (piece_of two_texts 0 4) l 0 l' 4 → ⊥
unfolding ascii whole_in joined
piece_cut l l' p = eqb-false 4 2 refl p.end

-- a piece that goes on past a finding which it has no room for
piece-skips : 2 ≡ next_of two_texts 0 4 → ⊥
unfolding ascii whole_in
piece-skips e = eqb-false 2 1 refl e

-- a piece that stops though the next finding has room
piece-stops : 1 ≡ next_of two_texts 0 5 → ⊥
unfolding ascii whole_in
piece-stops e = eqb-false 1 2 refl e

-- a piece that begins with the first finding again
piece-repeats : Put (piece_of two_texts 1 4) (repeated 0 4) 0 (ascii "ab" ++ repeated 0 2) 3 → ⊥
unfolding ascii whole_in joined repeated over
piece-repeats p = eqb-false 0x61 0x63 refl (ap (word_in 0) p.list)

-- ---- listing::lines_and_columns

-- a line that is not counted: byte 1 of a source that begins with byte 10 stands on line 2
line-missed : 1 ∷ 1 ∷ [] ≡ over (repeated 0 2) 0 (lines_from (10 ∷ []) 0 2) → ⊥
unfolding repeated over each_from place_from
line-missed e = eqb-false 1 2 refl (ap (word_in 1) e)

-- lines that are not written
lines-unwritten : repeated 0 2 ≡ over (repeated 0 2) 0 (lines_from (10 ∷ []) 0 2) → ⊥
unfolding repeated over each_from place_from
lines-unwritten e = eqb-false 0 1 refl (ap (word_in 0) e)

-- a column that is counted from the text's start, on the next line too
column-kept : 1 ∷ 2 ∷ [] ≡ over (repeated 0 2) 0 (columns_from (10 ∷ []) 0 2) → ⊥
unfolding repeated over each_from column_at line_start beginnings count_between chars_past utf8.table3_7 utf8.begins utf8.width_by utf8.width_of utf8.decoded utf8.decode
column-kept e = eqb-false 2 1 refl (ap (word_in 1) e)

-- the right columns behind `λ`, behind a character of four bytes and behind `e` with a combining accent
columns-right : (columns_from (0xCE ∷ 0xBB ∷ []) 0 3 ≡ 1 ∷ 2 ∷ 2 ∷ []) × (columns_from (0xF0 ∷ 0x9F ∷ 0x98 ∷ 0x80 ∷ []) 4 1 ≡ 2 ∷ []) × (columns_from (0x65 ∷ 0xCC ∷ 0x81 ∷ []) 3 1 ≡ 3 ∷ [])
unfolding each_from column_at line_start beginnings count_between chars_past utf8.table3_7 utf8.begins utf8.width_by utf8.width_of utf8.decoded utf8.decode
columns-right = (refl, refl, refl)

-- a column that counts bytes
column-bytes : 1 ∷ 2 ∷ 3 ∷ [] ≡ over (repeated 0 3) 0 (columns_from (0xCE ∷ 0xBB ∷ []) 0 3) → ⊥
unfolding repeated over
column-bytes e = eqb-false 3 2 refl (ap (word_in 2) (e ∙ ap (over (repeated 0 3) 0) columns-right.0))

-- a column that counts ASCII alone
column-ascii-alone : 1 ∷ 1 ∷ 1 ∷ [] ≡ over (repeated 0 3) 0 (columns_from (0xCE ∷ 0xBB ∷ []) 0 3) → ⊥
unfolding repeated over
column-ascii-alone e = eqb-false 1 2 refl (ap (word_in 2) (e ∙ ap (over (repeated 0 3) 0) columns-right.0))

-- a column that counts two for a character of four bytes, as UTF-16 has it
column-pairs : 3 ∷ [] ≡ columns_from (0xF0 ∷ 0x9F ∷ 0x98 ∷ 0x80 ∷ []) 4 1 → ⊥
column-pairs e = eqb-false 3 2 refl (ap (word_in 0) (e ∙ columns-right.1))

-- a column that counts a letter and its combining accent as one
column-joined : 2 ∷ [] ≡ columns_from (0x65 ∷ 0xCC ∷ 0x81 ∷ []) 3 1 → ⊥
column-joined e = eqb-false 2 3 refl (ap (word_in 0) (e ∙ columns-right.2))

-- ---- mark::mark

-- the right marks: one error and one warning in 67 verses; a million of each in one verse; a count too many; no verses
mark-right : (mark_answer 1 1 67 ≡ marks.marked (record { loss = 48; mark = 9952 })) × (mark_answer 1000000 0 1 ≡ marks.marked (record { loss = 2500000000; mark = 0 })) × (mark_answer 1000001 0 0 ≡ marks.refused (record { number = 14; place = 0 })) × (mark_answer 0 0 0 ≡ marks.refused (record { number = 15; place = 0 }))
unfolding mark_refusal
mark-right = (refl, refl, refl, refl)

-- loss in whole marks
mark-coarse : marks.marked (record { loss = 0; mark = 10000 }) ≡ mark_answer 1 1 67 → ⊥
unfolding mark_refusal
mark-coarse e = eqb-false 0 48 refl (ap loss_said e)

-- a mark that goes round below 0
mark-wraps : (n : ℕ) → marks.marked (record { loss = 2500000000; mark = suc n }) ≡ mark_answer 1000000 0 1 → ⊥
unfolding mark_refusal
mark-wraps n e = eqb-false 1 0 refl (ap first_of_mark e)

-- 15 before 14
mark-fifteen-first : marks.refused (record { number = 15; place = 0 }) ≡ mark_answer 1000001 0 0 → ⊥
unfolding mark_refusal
mark-fifteen-first e = eqb-false 15 14 refl (ap mark_number_said e)

-- a mark without verses
mark-no-verses : marks.marked (record { loss = 0; mark = 10000 }) ≡ mark_answer 0 0 0 → ⊥
unfolding mark_refusal
mark-no-verses e = eqb-false 0 15 refl (ap mark_number_said e)

-- ---- harkoxin::harkoxin_message

-- a refusal without its verdict
message-words-verdict : 0 ∷ 12 ∷ 0 ∷ 0 ∷ [] ≡ over (repeated 0 4) 0 (message_words (answer_here (asked 0 0) 40)) → ⊥
unfolding repeated over
message-words-verdict e = eqb-false 0 2 refl (ap (word_in 0) (e ∙ ap (λ (x : text-answer.MessageAnswer). over (repeated 0 4) 0 (message_words x)) message-right.2))

-- a text without its length
message-words-length : 0 ∷ 0 ∷ 0 ∷ 0 ∷ [] ≡ over (repeated 0 4) 0 (message_words (answer_here (asked 16 0) 40)) → ⊥
unfolding repeated over
message-words-length e = eqb-false 0 37 refl (ap (word_in 3) (e ∙ ap (λ (x : text-answer.MessageAnswer). over (repeated 0 4) 0 (message_words x)) message-right.0))

-- ---- harkoxin::harkoxin_messages

-- texts that stop, written as all written
messages-words-verdict : 0 ∷ 13 ∷ 40 ∷ 1 ∷ 37 ∷ [] ≡ over (repeated 0 5) 0 (messages_words (text-answers.stopped 1 37 (record { number = 13; place = 40 }))) → ⊥
unfolding repeated over
messages-words-verdict e = eqb-false 0 1 refl (ap (word_in 0) e)

-- texts without their bytes
messages-words-bytes : 0 ∷ 0 ∷ 0 ∷ 1 ∷ 0 ∷ [] ≡ over (repeated 0 5) 0 (messages_words (text-answers.all 1 37)) → ⊥
unfolding repeated over
messages-words-bytes e = eqb-false 0 37 refl (ap (word_in 4) e)

-- ---- harkoxin::harkoxin_tally

-- a refusal without its verdict
tally-words-verdict : 0 ∷ 11 ∷ 3 ∷ [] ≡ over (repeated 0 3) 0 (tally_words (Some (record { number = 11; place = 3 }))) → ⊥
unfolding repeated over
tally-words-verdict e = eqb-false 0 2 refl (ap (word_in 0) e)

-- the place as the number, and the number as the place
tally-words-turned : 2 ∷ 3 ∷ 11 ∷ [] ≡ over (repeated 0 3) 0 (tally_words (Some (record { number = 11; place = 3 }))) → ⊥
unfolding repeated over
tally-words-turned e = eqb-false 3 11 refl (ap (word_in 1) e)

-- ---- harkoxin::harkoxin_mark

-- the mark as the loss, and the loss as the mark
mark-words-turned : 0 ∷ 0 ∷ 0 ∷ 9250 ∷ 750 ∷ [] ≡ over (repeated 0 5) 0 (mark_words (mark_answer 0 1 1)) → ⊥
unfolding mark_refusal repeated over
mark-words-turned e = eqb-false 9250 750 refl (ap (word_in 3) e)

-- a refusal without its verdict
mark-words-verdict : 0 ∷ 15 ∷ 0 ∷ 0 ∷ 0 ∷ [] ≡ over (repeated 0 5) 0 (mark_words (mark_answer 0 0 0)) → ⊥
unfolding mark_refusal repeated over
mark-words-verdict e = eqb-false 0 2 refl (ap (word_in 0) e)

-- ---- reader::read

-- a text of one byte, without a backslash: under the empty table its tape is the root and a Text
abbrev one_byte : List ℕ
one_byte = 120 ∷ []

-- the number of nodes (0 for a refusal), and the number of a refusal (0 for none) in an answer for a text that is read
abbrev nodes_said : reading-answer.ReadAnswer → ℕ
nodes_said (reading-answer.refused r) = 0
nodes_said (reading-answer.read n) = n

abbrev read_number_said : reading-answer.ReadAnswer → ℕ
read_number_said (reading-answer.refused r) = r.number
read_number_said (reading-answer.read n) = 0

-- an answer that leaves the root out
read-uncounted : reading-answer.read 1 ≡ reading-answer.read_answer [] one_byte (repeated 0 32) → ⊥
unfolding ascii in_any blank_ranges blank utf8.table3_7 utf8.begins utf8.width_by utf8.width_of utf8.decoded utf8.decode utf8.after_width utf8.scan utf8.first_ill_formed chars_past bytes_before find_byte equal lines.lines lines.categories lines.roles lines.bad_from lines.bad_table entries.position entries.entries_of entries.entries entries.nth names.named_from names.undigited names.stripped_length names.looked_up name_part repeated pieces.known_piece pieces.marker_piece pieces.run_piece pieces.piece_at pieces.pieces_past passes.piece_step passes.pass passes.outcome rows.awaited rows.rows_from reading-answer.read_refusal worked.tape_of
read-uncounted e = eqb-false 1 2 refl (ap nodes_said e)

-- a list that is left as it was
read-unwritten : repeated 0 32 ≡ reading-answer.nodes_after [] one_byte (repeated 0 32) → ⊥
unfolding ascii in_any blank_ranges blank utf8.table3_7 utf8.begins utf8.width_by utf8.width_of utf8.decoded utf8.decode utf8.after_width utf8.scan utf8.first_ill_formed chars_past bytes_before find_byte equal lines.lines lines.categories lines.roles lines.bad_from lines.bad_table entries.position entries.entries_of entries.entries entries.nth names.named_from names.undigited names.stripped_length names.looked_up name_part repeated pieces.known_piece pieces.marker_piece pieces.run_piece pieces.piece_at pieces.pieces_past passes.piece_step passes.pass passes.outcome rows.awaited rows.rows_from reading-answer.read_refusal worked.tape_of
read-unwritten e = eqb-false 0 2 refl (ap (word_in 12) e)

-- a list without room that is no refusal
read-roomless : reading-answer.read 2 ≡ reading-answer.read_answer [] one_byte (repeated 0 31) → ⊥
unfolding ascii in_any blank_ranges blank utf8.table3_7 utf8.begins utf8.width_by utf8.width_of utf8.decoded utf8.decode utf8.after_width utf8.scan utf8.first_ill_formed chars_past bytes_before find_byte equal lines.lines lines.categories lines.roles lines.bad_from lines.bad_table entries.position entries.entries_of entries.entries entries.nth names.named_from names.undigited names.stripped_length names.looked_up name_part repeated pieces.known_piece pieces.marker_piece pieces.run_piece pieces.piece_at pieces.pieces_past passes.piece_step passes.pass passes.outcome rows.awaited rows.rows_from reading-answer.read_refusal worked.tape_of
read-roomless e = eqb-false 0 18 refl (ap read_number_said e)

-- a marker without a name as a close without its open
read-nameless : reading-answer.refused (record { number = 17; place = 0 }) ≡ reading-answer.read_answer [] (0x5C ∷ []) [] → ⊥
unfolding ascii in_any blank_ranges blank utf8.table3_7 utf8.begins utf8.width_by utf8.width_of utf8.decoded utf8.decode utf8.after_width utf8.scan utf8.first_ill_formed chars_past bytes_before find_byte equal lines.lines lines.categories lines.roles lines.bad_from lines.bad_table entries.position entries.entries_of entries.entries entries.nth names.named_from names.undigited names.stripped_length names.looked_up name_part repeated pieces.known_piece pieces.marker_piece pieces.run_piece pieces.piece_at pieces.pieces_past passes.piece_step passes.pass passes.outcome rows.awaited rows.rows_from reading-answer.read_refusal worked.tape_of
read-nameless e = eqb-false 17 16 refl (ap read_number_said e)

-- ---- reader::put_output

-- the first node alone
output-half : Printed [] one_byte (repeated 0 32) (reading-answer.nodes_after [] one_byte (repeated 0 32)) 16 (reading-answer.read_answer [] one_byte (repeated 0 32)) → ⊥
unfolding ascii in_any blank_ranges blank utf8.table3_7 utf8.begins utf8.width_by utf8.width_of utf8.decoded utf8.decode utf8.after_width utf8.scan utf8.first_ill_formed chars_past bytes_before find_byte equal lines.lines lines.categories lines.roles lines.bad_from lines.bad_table entries.position entries.entries_of entries.entries entries.nth names.named_from names.undigited names.stripped_length names.looked_up name_part repeated pieces.known_piece pieces.marker_piece pieces.run_piece pieces.piece_at pieces.pieces_past passes.piece_step passes.pass passes.outcome rows.awaited rows.rows_from reading-answer.read_refusal worked.tape_of
output-half e = eqb-false 16 32 refl e.1

-- a refusal whose lines aren't written
output-unwritten : Printed [] (0x5C ∷ []) (repeated 0 256) (repeated 0 256) 38 (reading-answer.read_answer [] (0x5C ∷ []) (repeated 0 256)) → ⊥
unfolding ascii in_any blank_ranges blank utf8.table3_7 utf8.begins utf8.width_by utf8.width_of utf8.decoded utf8.decode utf8.after_width utf8.scan utf8.first_ill_formed chars_past bytes_before find_byte equal lines.lines lines.categories lines.roles lines.bad_from lines.bad_table entries.position entries.entries_of entries.entries entries.nth names.named_from names.undigited names.stripped_length names.looked_up name_part repeated pieces.known_piece pieces.marker_piece pieces.run_piece pieces.piece_at pieces.pieces_past passes.piece_step passes.pass passes.outcome rows.awaited rows.rows_from reading-answer.read_refusal worked.tape_of refused_lines over decimal decimal_fuel
output-unwritten e = eqb-false 0 118 refl (ap (word_in 0) e.list)

-- ---- harkoxin::harkoxin_read

-- the place as the number, and the number as the place
read-words-turned : 2 ∷ 5 ∷ 16 ∷ 0 ∷ [] ≡ over (repeated 0 4) 0 (read_words (reading-answer.refused (record { number = 16; place = 5 }))) → ⊥
unfolding repeated over
read-words-turned e = eqb-false 5 16 refl (ap (word_in 1) e)

-- the number of nodes as the place
read-words-place : 0 ∷ 0 ∷ 2 ∷ 0 ∷ [] ≡ over (repeated 0 4) 0 (read_words (reading-answer.read 2)) → ⊥
unfolding repeated over
read-words-place e = eqb-false 2 0 refl (ap (word_in 2) e)

-- ---- check_exercise: the listing

-- a listing without the lines of its finding
listing-bare : listing table_file (worked.example1).source (worked.tape_of (worked.example1).nodes) ≡ checked_lines 0 1 0 1 → ⊥
unfolding checked_lines ascii decimal decimal_fuel output
listing-bare e = eqb-false (length output) (length (checked_lines 0 1 0 1)) refl (ap length (sym listing-example ∙ e))

-- ---- walk::walk

-- the walk of some nodes of an example, from a record, as the promise has it
abbrev walk_from : worked.Example → ℕ → ℕ → State → Walked
walk_from x from to r = walk worked.example_table outside (anchor_of x.source (worked.tape_of x.nodes) r.anchor from) (forests.forest x.source (worked.tape_of x.nodes) from to) (state_of x.source (worked.tape_of x.nodes) (repeated 0 13) (repeated no_start 13) r)

-- so many warnings
abbrev warnings : ℕ → Counts
warnings n = record { errors = 0; warnings = n; infos = 0 }

-- after `\id` and the chapter that is node 4
abbrev after_chapter : State
after_chapter = put_has_id true (put_has_chapter true (with_anchor fresh 4))

-- the kind of an anchor, 0 for none
abbrev anchor_kind : Option Anchor → ℕ
anchor_kind None = 0
anchor_kind (Some a) = a.kind

-- the right results: the children of `\p` have one warning in example 1; the anchor after its nodes is the chapter; the `\ca` of example 5 have no finding, from the start on or after the chapter
walk-right : (counted (warnings 0) (walk_from worked.example1 1 9 fresh).findings ≡ warnings 1) × (anchor_kind (walk_from worked.example1 1 9 fresh).anchor ≡ 3) × (counted (warnings 0) (walk_from worked.example5 1 13 fresh).findings ≡ warnings 0) × (counted (warnings 0) (walk_from worked.example5 5 13 after_chapter).findings ≡ warnings 0)
unfolding ascii worked.example_table worked.tape_of utf8.table3_7 utf8.begins utf8.width_by utf8.width_of utf8.decoded utf8.decode in_any blank_ranges blank chars_past bytes_before find_byte trim_start kept trim blank_text word_from all_digits value_from digits_from digits parsed half word nodes followed runs equal all one_of lines.lines lines.categories lines.roles entries.position entries.entries_of entries.entries entries.nth names.front_matter names.note_only books.book_codes books.code_from books.book_of attributes.attributes_findings name_part part_of verse_part verse_end next in_sequence label.label_of is_alternate is_published plain run_of start_offsets among checks.given checks.after_chapter checks.after_verse checks.leaf_checked checks.book_code checks.after_id checks.number_markers after_milestone_by open_checked_by walk_by counted worked.example1 worked.example5 latest open_nodes
walk-right = (refl, refl, refl, refl)

-- a walk that passes over the children of a marker
walk-no-children : (l l' : List ℕ) → Wrote (walk_from worked.example1 1 9 fresh).findings l (warnings 0) l' (warnings 0) → ⊥
walk-no-children l l' w = eqb-false 0 1 refl (ap (λ c. c.warnings) (w.counts ∙ walk-right.0))

-- a walk that hands no anchor on
walk-anchor-lost : anchor_of (worked.example1).source (worked.tape_of (worked.example1).nodes) 0 9 ≡ (walk_from worked.example1 1 9 fresh).anchor → ⊥
walk-anchor-lost e = eqb-false 0 3 refl (ap anchor_kind e ∙ walk-right.1)

-- a walk that hands on the anchor of a marker's children, the verse that is node 6
walk-anchor-of-children : anchor_of (worked.example1).source (worked.tape_of (worked.example1).nodes) 6 9 ≡ (walk_from worked.example1 1 9 fresh).anchor → ⊥
unfolding worked.example1 worked.tape_of
walk-anchor-of-children e = eqb-false 4 3 refl (ap anchor_kind e ∙ walk-right.1)

-- a walk that does not hand a chapter on to its siblings as their anchor, and so finds a `\ca` misplaced
walk-anchor-dropped : (n : ℕ) (l l' : List ℕ) → Wrote (walk_from worked.example5 1 13 fresh).findings l (warnings 0) l' (warnings (suc n)) → ⊥
walk-anchor-dropped n l l' w = let z : suc n ≡ 0 = ap (λ c. c.warnings) (w.counts ∙ walk-right.2) in absurd (omega arith)

-- a walk that forgets the anchor which it is given
walk-anchor-forgotten : (n : ℕ) (l l' : List ℕ) → Wrote (walk_from worked.example5 5 13 after_chapter).findings l (warnings 0) l' (warnings (suc n)) → ⊥
walk-anchor-forgotten n l l' w = let z : suc n ≡ 0 = ap (λ c. c.warnings) (w.counts ∙ walk-right.3) in absurd (omega arith)

-- ---- What the functions below are lent

-- the index of a table: a word for each entry
unfoldable packed : List entries.Entry → List ℕ
packed [] = []
packed (e ∷ es) = pack e ∷ packed es

packed-each : (es : List entries.Entry) (k : ℕ) (e : entries.Entry) → entries.nth es k ≡ Some e → get_or (packed es) k 0 ≡ pack e
unfolding packed entries.nth
packed-each [] k e h = absurd (none-some e h)
packed-each (x ∷ es) zero e h = let same : x ≡ e = cc in ap pack same
packed-each (x ∷ es) (suc k) e h = packed-each es k e h

-- whether each entry keeps its bounds
abbrev bounded : List ℕ → entries.Entry → Bool
bounded t e = leb (e.name.start + e.name.len) (length t) && (ltb e.name.start 65536 && (leb 1 e.name.len && (leb e.name.len 16 && (ltb e.category 8 && ltb e.role 3))))

unfoldable all_bounded : List ℕ → List entries.Entry → Bool
all_bounded t [] = true
all_bounded t (e ∷ es) = bounded t e && all_bounded t es

sound-of : (t : List ℕ) (e : entries.Entry) → bounded t e ≡ true → Sound t e
sound-of t e h =
    let h₁ = and_right (leb (e.name.start + e.name.len) (length t)) _ h in
    let h₂ = and_right (ltb e.name.start 65536) _ h₁ in
    let h₃ = and_right (leb 1 e.name.len) _ h₂ in
    let h₄ = and_right (leb e.name.len 16) _ h₃ in
    record {
      inside = leb-true _ _ (and_left _ _ h);
      start_low = ltb-true _ _ (and_left _ _ h₁);
      named = leb-true _ _ (and_left _ _ h₂);
      short = leb-true _ _ (and_left _ _ h₃);
      category_low = ltb-true _ _ (and_left _ _ h₄);
      role_low = ltb-true _ _ (and_right (ltb e.category 8) _ h₄);
    }

sound-each : (t : List ℕ) (es : List entries.Entry) → all_bounded t es ≡ true → (k : ℕ) (e : entries.Entry) → entries.nth es k ≡ Some e → Sound t e
unfolding all_bounded entries.nth
sound-each t [] h k e is = absurd (none-some e is)
sound-each t (x ∷ es) h zero e is = let same : x ≡ e = cc in subst (Sound t) same (sound-of t x (and_left (bounded t x) (all_bounded t es) h))
sound-each t (x ∷ es) h (suc k) e is = sound-each t es (and_right (bounded t x) (all_bounded t es) h) k e is

-- the examples' table has 15 entries, and this is its index
abbrev index : List ℕ
index = packed (entries.entries worked.example_table)

indexed-parts : (length (entries.entries worked.example_table) ≡ 15) × (length index ≡ 15) × (all_bounded worked.example_table (entries.entries worked.example_table) ≡ true)
unfolding packed all_bounded ascii worked.example_table equal lines.lines lines.categories lines.roles entries.position entries.entries_of entries.entries
indexed-parts = (refl, refl, refl)

indexed : Indexed worked.example_table index 15
indexed =
    let long = indexed-parts.1 in
    record {
      count = sym indexed-parts.0;
      few = leb-true 15 512 refl;
      room = omega arith;
      each = packed-each (entries.entries worked.example_table);
      sound = sound-each worked.example_table (entries.entries worked.example_table) indexed-parts.2;
    }

-- the tape of an example, and that the examples below are accepted
abbrev tape_in : worked.Example → List ℕ
tape_in x = worked.tape_of x.nodes

abbrev AcceptedIn : worked.Example → Type 0
AcceptedIn x = Accepted x.source (tape_in x)

examples-accepted : AcceptedIn worked.example1 × AcceptedIn worked.example5 × AcceptedIn worked.example9 × AcceptedIn worked.example13 × AcceptedIn worked.shorter_document
unfolding worked.examples worked.refusals_of worked.none_of
examples-accepted =
    let of : (k : ℕ) → get_or (worked.refusals_of worked.examples) k None ≡ get_or (worked.none_of worked.examples) k None = λ k. ap (λ (rs : List (Option Refusal)). get_or rs k None) worked-accepted in
    (checked-accepted (worked.lent_of worked.example1) (of 0), checked-accepted (worked.lent_of worked.example5) (of 4), checked-accepted (worked.lent_of worked.example9) (of 8), checked-accepted (worked.lent_of worked.example13) (of 12), checked-accepted (worked.lent_of worked.shorter_document) (of 15))

-- no open start
none_open : (s t : List ℕ) (opens : List OpenStart) → Opens s t opens 0
none_open s t opens = record { room = omega arith; spanned = λ j l. absurd (omega arith); bases = λ j l. absurd (omega arith) }

-- ---- walk::visit

-- `\p` is entry 3 of the examples' table
paragraph-entry : entries.nth (entries.entries worked.example_table) 3 ≡ Some (entries.entry_of_info paragraph_info)
unfolding ascii worked.example_table equal lines.lines lines.categories lines.roles entries.position entries.entries_of entries.entries entries.nth
paragraph-entry = refl

-- no attached numbers
abbrev no_numbers : Attached
no_numbers = record { count = 0; first = 0; second = 0 }

-- after `\id` alone
abbrev after_identification : State
after_identification = put_has_id true fresh

-- the findings of a `\p` that is node 5 and whose run ends at `to`, from a record
abbrev paragraph_findings : worked.Example → ℕ → State → List Finding
paragraph_findings x to r = visit_findings worked.example_table x.source (tape_in x) outside (entries.entry_of_info paragraph_info) 5 to (repeated 0 13) (repeated no_start 13) r

-- what its visit requires, and what is promised of it
abbrev VisitAllowed : worked.Example → ℕ → State → Type 0
VisitAllowed x to r =
    Ready worked.example_table index 15 x.source (tape_in x) 1 5 to (repeated 0 13) (repeated no_start 13) r
    × Visitable x.source (tape_in x) 5 to no_numbers r
    × (paragraph_info.name_start + paragraph_info.name_len ≤ length worked.example_table)
    × Room (counts_of r) (paragraph_findings x to r)

abbrev VisitedAt : worked.Example → ℕ → State → List ℕ → List ℕ → List OpenStart → List ℕ → State → Type 0
VisitedAt x to r l seen opens l' q = Visited worked.example_table x.source (tape_in x) outside (entries.entry_of_info paragraph_info) 5 to (repeated 0 13) (repeated no_start 13) l r seen opens l' q

-- in example 1 its verse is out of sequence, and in example 13 it stands before any chapter; both meet what the visit requires
visit-allowed : VisitAllowed worked.example1 9 after_chapter × VisitAllowed worked.example13 7 after_identification
unfolding ascii worked.example_table worked.tape_of utf8.table3_7 utf8.begins utf8.width_by utf8.width_of utf8.decoded utf8.decode in_any blank_ranges blank chars_past bytes_before find_byte trim_start kept trim blank_text word_from all_digits value_from digits_from digits parsed half word nodes followed runs equal all one_of lines.lines lines.categories lines.roles entries.position entries.entries_of entries.entries entries.nth names.front_matter names.note_only books.book_codes books.code_from books.book_of attributes.attributes_findings name_part part_of verse_part verse_end next in_sequence label.label_of is_alternate is_published plain run_of start_offsets among checks.given checks.after_verse checks.leaf_checked checks.book_code checks.after_id checks.number_markers after_milestone_by open_checked_by walk_by latest open_nodes repeated worked.example1 worked.example13
visit-allowed = (
  (
    record {
      indexed = indexed;
      accepted = examples-accepted.0;
      nested = inner refl refl (one refl refl (one refl refl (done refl))) (done refl);
      start = leb-true 1 5 refl;
      within = leb-true 9 9 refl;
      starts = none_open _ _ _;
      bounded = leb-true 1 4294967296 refl;
      seen_room = leb-true 4 13 refl;
      open_room = leb-true 4 13 refl;
      verses_room = leb-true 4 4611686018427387904 refl;
      anchored = behind (ltb-true 4 9 refl) (done refl);
    },
    record { more = ltb-true 5 9 refl; opened = refl; attached = refl },
    leb-true 124 598 refl,
    leb-true 1 count_limit refl,
  ),
  (
    record {
      indexed = indexed;
      accepted = examples-accepted.3;
      nested = inner refl refl (done refl) (done refl);
      start = leb-true 1 5 refl;
      within = leb-true 7 7 refl;
      starts = none_open _ _ _;
      bounded = leb-true 1 4294967296 refl;
      seen_room = leb-true 2 13 refl;
      open_room = leb-true 2 13 refl;
      verses_room = leb-true 2 4611686018427387904 refl;
      anchored = nowhere;
    },
    record { more = ltb-true 5 7 refl; opened = refl; attached = refl },
    leb-true 124 598 refl,
    leb-true 1 count_limit refl,
  ),
)

-- the verses counted after it in example 1
abbrev paragraph_verses : ℕ
paragraph_verses = (visit_state worked.example_table (worked.example1).source (tape_in worked.example1) outside (entries.entry_of_info paragraph_info) 5 9 (repeated 0 13) (repeated no_start 13) after_chapter).verses

-- the right results: one warning and one verse in example 1; in example 13 one error, BodyParagraphBeforeChapter
visit-right : (counted (warnings 0) (paragraph_findings worked.example1 9 after_chapter) ≡ warnings 1) × (paragraph_verses ≡ 1) × (counted (errors 0) (paragraph_findings worked.example13 7 after_identification) ≡ errors 1) × (overlay (repeated 0 8) 0 (paragraph_findings worked.example13 7 after_identification) ≡ 0 ∷ 24 ∷ 9 ∷ 2 ∷ 5 ∷ 0 ∷ 0 ∷ 0 ∷ [])
unfolding ascii worked.example_table worked.tape_of utf8.table3_7 utf8.begins utf8.width_by utf8.width_of utf8.decoded utf8.decode in_any blank_ranges blank chars_past bytes_before find_byte trim_start kept trim blank_text word_from all_digits value_from digits_from digits parsed half word nodes followed runs equal all one_of lines.lines lines.categories lines.roles entries.position entries.entries_of entries.entries entries.nth names.front_matter names.note_only books.book_codes books.code_from books.book_of attributes.attributes_findings name_part part_of verse_part verse_end next in_sequence label.label_of is_alternate is_published plain run_of start_offsets among checks.given checks.after_verse checks.leaf_checked checks.book_code checks.after_id checks.number_markers after_milestone_by open_checked_by walk_by counted repeated put overlay worked.example1 worked.example13
visit-right = (refl, refl, refl, refl)

-- a visit that passes over the children
visit-no-children : (l seen l' : List ℕ) (opens : List OpenStart) (q : State) → q.warnings ≡ 0 → VisitedAt worked.example1 9 after_chapter l seen opens l' q → ⊥
visit-no-children l seen l' opens q nothing v = eqb-false 0 1 refl (sym nothing ∙ ap (λ c. c.warnings) (v.went.wrote.counts ∙ visit-right.0))

-- a visit that doesn't count the verse of its children
visit-verse-uncounted : (l seen l' : List ℕ) (opens : List OpenStart) (q : State) → q.verses ≡ 0 → VisitedAt worked.example1 9 after_chapter l seen opens l' q → ⊥
visit-verse-uncounted l seen l' opens q uncounted v = eqb-false 0 1 refl (sym uncounted ∙ ap (λ st. st.verses) v.went.state ∙ visit-right.1)

-- a visit that changes the anchor of its run, which is the chapter, to the verse among its children
visit-anchor-changed : (l seen l' : List ℕ) (opens : List OpenStart) (q : State) → q.anchor ≡ 6 → VisitedAt worked.example1 9 after_chapter l seen opens l' q → ⊥
visit-anchor-changed l seen l' opens q changed v = eqb-false 6 4 refl (sym changed ∙ v.anchor)

-- a visit that drops the anchor of its run
visit-anchor-lost : (l seen l' : List ℕ) (opens : List OpenStart) (q : State) → q.anchor ≡ 0 → VisitedAt worked.example1 9 after_chapter l seen opens l' q → ⊥
visit-anchor-lost l seen l' opens q lost v = eqb-false 0 4 refl (sym lost ∙ v.anchor)

-- a visit without the marker's own finding
visit-finds-nothing : (l seen l' : List ℕ) (opens : List OpenStart) (q : State) → q.errors ≡ 0 → VisitedAt worked.example13 7 after_identification l seen opens l' q → ⊥
visit-finds-nothing l seen l' opens q nothing v = eqb-false 0 1 refl (sym nothing ∙ ap (λ c. c.errors) (v.went.wrote.counts ∙ visit-right.2))

-- a visit that leaves the marker's finding unwritten
visit-unwritten : (seen : List ℕ) (opens : List OpenStart) (q : State) → VisitedAt worked.example13 7 after_identification (repeated 0 8) seen opens (repeated 0 8) q → ⊥
unfolding repeated
visit-unwritten seen opens q v = eqb-false 0 24 refl (ap (word_in 1) (v.went.wrote.words ∙ visit-right.3))

-- ---- walk::visit_leaf

-- the context in a body paragraph, and the record in a paragraph of the chapter, where no sibling is an anchor yet
abbrev in_paragraph : WalkContext
in_paragraph = record { in_body_para = true; in_note = false; in_char = false }

abbrev in_chapter : State
in_chapter = with_anchor after_chapter 0

-- one number that is attached to an earlier anchor and starts at byte 5
abbrev old_numbers : Attached
old_numbers = record { count = 1; first = 5; second = 0 }

-- what the visit of node i requires, where the next node and the end of the run are given, and what is promised of it
abbrev PassAllowed : worked.Example → WalkContext → ℕ → ℕ → ℕ → State → Type 0
PassAllowed x o i after to r = Passable worked.example_table index 15 x.source (tape_in x) o i after to (repeated 0 13) r

abbrev PassedAt : worked.Example → WalkContext → ℕ → ℕ → ℕ → State → Attached → List ℕ → List ℕ → List ℕ → State → Attached → Type 0
PassedAt x o i after to r numbers l seen l' q numbers' = PassedBy worked.example_table x.source (tape_in x) o i after to numbers (repeated 0 13) l r seen l' q numbers'

-- nodes 6 and 7 of example 1 are a verse and a Text, node 4 of example 5 is a chapter; all three meet what the visit requires
leaf-allowed : PassAllowed worked.example1 in_paragraph 6 7 8 in_chapter × PassAllowed worked.example1 in_paragraph 7 8 8 in_chapter × PassAllowed worked.example5 outside 4 5 13 after_identification
unfolding ascii worked.example_table worked.tape_of utf8.table3_7 utf8.begins utf8.width_by utf8.width_of utf8.decoded utf8.decode in_any blank_ranges blank chars_past bytes_before find_byte trim_start kept trim blank_text word_from all_digits value_from digits_from digits parsed half word nodes equal all lines.lines lines.categories lines.roles entries.position entries.entries_of entries.entries entries.nth name_part part_of verse_part in_sequence label.label_of among checks.given checks.leaf_checked latest open_nodes repeated worked.example1 worked.example5
leaf-allowed = (
  record {
    inside = ltb-true 6 9 refl;
    leafy = λ _. record {
      indexed = indexed;
      spanned = record { inside = ltb-true 6 9 refl; fits = leb-true 21 25 refl };
      bounded = leb-true 1 4294967296 refl;
      seen_room = ltb-true 0 13 refl;
      verses_room = ltb-true 0 4611686018427387904 refl;
      room = leb-true 1 count_limit refl;
      rest = record { accepted = examples-accepted.0; depth = 0; nested = one refl refl (done refl); from = leb-true 1 7 refl; inside = leb-true 8 9 refl };
    };
  },
  record { inside = ltb-true 7 9 refl; leafy = λ h. absurd (false≢true h) },
  record {
    inside = ltb-true 4 13 refl;
    leafy = λ _. record {
      indexed = indexed;
      spanned = record { inside = ltb-true 4 13 refl; fits = leb-true 13 30 refl };
      bounded = leb-true 1 4294967296 refl;
      seen_room = ltb-true 0 13 refl;
      verses_room = ltb-true 0 4611686018427387904 refl;
      room = leb-true 0 count_limit refl;
      rest =
          record {
            accepted = examples-accepted.1;
            depth = 1;
            nested = inner refl refl (one refl refl (done refl)) (inner refl refl (done refl) (inner refl refl (one refl refl (done refl)) (done refl)));
            from = leb-true 1 5 refl;
            inside = leb-true 13 13 refl;
          };
    };
  },
)

-- the check of the verse
abbrev verse_checked : NodeChecked
verse_checked = checks.leaf_checked worked.example_table in_paragraph (state_of (worked.example1).source (tape_in worked.example1) (repeated 0 13) [] in_chapter) (node_at (worked.example1).source (tape_in worked.example1) 6)

-- the right results: the verse has one warning and is counted; the `\ca` at byte 13 is attached to the chapter
leaf-right : (counted (warnings 0) verse_checked.findings ≡ warnings 1) × (verse_checked.state.verses ≡ 1) × (numbers_after (worked.example5).source (tape_in worked.example5) 4 5 13 (5 ∷ []) ≡ 13 ∷ [])
unfolding ascii worked.example_table worked.tape_of utf8.table3_7 utf8.begins utf8.width_by utf8.width_of utf8.decoded utf8.decode in_any blank_ranges blank chars_past bytes_before find_byte trim_start kept trim blank_text word_from all_digits value_from digits_from digits parsed half word nodes runs equal all lines.lines lines.categories lines.roles entries.position entries.entries_of entries.entries entries.nth name_part part_of verse_part verse_end next in_sequence label.label_of is_alternate is_published plain run_of start_offsets among checks.given checks.after_verse checks.leaf_checked counted latest open_nodes repeated worked.example1 worked.example5
leaf-right = (refl, refl, refl)

-- a visit that finds nothing of the verse, which is out of sequence
leaf-finds-nothing : (l seen l' : List ℕ) (numbers numbers' : Attached) (q : State) → q.warnings ≡ 0 → PassedAt worked.example1 in_paragraph 6 7 8 in_chapter numbers l seen l' q numbers' → ⊥
unfolding worked.example1 worked.tape_of
leaf-finds-nothing l seen l' numbers numbers' q nothing p = eqb-false 0 1 refl (sym nothing ∙ ap (λ c. c.warnings) ((p.number refl).leaf.wrote.counts ∙ leaf-right.0))

-- a visit that doesn't count the verse
leaf-verse-uncounted : (l seen l' : List ℕ) (numbers numbers' : Attached) (q : State) → q.verses ≡ 0 → PassedAt worked.example1 in_paragraph 6 7 8 in_chapter numbers l seen l' q numbers' → ⊥
unfolding worked.example1 worked.tape_of
leaf-verse-uncounted l seen l' numbers numbers' q uncounted p = eqb-false 0 1 refl (sym uncounted ∙ ap (λ st. st.verses) ((p.number refl).leaf.state []) ∙ leaf-right.1)

-- a visit that leaves the numbers of the earlier anchor
leaf-old-numbers : (l seen l' : List ℕ) (q : State) → PassedAt worked.example5 outside 4 5 13 after_identification old_numbers l seen l' q old_numbers → ⊥
unfolding worked.example5 worked.tape_of
leaf-old-numbers l seen l' q p = eqb-false 5 13 refl (ap (word_in 0) ((p.number refl).attached ∙ leaf-right.2))

-- a visit after which the chapter is no anchor
leaf-no-anchor : (l seen l' : List ℕ) (numbers numbers' : Attached) (q : State) → q.anchor ≡ 0 → PassedAt worked.example5 outside 4 5 13 after_identification numbers l seen l' q numbers' → ⊥
unfolding worked.example5 worked.tape_of
leaf-no-anchor l seen l' numbers numbers' q lost p = eqb-false 0 4 refl (sym lost ∙ (p.number refl).leaf.anchor)

-- a visit that counts a Text as a verse
leaf-text-counted : (l seen l' : List ℕ) (numbers numbers' : Attached) (q : State) → q.verses ≡ 1 → PassedAt worked.example1 in_paragraph 7 8 8 in_chapter numbers l seen l' q numbers' → ⊥
unfolding worked.example1 worked.tape_of
leaf-text-counted l seen l' numbers numbers' q more p = eqb-false 1 0 refl (sym more ∙ ap (λ r. r.verses) (p.other refl).same_record)

-- ---- validate::run

-- examples 1 and 9 meet what it requires
run-allowed : Fit worked.example_table index 15 (worked.example1).source (tape_in worked.example1) (repeated 0 9) (repeated no_start 9) × Fit worked.example_table index 15 here.source here.tape here.seen here.open_starts
unfolding ascii worked.tape_of worked.example1 worked.example9 repeated
run-allowed = (
  record { indexed = indexed; accepted = examples-accepted.0; short = leb-true 25 1048576 refl; seen_room = refl; open_room = refl },
  record { indexed = indexed; accepted = examples-accepted.2; short = leb-true 57 1048576 refl; seen_room = refl; open_room = refl },
)

-- the words of the findings of example 9: of the end that is node 14 and finds no start, and of the unclosed start that is node 16
abbrev words14 : List ℕ
words14 = 0 ∷ 16 ∷ 43 ∷ 5 ∷ 14 ∷ 1 ∷ 0 ∷ 0 ∷ []

abbrev words16 : List ℕ
words16 = 0 ∷ 16 ∷ 50 ∷ 5 ∷ 16 ∷ 0 ∷ 0 ∷ 0 ∷ []

findings9 : findings worked.example_table (forests.top here.source here.tape) ≡ (worked.example9).wanted
unfolding worked.examples worked.findings_of worked.wanted_findings
findings9 = ap (λ (fs : List (List Finding)). get_or fs 8 []) worked-examples

-- the right results: the errors and the words of example 9, and the verses of example 1
run-right : (counted (errors 0) (worked.example9).wanted ≡ errors 2) × (overlay (repeated 0 16) 0 (worked.example9).wanted ≡ words14 ++ words16) × (verses_visited worked.example_table (forests.top (worked.example1).source (tape_in worked.example1)) ≡ 1)
unfolding ascii worked.example_table worked.tape_of utf8.table3_7 utf8.begins utf8.width_by utf8.width_of utf8.decoded utf8.decode in_any blank_ranges blank chars_past bytes_before find_byte trim_start kept trim blank_text word_from all_digits value_from digits_from digits parsed half word nodes followed runs equal all one_of lines.lines lines.categories lines.roles entries.position entries.entries_of entries.entries entries.nth names.front_matter names.note_only books.book_codes books.code_from books.book_of attributes.attributes_findings name_part part_of verse_part verse_end next in_sequence label.label_of is_alternate is_published plain run_of start_offsets among checks.given checks.after_chapter checks.after_verse checks.leaf_checked checks.book_code checks.after_id checks.number_markers after_milestone_by open_checked_by walk_by counted repeated put overlay worked.example1 worked.example9
run-right = (refl, refl, refl)

-- a run whose counts miss the closing findings
run-no-closing : (l l' : List ℕ) (q : State) → q.errors ≡ 1 → Ran worked.example_table here.source here.tape l l' q → ⊥
run-no-closing l l' q missed p = eqb-false 1 2 refl (sym missed ∙ ap (λ c. c.errors) (p.wrote.counts ∙ ap (counted (errors 0)) findings9 ∙ run-right.0))

-- a run that writes the closing findings first
run-closing-first : (q : State) → Ran worked.example_table here.source here.tape (repeated 0 16) (words16 ++ words14) q → ⊥
run-closing-first q p = eqb-false 16 14 refl (ap (word_in 4) (p.wrote.words ∙ ap (overlay (repeated 0 16) 0) findings9 ∙ run-right.1))

-- a run that leaves the list unwritten
run-unwritten : (q : State) → Ran worked.example_table here.source here.tape (repeated 0 16) (repeated 0 16) q → ⊥
unfolding repeated
run-unwritten q p = eqb-false 0 16 refl (ap (word_in 1) (p.wrote.words ∙ ap (overlay (repeated 0 16) 0) findings9 ∙ run-right.1))

-- a run that doesn't count the verse
run-verse-uncounted : (l l' : List ℕ) (q : State) → q.verses ≡ 0 → Ran worked.example_table (worked.example1).source (tape_in worked.example1) l l' q → ⊥
run-verse-uncounted l l' q uncounted p = eqb-false 0 1 refl (sym uncounted ∙ p.verses ∙ run-right.2)

-- ---- validate::checked

-- what is promised of the document with one finding, whose list has just room for it
abbrev FinishedHere : List ℕ → List OpenStart → List ℕ → Report → Type 0
FinishedHere seen opens l r = Finished roomy.table roomy.source roomy.tape roomy.seen roomy.open_starts roomy.list seen opens l r

-- it meets what is required
checked-allowed : Fit roomy.table index 15 roomy.source roomy.tape roomy.seen roomy.open_starts
unfolding ascii worked.shorter_document worked.tape_of repeated
checked-allowed = record { indexed = indexed; accepted = examples-accepted.4; short = leb-true 20 1048576 refl; seen_room = refl; open_room = refl }

-- the right results
finished-right : (answer_words (outcome.checked (checked_of roomy)) ≡ 0 ∷ 0 ∷ 0 ∷ 1 ∷ 1 ∷ 0 ∷ 1 ∷ 0 ∷ 0 ∷ []) × (overlay roomy.list 0 (findings roomy.table (forests.top roomy.source roomy.tape)) ≡ words5)
unfolding put overlay checked_of of_severity ascii worked.shorter_document worked.example_table worked.tape_of utf8.table3_7 utf8.begins utf8.width_by utf8.width_of utf8.decoded utf8.decode in_any blank_ranges blank chars_past bytes_before blank_text word_from half word equal all one_of lines.lines lines.categories lines.roles entries.position entries.entries_of entries.entries entries.nth name_part repeated nodes runs names.front_matter names.note_only books.book_codes books.code_from books.book_of attributes.attributes_findings label.label_of among checks.given checks.after_chapter checks.leaf_checked checks.book_code checks.after_id checks.number_markers after_milestone_by open_checked_by walk_by text_before unclosed closing
finished-right = (refl, refl)

-- an answer that calls the full list cut
checked-full-as-cut : (seen l : List ℕ) (opens : List OpenStart) (r : Report) → r.is_cut ≡ true → FinishedHere seen opens l r → ⊥
checked-full-as-cut seen l opens r cut p = eqb-false 1 0 refl (ap verdict_of (sym cut) ∙ ap (said 0) (ap outcome.checked p.answers) ∙ ap (word_in 0) finished-right.0)

-- the finding left unwritten
checked-unwritten : (seen : List ℕ) (opens : List OpenStart) (r : Report) → FinishedHere seen opens (repeated 0 8) r → ⊥
unfolding repeated
checked-unwritten seen opens r p = eqb-false 0 16 refl (ap (word_in 1) (p.words ∙ finished-right.1))

-- the chapters seen left in their list
checked-seen-kept : (l : List ℕ) (opens : List OpenStart) (r : Report) → FinishedHere (repeated 4 7) opens l r → ⊥
unfolding worked.shorter_document worked.tape_of repeated
checked-seen-kept l opens r p = eqb-false 4 0 refl (ap (word_in 0) p.seen_zero)

-- the open starts left in their list
checked-opens-kept : (seen l : List ℕ) (r : Report) → FinishedHere seen (repeated (start 5) 7) l r → ⊥
unfolding worked.shorter_document worked.tape_of repeated
checked-opens-kept seen l r p = eqb-false 5 0 refl (ap (node_in 0) p.opens_zero)

-- ---- validate::passed

-- the same document, with working lists of nine entries for its seven nodes
abbrev ample : Lent
ample = document (repeated 4 9) (repeated (start 5) 9) (repeated 0 8)

-- it meets what is required
passed-allowed : Indexed ample.table index 15 × (None ≡ from_table ample.table ample.source ample.tape (length ample.seen) (length ample.open_starts))
unfolding ascii worked.shorter_document worked.example_table worked.tape_of utf8.table3_7 utf8.begins utf8.width_by utf8.width_of utf8.decoded utf8.decode in_any blank_ranges blank chars_past bytes_before word_from half word equal all one_of lines.lines lines.categories lines.roles entries.position entries.entries_of entries.entries entries.nth name_part repeated utf8.scan utf8.after_width utf8.first_ill_formed lines.bad_from lines.bad_table reading.step reading.read reading.tape_refusal first_bad label.splits label.label_refusal info_at label.label_of
passed-allowed = (indexed, refl)

-- the right results
passed-right : (answer_words (answer ample) ≡ 0 ∷ 0 ∷ 0 ∷ 1 ∷ 1 ∷ 0 ∷ 1 ∷ 0 ∷ 0 ∷ []) × (list_after ample ≡ words5) × (seen_after ample ≡ repeated 0 7 ++ 4 ∷ 4 ∷ []) × (open_after ample ≡ repeated no_start 7 ++ start 5 ∷ start 5 ∷ [])
unfolding put overlay checked_of of_severity ascii worked.shorter_document worked.example_table worked.tape_of utf8.table3_7 utf8.begins utf8.width_by utf8.width_of utf8.decoded utf8.decode in_any blank_ranges blank chars_past bytes_before blank_text word_from half word equal all one_of lines.lines lines.categories lines.roles entries.position entries.entries_of entries.entries entries.nth name_part refusal repeated utf8.scan utf8.after_width utf8.first_ill_formed lines.bad_from lines.bad_table reading.step reading.read reading.tape_refusal first_bad label.splits label.label_refusal info_at nodes runs names.front_matter names.note_only books.book_codes books.code_from books.book_of attributes.attributes_findings label.label_of among checks.given checks.after_chapter checks.leaf_checked checks.book_code checks.after_id checks.number_markers after_milestone_by open_checked_by walk_by text_before unclosed closing
passed-right = (refl, refl, refl, refl)

-- a document turned back for working lists longer than its tape
ample-passes : (number place : ℕ) → outcome.refused (record { number = number; place = place }) ≡ answer ample → ⊥
ample-passes number place e = eqb-false 2 0 refl (ap (said 0) e ∙ ap (word_in 0) passed-right.0)

passed-refuses : (r : code.Refusal) → answer_of (Err r) ≡ answer ample → ⊥
passed-refuses r e = ample-passes (number_of r.reason) r.place e

-- an answer that finds nothing
passed-finds-nothing : (r : Report) → r.total ≡ 0 → answer_of (Ok r) ≡ answer ample → ⊥
passed-finds-nothing r nothing e = eqb-false 0 1 refl (sym nothing ∙ ap (said 3) e ∙ ap (word_in 3) passed-right.0)

-- the finding left unwritten
passed-unwritten : repeated 0 8 ≡ list_after ample → ⊥
unfolding repeated
passed-unwritten e = eqb-false 0 16 refl (ap (word_in 1) (e ∙ passed-right.1))

-- a clearing of the chapters seen that goes on past seven entries
passed-seen-past : repeated 0 9 ≡ seen_after ample → ⊥
unfolding repeated
passed-seen-past e = eqb-false 0 4 refl (ap (word_in 7) (e ∙ passed-right.2))

-- a clearing of the chapters seen that stops one entry early
passed-seen-short : repeated 0 6 ++ 4 ∷ 4 ∷ 4 ∷ [] ≡ seen_after ample → ⊥
unfolding repeated
passed-seen-short e = eqb-false 4 0 refl (ap (word_in 6) (e ∙ passed-right.2))

-- a clearing of the open starts that goes on past seven entries
passed-opens-past : repeated no_start 9 ≡ open_after ample → ⊥
unfolding repeated
passed-opens-past e = eqb-false 0 5 refl (ap (node_in 7) (e ∙ passed-right.3))
