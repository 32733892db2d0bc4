-- The main theorems. Each group has the sentence of document 01 or 02 that it answers; each theorem has its full type, and a proof that cites the crate which proves it. Numbers 11 to 13 are given by `tally` and `message`, whose contracts say when (docs/PROMISES.md).
-- Assumes nothing.
use Prim.Native.Nat.{ℕ, suc, ◌+◌, ◌*◌, ◌<◌, ◌≤◌}
use mathlib.Core.Path.{◌≡◌, refl, ap, ◌∙◌}
use mathlib.Core.Bool.{true, false, not, ◌&&◌, ◌||◌}
use mathlib.Core.List.{List, [], ◌∷◌, ◌++◌}
use mathlib.Core.Logic.{◌↔◌}
use Rattle.std.specs.Prelude.{Option, Some, None, Result}
use lib.Dec.{ltb}
use lib.ListN.{length, take, drop}
use seplogic.Ra.Ura.{Ura}
use prog.Model.{Model}
use types.Logic.{Logic}
use contract.Running.{Running}
use prog.Wired.{Wired}
use Rattle.reference_laws.proofs.Call.{clauses}
use denote.Builtin.{u8, u32, u64, SliceRefOf, SliceRefMutOf}
use denote.Exit.{yes}
use denote.Signature.{Signature, plain}
use denote.Triple.Spec.{Spec, Meets, exits}
use Rattle.text.specs.Literal.{ascii}
use Rattle.text.specs.Utf8.{first_ill_formed, width_of, Made, FirstIllFormed}
use Rattle.text.specs.Characters.{chars, between, is_boundary}
use Rattle.text.proofs.Exact as exact
use Rattle.text.proofs.Boundary as characters
use Rattle.text.proofs.WellFormed as decoding
use Rattle.text.specs.Number.{parsed}
use Rattle.text.specs.Words.{trim_start}
use Rattle.buffer.specs.Decimal.{decimal}
use Rattle.message_texts.proofs.Decimals as decimals
use Rattle.tape.specs.Nodes.{Node, count, node_at, kind_at, start_at, len_at, link_at}
use Rattle.tape.specs.Reading.{bad_span, tape_refusal}
use Rattle.tape.specs.Forest.{Forest, Accepted, top}
use Rattle.tape.specs.Alike.{BeginAlike}
use Rattle.tape.proofs.OneNumber as tape
use Rattle.table.specs.Entries.{Entry}
use Rattle.cursor.specs.Names.{name_of}
use Rattle.cursor.specs.Info.{info_at}
use Rattle.numbers.specs.Label.{base_len, is_glued, label_of, splits, numbered}
use Rattle.numbers.specs.Verse.{verse_part}
use Rattle.numbers.proofs.WellFormed as labels
use Rattle.findings.specs.Finding.{Finding}
use Rattle.findings.specs.Written.{whole_records, room, encode, findings_in}
use Rattle.definition.specs.State.{Milestone, node_of}
use Rattle.definition.specs.Milestones.{Fits, base_of, visits, marks_by, marks, free_starts, taken_from}
use Rattle.definition.specs.Document.{walked, running, findings_by, findings, unclosed_of, is_unclosed, those, Beginning}
use Rattle.definition.specs.Base.{base_findings, is_readable}
use Rattle.definition.specs.Account.{visited_starts, visited_ends, pairs_of, mismatches_of}
use Rattle.definition.specs.Outcome.{Lent, refusal, list_of, checked_of, answer, list_after, seen_after, open_after, cleared, no_start, repeated}
use Rattle.definition.specs.declared.OpenStart.{OpenStart}
use Rattle.definition.specs.Examples as examples
use Rattle.definition.specs.contracts.OpenStart as open-start
use Rattle.definition.proofs.WellFormed as well
use Rattle.definition.proofs.Demand3 as demand3
use Rattle.definition.proofs.Unclosed as unclosed
use Rattle.definition.proofs.Pair as pair
use Rattle.definition.proofs.Untaken as untaken
use Rattle.definition.proofs.Paired as paired
use Rattle.definition.proofs.Unreadable as unreadable
use Rattle.definition.proofs.Counted as counted
use Rattle.definition.proofs.Worked as worked
use Rattle.validate.specs.Entry.{answer_of}
use Rattle.validate.specs.declared.Report.{Report}
use Rattle.refusals.specs.declared.Refusal as code
use Rattle.std.specs.contracts.result.Result as results
use Rattle.validate.specs.contracts.Report as reports
use Rattle.refusals.specs.contracts.Refusal as refusals
use Rattle.validate.proofs.check as entry
use Rattle.validate.specs.contracts.check as entry-contract
use Rattle.validate.proofs.Lists as lists
use Rattle.messages.specs.Message.{request_of, message_text}
use Rattle.text.specs.Pick.{AllOf, cut}
use Rattle.messages.proofs.HasMessage as message
use Rattle.listing.specs.Lines.{line_and_column}
use Rattle.listing.specs.Columns.{column_at, line_before, outside80_bf, how_many}
use Rattle.listing.specs.Listing.{is_too_large, most_held, message_room, listed_each, listing}
use Rattle.listing.specs.Pieces.{head_lines, held_findings, piece_of, next_of, pieces_of, next_after, held_texts}
use Rattle.listing.proofs.Columns as columns
use Rattle.listing.proofs.Joined as pieces
use Rattle.mark.specs.Mark.{mark_of, full_mark, mark_refusal, LossAndMark, marked, mark_answer}
use Rattle.mark.specs.Conditions.{GivenMark}
use Rattle.mark.specs.MarkLines.{mark_lines, mark_of_answer, mark_output}
use Rattle.mark.proofs.Marks as marks
use Rattle.reader_spec.specs.Pass.{ReadNode, passed, outcome}
use Rattle.reader_spec.specs.Rows.{node_count}
use Rattle.reader_spec.specs.Answer.{read_refusal, nodes_read, read_answer, nodes_after}
use Rattle.reader_spec.specs.Promise.{Legible, Yields, ReadChecked}
use Rattle.reader_spec.specs.Conditions.{GivenRead}
use Rattle.reader_spec.specs.Examples as reader-examples
use Rattle.reader_spec.proofs.OneNumber as reader-numbers
use Rattle.reader_spec.proofs.Whole as reader
use Rattle.reader_spec.proofs.Settled as reader-settled
use Rattle.reader.specs.Output.{program_nodes, read_output, Printed}
use Rattle.reader.proofs.Outputs as outputs
use Rattle.tally.specs.Tally.{tally_refusal, tally_of, sum}
use Rattle.tally.proofs.Sums as sums
use Rattle.tally.proofs.Total as totals
use Rattle.trial_items.specs.Items as items
use Rattle.trial_items.proofs.Settled as settled
use Rattle.theorems.specs.Conditions.{Condition}
use Rattle.theorems.specs.ListingExample.{table_file, output, greek_source, greek_nodes, greek_output, unreadable_source, unreadable_nodes, unreadable_output}
use Rattle.theorems.specs.Readings.{ReadingIs}
use Rattle.theorems.proofs.Composed as composed
use Rattle.theorems.proofs.Printed as printed
use Rattle.theorems.proofs.Readings as readings
use Rattle.refusals.specs.Refusal.{Refusal, refuse, node_list_too_short}

-- ---- What `validate::check` promises

-- check(table: &[u8], source: &[u8], tape: &[u8], seen: &mut [u32], opens: &mut [OpenStart], list: &mut [u64]) -> Result<Report, Refusal>
abbrev pub check_signature : Signature
check_signature =
    record {
      lifetimes = 6;
      outlives = [];
      params =
          SliceRefOf (0 ∷ []) tt (plain (λ κs. u8)) (λ κs. tt)
          ∷ SliceRefOf (1 ∷ []) tt (plain (λ κs. u8)) (λ κs. tt)
          ∷ SliceRefOf (2 ∷ []) tt (plain (λ κs. u8)) (λ κs. tt)
          ∷ SliceRefMutOf (3 ∷ []) tt (plain (λ κs. u32)) (λ κs. tt)
          ∷ SliceRefMutOf (4 ∷ []) tt (plain (λ κs. open-start.the_row)) (λ κs. tt)
          ∷ SliceRefMutOf (5 ∷ []) tt (plain (λ κs. u64)) (λ κs. tt)
          ∷ [];
      result = plain (λ κs. results.the_row reports.the_row refusals.the_row);
    }

-- what it says of all that is lent, of its answer r, and of the lists at exit
abbrev pub check_ensures : Lent → Result Report code.Refusal → (seen : List ℕ) (opens : List OpenStart) (list : List ℕ) → List (Type 0)
check_ensures l r seen opens list =
    (answer_of r ≡ answer l)
    ∷ (list ≡ list_after l)
    ∷ (seen ≡ seen_after l)
    ∷ (opens ≡ open_after l)
    ∷ []

-- its contract: it asks for nothing, and says this. `now` reads the list behind a reference; a name with a prime is the reference at exit
abbrev pub check_contract : {M : Type 1} {𝓤 : Ura M} (𝓛 : Logic 𝓤) → Spec 𝓤 check_signature
check_contract {𝓤 = 𝓤} 𝓛 κs (table, (source, (tape, (seen, (opens, (list, end)))))) =
    record {
      ghost = Unit {0};
      requires = λ _. clauses 𝓤 [];
      ensures = λ _ r. exits 𝓛 check_signature (yes, (yes, (yes, (yes, (yes, (yes, tt)))))) κs (table, (source, (tape, (seen, (opens, (list, end)))))) (λ (_, (_, (_, (seen', (opens', (list', _)))))).
          clauses 𝓤 (check_ensures (record { table = table.now; source = source.now; tape = tape.now; seen = seen.now; open_starts = opens.now; list = list.now }) r seen'.now opens'.now list'.now));
    }

-- "The entry that checks has one outcome per input, given by an equation, and so has each entry below it."
-- The code of `check` meets this contract: whatever is lent, a call returns, and what the contract says holds then. `Meets` is the toolchain's definition of that, and `Wired` its definition that a name calls the code which stands under it.
pub check-promises : {M : Type 1} {𝓤 : Ura M} (𝓛 : Logic 𝓤) (𝓜 : Model 𝓤 𝓛.H) (𝓡 : Running 𝓤 𝓛.H 𝓜) → Wired 𝓡.env entry.Symbol.code → Meets 𝓛 check_signature (𝓡.run (𝓡.env entry.Symbol.name)) (check_contract 𝓛)
check-promises {𝓤 = 𝓤} 𝓛 𝓜 𝓡 wired = entry.Met.met 𝓤 𝓛 𝓜 𝓡 wired

-- This contract is the one that the toolchain makes of the clauses at the head of `check` in validate/src/lib.rt.
pub check-contract : {M : Type 1} {𝓤 : Ura M} (𝓛 : Logic 𝓤) (𝓜 : Model 𝓤 𝓛.H) (𝓡 : Running 𝓤 𝓛.H 𝓜) → entry-contract.spec 𝓛 𝓜.mem 𝓡.returns ≡ check_contract 𝓛
check-contract 𝓛 𝓜 𝓡 = refl

-- ---- Which number is given

-- "A marker that turns everything back is shut out by demand 1, since each number has its condition and occurs under no other."
-- Of the numbers 1 to 10, one is given with a place exactly if its condition (specs/Conditions.antt) holds there and no earlier number's condition holds anywhere.
pub one-number : (l : Lent) (number place : ℕ) → (refusal l ≡ refuse number place) ↔ (Condition l number place × ((earlier at : ℕ) → earlier < number → Condition l earlier at → ⊥))
one-number l number place = composed.one_number l number place

-- "A document, source and tape under a table, is accepted, or checked, when none of numbers 1 to 10 below turns it back."
-- No number is given exactly if none has its condition anywhere.
pub no-number : (l : Lent) → (refusal l ≡ None) ↔ ((number place : ℕ) → Condition l number place → ⊥)
no-number l = composed.no_number l

-- "Source: UTF-8, at most 1,048,576 bytes."
-- No place is given exactly if the text is made of rows of the Unicode Standard's Table 3-7.
pub utf8-exact : (s : List ℕ) → (first_ill_formed s ≡ None) ↔ Made s
utf8-exact s = exact.utf8-exact s

-- "The source isn't UTF-8; place: first byte of the first ill-formed sequence."
-- A place is given exactly if the text before it is made of rows and no row begins there.
pub utf8-place : (s : List ℕ) (at : ℕ) → (first_ill_formed s ≡ Some at) ↔ FirstIllFormed s at
utf8-place s at = exact.utf8-place s at

-- "A span from node 1 on leaves the source or splits a character; place: that node."
-- In text made of rows the byte at a place shows whether the place lies between two characters.
pub boundary : (s : List ℕ) → Made s → (at : ℕ) → is_boundary s at ≡ between (chars s) at
boundary s made at = characters.boundary made at

-- In a source that 3 doesn't turn back, number 6's test is that the span leaves the source, or that its start or its end doesn't lie between two characters.
pub span-is : (s t : List ℕ) (i : ℕ) → first_ill_formed s ≡ None
    → bad_span s t i ≡ (ltb (length s) (start_at t i + len_at t i) || (not (between (chars s) (start_at t i)) || not (between (chars s) (start_at t i + len_at t i))))
span-is s t i well-formed = well.span-is s t i well-formed

-- "A Chapter or Verse name is longer than its table name and the cut splits a character; place: that node."
-- In a well-formed text, number 9's test is that the name is longer and that the cut doesn't lie between two characters.
pub splits-is : (text : List ℕ) → Made text → (e : Option Entry) → splits e text ≡ (is_glued e (name_of text) && not (between (chars (name_of text)) (base_len e (name_of text))))
splits-is text made e = labels.splits-is made e

-- The text and the name of every node but the root of a checked document are well-formed, and so are the labels of its Chapters and Verses; so that a row of Table 3-7 begins at every character, and U+FFFD stands for no ill-formed byte.
pub node-made : (l : Lent) → refusal l ≡ None → (i : ℕ) → 1 ≤ i → i < count l.tape → Made (node_at l.source l.tape i).text
node-made l none-given i from inside = well.node_made l none-given i from inside

pub name-made : (l : Lent) → refusal l ≡ None → (i : ℕ) → 1 ≤ i → i < count l.tape → Made (name_of (node_at l.source l.tape i).text)
name-made l none-given i from inside = well.name-made l none-given i from inside

pub label-made : (l : Lent) → refusal l ≡ None → (i : ℕ) → 1 ≤ i → i < count l.tape → numbered (kind_at l.tape i) ≡ true → Made (label_of (info_at l.table l.tape i) (node_at l.source l.tape i).text)
label-made l none-given i from inside number = well.label-made l none-given i from inside number

pub each-decodes : (s : List ℕ) → Made s → (at : ℕ) → between (chars s) at ≡ true → at < length s → 0 < width_of (drop at s)
each-decodes s made at between-two inside = decoding.each-decodes made at (characters.boundary made at ∙ between-two) inside

-- "Read nodes from 1 with the opens not yet closed, the root outermost. A close (kinds MarkerClose, BlockEnd) at i must be the link of the innermost open."
-- None of the numbers 4 to 8 is given exactly if the tape is `Accepted`: its length, kinds and spans are good, the root's link is as module 2 has it, and the nodes before it nest at most 64 deep.
pub accepted : (s t : List ℕ) → (tape_refusal s t ≡ None) ↔ Accepted s t
accepted s t = tape.accepted s t

-- "Each gives number and place and writes nothing."
pub refused-unchanged : (l : Lent) (number place : ℕ) → refusal l ≡ refuse number place → (list_after l ≡ l.list) × (seen_after l ≡ l.seen) × (open_after l ≡ l.open_starts)
refused-unchanged l number place given = (rw given, rw given, rw given)

-- "After a checked document the first n entries of both working lists are zero (n nodes), the rest unchanged."
pub working-lists-cleared : (l : Lent) → refusal l ≡ None → (seen_after l ≡ cleared 0 (count l.tape) l.seen) × (open_after l ≡ cleared no_start (count l.tape) l.open_starts)
working-lists-cleared l none-given = (rw none-given, rw none-given)

-- ---- Demand 3

-- "Two documents begin alike when the shorter's source is a beginning of the longer's, and its nodes from 1 on before the root's link, which are its top-level nodes with all inside them, are the longer's first nodes from 1 on; what the longer adds are its nodes after these, or none; root fields aren't compared, and no MarkerOpen that the longer adds starts at a byte where one of the shorter's starts, since attachment goes by start offset."
-- Of two checked documents under one table that begin alike, the shorter's findings, closing findings aside, are a beginning of the longer's.
pub longer-keeps-findings : (l l' : Lent) → l.table ≡ l'.table → refusal l ≡ None → refusal l' ≡ None → BeginAlike l.source l.tape l'.source l'.tape → Beginning (running l.table (top l.source l.tape)) (running l'.table (top l'.source l'.tape))
longer-keeps-findings l l' table short long alike = demand3.longer-keeps-findings l l' table short long alike

-- "A visited start that no end takes is unclosed, and its finding is a MilestoneMismatch of form 0 with its node."
-- The findings of a document's list that are a MilestoneMismatch of form 0 are those of the starts that its walk leaves open, in opening order.
pub unclosed-listed : (table : List ℕ) (f : Forest) → those is_unclosed (findings table f) ≡ unclosed_of table f
unclosed-listed table f = unclosed.unclosed-listed table f

-- Of the unclosed starts in the longer's list, those with a node of the shorter are those of the shorter's list that no end among the added nodes takes, in the same order and with all fields alike.
pub longer-unclosed : (l l' : Lent) → l.table ≡ l'.table → refusal l ≡ None → refusal l' ≡ None → BeginAlike l.source l.tape l'.source l'.tape
    → those (λ e. is_unclosed e && ltb e.node (link_at l.tape 0)) (list_of l')
    ≡ those (λ e. is_unclosed e && not (taken_from (link_at l.tape 0) e.node (marks (visits l'.table (top l'.source l'.tape))))) (list_of l)
longer-unclosed l l' table short long alike = unclosed.longer-unclosed l l' table short long alike

-- "its lists are those that the check writes, by demand 2 those of the definition"
-- The first 8k words of both lists at exit are the same, for every k up to the number of the shorter's findings, closing findings aside, for which both lists have room; by `written-words` they are the words of the first k findings.
pub longer-keeps-words : (l l' : Lent) → l.table ≡ l'.table → refusal l ≡ None → refusal l' ≡ None → BeginAlike l.source l.tape l'.source l'.tape
    → (k : ℕ) → k ≤ length (running l.table (top l.source l.tape)) → k ≤ room l.list → k ≤ room l'.list
    → take (8 * k) (list_after l') ≡ take (8 * k) (list_after l)
longer-keeps-words l l' table short long alike k = lists.longer-keeps-words l l' table short long alike k

-- The second half for the words of lists that aren't cut: `findings_in` reads eight words as a finding.
pub longer-unclosed-words : (l l' : Lent) → l.table ≡ l'.table → refusal l ≡ None → refusal l' ≡ None → BeginAlike l.source l.tape l'.source l'.tape → (checked_of l).cut ≡ false → (checked_of l').cut ≡ false
    → those (λ e. is_unclosed e && ltb e.node (link_at l.tape 0)) (findings_in (take (8 * (checked_of l').total) (list_after l')))
    ≡ those (λ e. is_unclosed e && not (taken_from (link_at l.tape 0) e.node (marks (visits l'.table (top l'.source l'.tape))))) (findings_in (take (8 * (checked_of l).total) (list_after l)))
longer-unclosed-words l l' table short long alike uncut uncut' = lists.longer-unclosed-words l l' table short long alike uncut uncut'

-- The words of a list that isn't cut are its findings.
pub uncut-words : (l : Lent) → refusal l ≡ None → (checked_of l).cut ≡ false → findings_in (take (8 * (checked_of l).total) (list_after l)) ≡ list_of l
uncut-words l none-given uncut = lists.uncut-words l none-given uncut

-- Two documents meet these premises: neither is turned back, and they begin alike. By `worked-examples` the shorter's list has one unclosed start, which the longer's added end takes: the longer's list has none.
pub shorter-accepted : refusal (examples.lent_of examples.shorter_document) ≡ None
shorter-accepted = pair.shorter-accepted

pub longer-accepted : refusal (examples.lent_of examples.longer_document) ≡ None
longer-accepted = pair.longer-accepted

pub begin-alike : BeginAlike (examples.lent_of examples.shorter_document).source (examples.lent_of examples.shorter_document).tape (examples.lent_of examples.longer_document).source (examples.lent_of examples.longer_document).tape
begin-alike = pair.begin-alike

-- "A visited end takes the nearest earlier visited start of the same base that no end took before; an end passed over takes none."
-- The open starts after the walk are the visited starts that no visited end took, the latest first.
pub open-starts-are-untaken : (table : List ℕ) (f : Forest) → (walked table f).state.open_starts ≡ free_starts (marks (visits table f))
open-starts-are-untaken table f = untaken.open-starts-are-untaken table f

-- ---- The quotation account (document 02, K4)

-- "State for every accepted document and every milestone base: visited starts plus visited ends equal twice the pairs plus the MilestoneMismatch findings of that base in the whole list. Pairs are counted by module 9's taking rule over the order of visits, never from the open starts."
-- Every list of bytes is taken as a base; where no milestone has it, all four are 0. `visits` are the visited milestones in their order, and `marks` say of each which end took it. That the document is accepted isn't needed (`account`).
pub quotation-account : (l : Lent) → refusal l ≡ None → (base : List ℕ)
    → visited_starts base (visits l.table (top l.source l.tape)) + visited_ends base (visits l.table (top l.source l.tape))
    ≡ 2 * pairs_of base (marks (visits l.table (top l.source l.tape))) + mismatches_of base (node_at l.source l.tape) (list_of l)
quotation-account l none-given base = paired.quotation-account l none-given base

-- The account holds of any source and tape, accepted or not, under any table.
pub account : (table s t base : List ℕ)
    → visited_starts base (visits table (top s t)) + visited_ends base (visits table (top s t)) ≡ 2 * pairs_of base (marks (visits table (top s t))) + mismatches_of base (node_at s t) (findings table (top s t))
account table s t base = paired.account table s t base

-- For the words that the check writes, where the list isn't cut.
pub account-of-words : (l : Lent) → refusal l ≡ None → (checked_of l).cut ≡ false → (base : List ℕ)
    → visited_starts base (visits l.table (top l.source l.tape)) + visited_ends base (visits l.table (top l.source l.tape))
    ≡ 2 * pairs_of base (marks (visits l.table (top l.source l.tape))) + mismatches_of base (node_at l.source l.tape) (findings_in (take (8 * (checked_of l).total) (list_after l)))
account-of-words l none-given uncut base = lists.account-of-words l none-given uncut base

-- The account holds for every taking rule under which an end takes only starts of its own base: `fits y x` says that the end x may take the start y. `at` gives the node of each visited milestone by its number.
pub account-by : (fits : Fits) → ((y x : Milestone) → fits y x ≡ true → base_of (node_of y) ≡ base_of (node_of x)) → (table : List ℕ) (f : Forest) (at : ℕ → Node) → AllOf (λ (x : Milestone). at (node_of x).number ≡ node_of x) (visits table f) → (base : List ℕ)
    → visited_starts base (visits table f) + visited_ends base (visits table f) ≡ 2 * pairs_of base (marks_by fits (visits table f)) + mismatches_of base at (findings_by fits table f)
account-by fits by-base table f at found base = paired.account-by fits by-base table f at found base

-- Nested, crossing and unclosed quotations of two bases. Of `qt` there are 2 starts, 3 ends, 2 pairs and 1 mismatch, of `qt1` 3 starts, 1 end, 1 pair and 2 mismatches; the document is accepted.
pub quotation-example : (examples.account_of (ascii "qt") examples.quotations ≡ 2 ∷ 3 ∷ 2 ∷ 1 ∷ []) × (examples.account_of (ascii "qt1") examples.quotations ≡ 3 ∷ 1 ∷ 1 ∷ 2 ∷ []) × (refusal (examples.lent_of examples.quotations) ≡ None)
quotation-example = worked.quotation-example

-- ---- A checked document's numbers, words, texts and tally

-- "Errors, warnings and infos count the whole defined list, cut or not."
-- They add up to the total.
pub counts-add-up : (l : Lent) → (checked_of l).errors + (checked_of l).warnings + (checked_of l).infos ≡ (checked_of l).total
counts-add-up l = counted.counts-add-up l

-- "A checked document gives total, written, verses visited, errors, warnings, infos."
-- The verses visited are no more than the nodes.
pub verses-few : (l : Lent) → refusal l ≡ None → (checked_of l).verses ≤ count l.tape
verses-few l none-given = counted.verses_few l none-given

-- "an invented total, or Cut from a list not full, contradicts demand 1"
-- What is written has room and is no more than the total; where the list is cut, no further finding has room.
pub written-fits : (l : Lent) → ((checked_of l).written ≤ (checked_of l).total) × (8 * (checked_of l).written ≤ length l.list)
written-fits l = counted.written-fits l

pub cut-is-full : (l : Lent) → (checked_of l).cut ≡ true → length l.list < 8 * ((checked_of l).written + 1)
cut-is-full l cut = counted.cut-is-full l cut

-- "Written is the smaller of total and the list's length divided by 8, rounded down; words beyond are untouched"
-- The list at exit holds the words of the findings that fit, and then what it held.
pub written-words : (l : Lent) → refusal l ≡ None → list_after l ≡ encode (take (room l.list) (list_of l)) ++ drop (8 * length (take (room l.list) (list_of l))) l.list
written-words l none-given = lists.written-words l none-given

-- "Message (after 1 to 9): code and form unknown to validate.rs, node or owner not on the tape, letter over 127, or the node lacks what the text needs"
-- Every finding of a checked document has its text, so number 12 turns none of them back.
pub finding-has-message : (l : Lent) → refusal l ≡ None → AllOf (λ (f : Finding). (text : List ℕ) × (message_text l.table l.source l.tape (request_of f) ≡ Some text)) (list_of l)
finding-has-message l none-given = message.finding-has-message l none-given

-- "Tally gives 35 counts by code."; document 02, K6: "Tally has 36 counts".
-- The counts of a list that number 11 does not turn back sum to its number of records.
pub tally-sums : (words : List ℕ) → tally_refusal words ≡ None → sum (tally_of words) ≡ whole_records words
tally-sums words none-given = sums.tally-sums words none-given

-- "All but verses are lengths of the defined list or its parts"
-- The tally of a checked document's list that is not cut sums to its total.
pub tally-total : (l : Lent) → refusal l ≡ None → 8 * length (list_of l) ≤ length l.list → sum (tally_of (take (8 * length (list_of l)) (list_after l))) ≡ length (list_of l)
tally-total l none-given fits = totals.tally-total l none-given fits

-- ---- The listing

-- "`findings=` is the total, and only the held ones are printed"
-- The head and the pieces that `put_head` and `put_findings` write, one behind another, are the listing, whatever room each piece has, if they reach the last held finding. The working lists suffice for 4,096 nodes, which no file exceeds, and the findings list holds 1,024.
pub listing-joined : (l : Lent) → is_too_large l.table l.source l.tape ≡ false → 4096 ≤ length l.seen → 4096 ≤ length l.open_starts → length l.list ≡ 8 * most_held → (rooms : List ℕ)
    → next_after (held_texts message_room l) 0 rooms ≡ length (held_texts message_room l)
    → head_lines (answer l) ++ pieces_of (held_texts message_room l) 0 rooms ≡ listing l.table l.source l.tape
listing-joined l small seen opens holds rooms all = pieces.listing-joined l small seen opens holds rooms all

-- As many pieces as there are held findings, each with 512 bytes more than the room for a message, as check-exercise writes them, reach the last: they are the listing.
pub listing-printed : (l : Lent) → is_too_large l.table l.source l.tape ≡ false → 4096 ≤ length l.seen → 4096 ≤ length l.open_starts → length l.list ≡ 8 * most_held → (r : ℕ) → message_room + 512 ≤ r → (n : ℕ) → length (held_texts message_room l) ≤ n
    → head_lines (answer l) ++ pieces_of (held_texts message_room l) 0 (repeated r n) ≡ listing l.table l.source l.tape
listing-printed l small seen opens holds r enough n all = pieces.listing-printed l small seen opens holds r enough n all

-- A piece with 512 bytes more than the room for a message has one finding at least; every piece fits.
pub piece-goes-on : (room : ℕ) (table s t : List ℕ) → length s ≤ 1048576 → (n : ℕ) (words : List ℕ) → n ≤ whole_records words → (k out : ℕ) → k < n → room + 512 ≤ out → k < next_of (listed_each room table s t (held_findings n words)) k out
piece-goes-on room table s t short n words few k out left enough = pieces.piece-goes-on room table s t short n words few k out left enough

pub piece-fits : (texts : List (List ℕ)) (k room : ℕ) → length (piece_of texts k room) ≤ room
piece-fits texts k room = pieces.piece-fits texts k room

-- "Whole output"
pub listing-example : listing table_file (examples.example1).source (examples.tape_of (examples.example1).nodes) ≡ output
listing-example = printed.listing-example

-- ---- The column (document 02, K3)

-- "Column becomes one plus the number of code points that begin at or after the line's start and before the finding's."
-- In well-formed text it is one plus the number of bytes outside 80 to BF from the line's start to the place.
pub column-first-bytes : (s : List ℕ) → first_ill_formed s ≡ None → (at : ℕ) → column_at s at ≡ suc (how_many outside80_bf (line_before s at))
column-first-bytes s well-formed at = columns.column-first-bytes s well-formed at

-- It is at most document 01's column, which counts bytes, and equal where the bytes from the line's start to the place are ASCII.
pub column-at-most-bytes : (s : List ℕ) → first_ill_formed s ≡ None → (at : ℕ) → at ≤ length s → column_at s at ≤ (line_and_column s at).column
column-at-most-bytes s well-formed at inside = columns.column-at-most-bytes s well-formed at inside

pub column-ascii : (s : List ℕ) → first_ill_formed s ≡ None → (at : ℕ) → at ≤ length s → AllOf (λ (b : ℕ). b < 0x80) (line_before s at) → column_at s at ≡ (line_and_column s at).column
column-ascii s well-formed at inside low = columns.column-ascii s well-formed at inside low

-- The whole output for a document with Greek: its finding stands at column 12, which in bytes is 17.
pub listing-greek : listing table_file greek_source (examples.tape_of greek_nodes) ≡ greek_output
listing-greek = printed.listing-greek

pub greek-places : (line_and_column greek_source 32 ≡ record { line = 4; column = 17 }) × (column_at greek_source 32 ≡ 12) × (column_at greek_source 16 ≡ 1) × (column_at greek_source 23 ≡ 7) × (column_at greek_source 44 ≡ 20)
greek-places = printed.greek-places

-- ---- The mark (document 02, K1)

-- "It must be proved to lie from 0 to 10,000"
pub mark-range : (errors warnings verses : ℕ) → mark_of errors warnings verses ≤ full_mark
mark-range errors warnings verses = marks.mark-range errors warnings verses

-- "and never to rise with one error more"
pub mark-monotone : (errors warnings verses : ℕ) → 1 ≤ verses → mark_of (errors + 1) warnings verses ≤ mark_of errors warnings verses
mark-monotone errors warnings verses some-verses = marks.mark-monotone errors warnings verses some-verses

-- Of the entry's answers, wherever both have a mark.
pub mark-falls : (errors warnings verses : ℕ) (m n : LossAndMark) → mark_answer errors warnings verses ≡ marked m → mark_answer (errors + 1) warnings verses ≡ marked n → n.mark ≤ m.mark
mark-falls errors warnings verses m n first second = marks.mark-falls errors warnings verses m n first second

-- "14 when any of the three counts is over 1,000,000, place 0; then 15 when verses is 0, place 0"
-- `GivenMark` has one case for each number, with its condition, and one for none.
pub mark-number : (errors warnings verses : ℕ) → GivenMark errors warnings verses (mark_refusal errors warnings verses)
mark-number errors warnings verses = marks.mark-number errors warnings verses

-- "A small program over check-exercise's files prints it as `loss=` and `mark=`, or a refusal as there."
-- What `put_mark` writes by the check's answer is what mark-exercise prints for these files.
pub mark-printed : (l : Lent) → is_too_large l.table l.source l.tape ≡ false → 4096 ≤ length l.seen → 4096 ≤ length l.open_starts → mark_lines (mark_of_answer (answer l)) ≡ mark_output l.table l.source l.tape
mark-printed l small seen opens = marks.mark-printed l small seen opens

-- ---- The reader (document 02, K5)

-- "Answers, after 1 to 3: 16 for an unknown marker .., 17 for a close without its open innermost .., 18 when the node list is too short ..; of 16 and 17 the earlier place, at one place 16."
-- `GivenRead` has one case for each number, with its condition, and one for none: a refusal is given exactly where its condition holds.
pub read-number : (t s nodes : List ℕ) (o : Option Refusal) → (read_refusal t s nodes ≡ o) ↔ GivenRead t s nodes o
read-number t s nodes o = reader-numbers.read_number t s nodes o

-- "Every tape it yields is one that numbers 4 to 9 don't turn back, unless it is too deep or over 65,535 nodes."
-- Of the nodes that the pass over a text gives: they lie end to end from the text's start to its end, and 4 and 8 are the only exceptions.
pub read-yields : (t s : List ℕ) (xs : List ReadNode) → Legible t s → outcome t s ≡ passed xs → Yields t s xs
read-yields t s xs legible passes = reader.read-yields t s xs legible passes

-- Of the check: lent a text's own tape it never answers 5, 6, 7 or 9, and 4 over 65,535 nodes alone, whatever else is lent.
pub read-checked : (t s nodes seen : List ℕ) (starts : List OpenStart) (list : List ℕ) → read_refusal t s nodes ≡ None → ReadChecked t s nodes seen starts list
read-checked t s nodes seen starts list none-given = reader.read-checked t s nodes seen starts list none-given

-- "lent lists keep what lies beyond the written part", and a refusal writes nothing.
pub read-refused-unchanged : (t s nodes : List ℕ) (r : Refusal) → read_refusal t s nodes ≡ Some r → nodes_after t s nodes ≡ nodes
read-refused-unchanged t s nodes r e = outputs.refused-unchanged t s nodes r e

pub read-beyond : (t s nodes : List ℕ) → drop (16 * node_count (nodes_read t s)) (nodes_after t s nodes) ≡ drop (16 * node_count (nodes_read t s)) nodes
read-beyond t s nodes = outputs.kept-beyond t s nodes

-- What `put_output` writes over a list of nodes, up to the place that it gives, is what read-exercise prints for these files.
pub read-printed : (t s entry exit : List ℕ) (r : ℕ) → is_too_large t s [] ≡ false → 256 ≤ length entry → r ≤ length exit → Printed t s entry exit r (read_answer t s entry) → take r exit ≡ read_output t s entry
read-printed t s entry exit r small room inside p = outputs.output-printed t s entry exit r small room inside p

-- The program's list of 65,537 nodes is never too short.
pub read-has-room : (t s nodes : List ℕ) (place : ℕ) → is_too_large t s [] ≡ false → count nodes ≡ program_nodes → read_refusal t s nodes ≡ refuse node_list_too_short place → ⊥
read-has-room t s nodes place small room given = outputs.has_room t s nodes place small room given

-- Each of 53 texts gives the rows, or the refusal, that is written beside it.
pub read-examples : reader-examples.results_of reader-examples.read_examples ≡ reader-examples.wanted_results reader-examples.read_examples
read-examples = reader-settled.read-examples

-- ---- Verse numbers that can't be read (document 02, K6)

-- "The part reading shall answer three ways: read, no digits, too large."
-- Each answer is given exactly where it says so: the three exclude each other.
pub part-readings : (s : List ℕ) → ReadingIs (cut (trim_start s) s) (verse_part s)
part-readings s = readings.part-readings s

-- "Against the Rust, lists are compared without code 35".
-- Without it the list is the one by document 01's rules.
pub without-unreadable : (table : List ℕ) (f : Forest) → those is_readable (findings table f) ≡ base_findings table f
without-unreadable table f = unreadable.without-unreadable table f

-- So are the words that the check writes, where the list isn't cut.
pub without-unreadable-words : (l : Lent) → refusal l ≡ None → (checked_of l).cut ≡ false → those is_readable (findings_in (take (8 * (checked_of l).total) (list_after l))) ≡ base_findings l.table (top l.source l.tape)
without-unreadable-words l none-given whole = ap (those is_readable) (lists.uncut-words l none-given whole) ∙ without-unreadable l.table (top l.source l.tape)

-- A document with both forms, by computation.
pub listing-unreadable : listing table_file unreadable_source (examples.tape_of unreadable_nodes) ≡ unreadable_output
listing-unreadable = printed.listing-unreadable

-- ---- Examples

-- "Items 1 to 12 are collected in one table about the definitions and settled by one proof"
-- Each item of the table gives what document 01 says.
pub trial-items : items.outcomes_of items.items ≡ items.wanted_outcomes items.items
trial-items = settled.trial-items

-- "An empty list for every passage, one stock finding, or lists never written: each breaks demand 2."
-- Each of eighteen documents has the findings that are written beside it: the listing's document, one for each of the four slips that document 01 lists after 'Also:', and others. None of them is turned back.
pub worked-examples : examples.findings_of examples.examples ≡ examples.wanted_findings examples.examples
worked-examples = worked.worked-examples

pub worked-accepted : examples.refusals_of examples.examples ≡ examples.none_of examples.examples
worked-accepted = worked.worked-accepted

-- "`parse` to u32: one optional `+`, then one or more digits, value at most 4,294,967,295."
-- The decimal digits in which texts show a number are read as that number.
pub decimal-parsed : (n : ℕ) → n ≤ 4294967295 → parsed (decimal n) ≡ Some n
decimal-parsed n h = decimals.decimal-parsed n h
