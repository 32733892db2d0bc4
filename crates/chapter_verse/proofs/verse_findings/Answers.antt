-- `chapter_verse::verse_findings` meets its contract.
use mathlib.Core.Bool.{Bool, not, ◌&&◌}
use Prim.Native.Nat.{ℕ}
use mathlib.Core.Path.{◌≡◌, refl, ap, ◌∙◌}
use mathlib.Core.List.{List, [], ◌∷◌}
use Rattle.std.specs.Prelude.{Option}
use Rattle.tape.specs.Nodes.{Node, node_at}
use Rattle.table.specs.Entries.{Entry, info_of}
use Rattle.findings.specs.Finding.{Finding}
use Rattle.findings.specs.Codes.{unreadable_verse_number}
use Rattle.findings.specs.declared.Counts.{Counts}
use Rattle.definition.specs.State.{WalkState, WalkContext}
use Rattle.numbers.specs.Verse.{PartReading, read_of}
use Rattle.definition.specs.Checks.{Check, given, about, warning, is_empty, breaks, unread, unread_form, number_form, verse_checks}
use Rattle.state.specs.Inner.{state_of, counts_of, context_of}
use Rattle.chapter_verse.proofs.Givens.{Due, due-start, due-room, due-wrote, due-rest, due_all}
use Rattle.chapter_verse.proofs.Positions.{low_read}
use Rattle.chapter_verse.proofs.Checked.{stray, crossing, bare_verse, amiss, unreadable, is-bare, is-amiss, says-amiss, is-unreadable, says-unreadable}
use Rattle.chapter_verse.proofs.verse_findings.Goals as goal

pub breaks-amiss-requires : goal.breaks-amiss-requires
breaks-amiss-requires c =
    let s = c in
    (s.requires.3, low_read s.args.label.now s.args.read s.requires.2)

pub warn_if-d-requires : goal.warn_if-d-requires
warn_if-d-requires c =
    let entry : Option Entry = info_of c.args.info in
    let node : Node = let a = c.args in node_at a.doc.source.now a.doc.tape.now a.i in
    let context : WalkContext = context_of c.args.context in
    let state : WalkState = let a = c.args in state_of a.doc.source.now a.doc.tape.now [] [] a.rec in
    let last : List Check = unreadable entry node ∷ number_form 1 entry node in
    let one : List Check = amiss entry state node ∷ last in
    let two : List Check = bare_verse entry node ∷ one in
    let three : List Check = crossing context node ∷ two in
    let Rest : List Check → List ℕ → Counts → Type 0 = let a = c.args in Due (given (verse_checks entry context state node)) a.list.now (counts_of a.rec) in
    let due-stray : Rest (stray context state node ∷ three) c.args.list.now c.counts-c.result = let s = c in due-start (verse_checks entry context state node) s.args.list.now (counts_of s.args.rec) c.counts-c.result c.counts-c.ensures s.requires.4 in
    let k = c in
    let s = k in
    (s.requires.0, due-room (stray context state node) three k.neither-outside.result (stray context state node).finding k.neither-outside.ensures refl due-stray)

pub error_if-e-requires : goal.error_if-e-requires
error_if-e-requires c =
    let entry : Option Entry = info_of c.args.info in
    let node : Node = let a = c.args in node_at a.doc.source.now a.doc.tape.now a.i in
    let context : WalkContext = context_of c.args.context in
    let state : WalkState = let a = c.args in state_of a.doc.source.now a.doc.tape.now [] [] a.rec in
    let last : List Check = unreadable entry node ∷ number_form 1 entry node in
    let one : List Check = amiss entry state node ∷ last in
    let two : List Check = bare_verse entry node ∷ one in
    let three : List Check = crossing context node ∷ two in
    let Rest : List Check → List ℕ → Counts → Type 0 = let a = c.args in Due (given (verse_checks entry context state node)) a.list.now (counts_of a.rec) in
    let due-stray : Rest (stray context state node ∷ three) c.args.list.now c.counts-c.result = let s = c in due-start (verse_checks entry context state node) s.args.list.now (counts_of s.args.rec) c.counts-c.result c.counts-c.ensures s.requires.4 in
    let due-crossing : Rest three c.warn_if-d.new.list c.warn_if-d.result = let k = c in let s = k in due-wrote (stray context state node) three k.neither-outside.result (stray context state node).finding k.neither-outside.ensures refl due-stray c.warn_if-d.ensures in
    let t = c in
    let s = t in
    (s.requires.0, due-room (crossing context node) two context.in_char (crossing context node).finding refl refl due-crossing)

pub error_if-g-requires : goal.error_if-g-requires
error_if-g-requires c =
    let entry : Option Entry = info_of c.args.info in
    let node : Node = let a = c.args in node_at a.doc.source.now a.doc.tape.now a.i in
    let context : WalkContext = context_of c.args.context in
    let state : WalkState = let a = c.args in state_of a.doc.source.now a.doc.tape.now [] [] a.rec in
    let last : List Check = unreadable entry node ∷ number_form 1 entry node in
    let one : List Check = amiss entry state node ∷ last in
    let two : List Check = bare_verse entry node ∷ one in
    let three : List Check = crossing context node ∷ two in
    let Rest : List Check → List ℕ → Counts → Type 0 = let a = c.args in Due (given (verse_checks entry context state node)) a.list.now (counts_of a.rec) in
    let empty : Bool = is_empty c.args.label.now in
    let bare : empty ≡ (bare_verse entry node).holds = let s = c in is-bare entry node s.args.label.now s.requires.1.label_is in
    let due-stray : Rest (stray context state node ∷ three) c.args.list.now c.counts-c.result = let s = c in due-start (verse_checks entry context state node) s.args.list.now (counts_of s.args.rec) c.counts-c.result c.counts-c.ensures s.requires.4 in
    let due-crossing : Rest three c.warn_if-d.new.list c.warn_if-d.result = let k = c in let s = k in due-wrote (stray context state node) three k.neither-outside.result (stray context state node).finding k.neither-outside.ensures refl due-stray c.warn_if-d.ensures in
    let due-bare : Rest two c.error_if-e.new.list c.error_if-e.result = let s = c in due-wrote (crossing context node) two context.in_char (crossing context node).finding refl refl due-crossing c.error_if-e.ensures in
    let t = c in
    let k = t in
    let s = k in
    (s.requires.0, due-room (bare_verse entry node) one empty (bare_verse entry node).finding bare refl due-bare)

pub warn_if-h-requires : goal.warn_if-h-requires
warn_if-h-requires c =
    let entry : Option Entry = info_of c.args.info in
    let node : Node = let a = c.args in node_at a.doc.source.now a.doc.tape.now a.i in
    let context : WalkContext = context_of c.args.context in
    let state : WalkState = let a = c.args in state_of a.doc.source.now a.doc.tape.now [] [] a.rec in
    let last : List Check = unreadable entry node ∷ number_form 1 entry node in
    let one : List Check = amiss entry state node ∷ last in
    let two : List Check = bare_verse entry node ∷ one in
    let three : List Check = crossing context node ∷ two in
    let Rest : List Check → List ℕ → Counts → Type 0 = let a = c.args in Due (given (verse_checks entry context state node)) a.list.now (counts_of a.rec) in
    let empty : Bool = is_empty c.args.label.now in
    let bare : empty ≡ (bare_verse entry node).holds = let s = c in is-bare entry node s.args.label.now s.requires.1.label_is in
    let broken : c.breaks-amiss.result ≡ (amiss entry state node).holds = let s = c in let b = c.breaks-amiss in is-amiss entry node s.args.label.now s.requires.1.label_is state b.result (b.ensures ∙ ap (λ (r : PartReading). breaks r state.expected_verse) s.requires.2) in
    let wrong : Finding = about node 1 11 0 state.expected_verse.number c.letter_byte-letter.result in
    let says : wrong ≡ (amiss entry state node).finding = says-amiss entry state node c.letter_byte-letter.result c.letter_byte-letter.ensures in
    let due-stray : Rest (stray context state node ∷ three) c.args.list.now c.counts-c.result = let s = c in due-start (verse_checks entry context state node) s.args.list.now (counts_of s.args.rec) c.counts-c.result c.counts-c.ensures s.requires.4 in
    let due-crossing : Rest three c.warn_if-d.new.list c.warn_if-d.result = let k = c in let s = k in due-wrote (stray context state node) three k.neither-outside.result (stray context state node).finding k.neither-outside.ensures refl due-stray c.warn_if-d.ensures in
    let due-bare : Rest two c.error_if-e.new.list c.error_if-e.result = let s = c in due-wrote (crossing context node) two context.in_char (crossing context node).finding refl refl due-crossing c.error_if-e.ensures in
    let due-amiss : Rest one c.error_if-g.new.list c.error_if-g.result = let k = c in let s = k in due-wrote (bare_verse entry node) one empty (bare_verse entry node).finding bare refl due-bare c.error_if-g.ensures in
    let t = c in
    let k = t in
    let s = k in
    (s.requires.0, due-room (amiss entry state node) last k.breaks-amiss.result wrong broken says due-amiss)

pub unread_finding-k-requires : goal.unread_finding-k-requires
unread_finding-k-requires c =
    let entry : Option Entry = info_of c.args.info in
    let node : Node = let a = c.args in node_at a.doc.source.now a.doc.tape.now a.i in
    let context : WalkContext = context_of c.args.context in
    let state : WalkState = let a = c.args in state_of a.doc.source.now a.doc.tape.now [] [] a.rec in
    let last : List Check = unreadable entry node ∷ number_form 1 entry node in
    let one : List Check = amiss entry state node ∷ last in
    let two : List Check = bare_verse entry node ∷ one in
    let three : List Check = crossing context node ∷ two in
    let Rest : List Check → List ℕ → Counts → Type 0 = let a = c.args in Due (given (verse_checks entry context state node)) a.list.now (counts_of a.rec) in
    let empty : Bool = is_empty c.args.label.now in
    let bare : empty ≡ (bare_verse entry node).holds = let s = c in is-bare entry node s.args.label.now s.requires.1.label_is in
    let broken : c.breaks-amiss.result ≡ (amiss entry state node).holds = let s = c in let b = c.breaks-amiss in is-amiss entry node s.args.label.now s.requires.1.label_is state b.result (b.ensures ∙ ap (λ (r : PartReading). breaks r state.expected_verse) s.requires.2) in
    let wrong : Finding = about node 1 11 0 state.expected_verse.number c.letter_byte-letter.result in
    let says : wrong ≡ (amiss entry state node).finding = says-amiss entry state node c.letter_byte-letter.result c.letter_byte-letter.ensures in
    let due-stray : Rest (stray context state node ∷ three) c.args.list.now c.counts-c.result = let s = c in due-start (verse_checks entry context state node) s.args.list.now (counts_of s.args.rec) c.counts-c.result c.counts-c.ensures s.requires.4 in
    let due-crossing : Rest three c.warn_if-d.new.list c.warn_if-d.result = let k = c in let s = k in due-wrote (stray context state node) three k.neither-outside.result (stray context state node).finding k.neither-outside.ensures refl due-stray c.warn_if-d.ensures in
    let due-bare : Rest two c.error_if-e.new.list c.error_if-e.result = let s = c in due-wrote (crossing context node) two context.in_char (crossing context node).finding refl refl due-crossing c.error_if-e.ensures in
    let due-amiss : Rest one c.error_if-g.new.list c.error_if-g.result = let k = c in let s = k in due-wrote (bare_verse entry node) one empty (bare_verse entry node).finding bare refl due-bare c.error_if-g.ensures in
    let due-unreadable : Rest last c.warn_if-h.new.list c.warn_if-h.result = let k = c in let s = k in due-wrote (amiss entry state node) last k.breaks-amiss.result wrong broken says due-amiss c.warn_if-h.ensures in
    let reading : PartReading = read_of c.args.read in
    let illegible : Bool = not (is_empty c.args.label.now) && unread reading in
    let unreadably : Finding = warning node unreadable_verse_number (unread_form reading) in
    let is-illegible : illegible ≡ (unreadable entry node).holds = is-unreadable entry node c.args.label.now c.requires.1.label_is reading c.requires.2 in
    let says-illegible : unreadably ≡ (unreadable entry node).finding = says-unreadable entry node c.args.label.now c.requires.1.label_is reading c.requires.2 in
    let t = c in
    let s = t in
    (s.requires.0, due-room (unreadable entry node) (number_form 1 entry node) illegible unreadably is-illegible says-illegible due-unreadable)

pub check_number_form-requires : goal.check_number_form-requires
check_number_form-requires c =
    let entry : Option Entry = info_of c.args.info in
    let node : Node = let a = c.args in node_at a.doc.source.now a.doc.tape.now a.i in
    let context : WalkContext = context_of c.args.context in
    let state : WalkState = let a = c.args in state_of a.doc.source.now a.doc.tape.now [] [] a.rec in
    let last : List Check = unreadable entry node ∷ number_form 1 entry node in
    let one : List Check = amiss entry state node ∷ last in
    let two : List Check = bare_verse entry node ∷ one in
    let three : List Check = crossing context node ∷ two in
    let Rest : List Check → List ℕ → Counts → Type 0 = let a = c.args in Due (given (verse_checks entry context state node)) a.list.now (counts_of a.rec) in
    let empty : Bool = is_empty c.args.label.now in
    let bare : empty ≡ (bare_verse entry node).holds = let s = c in is-bare entry node s.args.label.now s.requires.1.label_is in
    let broken : c.breaks-amiss.result ≡ (amiss entry state node).holds = let s = c in let b = c.breaks-amiss in is-amiss entry node s.args.label.now s.requires.1.label_is state b.result (b.ensures ∙ ap (λ (r : PartReading). breaks r state.expected_verse) s.requires.2) in
    let wrong : Finding = about node 1 11 0 state.expected_verse.number c.letter_byte-letter.result in
    let says : wrong ≡ (amiss entry state node).finding = says-amiss entry state node c.letter_byte-letter.result c.letter_byte-letter.ensures in
    let due-stray : Rest (stray context state node ∷ three) c.args.list.now c.counts-c.result = let s = c in due-start (verse_checks entry context state node) s.args.list.now (counts_of s.args.rec) c.counts-c.result c.counts-c.ensures s.requires.4 in
    let due-crossing : Rest three c.warn_if-d.new.list c.warn_if-d.result = let k = c in let s = k in due-wrote (stray context state node) three k.neither-outside.result (stray context state node).finding k.neither-outside.ensures refl due-stray c.warn_if-d.ensures in
    let due-bare : Rest two c.error_if-e.new.list c.error_if-e.result = let s = c in due-wrote (crossing context node) two context.in_char (crossing context node).finding refl refl due-crossing c.error_if-e.ensures in
    let due-amiss : Rest one c.error_if-g.new.list c.error_if-g.result = let k = c in let s = k in due-wrote (bare_verse entry node) one empty (bare_verse entry node).finding bare refl due-bare c.error_if-g.ensures in
    let due-unreadable : Rest last c.warn_if-h.new.list c.warn_if-h.result = let k = c in let s = k in due-wrote (amiss entry state node) last k.breaks-amiss.result wrong broken says due-amiss c.warn_if-h.ensures in
    let reading : PartReading = read_of c.args.read in
    let illegible : Bool = not (is_empty c.args.label.now) && unread reading in
    let unreadably : Finding = warning node unreadable_verse_number (unread_form reading) in
    let is-illegible : illegible ≡ (unreadable entry node).holds = is-unreadable entry node c.args.label.now c.requires.1.label_is reading c.requires.2 in
    let says-illegible : unreadably ≡ (unreadable entry node).finding = says-unreadable entry node c.args.label.now c.requires.1.label_is reading c.requires.2 in
    let due-form : Rest (number_form 1 entry node) c.unread_finding-k.new.list c.unread_finding-k.result = let s = c in due-wrote (unreadable entry node) (number_form 1 entry node) illegible unreadably is-illegible says-illegible due-unreadable c.unread_finding-k.ensures in
    let t = c in
    let s = t in
    (s.requires.0, s.requires.1, due-rest due-form)

pub returns : goal.returns
returns c =
    let entry : Option Entry = info_of c.args.info in
    let node : Node = let a = c.args in node_at a.doc.source.now a.doc.tape.now a.i in
    let context : WalkContext = context_of c.args.context in
    let state : WalkState = let a = c.args in state_of a.doc.source.now a.doc.tape.now [] [] a.rec in
    let last : List Check = unreadable entry node ∷ number_form 1 entry node in
    let one : List Check = amiss entry state node ∷ last in
    let two : List Check = bare_verse entry node ∷ one in
    let three : List Check = crossing context node ∷ two in
    let Rest : List Check → List ℕ → Counts → Type 0 = let a = c.args in Due (given (verse_checks entry context state node)) a.list.now (counts_of a.rec) in
    let empty : Bool = is_empty c.args.label.now in
    let bare : empty ≡ (bare_verse entry node).holds = let s = c in is-bare entry node s.args.label.now s.requires.1.label_is in
    let broken : c.breaks-amiss.result ≡ (amiss entry state node).holds = let s = c in let b = c.breaks-amiss in is-amiss entry node s.args.label.now s.requires.1.label_is state b.result (b.ensures ∙ ap (λ (r : PartReading). breaks r state.expected_verse) s.requires.2) in
    let wrong : Finding = about node 1 11 0 state.expected_verse.number c.letter_byte-letter.result in
    let says : wrong ≡ (amiss entry state node).finding = says-amiss entry state node c.letter_byte-letter.result c.letter_byte-letter.ensures in
    let due-stray : Rest (stray context state node ∷ three) c.args.list.now c.counts-c.result = let s = c in due-start (verse_checks entry context state node) s.args.list.now (counts_of s.args.rec) c.counts-c.result c.counts-c.ensures s.requires.4 in
    let due-crossing : Rest three c.warn_if-d.new.list c.warn_if-d.result = let k = c in let s = k in due-wrote (stray context state node) three k.neither-outside.result (stray context state node).finding k.neither-outside.ensures refl due-stray c.warn_if-d.ensures in
    let due-bare : Rest two c.error_if-e.new.list c.error_if-e.result = let s = c in due-wrote (crossing context node) two context.in_char (crossing context node).finding refl refl due-crossing c.error_if-e.ensures in
    let due-amiss : Rest one c.error_if-g.new.list c.error_if-g.result = let k = c in let s = k in due-wrote (bare_verse entry node) one empty (bare_verse entry node).finding bare refl due-bare c.error_if-g.ensures in
    let due-unreadable : Rest last c.warn_if-h.new.list c.warn_if-h.result = let k = c in let s = k in due-wrote (amiss entry state node) last k.breaks-amiss.result wrong broken says due-amiss c.warn_if-h.ensures in
    let reading : PartReading = read_of c.args.read in
    let illegible : Bool = not (is_empty c.args.label.now) && unread reading in
    let unreadably : Finding = warning node unreadable_verse_number (unread_form reading) in
    let is-illegible : illegible ≡ (unreadable entry node).holds = is-unreadable entry node c.args.label.now c.requires.1.label_is reading c.requires.2 in
    let says-illegible : unreadably ≡ (unreadable entry node).finding = says-unreadable entry node c.args.label.now c.requires.1.label_is reading c.requires.2 in
    let due-form : Rest (number_form 1 entry node) c.unread_finding-k.new.list c.unread_finding-k.result = let s = c in due-wrote (unreadable entry node) (number_form 1 entry node) illegible unreadably is-illegible says-illegible due-unreadable c.unread_finding-k.ensures in
    due_all due-form c.check_number_form.ensures
