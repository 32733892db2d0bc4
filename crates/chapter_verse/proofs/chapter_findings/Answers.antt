-- `chapter_verse::chapter_findings` meets its contract.
use mathlib.Core.Bool.{Bool, not}
use lib.Dec.{eqb}
use Prim.Native.Nat.{ℕ}
use mathlib.Core.Path.{◌≡◌, refl}
use mathlib.Core.List.{List, [], ◌∷◌}
use Rattle.std.specs.Prelude.{Option}
use Rattle.tape.specs.Nodes.{Node, node_at}
use Rattle.table.specs.Entries.{Entry, info_of}
use Rattle.findings.specs.declared.Counts.{Counts}
use Rattle.definition.specs.State.{WalkState}
use Rattle.definition.specs.Checks.{Check, given, about, is_empty, number_form, chapter_checks}
use Rattle.state.specs.Inner.{state_of, counts_of}
use Rattle.chapter_verse.proofs.Givens.{Due, due-start, due-room, due-wrote, due-rest, due_all}
use Rattle.chapter_verse.proofs.Checked.{bare_chapter, twice, leaps, is-bare, is-twice, says-twice, is-leap, says-leap}
use Rattle.chapter_verse.proofs.chapter_findings.Goals as goal

pub error_if-d-requires : goal.error_if-d-requires
error_if-d-requires c =
    let entry : Option Entry = info_of c.args.info in
    let node : Node = let a = c.args in node_at a.doc.source.now a.doc.tape.now a.i in
    let state : WalkState = let a = c.args in state_of a.doc.source.now a.doc.tape.now a.seen.now [] a.rec in
    let Rest : List Check → List ℕ → Counts → Type 0 = let a = c.args in Due (given (chapter_checks entry state node)) a.list.now (counts_of a.rec) in
    let empty : Bool = is_empty c.args.label.now in
    let bare : empty ≡ (bare_chapter entry node).holds = let s = c in is-bare entry node s.args.label.now s.requires.1.label_is in
    let due-bare : Rest (chapter_checks entry state node) c.args.list.now c.counts-c.result = let s = c in due-start (chapter_checks entry state node) s.args.list.now (counts_of s.args.rec) c.counts-c.result c.counts-c.ensures s.requires.3 in
    let s = c in
    (s.requires.0, due-room (bare_chapter entry node) (twice state node ∷ leaps state node ∷ number_form 0 entry node) empty (bare_chapter entry node).finding bare refl due-bare)

pub warn_if-e-requires : goal.warn_if-e-requires
warn_if-e-requires c =
    let number : ℕ = c.link_at-number.result in
    let entry : Option Entry = info_of c.args.info in
    let node : Node = let a = c.args in node_at a.doc.source.now a.doc.tape.now a.i in
    let state : WalkState = let a = c.args in state_of a.doc.source.now a.doc.tape.now a.seen.now [] a.rec in
    let Rest : List Check → List ℕ → Counts → Type 0 = let a = c.args in Due (given (chapter_checks entry state node)) a.list.now (counts_of a.rec) in
    let empty : Bool = is_empty c.args.label.now in
    let bare : empty ≡ (bare_chapter entry node).holds = let s = c in is-bare entry node s.args.label.now s.requires.1.label_is in
    let again : c.is_seen-twice.result ≡ (twice state node).holds = is-twice state node number c.link_at-number.ensures c.is_seen-twice.result c.is_seen-twice.ensures in
    let due-bare : Rest (chapter_checks entry state node) c.args.list.now c.counts-c.result = let s = c in due-start (chapter_checks entry state node) s.args.list.now (counts_of s.args.rec) c.counts-c.result c.counts-c.ensures s.requires.3 in
    let due-twice : Rest (twice state node ∷ leaps state node ∷ number_form 0 entry node) c.error_if-d.new.list c.error_if-d.result = let k = c in let s = k in due-wrote (bare_chapter entry node) (twice state node ∷ leaps state node ∷ number_form 0 entry node) empty (bare_chapter entry node).finding bare refl due-bare c.error_if-d.ensures in
    let t = c in
    let k = t in
    let s = k in
    (s.requires.0, due-room (twice state node) (leaps state node ∷ number_form 0 entry node) k.is_seen-twice.result (about node 1 10 0 number 0) again (says-twice state node number k.link_at-number.ensures) due-twice)

pub warn_if-g-requires : goal.warn_if-g-requires
warn_if-g-requires c =
    let number : ℕ = c.link_at-number.result in
    let entry : Option Entry = info_of c.args.info in
    let node : Node = let a = c.args in node_at a.doc.source.now a.doc.tape.now a.i in
    let state : WalkState = let a = c.args in state_of a.doc.source.now a.doc.tape.now a.seen.now [] a.rec in
    let Rest : List Check → List ℕ → Counts → Type 0 = let a = c.args in Due (given (chapter_checks entry state node)) a.list.now (counts_of a.rec) in
    let empty : Bool = is_empty c.args.label.now in
    let bare : empty ≡ (bare_chapter entry node).holds = let s = c in is-bare entry node s.args.label.now s.requires.1.label_is in
    let again : c.is_seen-twice.result ≡ (twice state node).holds = is-twice state node number c.link_at-number.ensures c.is_seen-twice.result c.is_seen-twice.ensures in
    let due-bare : Rest (chapter_checks entry state node) c.args.list.now c.counts-c.result = let s = c in due-start (chapter_checks entry state node) s.args.list.now (counts_of s.args.rec) c.counts-c.result c.counts-c.ensures s.requires.3 in
    let due-twice : Rest (twice state node ∷ leaps state node ∷ number_form 0 entry node) c.error_if-d.new.list c.error_if-d.result = let k = c in let s = k in due-wrote (bare_chapter entry node) (twice state node ∷ leaps state node ∷ number_form 0 entry node) empty (bare_chapter entry node).finding bare refl due-bare c.error_if-d.ensures in
    let due-leap : Rest (leaps state node ∷ number_form 0 entry node) c.warn_if-e.new.list c.warn_if-e.result = let k = c in let s = k in due-wrote (twice state node) (leaps state node ∷ number_form 0 entry node) k.is_seen-twice.result (about node 1 10 0 number 0) again (says-twice state node number k.link_at-number.ensures) due-twice c.warn_if-e.ensures in
    let t = c in
    let k = t in
    let s = k in
    let n = k.link_at-number.ensures in
    (s.requires.0, due-room (leaps state node) (number_form 0 entry node) (not (eqb number state.expected_chapter)) (about node 1 9 0 state.expected_chapter number) (is-leap state node number n) (says-leap state node number n) due-leap)

pub check_number_form-requires : goal.check_number_form-requires
check_number_form-requires c =
    let number : ℕ = c.link_at-number.result in
    let entry : Option Entry = info_of c.args.info in
    let node : Node = let a = c.args in node_at a.doc.source.now a.doc.tape.now a.i in
    let state : WalkState = let a = c.args in state_of a.doc.source.now a.doc.tape.now a.seen.now [] a.rec in
    let Rest : List Check → List ℕ → Counts → Type 0 = let a = c.args in Due (given (chapter_checks entry state node)) a.list.now (counts_of a.rec) in
    let empty : Bool = is_empty c.args.label.now in
    let bare : empty ≡ (bare_chapter entry node).holds = let s = c in is-bare entry node s.args.label.now s.requires.1.label_is in
    let again : c.is_seen-twice.result ≡ (twice state node).holds = is-twice state node number c.link_at-number.ensures c.is_seen-twice.result c.is_seen-twice.ensures in
    let due-bare : Rest (chapter_checks entry state node) c.args.list.now c.counts-c.result = let s = c in due-start (chapter_checks entry state node) s.args.list.now (counts_of s.args.rec) c.counts-c.result c.counts-c.ensures s.requires.3 in
    let due-twice : Rest (twice state node ∷ leaps state node ∷ number_form 0 entry node) c.error_if-d.new.list c.error_if-d.result = let k = c in let s = k in due-wrote (bare_chapter entry node) (twice state node ∷ leaps state node ∷ number_form 0 entry node) empty (bare_chapter entry node).finding bare refl due-bare c.error_if-d.ensures in
    let due-leap : Rest (leaps state node ∷ number_form 0 entry node) c.warn_if-e.new.list c.warn_if-e.result = let k = c in let s = k in due-wrote (twice state node) (leaps state node ∷ number_form 0 entry node) k.is_seen-twice.result (about node 1 10 0 number 0) again (says-twice state node number k.link_at-number.ensures) due-twice c.warn_if-e.ensures in
    let due-form : Rest (number_form 0 entry node) c.warn_if-g.new.list c.warn_if-g.result = let k = c in let s = k in let n = k.link_at-number.ensures in due-wrote (leaps state node) (number_form 0 entry node) (not (eqb number state.expected_chapter)) (about node 1 9 0 state.expected_chapter number) (is-leap state node number n) (says-leap state node number n) due-leap c.warn_if-g.ensures in
    let t = c in
    let s = t in
    (s.requires.0, s.requires.1, due-rest due-form)

pub returns : goal.returns
returns c =
    let number : ℕ = c.link_at-number.result in
    let entry : Option Entry = info_of c.args.info in
    let node : Node = let a = c.args in node_at a.doc.source.now a.doc.tape.now a.i in
    let state : WalkState = let a = c.args in state_of a.doc.source.now a.doc.tape.now a.seen.now [] a.rec in
    let Rest : List Check → List ℕ → Counts → Type 0 = let a = c.args in Due (given (chapter_checks entry state node)) a.list.now (counts_of a.rec) in
    let empty : Bool = is_empty c.args.label.now in
    let bare : empty ≡ (bare_chapter entry node).holds = let s = c in is-bare entry node s.args.label.now s.requires.1.label_is in
    let again : c.is_seen-twice.result ≡ (twice state node).holds = is-twice state node number c.link_at-number.ensures c.is_seen-twice.result c.is_seen-twice.ensures in
    let due-bare : Rest (chapter_checks entry state node) c.args.list.now c.counts-c.result = let s = c in due-start (chapter_checks entry state node) s.args.list.now (counts_of s.args.rec) c.counts-c.result c.counts-c.ensures s.requires.3 in
    let due-twice : Rest (twice state node ∷ leaps state node ∷ number_form 0 entry node) c.error_if-d.new.list c.error_if-d.result = let k = c in let s = k in due-wrote (bare_chapter entry node) (twice state node ∷ leaps state node ∷ number_form 0 entry node) empty (bare_chapter entry node).finding bare refl due-bare c.error_if-d.ensures in
    let due-leap : Rest (leaps state node ∷ number_form 0 entry node) c.warn_if-e.new.list c.warn_if-e.result = let k = c in let s = k in due-wrote (twice state node) (leaps state node ∷ number_form 0 entry node) k.is_seen-twice.result (about node 1 10 0 number 0) again (says-twice state node number k.link_at-number.ensures) due-twice c.warn_if-e.ensures in
    let due-form : Rest (number_form 0 entry node) c.warn_if-g.new.list c.warn_if-g.result = let k = c in let s = k in let n = k.link_at-number.ensures in due-wrote (leaps state node) (number_form 0 entry node) (not (eqb number state.expected_chapter)) (about node 1 9 0 state.expected_chapter number) (is-leap state node number n) (says-leap state node number n) due-leap c.warn_if-g.ensures in
    due_all due-form c.check_number_form.ensures
