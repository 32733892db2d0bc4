-- `chapter_verse::check_number_form` meets its contract.
use Prim.Native.Nat.{ℕ}
use mathlib.Core.Path.{refl, ◌≡◌}
use mathlib.Core.List.{List, [], ◌∷◌}
use Rattle.std.specs.Prelude.{Option}
use Rattle.tape.specs.Nodes.{Node, node_at}
use Rattle.table.specs.Entries.{Entry, info_of}
use Rattle.findings.specs.declared.Counts.{Counts}
use Rattle.definition.specs.Checks.{Check, given, number_form}
use Rattle.chapter_verse.proofs.Givens.{Due, due-start, due-room, due-wrote, due-end}
use Rattle.chapter_verse.proofs.Checked.{spaced, zeros, is-led}
use Rattle.chapter_verse.proofs.check_number_form.Goals as goal

pub warn_if-d-requires : goal.warn_if-d-requires
warn_if-d-requires c =
    let entry : Option Entry = info_of c.args.info in
    let node : Node = let a = c.args in node_at a.doc.source.now a.doc.tape.now a.i in
    let Rest : List Check → List ℕ → Counts → Type 0 = let a = c.args in Due (given (number_form a.form entry node)) a.list.now a.c in
    let due-two : Rest (number_form c.args.form entry node) c.args.list.now c.args.c = let a = c.args in due-start (number_form a.form entry node) a.list.now a.c a.c refl c.requires.2 in
    let s = c in
    (s.requires.0, due-room (spaced entry node) (zeros s.args.form entry node ∷ []) s.args.glued (spaced entry node).finding s.requires.1.glued_is refl due-two)

pub error_if-requires : goal.error_if-requires
error_if-requires c =
    let entry : Option Entry = info_of c.args.info in
    let node : Node = let a = c.args in node_at a.doc.source.now a.doc.tape.now a.i in
    let Rest : List Check → List ℕ → Counts → Type 0 = let a = c.args in Due (given (number_form a.form entry node)) a.list.now a.c in
    let leading : c.leading_zeros-zeros.result ≡ (zeros c.args.form entry node).holds = let s = c in is-led entry node s.args.label.now s.requires.1.label_is c.leading_zeros-zeros.result c.leading_zeros-zeros.ensures in
    let due-two : Rest (number_form c.args.form entry node) c.args.list.now c.args.c = let a = c.args in due-start (number_form a.form entry node) a.list.now a.c a.c refl c.requires.2 in
    let due-one : Rest (zeros c.args.form entry node ∷ []) c.warn_if-d.new.list c.warn_if-d.result = let s = c in due-wrote (spaced entry node) (zeros s.args.form entry node ∷ []) s.args.glued (spaced entry node).finding s.requires.1.glued_is refl due-two c.warn_if-d.ensures in
    let t = c in
    let s = t in
    (s.requires.0, due-room (zeros s.args.form entry node) [] t.leading_zeros-zeros.result (zeros s.args.form entry node).finding leading refl due-one)

pub returns : goal.returns
returns c =
    let entry : Option Entry = info_of c.args.info in
    let node : Node = let a = c.args in node_at a.doc.source.now a.doc.tape.now a.i in
    let Rest : List Check → List ℕ → Counts → Type 0 = let a = c.args in Due (given (number_form a.form entry node)) a.list.now a.c in
    let leading : c.leading_zeros-zeros.result ≡ (zeros c.args.form entry node).holds = let s = c in is-led entry node s.args.label.now s.requires.1.label_is c.leading_zeros-zeros.result c.leading_zeros-zeros.ensures in
    let due-two : Rest (number_form c.args.form entry node) c.args.list.now c.args.c = let a = c.args in due-start (number_form a.form entry node) a.list.now a.c a.c refl c.requires.2 in
    let due-one : Rest (zeros c.args.form entry node ∷ []) c.warn_if-d.new.list c.warn_if-d.result = let s = c in due-wrote (spaced entry node) (zeros s.args.form entry node ∷ []) s.args.glued (spaced entry node).finding s.requires.1.glued_is refl due-two c.warn_if-d.ensures in
    let t = c in
    let s = t in
    due-end (due-wrote (zeros s.args.form entry node) [] t.leading_zeros-zeros.result (zeros s.args.form entry node).finding leading refl due-one c.error_if.ensures)
