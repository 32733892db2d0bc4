-- `marker_checks::place_findings` meets its contract.
use mathlib.Core.Path.{◌≡◌, refl, ap, ◌∙◌}
use Prim.Native.Nat.{ℕ, ◌+◌}
use mathlib.Core.Bool.{Bool, not, ◌&&◌}
use mathlib.Core.List.{List}
use lib.ListN.{drop}
use Rattle.tape.specs.Nodes.{node_at, start_at}
use Rattle.tape.specs.Forest.{forest}
use Rattle.findings.specs.declared.Counts.{Counts}
use Rattle.findings.proofs.Overlay.{Left, left-start}
use Rattle.definition.proofs.Givens.{given-room, given-wrote, given-end}
use Rattle.table.specs.Entries.{entry_of_info}
use Rattle.cursor.specs.Names.{name_of}
use Rattle.cursor.proofs.Runs.{run-below, run-spanned}
use Rattle.attachment.specs.Attached.{among}
use Rattle.definition.specs.Checks.{Check, given, b_name, inline_content, number_markers, attached_to}
use Rattle.state.specs.Inner.{context_of, anchor_of}
use Rattle.marker_checks.specs.InnerVisit.{children_at}
use Rattle.marker_checks.proofs.Children.{children}
use Rattle.marker_checks.proofs.Whole.{place_part}
use Rattle.marker_checks.proofs.Flags.{attached-is}
use Rattle.text.specs.Bytes.{equal, one_of}
use Rattle.marker_checks.proofs.place_findings.Goals as goal

pub link_at-link-requires : goal.link_at-link-requires
link_at-link-requires c =
    let a = c.args in
    let p = c.requires in
    run-below a.doc.source.now a.doc.tape.now a.i a.to p.0 p.1

pub filled_blank_line-filled-requires : goal.filled_blank_line-filled-requires
filled_blank_line-filled-requires c =
    let a = c.args in
    let p = c.requires in
    let k = c.link_at-link in
    children a.doc.source.now a.doc.tape.now a.i a.to p.0 p.1 p.2 k.result k.ensures

pub is_misplaced-misplaced-requires : goal.is_misplaced-misplaced-requires
is_misplaced-misplaced-requires c =
    let a = c.args in
    let p = c.requires in
    run-spanned a.doc.source.now a.doc.tape.now a.i a.to p.0 p.1

pub push_for_node-d-requires : goal.push_for_node-d-requires
push_for_node-d-requires c =
    let checks : List Check = let a = c.args in place_part a.doc.source.now a.doc.tape.now a.i a.to (context_of a.context) (entry_of_info a.m) a.name.now a.rec in
    let Due : ℕ → List ℕ → Counts → Type 0 = λ k l d. Left (given checks) c.args.list.now c.args.c (given (drop k checks)) l d in
    let all : let a = c.args in Due 0 a.list.now a.c = left-start (given checks) c.args.list.now c.args.c in
    let a = c.args in
    let p = c.requires in
    let x = c.outside_note-outside in
    (run-below a.doc.source.now a.doc.tape.now a.i a.to p.0 p.1, given-room _ _ _ _ all x.result _ x.ensures refl p.4)

pub push_for_node-d-requires-2 : goal.push_for_node-d-requires-2
push_for_node-d-requires-2 c =
    let checks : List Check = let a = c.args in place_part a.doc.source.now a.doc.tape.now a.i a.to (context_of a.context) (entry_of_info a.m) a.name.now a.rec in
    let Due : ℕ → List ℕ → Counts → Type 0 = λ k l d. Left (given checks) c.args.list.now c.args.c (given (drop k checks)) l d in
    let all : let a = c.args in Due 0 a.list.now a.c = left-start (given checks) c.args.list.now c.args.c in
    let filled : let a = c.args in c.filled_blank_line-filled.result ≡ (equal a.name.now b_name && inline_content (children_at a.doc.source.now a.doc.tape.now a.i)) = let a = c.args in c.filled_blank_line-filled.ensures ∙ ap (λ (n : ℕ). (equal a.name.now b_name && inline_content (forest a.doc.source.now a.doc.tape.now (a.i + 1) n))) c.link_at-link.ensures in
    let left-1 : Due 1 c.push_for_node-d.new.list c.push_for_node-d.result = let x = c.outside_note-outside in given-wrote _ _ _ _ all x.result _ x.ensures refl _ _ c.push_for_node-d.ensures in
    let a = c.args in
    let p = c.requires in
    (run-below a.doc.source.now a.doc.tape.now a.i a.to p.0 p.1, given-room _ _ _ _ left-1 c.filled_blank_line-filled.result _ filled refl p.4)

pub push_for_node-d-requires-3 : goal.push_for_node-d-requires-3
push_for_node-d-requires-3 c =
    let checks : List Check = let a = c.args in place_part a.doc.source.now a.doc.tape.now a.i a.to (context_of a.context) (entry_of_info a.m) a.name.now a.rec in
    let Due : ℕ → List ℕ → Counts → Type 0 = λ k l d. Left (given checks) c.args.list.now c.args.c (given (drop k checks)) l d in
    let all : let a = c.args in Due 0 a.list.now a.c = left-start (given checks) c.args.list.now c.args.c in
    let filled : let a = c.args in c.filled_blank_line-filled.result ≡ (equal a.name.now b_name && inline_content (children_at a.doc.source.now a.doc.tape.now a.i)) = let a = c.args in c.filled_blank_line-filled.ensures ∙ ap (λ (n : ℕ). (equal a.name.now b_name && inline_content (forest a.doc.source.now a.doc.tape.now (a.i + 1) n))) c.link_at-link.ensures in
    let left-1 : Due 1 c.push_for_node-d.new.list c.push_for_node-d.result = let x = c.outside_note-outside in given-wrote _ _ _ _ all x.result _ x.ensures refl _ _ c.push_for_node-d.ensures in
    let left-2 : Due 2 c.push_for_node-d-2.new.list c.push_for_node-d-2.result = given-wrote _ _ _ _ left-1 c.filled_blank_line-filled.result _ filled refl _ _ c.push_for_node-d-2.ensures in
    let a = c.args in
    let p = c.requires in
    let x = c.before_chapter-early in
    (run-below a.doc.source.now a.doc.tape.now a.i a.to p.0 p.1, given-room _ _ _ _ left-2 x.result _ x.ensures refl p.4)

pub push_for_node-requires : goal.push_for_node-requires
push_for_node-requires c =
    let checks : List Check = let a = c.args in place_part a.doc.source.now a.doc.tape.now a.i a.to (context_of a.context) (entry_of_info a.m) a.name.now a.rec in
    let Due : ℕ → List ℕ → Counts → Type 0 = λ k l d. Left (given checks) c.args.list.now c.args.c (given (drop k checks)) l d in
    let all : let a = c.args in Due 0 a.list.now a.c = left-start (given checks) c.args.list.now c.args.c in
    let filled : let a = c.args in c.filled_blank_line-filled.result ≡ (equal a.name.now b_name && inline_content (children_at a.doc.source.now a.doc.tape.now a.i)) = let a = c.args in c.filled_blank_line-filled.ensures ∙ ap (λ (n : ℕ). (equal a.name.now b_name && inline_content (forest a.doc.source.now a.doc.tape.now (a.i + 1) n))) c.link_at-link.ensures in
    let misplaced : let a = c.args in c.is_misplaced-misplaced.result ≡ (one_of number_markers a.name.now && (one_of number_markers (name_of (node_at a.doc.source.now a.doc.tape.now a.i).text) && not (attached_to (anchor_of a.doc.source.now a.doc.tape.now a.rec.anchor a.i) (forest a.doc.source.now a.doc.tape.now a.i a.to) (start_at a.doc.tape.now a.i)))) = let a = c.args in c.is_misplaced-misplaced.ensures ∙ ap (λ (v : Bool). (one_of number_markers a.name.now && (one_of number_markers (name_of (node_at a.doc.source.now a.doc.tape.now a.i).text) && not v))) (ap (among (start_at a.doc.tape.now a.i)) c.requires.3 ∙ attached-is (anchor_of a.doc.source.now a.doc.tape.now a.rec.anchor a.i) (forest a.doc.source.now a.doc.tape.now a.i a.to) _) in
    let left-1 : Due 1 c.push_for_node-d.new.list c.push_for_node-d.result = let x = c.outside_note-outside in given-wrote _ _ _ _ all x.result _ x.ensures refl _ _ c.push_for_node-d.ensures in
    let left-2 : Due 2 c.push_for_node-d-2.new.list c.push_for_node-d-2.result = given-wrote _ _ _ _ left-1 c.filled_blank_line-filled.result _ filled refl _ _ c.push_for_node-d-2.ensures in
    let left-3 : Due 3 c.push_for_node-d-3.new.list c.push_for_node-d-3.result = let x = c.before_chapter-early in given-wrote _ _ _ _ left-2 x.result _ x.ensures refl _ _ c.push_for_node-d-3.ensures in
    let a = c.args in
    let p = c.requires in
    (run-below a.doc.source.now a.doc.tape.now a.i a.to p.0 p.1, given-room _ _ _ _ left-3 c.is_misplaced-misplaced.result _ misplaced refl p.4)

pub returns : goal.returns
returns c =
    let checks : List Check = let a = c.args in place_part a.doc.source.now a.doc.tape.now a.i a.to (context_of a.context) (entry_of_info a.m) a.name.now a.rec in
    let Due : ℕ → List ℕ → Counts → Type 0 = λ k l d. Left (given checks) c.args.list.now c.args.c (given (drop k checks)) l d in
    let all : let a = c.args in Due 0 a.list.now a.c = left-start (given checks) c.args.list.now c.args.c in
    let filled : let a = c.args in c.filled_blank_line-filled.result ≡ (equal a.name.now b_name && inline_content (children_at a.doc.source.now a.doc.tape.now a.i)) = let a = c.args in c.filled_blank_line-filled.ensures ∙ ap (λ (n : ℕ). (equal a.name.now b_name && inline_content (forest a.doc.source.now a.doc.tape.now (a.i + 1) n))) c.link_at-link.ensures in
    let misplaced : let a = c.args in c.is_misplaced-misplaced.result ≡ (one_of number_markers a.name.now && (one_of number_markers (name_of (node_at a.doc.source.now a.doc.tape.now a.i).text) && not (attached_to (anchor_of a.doc.source.now a.doc.tape.now a.rec.anchor a.i) (forest a.doc.source.now a.doc.tape.now a.i a.to) (start_at a.doc.tape.now a.i)))) = let a = c.args in c.is_misplaced-misplaced.ensures ∙ ap (λ (v : Bool). (one_of number_markers a.name.now && (one_of number_markers (name_of (node_at a.doc.source.now a.doc.tape.now a.i).text) && not v))) (ap (among (start_at a.doc.tape.now a.i)) c.requires.3 ∙ attached-is (anchor_of a.doc.source.now a.doc.tape.now a.rec.anchor a.i) (forest a.doc.source.now a.doc.tape.now a.i a.to) _) in
    let left-1 : Due 1 c.push_for_node-d.new.list c.push_for_node-d.result = let x = c.outside_note-outside in given-wrote _ _ _ _ all x.result _ x.ensures refl _ _ c.push_for_node-d.ensures in
    let left-2 : Due 2 c.push_for_node-d-2.new.list c.push_for_node-d-2.result = given-wrote _ _ _ _ left-1 c.filled_blank_line-filled.result _ filled refl _ _ c.push_for_node-d-2.ensures in
    let left-3 : Due 3 c.push_for_node-d-3.new.list c.push_for_node-d-3.result = let x = c.before_chapter-early in given-wrote _ _ _ _ left-2 x.result _ x.ensures refl _ _ c.push_for_node-d-3.ensures in
    given-end _ _ (given-wrote _ _ _ _ left-3 c.is_misplaced-misplaced.result _ misplaced refl _ _ c.push_for_node.ensures)
