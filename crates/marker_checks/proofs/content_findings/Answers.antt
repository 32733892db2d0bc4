-- `marker_checks::content_findings` meets its contract.
use mathlib.Core.Path.{refl}
use Prim.Native.Nat.{ℕ}
use mathlib.Core.List.{List}
use lib.ListN.{drop}
use Rattle.findings.specs.declared.Counts.{Counts}
use Rattle.findings.proofs.Overlay.{Left, left-start}
use Rattle.definition.proofs.Givens.{given-room, given-wrote, given-end}
use Rattle.definition.specs.Checks.{Check, given}
use Rattle.marker_checks.proofs.Whole.{content_part}
use Rattle.marker_checks.proofs.content_findings.Goals as goal

pub is_empty_figure-figure-requires : goal.is_empty_figure-figure-requires
is_empty_figure-figure-requires c = c.requires.1

pub is_empty_word-word-requires : goal.is_empty_word-word-requires
is_empty_word-word-requires c = c.requires.1

pub lacks_required_attributes-attribute-requires : goal.lacks_required_attributes-attribute-requires
lacks_required_attributes-attribute-requires c = c.requires.1

pub push_for_node-d-requires : goal.push_for_node-d-requires
push_for_node-d-requires c =
    let checks : List Check = let a = c.args in content_part a.doc.source.now a.doc.tape.now a.i a.name.now a.link in
    let Due : ℕ → List ℕ → Counts → Type 0 = λ k l d. Left (given checks) c.args.list.now c.args.c (given (drop k checks)) l d in
    let all : let a = c.args in Due 0 a.list.now a.c = left-start (given checks) c.args.list.now c.args.c in
    let p = c.requires in
    let x = c.is_empty_figure-figure in
    (p.0, given-room _ _ _ _ all x.result _ x.ensures refl p.2)

pub push_for_node-d-requires-2 : goal.push_for_node-d-requires-2
push_for_node-d-requires-2 c =
    let checks : List Check = let a = c.args in content_part a.doc.source.now a.doc.tape.now a.i a.name.now a.link in
    let Due : ℕ → List ℕ → Counts → Type 0 = λ k l d. Left (given checks) c.args.list.now c.args.c (given (drop k checks)) l d in
    let all : let a = c.args in Due 0 a.list.now a.c = left-start (given checks) c.args.list.now c.args.c in
    let left-1 : Due 1 c.push_for_node-d.new.list c.push_for_node-d.result = let x = c.is_empty_figure-figure in given-wrote _ _ _ _ all x.result _ x.ensures refl _ _ c.push_for_node-d.ensures in
    let p = c.requires in
    let x = c.is_empty_word-word in
    (p.0, given-room _ _ _ _ left-1 x.result _ x.ensures refl p.2)

pub push_for_node-requires : goal.push_for_node-requires
push_for_node-requires c =
    let checks : List Check = let a = c.args in content_part a.doc.source.now a.doc.tape.now a.i a.name.now a.link in
    let Due : ℕ → List ℕ → Counts → Type 0 = λ k l d. Left (given checks) c.args.list.now c.args.c (given (drop k checks)) l d in
    let all : let a = c.args in Due 0 a.list.now a.c = left-start (given checks) c.args.list.now c.args.c in
    let left-1 : Due 1 c.push_for_node-d.new.list c.push_for_node-d.result = let x = c.is_empty_figure-figure in given-wrote _ _ _ _ all x.result _ x.ensures refl _ _ c.push_for_node-d.ensures in
    let left-2 : Due 2 c.push_for_node-d-2.new.list c.push_for_node-d-2.result = let x = c.is_empty_word-word in given-wrote _ _ _ _ left-1 x.result _ x.ensures refl _ _ c.push_for_node-d-2.ensures in
    let p = c.requires in
    let x = c.lacks_required_attributes-attribute in
    (p.0, given-room _ _ _ _ left-2 x.result _ x.ensures refl p.2)

pub returns : goal.returns
returns c =
    let checks : List Check = let a = c.args in content_part a.doc.source.now a.doc.tape.now a.i a.name.now a.link in
    let Due : ℕ → List ℕ → Counts → Type 0 = λ k l d. Left (given checks) c.args.list.now c.args.c (given (drop k checks)) l d in
    let all : let a = c.args in Due 0 a.list.now a.c = left-start (given checks) c.args.list.now c.args.c in
    let left-1 : Due 1 c.push_for_node-d.new.list c.push_for_node-d.result = let x = c.is_empty_figure-figure in given-wrote _ _ _ _ all x.result _ x.ensures refl _ _ c.push_for_node-d.ensures in
    let left-2 : Due 2 c.push_for_node-d-2.new.list c.push_for_node-d-2.result = let x = c.is_empty_word-word in given-wrote _ _ _ _ left-1 x.result _ x.ensures refl _ _ c.push_for_node-d-2.ensures in
    let x = c.lacks_required_attributes-attribute in
    given-end _ _ (given-wrote _ _ _ _ left-2 x.result _ x.ensures refl _ _ c.push_for_node.ensures)
