-- `marker_checks::id_findings` meets its contract.
use mathlib.Core.Path.{◌≡◌, refl, ap, ◌∙◌}
use Prim.Native.Nat.{ℕ, ◌+◌}
use mathlib.Core.Bool.{not, ◌&&◌}
use mathlib.Core.List.{List, []}
use lib.Dec.{eqb}
use lib.ListN.{length, drop}
use Rattle.text.specs.Pick.{pick}
use Rattle.tape.specs.Nodes.{node_at}
use Rattle.tape.specs.Forest.{forest}
use Rattle.findings.specs.declared.Counts.{Counts}
use Rattle.findings.proofs.Overlay.{Left, left-start}
use Rattle.definition.proofs.Givens.{given-room, given-wrote, given-end}
use Rattle.definition.specs.Checks.{Check, given, book_code, is_book, warning}
use Rattle.state.specs.Inner.{state_of}
use Rattle.marker_checks.proofs.Whole.{id_part}
use Rattle.marker_checks.proofs.Flags.{both-holds, id-none}
use Rattle.text.specs.Bytes.{upper}
use borrow.Author.Tests.{not-true, not-false}
use Rattle.marker_checks.proofs.id_findings.Goals as goal

pub returns-then-not-named : goal.returns-then-not-named
returns-then-not-named c =
    let a = c.args in
    id-none a.named (state_of a.doc.source.now a.doc.tape.now [] [] a.rec) (book_code (forest a.doc.source.now a.doc.tape.now (a.i + 1) a.link)) (node_at a.doc.source.now a.doc.tape.now a.i) a.list.now a.c (not-true _ c.if-not-named.true-raw)

pub book_code-code-requires : goal.book_code-code-requires
book_code-code-requires c = c.requires.1

pub push_for_node-d-requires : goal.push_for_node-d-requires
push_for_node-d-requires c =
    let checks : List Check = let a = c.args in id_part a.doc.source.now a.doc.tape.now a.i a.rec a.link a.named in
    let Due : ℕ → List ℕ → Counts → Type 0 = λ k l d. Left (given checks) c.args.list.now c.args.c (given (drop k checks)) l d in
    let all : let a = c.args in Due 0 a.list.now a.c = left-start (given checks) c.args.list.now c.args.c in
    let again : let a = c.args in a.rec.has_id ≡ (a.named && a.rec.has_id) = let a = c.args in both-holds a.named a.named refl _ _ (not-false _ c.if-not-named.false-raw) refl in
    let p = c.requires in
    (p.0, given-room _ _ _ _ all c.args.rec.has_id _ again refl p.2)

pub push_for_node-requires : goal.push_for_node-requires
push_for_node-requires c =
    let checks : List Check = let a = c.args in id_part a.doc.source.now a.doc.tape.now a.i a.rec a.link a.named in
    let Due : ℕ → List ℕ → Counts → Type 0 = λ k l d. Left (given checks) c.args.list.now c.args.c (given (drop k checks)) l d in
    let all : let a = c.args in Due 0 a.list.now a.c = left-start (given checks) c.args.list.now c.args.c in
    let again : let a = c.args in a.rec.has_id ≡ (a.named && a.rec.has_id) = let a = c.args in both-holds a.named a.named refl _ _ (not-false _ c.if-not-named.false-raw) refl in
    let left-1 : Due 1 c.push_for_node-d.new.list c.push_for_node-d.result = given-wrote _ _ _ _ all c.args.rec.has_id _ again refl _ _ c.push_for_node-d.ensures in
    let bad : let a = c.args in c.is_bad_code-bad.result ≡ (a.named && (not (eqb (length (book_code (forest a.doc.source.now a.doc.tape.now (a.i + 1) a.link))) 0) && not (is_book (book_code (forest a.doc.source.now a.doc.tape.now (a.i + 1) a.link))))) = let a = c.args in both-holds a.named a.named refl _ _ (not-false _ c.if-not-named.false-raw) (c.is_bad_code-bad.ensures ∙ ap (λ (s : List ℕ). (not (eqb (length s) 0) && not (is_book s))) c.book_code-code.ensures) in
    let form : let a = c.args in warning (node_at [] a.doc.tape.now a.i) 5 c.code_form-form.result ≡ warning (node_at [] a.doc.tape.now a.i) 5 (pick (is_book (upper (book_code (forest a.doc.source.now a.doc.tape.now (a.i + 1) a.link)))) 0 1) = let a = c.args in ap (warning (node_at [] a.doc.tape.now a.i) 5) (c.code_form-form.ensures ∙ ap (λ (s : List ℕ). pick (is_book (upper s)) 0 1) c.book_code-code.ensures) in
    let p = c.requires in
    (p.0, given-room _ _ _ _ left-1 c.is_bad_code-bad.result _ bad form p.2)

pub returns : goal.returns
returns c =
    let checks : List Check = let a = c.args in id_part a.doc.source.now a.doc.tape.now a.i a.rec a.link a.named in
    let Due : ℕ → List ℕ → Counts → Type 0 = λ k l d. Left (given checks) c.args.list.now c.args.c (given (drop k checks)) l d in
    let all : let a = c.args in Due 0 a.list.now a.c = left-start (given checks) c.args.list.now c.args.c in
    let again : let a = c.args in a.rec.has_id ≡ (a.named && a.rec.has_id) = let a = c.args in both-holds a.named a.named refl _ _ (not-false _ c.if-not-named.false-raw) refl in
    let left-1 : Due 1 c.push_for_node-d.new.list c.push_for_node-d.result = given-wrote _ _ _ _ all c.args.rec.has_id _ again refl _ _ c.push_for_node-d.ensures in
    let bad : let a = c.args in c.is_bad_code-bad.result ≡ (a.named && (not (eqb (length (book_code (forest a.doc.source.now a.doc.tape.now (a.i + 1) a.link))) 0) && not (is_book (book_code (forest a.doc.source.now a.doc.tape.now (a.i + 1) a.link))))) = let a = c.args in both-holds a.named a.named refl _ _ (not-false _ c.if-not-named.false-raw) (c.is_bad_code-bad.ensures ∙ ap (λ (s : List ℕ). (not (eqb (length s) 0) && not (is_book s))) c.book_code-code.ensures) in
    let form : let a = c.args in warning (node_at [] a.doc.tape.now a.i) 5 c.code_form-form.result ≡ warning (node_at [] a.doc.tape.now a.i) 5 (pick (is_book (upper (book_code (forest a.doc.source.now a.doc.tape.now (a.i + 1) a.link)))) 0 1) = let a = c.args in ap (warning (node_at [] a.doc.tape.now a.i) 5) (c.code_form-form.ensures ∙ ap (λ (s : List ℕ). pick (is_book (upper s)) 0 1) c.book_code-code.ensures) in
    given-end _ _ (given-wrote _ _ _ _ left-1 c.is_bad_code-bad.result _ bad form _ _ c.push_for_node.ensures)
