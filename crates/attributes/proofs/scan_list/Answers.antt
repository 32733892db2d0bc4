-- `attributes::scan_list` meets its contract.
use Prim.Native.Nat.{ℕ, ◌+◌, ◌<◌}
use borrow.Author.Tests.{not-true, not-false}
use lib.Dec.{eqb}
use lib.ListN.{length, drop}
use mathlib.Core.Bool.{true}
use mathlib.Core.List.{List, [], ◌∷◌, ◌++◌}
use mathlib.Core.Path.{refl, sym, ap, ◌∙◌}
use native.Mathlib.Omega.{arith}
use Rattle.attributes.proofs.Owed.{at, Owing, owing-as, owing-still, owing-room, owing-wrote, owing-end}
use Rattle.attributes.proofs.Quotes.{Seeking, seeking-start, seeking-on, unclosed, closed}
use Rattle.attributes.proofs.Scanning.{key-alone, key-valued, leads-in, unquoted-starts, unquoted-next}
use Rattle.attributes.proofs.Turns.{going_start, going_on, going_end}
use Rattle.attributes.specs.Attributes.{between, value, unquoted, attribute_scan, key_alone, unquoted_value, empty_value, unterminated}
use Rattle.attributes.specs.Inner.{finding_of_kind}
use Rattle.findings.specs.Finding.{Kind}
use Rattle.findings.specs.declared.Counts.{Counts}
use Rattle.text.specs.Characters.{chars}
use Rattle.text.specs.Pick.{pick}
use Rattle.attributes.proofs.scan_list.Goals as goal

pub scan-init : goal.scan-init
scan-init c =
    let a = c.args in
    going_start a.w a.body.now a.list.now a.counts c.find_from-i.result c.requires c.find_from-i.ensures

pub key_end-key-requires : goal.key_end-key-requires
key_end-key-requires c = c.scan.invariant.inside

pub push_error-c-requires : goal.push_error-c-requires
push_error-c-requires c =
    let text : List ℕ = c.args.body.now in
    let Due : List Kind → List ℕ → Counts → Type 0 = λ ks l n. let a = c.args in Owing a.w (at a.w (attribute_scan between (chars a.body.now))) a.list.now a.counts ks l n in
    let due-alone : Due (key_alone ∷ []) c.scan.list c.scan.c = let l = c.scan in let k = c.key_end-key in owing-as (key-alone text l.i k.result l.invariant.fresh (omega arith) k.ensures.is (sym c.byte_is.ensures ∙ not-true _ c.if-not-byte_is.true-raw)) l.invariant.owing in
    owing-room key_alone true [] (finding_of_kind c.args.w key_alone 0) refl due-alone

pub overflow_add-key : goal.overflow_add-key
overflow_add-key c =
    let text : List ℕ = c.args.body.now in
    let key-inside : c.key_end-key.result < length text = leads-in 0x3D text c.key_end-key.result (sym c.byte_is.ensures ∙ not-false _ c.if-not-byte_is.false-raw) in
    let h = key-inside in omega arith

pub push_error-c-requires-then-not-byte_is-2 : goal.push_error-c-requires-then-not-byte_is-2
push_error-c-requires-then-not-byte_is-2 c =
    let text : List ℕ = c.args.body.now in
    let Due : List Kind → List ℕ → Counts → Type 0 = λ ks l n. let a = c.args in Owing a.w (at a.w (attribute_scan between (chars a.body.now))) a.list.now a.counts ks l n in
    let due-value : Due (attribute_scan value (chars (drop (c.key_end-key.result + 1) text))) c.scan.list c.scan.c = let l = c.scan in let k = c.key_end-key in owing-as (key-valued text l.i k.result l.invariant.fresh (omega arith) k.ensures.is (sym c.byte_is.ensures ∙ not-false _ c.if-not-byte_is.false-raw)) l.invariant.owing in
    let due-unquoted : Due (unquoted_value ∷ attribute_scan unquoted (chars (drop (c.key_end-key.result + 1) text))) c.scan.list c.scan.c = owing-as (unquoted-starts (drop (c.key_end-key.result + 1) text) (sym c.byte_is-in-scan.ensures ∙ not-true _ c.if-not-byte_is-2.true-raw)) due-value in
    owing-room unquoted_value true (attribute_scan unquoted (chars (drop (c.key_end-key.result + 1) text))) (finding_of_kind c.args.w unquoted_value 0) refl due-unquoted

pub overflow_add-key-then-not-byte_is-2 : goal.overflow_add-key-then-not-byte_is-2
overflow_add-key-then-not-byte_is-2 c =
    let text : List ℕ = c.args.body.now in
    let short : length text < 18446744073709551616 = omega arith in
    let key-inside : c.key_end-key.result < length text = leads-in 0x3D text c.key_end-key.result (sym c.byte_is.ensures ∙ not-false _ c.if-not-byte_is.false-raw) in
    omega (arith, key-inside, short)

pub find_from-requires : goal.find_from-requires
find_from-requires c =
    let text : List ℕ = c.args.body.now in
    let key-inside : c.key_end-key.result < length text = leads-in 0x3D text c.key_end-key.result (sym c.byte_is.ensures ∙ not-false _ c.if-not-byte_is.false-raw) in
    let h = key-inside in omega arith

pub find_from-i-requires-then-not-byte_is-2 : goal.find_from-i-requires-then-not-byte_is-2
find_from-i-requires-then-not-byte_is-2 c = c.find_from.ensures.inside

pub scan-smaller-then-not-byte_is-2 : goal.scan-smaller-then-not-byte_is-2
scan-smaller-then-not-byte_is-2 c =
    let text : List ℕ = c.args.body.now in
    let key-inside : c.key_end-key.result < length text = leads-in 0x3D text c.key_end-key.result (sym c.byte_is.ensures ∙ not-false _ c.if-not-byte_is.false-raw) in
    let h = key-inside in
    omega (arith, h, c.key_end-key.ensures.is, c.find_from.ensures.is, c.find_from-i-then-not-byte_is-2.ensures.is, c.find_from-i-then-not-byte_is-2.ensures.inside)

pub scan-preserved-then-not-byte_is-2 : goal.scan-preserved-then-not-byte_is-2
scan-preserved-then-not-byte_is-2 c =
    let text : List ℕ = c.args.body.now in
    let Due : List Kind → List ℕ → Counts → Type 0 = λ ks l n. let a = c.args in Owing a.w (at a.w (attribute_scan between (chars a.body.now))) a.list.now a.counts ks l n in
    let due-value : Due (attribute_scan value (chars (drop (c.key_end-key.result + 1) text))) c.scan.list c.scan.c = let l = c.scan in let k = c.key_end-key in owing-as (key-valued text l.i k.result l.invariant.fresh (omega arith) k.ensures.is (sym c.byte_is.ensures ∙ not-false _ c.if-not-byte_is.false-raw)) l.invariant.owing in
    let due-unquoted : Due (unquoted_value ∷ attribute_scan unquoted (chars (drop (c.key_end-key.result + 1) text))) c.scan.list c.scan.c = owing-as (unquoted-starts (drop (c.key_end-key.result + 1) text) (sym c.byte_is-in-scan.ensures ∙ not-true _ c.if-not-byte_is-2.true-raw)) due-value in
    let j = c.find_from in
    let k = c.key_end-key.result + 1 in
    let next = unquoted-next text k j.result j.ensures.is in
    going_on j.result c.find_from-i-then-not-byte_is-2.result (c.push_error-c-then-not-byte_is-2.auto.list ∙ c.scan.invariant.same) (owing-as next (owing-wrote unquoted_value true (attribute_scan unquoted (chars (drop k text))) (finding_of_kind c.args.w unquoted_value 0) refl due-unquoted c.push_error-c-then-not-byte_is-2.ensures)) c.find_from-i-then-not-byte_is-2.ensures

pub overflow_add-j : goal.overflow_add-j
overflow_add-j c =
    let text : List ℕ = c.args.body.now in
    let quote-inside : c.key_end-key.result + 1 < length text = leads-in 0x22 text (c.key_end-key.result + 1) (sym c.byte_is-in-scan.ensures ∙ not-false _ c.if-not-byte_is-2.false-raw) in
    let h = quote-inside in omega arith

pub loop-j-init : goal.loop-j-init
loop-j-init c =
    let text : List ℕ = c.args.body.now in
    let quote-inside : c.key_end-key.result + 1 < length text = leads-in 0x22 text (c.key_end-key.result + 1) (sym c.byte_is-in-scan.ensures ∙ not-false _ c.if-not-byte_is-2.false-raw) in
    let h = quote-inside in (refl, refl, seeking-start text (c.key_end-key.result + 2) (omega arith))

pub push_error-c-requires-then-body-j : goal.push_error-c-requires-then-body-j
push_error-c-requires-then-body-j c =
    let text : List ℕ = c.args.body.now in
    let Due : List Kind → List ℕ → Counts → Type 0 = λ ks l n. let a = c.args in Owing a.w (at a.w (attribute_scan between (chars a.body.now))) a.list.now a.counts ks l n in
    let due-value : Due (attribute_scan value (chars (drop (c.key_end-key.result + 1) text))) c.scan.list c.scan.c = let l = c.scan in let k = c.key_end-key in owing-as (key-valued text l.i k.result l.invariant.fresh (omega arith) k.ensures.is (sym c.byte_is.ensures ∙ not-false _ c.if-not-byte_is.false-raw)) l.invariant.owing in
    let due-still : Due (attribute_scan value (chars (drop (c.key_end-key.result + 1) text))) c.loop-j.list c.loop-j.c = owing-still c.loop-j.invariant.0 c.loop-j.invariant.1 due-value in
    let due-unclosed : Due (unterminated ∷ []) c.loop-j.list c.loop-j.c = let e = c in owing-as (unclosed text c.key_end-key.result c.loop-j.j (sym e.byte_is-in-scan.ensures ∙ not-false _ e.if-not-byte_is-2.false-raw) c.loop-j.invariant.2 c.if-body-j.true) due-still in
    owing-room unterminated true [] (finding_of_kind c.args.w unterminated 0) refl due-unclosed

pub overflow_add-key-in-loop-j : goal.overflow_add-key-in-loop-j
overflow_add-key-in-loop-j c =
    let text : List ℕ = c.args.body.now in
    let quote-inside : c.key_end-key.result + 1 < length text = leads-in 0x22 text (c.key_end-key.result + 1) (sym c.byte_is-in-scan.ensures ∙ not-false _ c.if-not-byte_is-2.false-raw) in
    let h = quote-inside in omega arith

pub overflow_add-j-in-loop-j : goal.overflow_add-j-in-loop-j
overflow_add-j-in-loop-j c =
    let text : List ℕ = c.args.body.now in
    let short : length text < 18446744073709551616 = omega arith in
    let onward : Seeking text (c.key_end-key.result + 2) (c.loop-j.j + 1) = seeking-on c.loop-j.invariant.2 (omega arith) (sym c.closes.ensures ∙ c.if-closes.false) in
    omega (arith, onward.inside, short)

pub loop-j-smaller : goal.loop-j-smaller
loop-j-smaller c =
    let text : List ℕ = c.args.body.now in
    let onward : Seeking text (c.key_end-key.result + 2) (c.loop-j.j + 1) = seeking-on c.loop-j.invariant.2 (omega arith) (sym c.closes.ensures ∙ c.if-closes.false) in
    omega (arith, onward.inside)

pub loop-j-preserved : goal.loop-j-preserved
loop-j-preserved c =
    let text : List ℕ = c.args.body.now in
    let onward : Seeking text (c.key_end-key.result + 2) (c.loop-j.j + 1) = seeking-on c.loop-j.invariant.2 (omega arith) (sym c.closes.ensures ∙ c.if-closes.false) in
    (c.loop-j.invariant.0, c.loop-j.invariant.1, onward)

pub overflow_add-key-in-scan : goal.overflow_add-key-in-scan
overflow_add-key-in-scan c =
    let text : List ℕ = c.args.body.now in
    let quote-inside : c.key_end-key.result + 1 < length text = leads-in 0x22 text (c.key_end-key.result + 1) (sym c.byte_is-in-scan.ensures ∙ not-false _ c.if-not-byte_is-2.false-raw) in
    let h = quote-inside in omega arith

pub push_empty-c-requires : goal.push_empty-c-requires
push_empty-c-requires c =
    let text : List ℕ = c.args.body.now in
    let Due : List Kind → List ℕ → Counts → Type 0 = λ ks l n. let a = c.args in Owing a.w (at a.w (attribute_scan between (chars a.body.now))) a.list.now a.counts ks l n in
    let due-value : Due (attribute_scan value (chars (drop (c.key_end-key.result + 1) text))) c.scan.list c.scan.c = let l = c.scan in let k = c.key_end-key in owing-as (key-valued text l.i k.result l.invariant.fresh (omega arith) k.ensures.is (sym c.byte_is.ensures ∙ not-false _ c.if-not-byte_is.false-raw)) l.invariant.owing in
    let due-still : Due (attribute_scan value (chars (drop (c.key_end-key.result + 1) text))) c.loop-j.list c.loop-j.c = owing-still c.loop-j.invariant.0 c.loop-j.invariant.1 due-value in
    let due-closed : Due (pick (eqb c.loop-j.j (c.key_end-key.result + 2)) (empty_value ∷ []) [] ++ attribute_scan between (chars (drop (c.loop-j.j + 1) text))) c.loop-j.list c.loop-j.c = let e = c in owing-as (closed text c.key_end-key.result c.loop-j.j (sym e.byte_is-in-scan.ensures ∙ not-false _ e.if-not-byte_is-2.false-raw) c.loop-j.invariant.2 (omega arith) (sym c.closes.ensures ∙ c.if-closes.true)) due-still in
    owing-room empty_value (eqb c.loop-j.j (c.key_end-key.result + 2)) (attribute_scan between (chars (drop (c.loop-j.j + 1) text))) (finding_of_kind c.args.w empty_value 0) refl due-closed

pub overflow_add-close : goal.overflow_add-close
overflow_add-close c =
    let text : List ℕ = c.args.body.now in
    let short : length text < 18446744073709551616 = omega arith in
    let close-inside : c.loop-j.j < length text = omega arith in
    omega (arith, close-inside, short)

pub find_from-i-requires-in-scan : goal.find_from-i-requires-in-scan
find_from-i-requires-in-scan c =
    let text : List ℕ = c.args.body.now in
    let close-inside : c.loop-j.j < length text = omega arith in
    let h = close-inside in omega arith

pub scan-smaller : goal.scan-smaller
scan-smaller c =
    let text : List ℕ = c.args.body.now in
    let close-inside : c.loop-j.j < length text = omega arith in
    let h = close-inside in
    omega (arith, h, c.key_end-key.ensures.is, c.loop-j.invariant.2.past, c.find_from-i-in-scan.ensures.is, c.find_from-i-in-scan.ensures.inside)

pub scan-preserved : goal.scan-preserved
scan-preserved c =
    let text : List ℕ = c.args.body.now in
    let Due : List Kind → List ℕ → Counts → Type 0 = λ ks l n. let a = c.args in Owing a.w (at a.w (attribute_scan between (chars a.body.now))) a.list.now a.counts ks l n in
    let due-value : Due (attribute_scan value (chars (drop (c.key_end-key.result + 1) text))) c.scan.list c.scan.c = let l = c.scan in let k = c.key_end-key in owing-as (key-valued text l.i k.result l.invariant.fresh (omega arith) k.ensures.is (sym c.byte_is.ensures ∙ not-false _ c.if-not-byte_is.false-raw)) l.invariant.owing in
    let due-still : Due (attribute_scan value (chars (drop (c.key_end-key.result + 1) text))) c.loop-j.list c.loop-j.c = owing-still c.loop-j.invariant.0 c.loop-j.invariant.1 due-value in
    let due-closed : Due (pick (eqb c.loop-j.j (c.key_end-key.result + 2)) (empty_value ∷ []) [] ++ attribute_scan between (chars (drop (c.loop-j.j + 1) text))) c.loop-j.list c.loop-j.c = let e = c in owing-as (closed text c.key_end-key.result c.loop-j.j (sym e.byte_is-in-scan.ensures ∙ not-false _ e.if-not-byte_is-2.false-raw) c.loop-j.invariant.2 (omega arith) (sym c.closes.ensures ∙ c.if-closes.true)) due-still in
    let j = c.loop-j.j in
    going_on (j + 1) c.find_from-i-in-scan.result (c.push_empty-c.auto.list ∙ ap length c.loop-j.invariant.0 ∙ c.scan.invariant.same) (owing-wrote empty_value (eqb j (c.key_end-key.result + 2)) (attribute_scan between (chars (drop (j + 1) text))) (finding_of_kind c.args.w empty_value 0) refl due-closed c.push_empty-c.ensures) c.find_from-i-in-scan.ensures

pub returns-after-scan : goal.returns-after-scan
returns-after-scan c = going_end c.scan.i c.scan.invariant (omega arith)

pub returns-then-not-byte_is : goal.returns-then-not-byte_is
returns-then-not-byte_is c =
    let text : List ℕ = c.args.body.now in
    let Due : List Kind → List ℕ → Counts → Type 0 = λ ks l n. let a = c.args in Owing a.w (at a.w (attribute_scan between (chars a.body.now))) a.list.now a.counts ks l n in
    let due-alone : Due (key_alone ∷ []) c.scan.list c.scan.c = let l = c.scan in let k = c.key_end-key in owing-as (key-alone text l.i k.result l.invariant.fresh (omega arith) k.ensures.is (sym c.byte_is.ensures ∙ not-true _ c.if-not-byte_is.true-raw)) l.invariant.owing in
    owing-end (owing-wrote key_alone true [] (finding_of_kind c.args.w key_alone 0) refl due-alone c.push_error-c.ensures)

pub returns-then-body-j : goal.returns-then-body-j
returns-then-body-j c =
    let text : List ℕ = c.args.body.now in
    let Due : List Kind → List ℕ → Counts → Type 0 = λ ks l n. let a = c.args in Owing a.w (at a.w (attribute_scan between (chars a.body.now))) a.list.now a.counts ks l n in
    let due-value : Due (attribute_scan value (chars (drop (c.key_end-key.result + 1) text))) c.scan.list c.scan.c = let l = c.scan in let k = c.key_end-key in owing-as (key-valued text l.i k.result l.invariant.fresh (omega arith) k.ensures.is (sym c.byte_is.ensures ∙ not-false _ c.if-not-byte_is.false-raw)) l.invariant.owing in
    let due-still : Due (attribute_scan value (chars (drop (c.key_end-key.result + 1) text))) c.loop-j.list c.loop-j.c = owing-still c.loop-j.invariant.0 c.loop-j.invariant.1 due-value in
    let due-unclosed : Due (unterminated ∷ []) c.loop-j.list c.loop-j.c = let e = c in owing-as (unclosed text c.key_end-key.result c.loop-j.j (sym e.byte_is-in-scan.ensures ∙ not-false _ e.if-not-byte_is-2.false-raw) c.loop-j.invariant.2 c.if-body-j.true) due-still in
    owing-end (owing-wrote unterminated true [] (finding_of_kind c.args.w unterminated 0) refl due-unclosed c.push_error-c-then-body-j.ensures)
