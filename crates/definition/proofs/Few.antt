-- How many findings a document can have.
-- Assumes nothing.
use Prim.Native.Nat.{ℕ, suc, ◌+◌, ◌*◌, ◌≤◌}
use native.Mathlib.Nat.{le_refl}
use native.Mathlib.Omega.{arith}
use mathlib.Core.Path.{◌≡◌, refl, ◌∙◌}
use mathlib.Core.Bool.{Bool, true, false, not, ◌&&◌, ◌||◌}
use mathlib.Core.List.{List, [], ◌∷◌, ◌++◌}
use Rattle.std.specs.Prelude.{Option, Some, None}
use lib.Dec.{eqb}
use lib.ListN.{length, length-append}
use Rattle.text.specs.Pick.{cut, pick}
use Rattle.text.specs.Words.{blank_text}
use Rattle.tape.specs.Nodes.{Node, chapter_kind, verse_kind, text_kind}
use Rattle.tape.specs.Forest.{Forest, end, leaf, node}
use Rattle.tape.proofs.Sizes.{amount, breadth, weight}
use Rattle.table.specs.Entries.{Entry}
use Rattle.cursor.specs.Names.{name_of}
use Rattle.findings.specs.Finding.{Finding}
use Rattle.findings.specs.Written.{only}
use Rattle.attributes.specs.Attributes.{attributes_findings}
use Rattle.attributes.proofs.Few.{attributes-few}
use Rattle.rows.specs.Row.{row_findings}
use Rattle.rows.proofs.Few.{only-few, row-few}
use Rattle.definition.specs.State.{milestone_of, WalkState, initial, outside, WalkContext, Anchor, past}
use Rattle.definition.specs.Checks.{warning, Check, when, given, entry_of, chapter_checks, verse_checks, leaf_checked, book_code, id_name, tr_name, id_checks, after_id, place_checks, content_checks}
use Rattle.definition.specs.Milestones.{milestone_checks}
use Rattle.definition.specs.Walk.{leaf_anchor, open_checked_by, open_checked, inside, after_node, then_walk, by_entry, walk_by, walk}
use Rattle.definition.specs.Document.{text_before, of_document, unclosed, closing, walked, running, findings}
use Rattle.findings.specs.Codes.{text_before_id, missing_id_marker, missing_chapter_marker}
use Rattle.text.specs.Bytes.{equal}

pub given-few : (cs : List Check) → length (given cs) ≤ length cs
unfolding given
given-few [] = le_refl 0
given-few (c ∷ cs) = go c.holds (given-few cs)
  where
    go : (b : Bool) → length (given cs) ≤ length cs → length (only b c.finding ++ given cs) ≤ suc (length cs)
    go true h = omega arith
    go false h = omega arith

leaf-few : (table : List ℕ) (o : WalkContext) (st : WalkState) (x : Node) → length (leaf_checked table o st x).findings ≤ 7
unfolding leaf_checked
leaf-few table o st x = go (eqb x.kind chapter_kind) (eqb x.kind verse_kind)
  where
    go : (b v : Bool) → length (given (pick b (chapter_checks (entry_of table x) st x) (pick v (verse_checks (entry_of table x) o st x) []))) ≤ 7
    go true v = let h = given-few (chapter_checks (entry_of table x) st x) in omega arith
    go false true = given-few (verse_checks (entry_of table x) o st x)
    go false false = let h = given-few [] in omega arith

pick-few : (b : Bool) (fs : List Finding) (n : ℕ) → length fs ≤ n → length (pick b fs []) ≤ n
pick-few true fs n h = h
pick-few false fs n h = omega arith

open_few : (table : List ℕ) (o : WalkContext) (a : Option Anchor) (st : WalkState) (e : Entry) (x : Node) (c f : Forest) → length (open_checked table o a st e x c f).findings ≤ 10 + 2 * breadth c
unfolding open_checked_by
open_few table o a st e x c f =
    let name = cut e.name table in
    let st₁ = after_id (equal name id_name) st c in
    let checks = given (id_checks (equal name id_name) st (book_code c) x ++ place_checks name e o a st₁ x c f ++ content_checks name x c) in
    let row = pick (equal name tr_name) (row_findings c) [] in
    let attributes = attributes_findings x.number (name_of x.text) c in
    let last = given (milestone_checks e st₁ (milestone_of x c)) in
    let p = given-few (id_checks (equal name id_name) st (book_code c) x ++ place_checks name e o a st₁ x c f ++ content_checks name x c) in
    let q = pick-few (equal name tr_name) (row_findings c) (breadth c) (row-few 1 c) in
    let r = attributes-few x.number (name_of x.text) c in
    let m = given-few (milestone_checks e st₁ (milestone_of x c)) in
    omega (arith, length-append (checks ++ row ++ attributes) last, length-append (checks ++ row) attributes, length-append checks row)

pub walk-few : (table : List ℕ) (o : WalkContext) (a : Option Anchor) (f : Forest) (st : WalkState) → length (walk table o a f st).findings + 2 * breadth f ≤ 16 * weight f
unfolding walk_by breadth weight
walk-few table o a end st = le_refl 0
walk-few table o a (leaf x r) st =
    let t = leaf_checked table o st x in
    let h = leaf-few table o st x in
    let k = walk-few table o (leaf_anchor a x) r t.state in
    omega (arith, length-append t.findings (walk table o (leaf_anchor a x) r t.state).findings)
walk-few table o a (node x c r) st =
    go (entry_of table x) (λ p s. walk-few table p None c s) (λ s. walk-few table o (past a (node x c end)) r s)
  where
    go : (q : Option Entry) → ((p : WalkContext) (s : WalkState) → length (walk table p None c s).findings + 2 * breadth c ≤ 16 * weight c) → ((s : WalkState) → length (walk table o (past a (node x c end)) r s).findings + 2 * breadth r ≤ 16 * weight r) → length (by_entry q (walk table o (past a (node x c end)) r st) (λ e. after_node (open_checked table o a st e x c (node x c r)) (λ st₁. then_walk (walk table (inside o e) None c st₁) (walk table o (past a (node x c end)) r)))).findings + 2 * (amount x + breadth r) ≤ 16 * (amount x + weight c + weight r)
    go None below later = let k = later st in omega arith
    go (Some e) below later =
        let t = open_checked table o a st e x c (node x c r) in
        let w = walk table (inside o e) None c t.state in
        let v = walk table o (past a (node x c end)) r w.state in
        let h = open_few table o a st e x c (node x c r) in
        let k = below (inside o e) t.state in
        let j = later w.state in
        omega (arith, length-append t.findings (w.findings ++ v.findings), length-append w.findings v.findings)

pub text-few : (f : Forest) → length (text_before f) ≤ 1
unfolding text_before
text-few end = omega arith
text-few (leaf x r) = only-few (eqb x.kind text_kind && not (blank_text x.text)) (warning x text_before_id 0)
text-few (node x c r) = omega arith

pub unclosed-length : (xs : List Node) → length (unclosed xs) ≡ length xs
unfolding unclosed
unclosed-length [] = refl
unclosed-length (x ∷ xs) = length-append (unclosed xs) _ ∙ (let h = unclosed-length xs in omega arith)

closing-few : (st : WalkState) → length (closing st) ≤ length st.open_starts + 2
unfolding closing
closing-few st =
    let checks = when (not st.has_id && (st.has_chapter || st.has_verse)) (of_document missing_id_marker) ∷ when ((st.has_id || st.has_verse) && (not st.has_chapter && not st.front_matter)) (of_document missing_chapter_marker) ∷ [] in
    let h = unclosed-length st.open_starts in
    let k = given-few checks in
    omega (arith, length-append (unclosed st.open_starts) (given checks))

-- the whole list, by what its forest holds and how many starts stay open
pub findings-few : (table : List ℕ) (f : Forest) → length (findings table f) ≤ 16 * weight f + length (walked table f).state.open_starts + 3
findings-few table f =
    let w = walked table f in
    let h = walk-few table outside None f initial in
    let t = text-few f in
    let c = closing-few w.state in
    omega (arith, length-append (running table f) (closing w.state), length-append (text_before f) w.findings)
