-- The counts of a checked document add up, what is written fits, and its verses are at most its nodes.
-- Assumes nothing.
use Prim.Native.Nat.{ℕ, zero, suc, ◌+◌, ◌*◌, ◌<◌, ◌≤◌}
use native.Mathlib.Nat.{le_refl}
use native.Mathlib.Omega.{arith}
use mathlib.Core.Path.{◌≡◌, refl}
use mathlib.Core.Bool.{Bool, true, false, false≢true}
use mathlib.Core.List.{List, [], ◌∷◌}
use mathlib.Core.Logic.{◌⊎◌, inl, inr}
use Rattle.std.specs.Prelude.{Option, Some, None}
use lib.Dec.{eqb, ltb}
use lib.ListN.{length}
use borrow.Author.Tests.{ltb-true, ltb-false}
use Rattle.text.specs.Pick.{pick}
use Rattle.attachment.specs.Attached.{among}
use Rattle.tape.specs.Nodes.{Node, count, chapter_kind, verse_kind}
use Rattle.tape.specs.Forest.{Forest, end, leaf, node, top}
use Rattle.tape.proofs.Sizes.{nodes_in, nodes-le}
use Rattle.cursor.proofs.Runs.{run-top}
use Rattle.table.specs.Entries.{Entry}
use Rattle.findings.specs.Finding.{Finding}
use Rattle.findings.specs.Written.{room}
use Rattle.definition.proofs.EachFinding.{EachFinding, codes_of, is_given, among-all, each-finding}
use Rattle.definition.specs.State.{WalkState, initial, outside, WalkContext, Anchor, past}
use Rattle.definition.specs.Checks.{entry_of, after_chapter, after_verse, leaf_checked, after_id}
use Rattle.definition.specs.Milestones.{after_milestone_by}
use Rattle.definition.specs.Walk.{leaf_anchor, open_checked_by, open_checked, inside, after_node, then_walk, by_entry, walk_by, walk}
use Rattle.definition.specs.Document.{findings}
use Rattle.definition.specs.Outcome.{Lent, refusal, add_if, of_severity, smaller, list_of, checked_of, written_of}
use Rattle.definition.proofs.Demand3.{checked-accepted}
use Rattle.findings.specs.Codes.{code_count}
use Rattle.text.specs.Bytes.{all}

-- "severity (0 error, 1 warning, 2 info)"; the last code is that of document 02, K6
abbrev pub Listed : ℕ → ℕ → Type 0
Listed severity code = (severity ≤ 2) × (code < code_count)

-- every finding has one of these severities and codes
abbrev pub Graded : List Finding → Type 0
Graded fs = EachFinding (λ severity code form. Listed severity code) fs

none-among : (code : ℕ) → among code [] ≡ true → false ≡ true
unfolding among
none-among code h = h

low-codes : (code : ℕ) (xs : List ℕ) → all (λ (c : ℕ). ltb c code_count) xs ≡ true → among code xs ≡ true → code < code_count
low-codes code xs low h = ltb-true code code_count (among-all (λ (c : ℕ). ltb c code_count) code xs low h)

given-listed : (severity code form : ℕ) → is_given severity code ≡ true → Listed severity code
unfolding codes_of all
given-listed zero code form h = (omega arith, low-codes code (codes_of 0) refl h)
given-listed (suc zero) code form h = (omega arith, low-codes code (codes_of 1) refl h)
given-listed (suc (suc zero)) code form h = (omega arith, low-codes code (codes_of 2) refl h)
given-listed (suc (suc (suc n))) code form h = (absurd (false≢true (none-among code h)), absurd (false≢true (none-among code h)))

-- the whole list
pub graded : (table : List ℕ) (f : Forest) → Graded (findings table f)
graded table f = each-finding (λ severity code form. Listed severity code) given-listed (λ form. (omega arith, omega arith)) (omega arith) (omega arith) table f

severities : (fs : List Finding) → Graded fs → of_severity 0 fs + of_severity 1 fs + of_severity 2 fs ≡ length fs
unfolding of_severity
severities [] h = refl
severities (f ∷ fs) h = go f.severity h.0.0 (severities fs h.1)
  where
    go : (n : ℕ) → n ≤ 2 → of_severity 0 fs + of_severity 1 fs + of_severity 2 fs ≡ length fs → add_if (eqb n 0) (of_severity 0 fs) + add_if (eqb n 1) (of_severity 1 fs) + add_if (eqb n 2) (of_severity 2 fs) ≡ suc (length fs)
    go zero l q = omega arith
    go (suc zero) l q = omega arith
    go (suc (suc zero)) l q = omega arith
    go (suc (suc (suc n))) l q = absurd (omega arith)

leaf-verses : (table : List ℕ) (o : WalkContext) (st : WalkState) (x : Node) → (leaf_checked table o st x).state.verses ≤ st.verses + 1
unfolding leaf_checked after_chapter after_verse
leaf-verses table o st x = go (eqb x.kind chapter_kind) (eqb x.kind verse_kind)
  where
    go : (b v : Bool) → (pick b (after_chapter st x) (pick v (after_verse (entry_of table x) o st x) st)).verses ≤ st.verses + 1
    go true v = omega arith
    go false true = le_refl (st.verses + 1)
    go false false = omega arith

open-verses : (table : List ℕ) (o : WalkContext) (a : Option Anchor) (st : WalkState) (e : Entry) (x : Node) (c f : Forest) → (open_checked table o a st e x c f).state.verses ≡ st.verses
unfolding open_checked_by after_milestone_by after_id
open-verses table o a st e x c f = refl

walk-verses : (table : List ℕ) (o : WalkContext) (a : Option Anchor) (f : Forest) (st : WalkState) → (walk table o a f st).state.verses ≤ st.verses + nodes_in f
unfolding walk_by nodes_in
walk-verses table o a end st = omega arith
walk-verses table o a (leaf x r) st =
    let h = leaf-verses table o st x in
    let k = walk-verses table o (leaf_anchor a x) r (leaf_checked table o st x).state in
    omega arith
walk-verses table o a (node x c r) st =
    go (entry_of table x) (λ p s. walk-verses table p None c s) (λ s. walk-verses table o (past a (node x c end)) r s)
  where
    go : (q : Option Entry) → ((p : WalkContext) (s : WalkState) → (walk table p None c s).state.verses ≤ s.verses + nodes_in c) → ((s : WalkState) → (walk table o (past a (node x c end)) r s).state.verses ≤ s.verses + nodes_in r) → (by_entry q (walk table o (past a (node x c end)) r st) (λ e. after_node (open_checked table o a st e x c (node x c r)) (λ st₁. then_walk (walk table (inside o e) None c st₁) (walk table o (past a (node x c end)) r)))).state.verses ≤ st.verses + (1 + nodes_in c + nodes_in r)
    go None below later = let k = later st in omega arith
    go (Some e) below later =
        let t = open_checked table o a st e x c (node x c r) in
        let w = walk table (inside o e) None c t.state in
        let m = open-verses table o a st e x c (node x c r) in
        let k = below (inside o e) t.state in
        let j = later w.state in
        omega arith

-- the counts of a checked document
pub counts-add-up : (l : Lent) → (checked_of l).errors + (checked_of l).warnings + (checked_of l).infos ≡ (checked_of l).total
unfolding checked_of
counts-add-up l = severities (list_of l) (graded l.table (top l.source l.tape))

-- the smaller of two numbers, by the test that defines it
pub smaller-is : (t r : ℕ) → ((smaller t r ≡ t) × (t ≤ r)) ⊎ ((smaller t r ≡ r) × (r ≤ t))
smaller-is t r = test (ltb t r) refl
  where
    test : (b : Bool) → ltb t r ≡ b → ((pick b t r ≡ t) × (t ≤ r)) ⊎ ((pick b t r ≡ r) × (r ≤ t))
    test true e = let h = ltb-true t r e in inl (refl, omega arith)
    test false e = inr (refl, ltb-false t r e)

-- what is written has room, and is no more than the total
pub written-fits : (l : Lent) → ((checked_of l).written ≤ (checked_of l).total) × (8 * (checked_of l).written ≤ length l.list)
unfolding checked_of
written-fits l = test (smaller-is (length (list_of l)) (room l.list))
  where
    test : ((written_of l ≡ length (list_of l)) × (length (list_of l) ≤ room l.list)) ⊎ ((written_of l ≡ room l.list) × (room l.list ≤ length (list_of l))) → (written_of l ≤ length (list_of l)) × (8 * written_of l ≤ length l.list)
    test (inl h) = rw h.0 (omega arith, omega (arith, h.1))
    test (inr h) = rw h.0 (h.1, omega arith)

-- "Cut from a list not full" never occurs: no further finding has room
pub cut-is-full : (l : Lent) → (checked_of l).cut ≡ true → length l.list < 8 * ((checked_of l).written + 1)
unfolding checked_of
cut-is-full l e = test (smaller-is (length (list_of l)) (room l.list)) (ltb-true (written_of l) (length (list_of l)) e)
  where
    test : ((written_of l ≡ length (list_of l)) × (length (list_of l) ≤ room l.list)) ⊎ ((written_of l ≡ room l.list) × (room l.list ≤ length (list_of l))) → written_of l < length (list_of l) → length l.list < 8 * (written_of l + 1)
    test (inl h) less = absurd (omega (arith, h.0))
    test (inr h) less = rw h.0 (omega arith)

-- a list that isn't cut has room for all
pub uncut-fits : (l : Lent) → (checked_of l).cut ≡ false → length (list_of l) ≤ room l.list
unfolding checked_of
uncut-fits l e = test (smaller-is (length (list_of l)) (room l.list)) (ltb-false (written_of l) (length (list_of l)) e)
  where
    test : ((written_of l ≡ length (list_of l)) × (length (list_of l) ≤ room l.list)) ⊎ ((written_of l ≡ room l.list) × (room l.list ≤ length (list_of l))) → length (list_of l) ≤ written_of l → length (list_of l) ≤ room l.list
    test (inl h) more = h.1
    test (inr h) more = rw h.0 at more

pub verses_few : (l : Lent) → refusal l ≡ None → (checked_of l).verses ≤ count l.tape
unfolding checked_of
verses_few l e =
    let run = run-top l.source l.tape (checked-accepted l e) in
    let k = nodes-le l.source l.tape run.nested in
    let j = walk-verses l.table outside None (top l.source l.tape) initial in
    let i = run.inside in
    omega arith
