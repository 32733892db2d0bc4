-- The walk of a run and then of a further run is the walk of both: what stands after a node changes nothing that is said of it.
-- Assumes nothing.
use Prim.Native.Nat.{ℕ}
use mathlib.Core.Path.{◌≡◌, refl, sym, ap, ◌∙◌}
use mathlib.Core.Bool.{Bool, true, false, ◌||◌}
use mathlib.Core.List.{List, ◌∷◌, ◌++◌, append_assoc}
use Rattle.std.specs.Prelude.{Option, Some, None}
use lib.Dec.{eqb}
use borrow.Author.Tests.{eq-eqb}
use Rattle.tape.specs.Nodes.{Node}
use Rattle.tape.specs.Forest.{Forest, end, leaf, node, followed}
use Rattle.table.specs.Entries.{Entry}
use Rattle.cursor.specs.Names.{name_of}
use Rattle.findings.specs.Finding.{Finding}
use Rattle.attachment.specs.Attached.{is_alternate, is_published, claims, is_blank, plain, nodes_if, run_of, start_offsets, among}
use Rattle.definition.specs.State.{WalkState, WalkContext, Anchor, past}
use Rattle.definition.specs.Checks.{entry_of, leaf_checked, attached_to}
use Rattle.definition.specs.Walk.{Walked, leaf_anchor, open_checked_by, open_checked, inside, with_findings, after_node, then_walk, by_entry, walk_by, walk}

-- the run of attached numbers passes a number itself before it comes to anything that stands after it
settled-run : (kind at : ℕ) (alt pubn : Bool) (p : Forest) (x : Node) (c r : Forest) → x.start ≡ at → among at (start_offsets (run_of kind alt pubn (followed p (node x c r)))) ≡ among at (start_offsets (run_of kind alt pubn (followed p (node x c end))))
unfolding run_of followed start_offsets among
settled-run kind at alt pubn end x c r e = go (claims kind alt pubn (name_of x.text)) _ _
  where
    go : (b : Bool) (xs ys : List Node) → among at (start_offsets (nodes_if b (x ∷ xs))) ≡ among at (start_offsets (nodes_if b (x ∷ ys)))
    go true xs ys = rw (eq-eqb x.start at e)
    go false xs ys = refl
settled-run kind at alt pubn (leaf y p) x c r e = go (is_blank y) (settled-run kind at alt pubn p x c r e)
  where
    go : (b : Bool) → among at (start_offsets (run_of kind alt pubn (followed p (node x c r)))) ≡ among at (start_offsets (run_of kind alt pubn (followed p (node x c end)))) → among at (start_offsets (nodes_if b (run_of kind alt pubn (followed p (node x c r))))) ≡ among at (start_offsets (nodes_if b (run_of kind alt pubn (followed p (node x c end)))))
    go true h = h
    go false h = refl
settled-run kind at alt pubn (node y d p) x c r e =
    go (claims kind alt pubn (name_of y.text)) (plain d) _ _ (settled-run kind at (alt || is_alternate kind (name_of y.text)) (pubn || is_published kind (name_of y.text)) p x c r e)
  where
    go : (b v : Bool) (xs ys : List Node) → among at (start_offsets xs) ≡ among at (start_offsets ys) → among at (start_offsets (nodes_if b (y ∷ nodes_if v xs))) ≡ among at (start_offsets (nodes_if b (y ∷ nodes_if v ys)))
    go true true xs ys h = ap (◌||◌ (eqb y.start at)) h
    go true false xs ys h = refl
    go false v xs ys h = refl

settled : (a : Option Anchor) (x : Node) (c r : Forest) → attached_to a (node x c r) x.start ≡ attached_to a (node x c end) x.start
settled None x c r = refl
settled (Some a) x c r = settled-run a.kind x.start false false a.passed x c r refl

-- what is said of a marker does not depend on what stands after it
pub open-settled : (table : List ℕ) (o : WalkContext) (a : Option Anchor) (st : WalkState) (e : Entry) (x : Node) (c r g : Forest) → open_checked table o a st e x c (node x c (followed r g)) ≡ open_checked table o a st e x c (node x c r)
unfolding open_checked_by
open-settled table o a st e x c r g = rw (settled a x c (followed r g), settled a x c r)

-- the walk of a run, and then what the anchor and the record after it lead to
abbrev pub then_run : Walked → (Option Anchor → WalkState → Walked) → Walked
then_run w rest = with_findings w.findings (rest w.anchor w.state)

before-before : (fs gs : List Finding) (w : Walked) → with_findings fs (with_findings gs w) ≡ with_findings (fs ++ gs) w
before-before fs gs w = ap (λ (l : List Finding). record { findings = l; anchor = w.anchor; state = w.state }) (sym (append_assoc fs gs w.findings))

pub walk-then : (table : List ℕ) (o : WalkContext) (a : Option Anchor) (f g : Forest) (st : WalkState) → walk table o a (followed f g) st ≡ then_run (walk table o a f st) (λ b s. walk table o b g s)
unfolding walk_by followed
walk-then table o a end g st = refl
walk-then table o a (leaf x r) g st =
    let t = leaf_checked table o st x in
    let w = walk table o (leaf_anchor a x) r t.state in
    ap (with_findings t.findings) (walk-then table o (leaf_anchor a x) r g t.state) ∙ before-before t.findings w.findings (walk table o w.anchor g w.state)
walk-then table o a (node x c r) g st =
    go (entry_of table x) (λ s. walk-then table o (past a (node x c end)) r g s)
  where
    go : (q : Option Entry)
        → ((s : WalkState) → walk table o (past a (node x c end)) (followed r g) s ≡ then_run (walk table o (past a (node x c end)) r s) (λ b s'. walk table o b g s'))
        → by_entry q (walk table o (past a (node x c end)) (followed r g) st) (λ e. after_node (open_checked table o a st e x c (node x c (followed r g))) (λ st₁. then_walk (walk table (inside o e) None c st₁) (walk table o (past a (node x c end)) (followed r g))))
        ≡ then_run (by_entry q (walk table o (past a (node x c end)) r st) (λ e. after_node (open_checked table o a st e x c (node x c r)) (λ st₁. then_walk (walk table (inside o e) None c st₁) (walk table o (past a (node x c end)) r)))) (λ b s. walk table o b g s)
    go None later = later st
    go (Some e) later =
        let t = open_checked table o a st e x c (node x c r) in
        let w = walk table (inside o e) None c t.state in
        let v = walk table o (past a (node x c end)) r w.state in
        let last = walk table o v.anchor g v.state in
        rw (open-settled table o a st e x c r g)
        (ap (λ (z : Walked). with_findings t.findings (with_findings w.findings z)) (later w.state) ∙ ap (with_findings t.findings) (before-before w.findings v.findings last) ∙ before-before t.findings (w.findings ++ v.findings) last)
