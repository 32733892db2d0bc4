-- What the walk makes of the visited milestones, by any taking rule: its open starts are the visited starts that no visited end took, and its mismatches are those of the visited ends that took none.
-- Assumes nothing.
use Prim.Native.Nat.{ℕ}
use mathlib.Core.Path.{◌≡◌, refl, sym, ap, ap₂, ◌∙◌}
use mathlib.Core.Bool.{Bool, true, false, not, ◌&&◌}
use mathlib.Core.List.{List, [], ◌∷◌, ◌++◌, append_assoc}
use Rattle.std.specs.Prelude.{Option, Some, None}
use lib.Dec.{eqb}
use Rattle.text.specs.Pick.{cut, pick, AllOf}
use Rattle.text.specs.Bytes.{equal}
use Rattle.tape.specs.Nodes.{Node, chapter_kind, verse_kind}
use Rattle.tape.specs.Forest.{Forest, end, leaf, node, followed}
use Rattle.table.specs.Entries.{Entry}
use Rattle.findings.specs.Finding.{Finding}
use Rattle.findings.specs.Codes.{milestone_mismatch, end_alone}
use Rattle.findings.specs.Written.{only}
use Rattle.definition.specs.State.{Milestone, milestone_of, node_of, WalkState, initial, outside, WalkContext, Anchor, past}
use Rattle.definition.specs.Checks.{error, given, id_name, entry_of, after_chapter, after_verse, leaf_checked, after_id}
use Rattle.definition.specs.Milestones.{Fits, pairing, is_start, is_milestone, waits_by, without_by, starts_after_by, milestone_checks_by, after_milestone_by, visit_of, visits, Mark, taking_by, with_visit_by, marks_from_by, marks_by, marks, free_starts}
use Rattle.definition.specs.Walk.{leaf_anchor, open_checked_by, inside, after_node, then_walk, by_entry, walk_by}
use Rattle.definition.specs.Document.{walked_by, walked, those, is_mismatch}
use Rattle.definition.proofs.EachFinding.{given-other, own_findings, each-leaf, each-own}
use Rattle.definition.proofs.Those.{those-append, those-none}

pub visits-then : (table : List ℕ) (f g : Forest) → visits table (followed f g) ≡ visits table f ++ visits table g
unfolding visits followed
visits-then table end g = refl
visits-then table (leaf x r) g = visits-then table r g
visits-then table (node x c r) g = go (entry_of table x) (visits-then table r g)
  where
    go : (q : Option Entry) → visits table (followed r g) ≡ visits table r ++ visits table g → visit_of q (milestone_of x c) (visits table c) (visits table (followed r g)) ≡ visit_of q (milestone_of x c) (visits table c) (visits table r) ++ visits table g
    go None h = h
    go (Some e) h = rw h (sym (append_assoc (pick (is_milestone e x) (milestone_of x c ∷ []) [] ++ visits table c) (visits table r) (visits table g)))

leaf-open : (table : List ℕ) (o : WalkContext) (st : WalkState) (x : Node) → (leaf_checked table o st x).state.open_starts ≡ st.open_starts
unfolding leaf_checked after_chapter after_verse
leaf-open table o st x = go (eqb x.kind chapter_kind) (eqb x.kind verse_kind)
  where
    go : (b v : Bool) → (pick b (after_chapter st x) (pick v (after_verse (entry_of table x) o st x) st)).open_starts ≡ st.open_starts
    go true v = refl
    go false true = refl
    go false false = refl

module _ (fits : Fits) where
  pub marks_then : (ms : List Mark) (xs ys : List Milestone) → marks_from_by fits ms (xs ++ ys) ≡ marks_from_by fits (marks_from_by fits ms xs) ys
  unfolding marks_from_by
  marks_then ms [] ys = refl
  marks_then ms (x ∷ xs) ys = marks_then (with_visit_by fits x ms) xs ys

  -- an end takes from the marks what it takes from the open starts
  taking-without : (x : Milestone) (ms : List Mark) → free_starts (taking_by fits x ms) ≡ without_by fits x (free_starts ms)
  unfolding taking_by free_starts without_by
  taking-without x [] = refl
  taking-without x (m ∷ ms) = go (is_start (node_of m.milestone)) m.taker refl refl (fits m.milestone x) refl (taking-without x ms)
    where
      go : (b : Bool) (t : Option Milestone) → is_start (node_of m.milestone) ≡ b → m.taker ≡ t → (v : Bool) → fits m.milestone x ≡ v → free_starts (taking_by fits x ms) ≡ without_by fits x (free_starts ms) → free_starts (taking_by fits x (m ∷ ms)) ≡ without_by fits x (free_starts (m ∷ ms))
      go false t p q v w h = rw (p, p) h
      go true None p q true w h = rw (p, q, w, p)
      go true None p q false w h = rw (p, q, w, p) (ap (m.milestone ∷◌) h)
      go true (Some e) p q v w h = rw (p, q, p) h

  met-open : (x : Milestone) (ms : List Mark) → free_starts (with_visit_by fits x ms) ≡ starts_after_by fits (is_start (node_of x)) x (free_starts ms)
  unfolding free_starts
  met-open x ms = go (is_start (node_of x))
    where
      go : (b : Bool) → pick (b && true) (x ∷ free_starts (pick b ms (taking_by fits x ms))) (free_starts (pick b ms (taking_by fits x ms))) ≡ pick b (x ∷ free_starts ms) (without_by fits x (free_starts ms))
      go true = refl
      go false = taking-without x ms

  -- what holds of each of some milestones holds of those that are left when one is taken out, and of the free starts after visits of them
  module _ (P : Milestone → Type 0) where
    pub all_without : (x : Milestone) (xs : List Milestone) → AllOf P xs → AllOf P (without_by fits x xs)
    unfolding without_by
    all_without x [] h = tt
    all_without x (y ∷ ys) h = go (fits y x) (all_without x ys h.1)
      where
        go : (b : Bool) → AllOf P (without_by fits x ys) → AllOf P (pick b ys (y ∷ without_by fits x ys))
        go true k = h.1
        go false k = (h.0, k)

    pub all-free : (ms : List Mark) (xs : List Milestone) → AllOf P (free_starts ms) → AllOf P xs → AllOf P (free_starts (marks_from_by fits ms xs))
    unfolding marks_from_by
    all-free ms [] p q = p
    all-free ms (x ∷ xs) p q = all-free (with_visit_by fits x ms) xs (rw (met-open x ms) (go (is_start (node_of x)))) q.1
      where
        go : (b : Bool) → AllOf P (starts_after_by fits b x (free_starts ms))
        go true = (q.0, p)
        go false = all_without x (free_starts ms) p

  -- of further visits, the findings of the ends that take none
  unfoldable pub alone : List Mark → List Milestone → List Finding
  alone ms [] = []
  alone ms (x ∷ xs) = only (not (is_start (node_of x)) && not (waits_by fits x (free_starts ms))) (error (node_of x) milestone_mismatch end_alone) ++ alone (with_visit_by fits x ms) xs

  alone-then : (ms : List Mark) (xs ys : List Milestone) → alone ms (xs ++ ys) ≡ alone ms xs ++ alone (marks_from_by fits ms xs) ys
  unfolding alone marks_from_by
  alone-then ms [] ys = refl
  alone-then ms (x ∷ xs) ys =
      let later = with_visit_by fits x ms in
      let own = only (not (is_start (node_of x)) && not (waits_by fits x (free_starts ms))) (error (node_of x) milestone_mismatch end_alone) in
      ap (own ++◌) (alone-then later xs ys) ∙ sym (append_assoc own (alone later xs) (alone (marks_from_by fits later xs) ys))

  -- findings and the open starts after them match some visits: these starts are free, and the mismatches are those of the ends that take none
  pub record Matches (ms : List Mark) (xs : List Milestone) (fs : List Finding) (starts : List Milestone) : Type 0 where
    pub open-starts : starts ≡ free_starts (marks_from_by fits ms xs)
    pub mismatches : those is_mismatch fs ≡ alone ms xs

  -- one run of visits and then another
  matches-then : {ms : List Mark} {xs ys : List Milestone} {fs gs : List Finding} {starts later : List Milestone} → Matches ms xs fs starts → Matches (marks_from_by fits ms xs) ys gs later → Matches ms (xs ++ ys) (fs ++ gs) later
  matches-then {ms} {xs} {ys} {fs} {gs} p q =
      record {
        open-starts = q.open-starts ∙ ap free_starts (sym (marks_then ms xs ys));
        mismatches = those-append is_mismatch fs gs ∙ ap₂ ◌++◌ p.mismatches q.mismatches ∙ sym (alone-then ms xs ys);
      }

  -- a leaf is no milestone
  leaf-matches : (table : List ℕ) (o : WalkContext) (st : WalkState) (x : Node) (ms : List Mark) → st.open_starts ≡ free_starts ms → Matches ms [] (leaf_checked table o st x).findings (leaf_checked table o st x).state.open_starts
  unfolding alone marks_from_by
  leaf-matches table o st x ms h =
      record {
        open-starts = leaf-open table o st x ∙ h;
        mismatches = those-none is_mismatch _ (each-leaf (λ severity code form. eqb code milestone_mismatch ≡ false) given-other (λ form. refl) table o st x);
      }

  -- a marker is visited as a milestone, or not
  open-matches : (table : List ℕ) (o : WalkContext) (a : Option Anchor) (st : WalkState) (e : Entry) (x : Node) (c f : Forest) (ms : List Mark) → st.open_starts ≡ free_starts ms → Matches ms (pick (is_milestone e x) (milestone_of x c ∷ []) []) (open_checked_by fits table o a st e x c f).findings (open_checked_by fits table o a st e x c f).state.open_starts
  unfolding open_checked_by after_milestone_by after_id marks_from_by alone given those
  open-matches table o a st e x c f ms h =
      let name = cut e.name table in
      let st₁ = after_id (equal name id_name) st c in
      record {
        open-starts = rw h (starts (is_milestone e x));
        mismatches =
            those-append is_mismatch (own_findings name e o a st st₁ x c f) (given (milestone_checks_by fits e st₁ m))
            ∙ rw (those-none is_mismatch (own_findings name e o a st st₁ x c f) (each-own (λ severity code form. eqb code milestone_mismatch ≡ false) given-other name e o a st st₁ x c f), h) (own (is_milestone e x));
      }
    where
      m : Milestone
      m = milestone_of x c

      starts : (b : Bool) → pick b (starts_after_by fits (is_start x) m (free_starts ms)) (free_starts ms) ≡ free_starts (marks_from_by fits ms (pick b (m ∷ []) []))
      starts true = sym (met-open m ms)
      starts false = refl

      lone : Bool
      lone = not (is_start x) && not (waits_by fits m (free_starts ms))

      kept : (v : Bool) → those is_mismatch (only v (error x milestone_mismatch end_alone) ++ []) ≡ only v (error x milestone_mismatch end_alone) ++ []
      kept true = refl
      kept false = refl

      own : (b : Bool) → those is_mismatch (only (b && lone) (error x milestone_mismatch end_alone) ++ []) ≡ alone ms (pick b (m ∷ []) [])
      own true = kept lone
      own false = refl

  pub walk-matches : (table : List ℕ) (o : WalkContext) (a : Option Anchor) (f : Forest) (st : WalkState) (ms : List Mark) → st.open_starts ≡ free_starts ms → Matches ms (visits table f) (walk_by fits table o a f st).findings (walk_by fits table o a f st).state.open_starts
  unfolding walk_by visits marks_from_by alone those
  walk-matches table o a end st ms h = record { open-starts = h; mismatches = refl }
  walk-matches table o a (leaf x r) st ms h =
      let first = leaf-matches table o st x ms h in
      matches-then first (walk-matches table o (leaf_anchor a x) r (leaf_checked table o st x).state ms first.open-starts)
  walk-matches table o a (node x c r) st ms h =
      go (entry_of table x) (λ p s ks k. walk-matches table p None c s ks k) (λ s ks k. walk-matches table o (past a (node x c end)) r s ks k)
    where
      go : (q : Option Entry)
          → ((p : WalkContext) (s : WalkState) (ks : List Mark) → s.open_starts ≡ free_starts ks → Matches ks (visits table c) (walk_by fits table p None c s).findings (walk_by fits table p None c s).state.open_starts)
          → ((s : WalkState) (ks : List Mark) → s.open_starts ≡ free_starts ks → Matches ks (visits table r) (walk_by fits table o (past a (node x c end)) r s).findings (walk_by fits table o (past a (node x c end)) r s).state.open_starts)
          → Matches ms (visit_of q (milestone_of x c) (visits table c) (visits table r))
          (by_entry q (walk_by fits table o (past a (node x c end)) r st) (λ e. after_node (open_checked_by fits table o a st e x c (node x c r)) (λ st₁. then_walk (walk_by fits table (inside o e) None c st₁) (walk_by fits table o (past a (node x c end)) r)))).findings
          (by_entry q (walk_by fits table o (past a (node x c end)) r st) (λ e. after_node (open_checked_by fits table o a st e x c (node x c r)) (λ st₁. then_walk (walk_by fits table (inside o e) None c st₁) (walk_by fits table o (past a (node x c end)) r)))).state.open_starts
      go None below later = later st ms h
      go (Some e) below later =
          let t = open_checked_by fits table o a st e x c (node x c r) in
          let w = walk_by fits table (inside o e) None c t.state in
          let first = open-matches table o a st e x c (node x c r) ms h in
          let both = matches-then first (below (inside o e) t.state _ first.open-starts) in
          rw (← append_assoc t.findings w.findings _) (matches-then both (later w.state _ both.open-starts))

  -- the walk's open starts are the visited starts that no visited end took, in order
  pub untaken-by : (table : List ℕ) (f : Forest) → (walked_by fits table f).state.open_starts ≡ free_starts (marks_by fits (visits table f))
  unfolding free_starts
  untaken-by table f = (walk-matches table outside None f initial [] refl).open-starts

pub open-starts-are-untaken : (table : List ℕ) (f : Forest) → (walked table f).state.open_starts ≡ free_starts (marks (visits table f))
open-starts-are-untaken table f = untaken-by pairing table f
