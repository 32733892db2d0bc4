-- Document 02, K4, the quotation account: of each base, the visited starts and ends are twice the pairs plus the mismatches.
-- Assumes nothing.
use Prim.Native.Nat.{ℕ, zero, suc, ◌+◌, ◌-◌, ◌*◌}
use native.Mathlib.Omega.{arith}
use mathlib.Core.Path.{◌≡◌, refl, sym, ap, ◌∙◌}
use mathlib.Core.Bool.{Bool, true, false, not, false≢true, ◌&&◌, ◌||◌}
use mathlib.Core.List.{List, [], ◌∷◌, ◌++◌}
use Rattle.std.specs.Prelude.{Option, Some, None}
use lib.Dec.{eqb}
use lib.ListN.{length, length-append}
use Rattle.text.specs.Pick.{pick, AllOf}
use Rattle.text.specs.Bytes.{equal}
use Rattle.text.proofs.Blocks.{equal-true}
use Rattle.text.proofs.Bool.{and_right}
use Rattle.text.proofs.Every.{all_append}
use Rattle.tape.specs.Nodes.{Node, node_at, nodes, kind_at, link_at, is_open, is_close}
use Rattle.tape.specs.Forest.{Forest, end, leaf, node, join_node, runs, innermost, forest, top}
use Rattle.table.specs.Entries.{Entry, milestone_category}
use Rattle.findings.specs.Finding.{Finding}
use Rattle.findings.specs.Codes.{milestone_mismatch, unclosed_start, end_alone}
use Rattle.findings.specs.Written.{only}
use Rattle.definition.specs.State.{Milestone, milestone_of, node_of}
use Rattle.definition.specs.Checks.{error, entry_of}
use Rattle.definition.specs.Milestones.{Fits, is_start, is_end, base_of, pairing, is_milestone, waits_by, visit_of, visits, Mark, free, taking_by, with_visit_by, marks_from_by, marks_by, marks, free_starts}
use Rattle.definition.specs.Document.{unclosed, findings_by, findings, those, is_mismatch}
use Rattle.definition.specs.Outcome.{Lent, refusal, list_of}
use Rattle.definition.specs.Account.{is_of_base, visited_starts, visited_ends, pairs_of, mismatches_of}
use Rattle.definition.proofs.Those.{those-append, those-both}
use Rattle.definition.proofs.Untaken.{all-free, alone}
use Rattle.definition.proofs.Mismatches.{mismatches-are}

-- What holds of every visited milestone.

-- of the visit of one node, if it is a milestone, and of the visits inside and after it
visit-all : (P : Milestone → Type 0) (q : Option Entry) (x : Milestone) (below after : List Milestone) → ((e : Entry) → is_milestone e (node_of x) ≡ true → P x) → AllOf P below → AllOf P after → AllOf P (visit_of q x below after)
visit-all P None x below after own p q = q
visit-all P (Some e) x below after own p q = all_append P (pick (is_milestone e (node_of x)) (x ∷ []) [] ++ below) after (all_append P (pick (is_milestone e (node_of x)) (x ∷ []) []) below (itself (is_milestone e (node_of x)) refl) p) q
  where
    itself : (b : Bool) → is_milestone e (node_of x) ≡ b → AllOf P (pick b (x ∷ []) [])
    itself true h = (own e h, tt)
    itself false h = tt

-- it is a start or an end, and not both
abbrev OneSided : Milestone → Type 0
OneSided x = is_end (node_of x) ≡ not (is_start (node_of x))

two-letters : (name : List ℕ) → equal name (0x2D ∷ 0x73 ∷ []) ≡ true → equal name (0x2D ∷ 0x65 ∷ []) ≡ true → ⊥
two-letters name p q =
    let e : ◌≡◌ {A = List ℕ} (0x2D ∷ 0x73 ∷ []) (0x2D ∷ 0x65 ∷ []) = sym (equal-true name (0x2D ∷ 0x73 ∷ []) p) ∙ equal-true name (0x2D ∷ 0x65 ∷ []) q in
    let z : ◌≡◌ {A = ℕ} 0x73 0x65 = cc in
    omega arith

one-sided : (e : Entry) (x : Node) → is_milestone e x ≡ true → is_end x ≡ not (is_start x)
one-sided e x h = test (is_start x) (is_end x) refl refl (and_right (eqb e.category milestone_category) (is_start x || is_end x) h)
  where
    test : (b v : Bool) → is_start x ≡ b → is_end x ≡ v → (b || v) ≡ true → v ≡ not b
    test true true p q r = absurd (two-letters _ p q)
    test true false p q r = refl
    test false true p q r = refl
    test false false p q r = absurd (false≢true r)

visits-sided : (table : List ℕ) (f : Forest) → AllOf OneSided (visits table f)
unfolding visits
visits-sided table end = tt
visits-sided table (leaf x r) = visits-sided table r
visits-sided table (node x c r) =
    visit-all OneSided (entry_of table x) (milestone_of x c) (visits table c) (visits table r) (λ e h. one-sided e x h) (visits-sided table c) (visits-sided table r)

-- its node is found by its number; so it is in the forest of a tape
abbrev pub Found : (ℕ → Node) → Milestone → Type 0
Found at x = at (node_of x).number ≡ node_of x

module _ (table s t : List ℕ) where
  abbrev AllFound : List Forest → Type 0
  AllFound fs = AllOf (λ (f : Forest). AllOf (Found (node_at s t)) (visits table f)) fs

  join-found : (opens closes : Bool) (x : Node) (fs : List Forest) → node_at s t x.number ≡ x → AllFound fs → AllFound (join_node opens closes x fs)
  unfolding visits
  join-found true closes x [] e h = tt
  join-found true closes x (c ∷ []) e h = tt
  join-found true closes x (c ∷ f ∷ fs) e h = (visit-all (Found (node_at s t)) (entry_of table x) (milestone_of x c) (visits table c) (visits table f) (λ _ _. e) h.0 h.1.0, h.1.1)
  join-found false true x fs e h = (tt, h)
  join-found false false x [] e h = tt
  join-found false false x (f ∷ fs) e h = h

  runs-found : (a n : ℕ) → AllFound (runs (nodes s t a n))
  unfolding runs nodes visits
  runs-found a zero = (tt, tt)
  runs-found a (suc n) = join-found (is_open (kind_at t a)) (is_close (kind_at t a)) (node_at s t a) (runs (nodes s t (suc a) n)) refl (runs-found (suc a) n)

  forest-found : (a b : ℕ) → AllOf (Found (node_at s t)) (visits table (forest s t a b))
  unfolding visits
  forest-found a b = test (runs (nodes s t a (b - a))) (runs-found a (b - a))
    where
      test : (fs : List Forest) → AllFound fs → AllOf (Found (node_at s t)) (visits table (innermost fs))
      test [] h = tt
      test (f ∷ fs) h = h.0

-- Counting.

abbrev one : Bool → ℕ
one b = pick b 1 0

-- with one element more, if it passes the test
counted : {A : Type 0} (b : Bool) (x : A) (xs : List A) → length (pick b (x ∷ xs) xs) ≡ one b + length xs
counted true x xs = omega arith
counted false x xs = omega arith

module _ (base : List ℕ) where
  abbrev mine : Milestone → Bool
  mine x = is_of_base base (node_of x)

  abbrev many : List Milestone → ℕ
  many xs = length (those mine xs)

  -- each of them is a start or an end
  sides : (xs : List Milestone) → AllOf OneSided xs → visited_starts base xs + visited_ends base xs ≡ many xs
  unfolding those
  sides [] h = refl
  sides (x ∷ xs) h = rw h.0 (test (is_start (node_of x)) (mine x) (sides xs h.1))
    where
      test : (b v : Bool) → visited_starts base xs + visited_ends base xs ≡ many xs
          → length (pick (b && v) (x ∷ those (λ (x : Milestone). is_start (node_of x) && mine x) xs) (those (λ (x : Milestone). is_start (node_of x) && mine x) xs)) + length (pick (not b && v) (x ∷ those (λ (x : Milestone). is_end (node_of x) && mine x) xs) (those (λ (x : Milestone). is_end (node_of x) && mine x) xs)) ≡ length (pick v (x ∷ those mine xs) (those mine xs))
      test true true k = omega arith
      test true false k = k
      test false true k = omega arith
      test false false k = k

  -- the findings whose node, found by its number, has the base
  module _ (at : ℕ → Node) where
    abbrev named : Finding → Bool
    named f = is_of_base base (at f.node)

    abbrev said : List Finding → ℕ
    said fs = length (those named fs)

    said-append : (fs gs : List Finding) → said (fs ++ gs) ≡ said fs + said gs
    said-append fs gs = ap length (those-append named fs gs) ∙ length-append (those named fs) (those named gs)

    said-one : (b : Bool) (x : Milestone) (form : ℕ) → Found at x → said (only b (error (node_of x) milestone_mismatch form)) ≡ one (b && mine x)
    unfolding those
    said-one true x form h = rw h (omega (arith, counted (mine x) (error (node_of x) milestone_mismatch form) []))
    said-one false x form h = refl

    said-unclosed : (xs : List Milestone) → AllOf (Found at) xs → said (unclosed xs) ≡ many xs
    unfolding those unclosed
    said-unclosed [] h = refl
    said-unclosed (x ∷ xs) h =
        let k = said-unclosed xs h.1 in
        omega (arith, k, said-append (unclosed xs) (error (node_of x) milestone_mismatch unclosed_start ∷ []), said-one true x unclosed_start h.0, counted (mine x) x (those mine xs))

  -- twice the pairs, and the starts that are free
  abbrev balance : List Mark → ℕ
  balance ms = 2 * pairs_of base ms + many (free_starts ms)

  module _ (fits : Fits) (by-base : (y x : Milestone) → fits y x ≡ true → base_of (node_of y) ≡ base_of (node_of x)) where
    -- an end of the base that finds a start adds one: a free start becomes a pair
    taking-balance : (x : Milestone) (ms : List Mark) → balance (taking_by fits x ms) ≡ balance ms + one (waits_by fits x (free_starts ms) && mine x)
    unfolding taking_by free_starts waits_by those
    taking-balance x [] = refl
    taking-balance x (m ∷ ms) = go m.taker (is_start (node_of y)) refl (fits y x) refl (taking-balance x ms)
      where
        y : Milestone
        y = m.milestone

        mark : Option Milestone → Mark
        mark t = record { milestone = y; taker = t }

        taken : List Mark → List Mark
        taken ks = those (λ (k : Mark). not (free k.taker) && mine k.milestone) ks

        go : (t : Option Milestone) (b : Bool) → is_start (node_of y) ≡ b → (v : Bool) → fits y x ≡ v → balance (taking_by fits x ms) ≡ balance ms + one (waits_by fits x (free_starts ms) && mine x)
            → balance (taking_by fits x (mark t ∷ ms)) ≡ balance (mark t ∷ ms) + one (waits_by fits x (free_starts (mark t ∷ ms)) && mine x)
        go (Some z) true p v w h = rw (p, p) (omega (arith, h, counted (mine y) (mark (Some z)) (taken (taking_by fits x ms)), counted (mine y) (mark (Some z)) (taken ms)))
        go (Some z) false p v w h = rw (p, p) (omega (arith, h, counted (mine y) (mark (Some z)) (taken (taking_by fits x ms)), counted (mine y) (mark (Some z)) (taken ms)))
        go None false p v w h = rw (p, p) h
        go None true p true w h = rw (p, w, p, ← by-base y x w) (omega (arith, counted (mine y) (mark (Some x)) (taken ms), counted (mine y) y (those mine (free_starts ms))))
        go None true p false w h = rw (p, w, p) (omega (arith, h, counted (mine y) y (those mine (free_starts ms)), counted (mine y) y (those mine (free_starts (taking_by fits x ms)))))

    -- a visit of the base adds one, but for an end that finds no start
    visit-balance : (x : Milestone) (ms : List Mark) → one (mine x) + balance ms ≡ balance (with_visit_by fits x ms) + one ((not (is_start (node_of x)) && not (waits_by fits x (free_starts ms))) && mine x)
    unfolding free_starts those
    visit-balance x ms = go (is_start (node_of x)) (waits_by fits x (free_starts ms)) (taking-balance x ms)
      where
        after : Bool → List Mark
        after b = pick b ms (taking_by fits x ms)

        go : (b w : Bool) → balance (taking_by fits x ms) ≡ balance ms + one (w && mine x) → one (mine x) + balance ms ≡ 2 * pairs_of base (after b) + many (pick (b && true) (x ∷ free_starts (after b)) (free_starts (after b))) + one ((not b && not w) && mine x)
        go true w h = omega (arith, counted (mine x) x (those mine (free_starts ms)))
        go false true h = omega (arith, h)
        go false false h = omega (arith, h)

    -- all visits of the base, and the findings of the ends that find no start
    marks-balance : (at : ℕ → Node) (ms : List Mark) (xs : List Milestone) → AllOf (Found at) xs → many xs + balance ms ≡ balance (marks_from_by fits ms xs) + said at (alone fits ms xs)
    unfolding marks_from_by alone those
    marks-balance at ms [] h = omega arith
    marks-balance at ms (x ∷ xs) h =
        let lone = not (is_start (node_of x)) && not (waits_by fits x (free_starts ms)) in
        let later = marks-balance at (with_visit_by fits x ms) xs h.1 in
        omega (arith, later, visit-balance x ms, counted (mine x) x (those mine xs), said-one at lone x end_alone h.0, said-append at (only lone (error (node_of x) milestone_mismatch end_alone)) (alone fits (with_visit_by fits x ms) xs))

-- for any forest whose visited milestones are found by their numbers, and any taking rule that is by the base
pub account-by : (fits : Fits) → ((y x : Milestone) → fits y x ≡ true → base_of (node_of y) ≡ base_of (node_of x)) → (table : List ℕ) (f : Forest) (at : ℕ → Node) → AllOf (Found at) (visits table f) → (base : List ℕ) → visited_starts base (visits table f) + visited_ends base (visits table f) ≡ 2 * pairs_of base (marks_by fits (visits table f)) + mismatches_of base at (findings_by fits table f)
unfolding free_starts those
account-by fits by-base table f at found base =
    let v = visits table f in
    let starts = free_starts (marks_by fits v) in
    let listed : mismatches_of base at (findings_by fits table f) ≡ said base at (alone fits [] v ++ unclosed starts) = ap length (those-both is_mismatch (named base at) (findings_by fits table f)) ∙ ap (said base at) (mismatches-are fits table f) in
    let parts = said-append base at (alone fits [] v) (unclosed starts) in
    let left = said-unclosed base at starts (all-free fits (Found at) [] v tt found) in
    omega (arith, sides base v (visits-sided table f), marks-balance base fits by-base at [] v found, listed, parts, left)

-- the taking rule of documents is by the base
pub pairing-base : (y x : Milestone) → pairing y x ≡ true → base_of (node_of y) ≡ base_of (node_of x)
pairing-base y x e = equal-true (base_of (node_of y)) (base_of (node_of x)) e

-- for every table, source and tape, and every list of bytes as the base
pub account : (table s t base : List ℕ) → visited_starts base (visits table (top s t)) + visited_ends base (visits table (top s t)) ≡ 2 * pairs_of base (marks (visits table (top s t))) + mismatches_of base (node_at s t) (findings table (top s t))
account table s t base = account-by pairing pairing-base table (top s t) (node_at s t) (forest-found table s t 1 (link_at t 0)) base

-- as document 02 asks for it
pub quotation-account : (l : Lent) → refusal l ≡ None → (base : List ℕ) → visited_starts base (visits l.table (top l.source l.tape)) + visited_ends base (visits l.table (top l.source l.tape)) ≡ 2 * pairs_of base (marks (visits l.table (top l.source l.tape))) + mismatches_of base (node_at l.source l.tape) (list_of l)
quotation-account l none-given base = account l.table l.source l.tape base
