-- Demand 3: a longer document that begins like a shorter one keeps the shorter's findings, closing findings aside, and leaves unclosed just those of its starts that no added end takes.
-- Assumes nothing.
use Prim.Native.Nat.{ℕ, suc, ◌+◌, ◌≤◌}
use native.Mathlib.Nat.{le_refl}
use native.Mathlib.Omega.{arith}
use mathlib.Core.Path.{◌≡◌}
use mathlib.Core.Bool.{Bool, true, false, not}
use mathlib.Core.List.{List, [], ◌∷◌, ◌++◌}
use Rattle.std.specs.Prelude.{Option, Some, None}
use lib.Dec.{ltb}
use Rattle.tape.specs.Nodes.{Node, node_at, link_at}
use Rattle.tape.specs.Forest.{forest, Nested, done, one, inner, Accepted, top}
use Rattle.tape.specs.Alike.{Alike, BeginAlike}
use Rattle.refusals.specs.Refusal.{or_else}
use Rattle.tape.proofs.Nest.{nested-le, forest-done, forest-leaf, forest-node}
use Rattle.refusals.proofs.First.{neither}
use Rattle.tape.proofs.OneNumber.{accepted}
use Rattle.tape.proofs.Begins.{top-longer, rest-nested}
use Rattle.table.specs.Entries.{Entry}
use Rattle.definition.specs.State.{Milestone, milestone_of, node_of}
use Rattle.definition.specs.Checks.{entry_of}
use Rattle.definition.specs.Milestones.{is_milestone, visit_of, visits, marks, taken_from}
use Rattle.definition.specs.Document.{running, unclosed_of, those, Beginning}
use Rattle.definition.specs.Outcome.{Lent, of1, of2, of3, of_tape, of9, of10, refusal}
use Rattle.definition.proofs.Longer.{running-longer, Rising, none_left, rises, unclosed-longer}
use Rattle.text.specs.Pick.{pick}

rising-from : {a b : ℕ} {xs : List Milestone} (c : ℕ) → c ≤ a → Rising a b xs → Rising c b xs
rising-from {a} {b} c l (none_left h) = let k : c ≤ b = omega arith in none_left k
rising-from c l (rises x h r) = let k : c ≤ (node_of x).number = omega arith in rises x k r

rising-join : {a m b : ℕ} {xs ys : List Milestone} → Rising a m xs → Rising m b ys → Rising a b (xs ++ ys)
rising-join {a} (none_left h) q = rising-from a h q
rising-join (rises x h r) q = rises x h (rising-join r q)

-- the milestones of a run are visited in the order of their numbers
visits-rise : (table s t : List ℕ) {d a b : ℕ} → Nested t d a b → Rising a b (visits table (forest s t a b))
unfolding visits
visits-rise table s t {d} {a} {b} (done e) = let k : a ≤ b = omega arith in rw (forest-done s t a b (omega arith)) (none_left k)
visits-rise table s t {d} {a} {b} (one h z r) = rw (forest-leaf s t h z r) (rising-from a (omega arith) (visits-rise table s t r))
visits-rise table s t {a} {b} (inner {d} h z c r) =
    let l = nested-le c in
    rw (forest-node s t h z c r) (go (entry_of table (node_at s t a)) (omega arith) (visits-rise table s t c) (visits-rise table s t r))
  where
    x : Node
    x = node_at s t a

    m : Milestone
    m = milestone_of x (forest s t (a + 1) (link_at t a))

    own : (v : Bool) → Rising a (a + 1) (pick v (m ∷ []) [])
    own true = rises m (le_refl a) (let k : suc a ≤ a + 1 = omega arith in none_left k)
    own false = let k : a ≤ a + 1 = omega arith in none_left k

    go : (q : Option Entry) → a ≤ link_at t a + 1 → Rising (a + 1) (link_at t a) (visits table (forest s t (a + 1) (link_at t a))) → Rising (link_at t a + 1) b (visits table (forest s t (link_at t a + 1) b)) → Rising a b (visit_of q m (visits table (forest s t (a + 1) (link_at t a))) (visits table (forest s t (link_at t a + 1) b)))
    go None l p q = rising-from a l q
    go (Some e) l p q = rising-join (rising-join (own (is_milestone e x)) p) (rising-from (link_at t a) (omega arith) q)

module _ (table s t s' t' : List ℕ) (short : Accepted s t) (long : Accepted s' t') (alike : Alike s t s' t') where
  -- without the condition on start offsets
  pub keeps-findings : Beginning (running table (top s t)) (running table (top s' t'))
  keeps-findings = rw (top-longer s t s' t' short long alike) (running-longer table (top s t) (forest s' t' (link_at t 0) (link_at t' 0)))

  pub leaves-unclosed : those (λ e. ltb e.node (link_at t 0)) (unclosed_of table (top s' t')) ≡ those (λ e. not (taken_from (link_at t 0) e.node (marks (visits table (top s' t'))))) (unclosed_of table (top s t))
  leaves-unclosed =
      rw (top-longer s t s' t' short long alike)
      (unclosed-longer table (top s t) (forest s' t' (link_at t 0) (link_at t' 0)) (link_at t 0) (link_at t' 0) (rising-from 0 (omega arith) (visits-rise table s t short.nested)) (visits-rise table s' t' (rest-nested s t s' t' short long alike)))

-- a document that no number turns back is accepted
pub checked-accepted : (l : Lent) → refusal l ≡ None → Accepted l.source l.tape
unfolding refusal
checked-accepted l e =
    let a = (neither (of1 l) (or_else (of2 l) (or_else (of3 l) (or_else (of_tape l) (or_else (of9 l) (of10 l))))) e).1 in
    let b = (neither (of2 l) (or_else (of3 l) (or_else (of_tape l) (or_else (of9 l) (of10 l)))) a).1 in
    let c = (neither (of3 l) (or_else (of_tape l) (or_else (of9 l) (of10 l))) b).1 in
    (accepted l.source l.tape).0 (neither (of_tape l) (or_else (of9 l) (of10 l)) c).0

-- demand 3 as document 01 asks for it: two documents that none of 1 to 10 turns back, under the same table, that begin alike
module _ (l l' : Lent) (same-table : l.table ≡ l'.table) (short : refusal l ≡ None) (long : refusal l' ≡ None) (alike : BeginAlike l.source l.tape l'.source l'.tape) where
  pub longer-keeps-findings : Beginning (running l.table (top l.source l.tape)) (running l'.table (top l'.source l'.tape))
  longer-keeps-findings = rw (← same-table) (keeps-findings l.table l.source l.tape l'.source l'.tape (checked-accepted l short) (checked-accepted l' long) alike.alike)

  pub longer-open-starts : those (λ e. ltb e.node (link_at l.tape 0)) (unclosed_of l'.table (top l'.source l'.tape)) ≡ those (λ e. not (taken_from (link_at l.tape 0) e.node (marks (visits l'.table (top l'.source l'.tape))))) (unclosed_of l.table (top l.source l.tape))
  longer-open-starts = rw (← same-table) (leaves-unclosed l.table l.source l.tape l'.source l'.tape (checked-accepted l short) (checked-accepted l' long) alike.alike)
