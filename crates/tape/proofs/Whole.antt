-- The pass over the nodes: what is left gives what the whole gives, of each number.
-- Assumes nothing.
use mathlib.Core.Path.{◌≡◌, refl, sym, ap, ◌∙◌}
use mathlib.Core.Bool.{Bool, true, false, not, ◌&&◌, ◌||◌, and-true}
use mathlib.Core.List.{List, []}
use Rattle.std.specs.Prelude.{Option, Some, None, Ok, Err}
use Prim.Native.Nat.{ℕ, zero, suc, ◌+◌, ◌-◌, ◌<◌, ◌≤◌}
use native.Mathlib.Omega.{arith}
use lib.ListN.{length}
use Rattle.text.specs.Pick.{within, pick}
use Rattle.tape.specs.Nodes.{count, kind_at, link_at, is_close}
use Rattle.refusals.specs.Refusal.{Refusal, refuse, only_if, or_else, first_bad, is_none, bad_node_kind, bad_node_span, broken_links}
use Rattle.tape.specs.Reading.{bad_kind, bad_span, opens_to, good_root, ended, read}
use Rattle.tape.specs.Inner.{Sized, stacked, met_span, span_after, says, Depth, Low, Stepped, root_by, left_open, left_by, lastly, from_one}
use Rattle.refusals.proofs.First.{first_step, first-pass, first-hit, first-end}

span-on : (s t : List ℕ) (i : ℕ) (span : Option ℕ) (rest : Option Refusal) → met_span (span_after s t i span) rest ≡ met_span span (or_else (only_if (bad_span s t i) (refuse bad_node_span i)) rest)
span-on s t i (Some place) rest = refl
span-on s t i None rest = go (bad_span s t i)
  where
    go : (b : Bool) → met_span (pick b (Some i) None) rest ≡ or_else (only_if b (refuse bad_node_span i)) rest
    go true = refl
    go false = refl

taken_at : (taken b : Bool) (i : ℕ) (rest : Option Refusal) → (not (taken || b) && is_none rest) ≡ (not taken && is_none (or_else (only_if b (refuse broken_links i)) rest))
taken_at true b i rest = refl
taken_at false true i rest = refl
taken_at false false i rest = refl

ended-left : (n : ℕ) (stack : List ℕ) (depth : ℕ) → ended n (stacked stack depth) ≡ left_open n depth
ended-left n stack zero = refl
ended-left n stack (suc depth) = refl

-- what holds at each turn
pub record Going (s t : List ℕ) (n root : ℕ) (stack : List ℕ) (span : Option ℕ) (taken : Bool) (r : Depth) (i : ℕ) : Type 0 where
  pub sized : Sized t n
  pub link : root ≡ link_at t 0
  pub after : 1 ≤ i
  pub within : i ≤ n
  pub kinds : first_bad bad_node_kind (bad_kind t) i (n - i) ≡ first_bad bad_node_kind (bad_kind t) 1 (n - 1)
  pub spans : met_span span (first_bad bad_node_span (bad_span s t) i (n - i)) ≡ first_bad bad_node_span (bad_span s t) 1 (n - 1)
  pub roots : (not taken && is_none (first_bad broken_links (opens_to t root) i (n - i))) ≡ is_none (first_bad broken_links (opens_to t root) 1 (n - 1))
  pub reading : says t n i stack r ≡ read t (n - 1) 1 []
  pub low : Low r
  pub room : length stack ≡ 64

module _ (s t : List ℕ) (n root : ℕ) (size : Sized t n) (link : root ≡ link_at t 0) where
  pub going_start : (stack : List ℕ) → length stack ≡ 64 → Going s t n root stack None false (Ok 0) 1
  going_start stack room =
      let some = size.some in
      record {
        sized = size;
        link = link;
        after = omega arith;
        within = some;
        kinds = refl;
        spans = refl;
        roots = refl;
        reading = refl;
        low = omega arith;
        room = room;
      }

pub count-is : (t : List ℕ) (n : ℕ) → Sized t n → count t ≡ n
count-is t n h = let w = h.whole in omega arith

module _ (s t : List ℕ) (n root : ℕ) (stack : List ℕ) (span : Option ℕ) (taken : Bool) (r : Depth) (i : ℕ) (g : Going s t n root stack span taken r i) (below : i < n) where
  pub going-in : i < count t
  going-in = let e = count-is t n g.sized in omega arith

  -- a kind that is good, or bad
  pub going_on : (stack' : List ℕ) (q : Depth) → bad_kind t i ≡ false → Stepped t i stack stack' r q → Going s t n root stack' (span_after s t i span) (taken || opens_to t root i) q (i + 1)
  going_on stack' q k h =
      let after = g.after in
      record {
        sized = g.sized;
        link = g.link;
        after = omega arith;
        within = omega arith;
        kinds = sym (first-pass bad_node_kind (bad_kind t) n i below k) ∙ g.kinds;
        spans = span-on s t i span (first_bad bad_node_span (bad_span s t) (i + 1) (n - (i + 1))) ∙ ap (met_span span) (sym (first_step bad_node_span (bad_span s t) n i below)) ∙ g.spans;
        roots = taken_at taken (opens_to t root i) i (first_bad broken_links (opens_to t root) (i + 1) (n - (i + 1))) ∙ ap (λ (x : Option Refusal). (not taken && is_none x)) (sym (first_step broken_links (opens_to t root) n i below)) ∙ g.roots;
        reading = h.same n below ∙ g.reading;
        low = h.low;
        room = h.room;
      }

  pub going-bad : bad_kind t i ≡ true → refuse bad_node_kind i ≡ from_one s t n
  going-bad k = rw (← g.kinds, first-hit bad_node_kind (bad_kind t) n i below k)

-- the root's link, by whether an open has it too
pub root_by_lem : (t : List ℕ) (n root : ℕ) (taken : Bool) → count t ≡ n → root ≡ link_at t 0 → is_none (first_bad broken_links (opens_to t root) 1 (n - 1)) ≡ not taken → good_root t ≡ root_by root n (is_close (kind_at t root)) taken
root_by_lem t n root taken c l e = rw (c, ← l, e)

module _ (s t : List ℕ) (n root : ℕ) (stack : List ℕ) (span : Option ℕ) (taken : Bool) (r : Depth) (i : ℕ) (g : Going s t n root stack span taken r i) (done : n ≤ i) where
  at_end : i ≡ n
  at_end = let w = g.within in omega arith

  root_is : good_root t ≡ root_by root n (is_close (kind_at t root)) taken
  root_is = root_by_lem t n root taken (count-is t n g.sized) g.link (sym g.roots ∙ rw (first-end broken_links (opens_to t root) n i done) (and-true (not taken)))

  left-is : n - i ≡ 0 → (x : Depth) → says t n i stack x ≡ left_by n x
  unfolding read
  left-is e (Ok depth) = rw (e, at_end) (ended-left n stack depth)
  left-is e (Err x) = refl

  reading-is : left_by n r ≡ read t (n - 1) 1 []
  reading-is = sym (left-is (omega arith) r) ∙ g.reading

  pub going-last : lastly t n root span taken r ≡ from_one s t n
  going-last = rw (← g.kinds, first-end bad_node_kind (bad_kind t) n i done, ← g.spans, first-end bad_node_span (bad_span s t) n i done, root_is, ← reading-is)

-- the test of a kind from node 1 on
pub kind-step : (t : List ℕ) (i kind : ℕ) (x v : Bool) → 1 ≤ i → kind ≡ kind_at t i → x ≡ not (Rattle.text.specs.Pick.within 1 8 kind) → x ≡ v → bad_kind t i ≡ v
kind-step t zero kind x v h e f y = absurd (omega arith)
kind-step t (suc i) kind x v h e f y = rw (← e) (sym f ∙ y)
