-- The numbers of a run and its plainness, from one sibling to the next.
-- Assumes nothing.
use Prim.Native.Nat.{ℕ, ◌+◌, ◌<◌, ◌≤◌}
use mathlib.Core.Path.{◌≡◌, refl, sym, ap, ◌∙◌}
use mathlib.Core.Bool.{Bool, true, false, not, false≢true, ◌&&◌, ◌||◌}
use mathlib.Core.List.{List, [], ◌∷◌, ◌++◌}
use native.Mathlib.Omega.{arith}
use lib.ListN.{length, length-append}
use borrow.Author.Tests.{ne_eqb, eqb-true}
use Rattle.text.specs.Pick.{pick}
use Rattle.tape.specs.Nodes.{Node, node_at, kind_at, start_at, link_at, is_open, marker_open_kind, text_kind}
use Rattle.tape.specs.Forest.{forest}
use Rattle.tape.proofs.Nest.{forest-done}
use Rattle.cursor.specs.Names.{name_of}
use Rattle.cursor.specs.Inner.{Run}
use Rattle.cursor.specs.Steps.{past_node}
use Rattle.cursor.proofs.Runs.{run-next, run-children, forest-at-leaf, forest-at-open}
use Rattle.attachment.specs.Attached.{is_alternate, is_published, claims, is_blank, plain, nodes_if, run_of, attached_numbers, start_offsets, starts_of}
use Rattle.attachment.specs.Inner.{claims_at, taken_alternate, taken_published}
use Rattle.attachment.specs.declared.Attached.{Attached}
use Rattle.text.proofs.Bool.{and_left, and_right}

-- a place that is taken counts
abbrev pub bit : Bool → ℕ
bit v = pick v 1 0

-- what is left of the run gives, after what is found, what the whole gives; nothing is found without taking a place
pub record Going (s t : List ℕ) (kind from to : ℕ) (found : Attached) (alt pubn : Bool) (i : ℕ) : Type 0 where
  pub run : Run s t i to
  pub left : starts_of found ++ start_offsets (run_of kind alt pubn (forest s t i to)) ≡ start_offsets (attached_numbers kind (forest s t from to))
  pub few : length (starts_of found) ≤ bit alt + bit pubn

pub going_start : (s t : List ℕ) (kind from to : ℕ) → Run s t from to → Going s t kind from to (record { count = 0; first = 0; second = 0 }) false false from
going_start s t kind from to h = record { run = h; left = refl; few = omega arith }

append-none : (xs : List ℕ) → xs ++ [] ≡ xs
append-none [] = refl
append-none (x ∷ xs) = ap (λ (l : List ℕ). x ∷ l) (append-none xs)

append-one : (xs : List ℕ) (y : ℕ) (zs : List ℕ) → xs ++ (y ∷ []) ++ zs ≡ xs ++ (y ∷ zs)
append-one [] y zs = refl
append-one (x ∷ xs) y zs = ap (λ (l : List ℕ). x ∷ l) (append-one xs y zs)

-- a free place is claimed: one more is taken after it, and so fewer than two before
taken-two : (u v : Bool) → bit u + bit v ≤ 2
taken-two true true = omega arith
taken-two true false = omega arith
taken-two false true = omega arith
taken-two false false = omega arith

taken_more : (u v alt pubn : Bool) → ((u && not alt) || (v && not pubn)) ≡ true → bit alt + bit pubn < bit (alt || u) + bit (pubn || v)
taken_more u v true true h = absurd (no u v h)
  where
    no : (u v : Bool) → ((u && false) || (v && false)) ≡ true → ⊥
    no true true h = false≢true h
    no true false h = false≢true h
    no false true h = false≢true h
    no false false h = false≢true h
taken_more u true true false h = omega arith
taken_more true false true false h = absurd (false≢true h)
taken_more false false true false h = absurd (false≢true h)
taken_more true v false true h = omega arith
taken_more false true false true h = absurd (false≢true h)
taken_more false false false true h = absurd (false≢true h)
taken_more true true false false h = omega arith
taken_more true false false false h = omega arith
taken_more false true false false h = omega arith
taken_more false false false false h = absurd (false≢true h)

module _ (s t : List ℕ) (kind from to : ℕ) (found : Attached) (alt pubn : Bool) (i : ℕ) (g : Going s t kind from to found alt pubn i) where
  pub going_end : to ≤ i → starts_of found ≡ start_offsets (attached_numbers kind (forest s t from to))
  unfolding run_of start_offsets
  going_end h = sym (append-none (starts_of found)) ∙ (rw (forest-done s t i to h) at g.left)

  module _ (more : i < to) where
    as-leaf : is_open (kind_at t i) ≡ false → run_of kind alt pubn (forest s t i to) ≡ nodes_if (is_blank (node_at s t i)) (run_of kind alt pubn (forest s t (past_node t i) to))
    unfolding run_of
    as-leaf h = rw (forest-at-leaf s t i to g.run more h)

    as-node : is_open (kind_at t i) ≡ true → run_of kind alt pubn (forest s t i to) ≡ nodes_if (claims kind alt pubn (name_of (node_at s t i).text)) (node_at s t i ∷ nodes_if (plain (forest s t (i + 1) (link_at t i))) (run_of kind (taken_alternate kind alt (node_at s t i)) (taken_published kind pubn (node_at s t i)) (forest s t (past_node t i) to)))
    unfolding run_of
    as-node h = rw (forest-at-open s t i to g.run more h)

    pub going-blank : (j : ℕ) → is_blank (node_at s t i) ≡ true → j ≡ past_node t i → Going s t kind from to found alt pubn j
    going-blank j h e =
        let k : kind_at t i ≡ text_kind = eqb-true (kind_at t i) text_kind (and_left _ _ h) in
        let o : is_open (kind_at t i) ≡ false = ne_eqb (kind_at t i) marker_open_kind (omega arith) in
        rw e
        (record {
          run = run-next s t i to g.run more;
          left = ap (λ (l : List Node). starts_of found ++ start_offsets l) (sym (as-leaf o ∙ rw h)) ∙ g.left;
          few = g.few;
        })

    pub going-stop : is_blank (node_at s t i) ≡ false → claims_at kind alt pubn (node_at s t i) ≡ false → starts_of found ≡ start_offsets (attached_numbers kind (forest s t from to))
    unfolding start_offsets
    going-stop h k =
        let e : run_of kind alt pubn (forest s t i to) ≡ [] = go (is_open (kind_at t i)) refl k in
        sym (append-none (starts_of found)) ∙ (rw e at g.left)
      where
        go : (v : Bool) → is_open (kind_at t i) ≡ v → (v && claims kind alt pubn (name_of (node_at s t i).text)) ≡ false → run_of kind alt pubn (forest s t i to) ≡ []
        go false o k = as-leaf o ∙ rw h
        go true o k = as-node o ∙ rw k

    module _ (claimed : claims_at kind alt pubn (node_at s t i) ≡ true) where
      pub going-open : is_open (kind_at t i) ≡ true
      going-open = and_left (is_open (kind_at t i)) _ claimed

      named : claims kind alt pubn (name_of (node_at s t i).text) ≡ true
      named = and_right (is_open (kind_at t i)) _ claimed

      one_more : bit alt + bit pubn < bit (taken_alternate kind alt (node_at s t i)) + bit (taken_published kind pubn (node_at s t i))
      one_more = taken_more (is_alternate kind (name_of (node_at s t i).text)) (is_published kind (name_of (node_at s t i).text)) alt pubn named

      pub going-few : length (starts_of found) < 2
      going-few =
          let m = one_more in
          let b = taken-two (taken_alternate kind alt (node_at s t i)) (taken_published kind pubn (node_at s t i)) in
          let f = g.few in
          omega arith

      pub going-children : (l : ℕ) → l ≡ link_at t i → Run s t (i + 1) l
      going-children l e = rw e (run-children s t i to g.run more going-open)

      module _ (found' : Attached) (n l : ℕ) (start_is : n ≡ start_at t i) (link-is : l ≡ link_at t i) (added : starts_of found' ≡ starts_of found ++ (n ∷ [])) where
        pub going-last : plain (forest s t (i + 1) l) ≡ false → starts_of found' ≡ start_offsets (attached_numbers kind (forest s t from to))
        unfolding start_offsets
        going-last h =
            let p : plain (forest s t (i + 1) (link_at t i)) ≡ false = rw link-is at h in
            added ∙ rw start_is (rw (as-node going-open, named, p) at g.left)

        pub going_next : (alt' pubn' : Bool) (j : ℕ) → plain (forest s t (i + 1) l) ≡ true → alt' ≡ taken_alternate kind alt (node_at s t i) → pubn' ≡ taken_published kind pubn (node_at s t i) → j ≡ past_node t i → Going s t kind from to found' alt' pubn' j
        unfolding start_offsets
        going_next alt' pubn' j h a b e =
            let p : plain (forest s t (i + 1) (link_at t i)) ≡ true = rw link-is at h in
            let m = one_more in
            let f = g.few in
            let c : length (starts_of found') ≡ length (starts_of found) + 1 = ap length added ∙ simp length-append in
            rw (e, a, b)
            (record {
              run = run-next s t i to g.run more;
              left = rw (added, start_is) (append-one (starts_of found) (start_at t i) _ ∙ (rw (as-node going-open, named, p) at g.left));
              few = omega arith;
            })
