-- The nodes of a milestone, written one behind another: its open gets the number of its close.
-- Assumes nothing.
use Prim.Native.Nat.{ℕ, zero, suc, ◌+◌, ◌*◌, ◌<◌, ◌≤◌}
use native.Mathlib.Numerals.{add-one}
use native.Mathlib.Omega.{arith}
use mathlib.Core.Path.{◌≡◌, refl, sym, ap, ◌∙◌}
use mathlib.Core.List.{List, [], ◌∷◌, ◌++◌}
use lib.ListN.{length, take, drop}
use lib.Seq.{drop_at, length-take-le}
use Rattle.tape.specs.Nodes.{marker_at, link_at, marker_open_kind, marker_close_kind}
use Rattle.definition.specs.Examples.{Row, row, tape_of}
use Rattle.reader_spec.specs.Pass.{ReadNode, closes, with_text, with_attribute, milestone_nodes}
use Rattle.reader_spec.specs.Rows.{awaited, rows_from}
use Rattle.reader_spec.specs.InnerWriting.{bytes_of, put_row, put_link, laid, linked, will_hold}
use Rattle.reader_spec.proofs.Fields.{has-link, has-marker, rows-length}
use Rattle.reader_spec.proofs.Stores.{hold-open, hold-close, hold-end, laid-is}
use Rattle.node_writer.specs.declared.Written.{Written}
use Rattle.node_writer.specs.Written.{written, text_limit, Ready, closed, after_close}
use Rattle.node_writer.proofs.Leaves.{hold-text, hold-attribute, laid_both, both-length}

-- the first of several rows that are laid
module _ (w : List ℕ) (n : ℕ) (r : Row) (rs : List Row) (room : 16 * (n + suc (length rs)) ≤ length w) where
  first-there : drop (16 * n) (laid w n (r ∷ rs)) ≡ bytes_of r ++ (tape_of rs ++ drop (16 * (n + suc (length rs))) w)
  unfolding tape_of
  first-there =
      ap (drop (16 * n)) (laid-is w n (r ∷ rs) room)
      ∙ drop_at (take (16 * n) w) (tape_of (r ∷ rs) ++ drop (16 * (n + suc (length rs))) w) (16 * n) (length-take-le (16 * n) w (omega arith))

  first-link : link_at (laid w n (r ∷ rs)) n ≡ r.link
  first-link = has-link (laid w n (r ∷ rs)) n r (tape_of rs ++ drop (16 * (n + suc (length rs))) w) first-there

  first-marker : r.marker < 65536 → marker_at (laid w n (r ∷ rs)) n ≡ r.marker
  first-marker low = has-marker (laid w n (r ∷ rs)) n r (tape_of rs ++ drop (16 * (n + suc (length rs))) w) first-there low

-- n nodes stand before it, and the innermost open around it is `top`
module _ (w : List ℕ) (n top m at l x y : ℕ) where
  -- with its open, with the Text after that, and with the Attribute
  abbrev pub with_open : List ℕ
  with_open = put_row w n (row marker_open_kind m at l top)

  abbrev pub after_blanks : ℕ
  after_blanks = n + 1 + length (with_text (at + l) x [])

  abbrev pub with_blanks : List ℕ
  with_blanks = laid with_open (n + 1) (rows_from (n + 1) (with_text (at + l) x []))

  abbrev pub after_attributes : ℕ
  after_attributes = after_blanks + length (with_attribute (at + l + x) y [])

  abbrev pub with_attributes : List ℕ
  with_attributes = laid with_blanks after_blanks (rows_from after_blanks (with_attribute (at + l + x) y []))

  abbrev inner : List ReadNode
  inner = with_text (at + l) x (with_attribute (at + l + x) y [])

  laid-three : with_attributes ≡ laid w n (row marker_open_kind m at l top ∷ rows_from (suc n) inner)
  unfolding laid
  laid-three = laid_both with_open (n + 1) (at + l) x (at + l + x) y ∙ rw (add-one n)

  pub milestone-length : length (milestone_nodes m at l x y) ≡ length (with_text (at + l) x []) + length (with_attribute (at + l + x) y []) + 2
  milestone-length =
      let e = both-length (at + l) x (at + l + x) y (closes m (at + l + x + y) 2 ∷ []) in
      omega arith

  pub milestone-number : after_attributes + 1 ≡ n + length (milestone_nodes m at l x y)
  milestone-number = omega (arith, milestone-length)

  module _ (room : 16 * (n + length (milestone_nodes m at l x y)) ≤ length w) where
    three-room : 16 * (n + suc (length (rows_from (suc n) inner))) ≤ length w
    three-room =
        let e = both-length (at + l) x (at + l + x) y [] in
        omega (arith, milestone-length, rows-length (suc n) inner)

    pub link-read : link_at with_attributes n ≡ top
    link-read = rw laid-three (first-link w n (row marker_open_kind m at l top) (rows_from (suc n) inner) three-room)

    pub marker-read : m < 65536 → marker_at with_attributes n ≡ m
    marker-read low = rw laid-three (first-marker w n (row marker_open_kind m at l top) (rows_from (suc n) inner) three-room low)

  one-awaited : (k a c x y p q : ℕ) → 1 ≤ length (awaited k (with_text a x (with_attribute c y (closes m p q ∷ []))))
  unfolding awaited
  one-awaited k a c zero zero p q = omega arith
  one-awaited k a c zero (suc y) p q = omega arith
  one-awaited k a c (suc x) zero p q = omega arith
  one-awaited k a c (suc x) (suc y) p q = omega arith

  pub milestone-laid : put_row (put_link with_attributes n after_attributes) after_attributes (row marker_close_kind m (at + l + x + y) 2 0) ≡ laid w n (rows_from n (milestone_nodes m at l x y))
  unfolding linked
  milestone-laid =
      let last = closes m (at + l + x + y) 2 ∷ [] in
      let z : n + 1 ≡ suc n = add-one n in
      sym (hold-end _ _)
      ∙ hold-close with_attributes after_attributes [] tt [] (closes m (at + l + x + y) 2) 0 n refl
      ∙ hold-attribute with_blanks after_blanks (n ∷ []) (omega arith, tt) (at + l + x) y last
      ∙ hold-text with_open (n + 1) (n ∷ []) (omega arith, tt) (at + l) x (with_attribute (at + l + x) y last)
      ∙ ap (λ (k : ℕ). will_hold with_open k (n ∷ []) (with_text (at + l) x (with_attribute (at + l + x) y last))) z
      ∙ hold-open w n [] tt (with_text (at + l) x (with_attribute (at + l + x) y last)) m at l top (one-awaited (suc n) (at + l) (at + l + x) x y (at + l + x + y) 2)

-- the calls of `put_milestone`, one after another
module _ (t : List ℕ) (w : Written) (m at n x y : ℕ) (ready : Ready t w (length (milestone_nodes m at n x y)) (at + n + x + y + 2)) where
  long : length (milestone_nodes m at n x y) ≡ length (with_text (at + n) x []) + length (with_attribute (at + n + x) y []) + 2
  long = milestone-length t w.next w.top m at n x y

  module _ (t1 : List ℕ) (r1 : Written) (opened : r1 ≡ written (w.next + 1) w.next) where
    pub text-ready : length t1 ≡ length t → (16 * (r1.next + length (with_text (at + n) x [])) ≤ length t1) × (at + n + x ≤ text_limit)
    text-ready same =
        let room = ready.room in
        let near = ready.near in
        rw (opened, same) (omega (arith, long), omega arith)

    module _ (t2 : List ℕ) (r2 : ℕ) (second : r2 ≡ r1.next + length (with_text (at + n) x [])) where
      pub attribute-ready : length t2 ≡ length t → (16 * (r2 + length (with_attribute (at + n + x) y [])) ≤ length t2) × (at + n + x + y ≤ text_limit)
      attribute-ready same =
          let room = ready.room in
          let near = ready.near in
          rw (second, opened, same) (omega (arith, long), omega arith)

      module _ (t3 : List ℕ) (r3 : ℕ) (third : r3 ≡ r2 + length (with_attribute (at + n + x) y [])) where
        pub close-ready : length t3 ≡ length t → Ready t3 (written r3 r1.top) 1 (at + n + x + y + 2)
        close-ready same =
            let room = ready.room in
            let few = ready.few in
            rw (third, second, opened)
            (record {
              room = rw same (omega (arith, long));
              few = omega (arith, long);
              below = omega arith;
              near = ready.near;
            })

        pub milestone-stored : m < 65536 → t1 ≡ put_row t w.next (row marker_open_kind m at n w.top) → t2 ≡ laid t1 r1.next (rows_from r1.next (with_text (at + n) x [])) → t3 ≡ laid t2 r2 (rows_from r2 (with_attribute (at + n + x) y [])) → (t4 : List ℕ) (r4 : Written) → (t4 ≡ closed t3 (written r3 r1.top) marker_close_kind (at + n + x + y) 2) × (r4 ≡ after_close t3 (written r3 r1.top)) → (t4 ≡ laid t w.next (rows_from w.next (milestone_nodes m at n x y))) × (r4 ≡ written (w.next + length (milestone_nodes m at n x y)) w.top)
        milestone-stored low a b c t4 r4 d =
            let inside : t3 ≡ with_attributes t w.next w.top m at n x y = c ∙ rw (b, second, a, opened) in
            let number : r3 ≡ after_attributes t w.next w.top m at n x y = third ∙ rw (second, opened) in (
              d.0 ∙ rw (inside, number, opened, marker-read t w.next w.top m at n x y ready.room low) (milestone-laid t w.next w.top m at n x y),
              d.1 ∙ rw (inside, number, opened, link-read t w.next w.top m at n x y ready.room, milestone-number t w.next w.top m at n x y),
            )
