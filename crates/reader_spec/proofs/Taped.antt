-- The tape of good nodes passes all numbers from 4 to 9 but 4 and 8.
-- Assumes nothing.
use Prim.Native.Nat.{ℕ, suc, ◌+◌, ◌-◌, ◌*◌, ◌%◌, ◌<◌, ◌≤◌}
use native.Mathlib.Omega.{arith}
use mathlib.Core.Path.{◌≡◌, refl, ◌∙◌}
use mathlib.Core.Bool.{true, false}
use mathlib.Core.List.{List, [], ◌∷◌}
use Rattle.std.specs.Prelude.{None}
use lib.ListN.{length, drop}
use borrow.Author.Tests.{eq-eqb, ne_eqb, lt-ltb, le-ltb}
use Rattle.refusals.specs.Refusal.{refuse, first_bad, bad_tape_length, bad_node_kind, bad_node_span}
use Rattle.tape.specs.Nodes.{count}
use Rattle.tape.specs.Reading.{bad_length, bad_kind, bad_span, good_root, read, tape_refusal}
use Rattle.numbers.specs.Label.{label_refusal}
use Rattle.definition.specs.Examples.{tape_of}
use Rattle.reader_spec.specs.Pass.{ReadNode}
use Rattle.reader_spec.specs.Rows.{awaited, rows_from, rows_of, node_count, root_row}
use Rattle.reader_spec.specs.Promise.{Yields, deepest}
use Rattle.reader_spec.proofs.Fields.{Has, has, onward, tape-length, rows-length}
use Rattle.reader_spec.proofs.Links.{awaited-length, AllHave, all_have, Fine, reads}
use Rattle.reader_spec.proofs.Sound.{Good}
use Rattle.reader_spec.proofs.Numbers.{good-closes, good-few, good-tiles, good-fit, kinds-none, spans-none, labels-none}

module _ (t s : List ℕ) (is : List ReadNode) (short : length s ≤ 1048576) (good : Good t s is 0 0) where
  T : List ℕ
  T = tape_of (rows_of s is)

  long : length T ≡ 16 * suc (length is)
  unfolding T
  long = let e = rows-length 1 is in tape-length (rows_of s is) ∙ rw e

  counted_on : count T ≡ suc (length is)
  counted_on = let e = long in omega arith

  laid : drop (16 * 0) T ≡ tape_of (rows_of s is)
  unfolding T
  laid = refl

  over : 65535 < node_count is → tape_refusal s T ≡ refuse bad_tape_length 0
  unfolding tape_refusal
  over h =
      let m : length T % 16 ≡ 0 = rw long (omega arith) in
      rw (ne_eqb (length T) 0 (λ e. omega (arith, long)), m, counted_on, lt-ltb 65535 (suc (length is)) h)

  module _ (few : node_count is ≤ 65535) where
    root : Has T 0 (root_row s is)
    unfolding T tape_of
    root = has T 0 (root_row s is) (tape_of (rows_from 1 is)) refl (record { marker = omega arith; start = omega arith; len = omega arith; link = omega arith })

    rest : drop (16 * 1) T ≡ tape_of (rows_from 1 is)
    unfolding T tape_of
    rest = onward T 0 (root_row s is) (tape_of (rows_from 1 is)) refl

    have : AllHave T 1 is
    have = all_have T 1 is rest (good-fit t s short 1 is 0 0 (omega arith) good)

    sized : bad_length T ≡ false
    sized =
        let m : length T % 16 ≡ 0 = rw long (omega arith) in
        rw (ne_eqb (length T) 0 (λ e. omega (arith, long)), m, counted_on, le-ltb 65535 (suc (length is)) few)

    kinds : first_bad bad_node_kind (bad_kind T) 0 (count T) ≡ None
    unfolding first_bad
    kinds = rw (counted_on, root.kind) (kinds-none t s T 0 is have)

    spans : first_bad bad_node_span (bad_span s T) 1 (count T - 1) ≡ None
    spans =
        let e : count T - 1 ≡ length is = omega (arith, counted_on) in
        rw e (spans-none t s T 1 is 0 0 have good)

    rooted : good_root T ≡ true
    rooted = rw (root.link, counted_on, eq-eqb (suc (length is)) (suc (length is)) refl)

    nothing-awaited : awaited 1 is ≡ []
    nothing-awaited = go (awaited 1 is) (awaited-length 1 is 0 (good-closes t s is 0 0 good))
      where
        go : (aw : List ℕ) → length aw ≡ 0 → aw ≡ []
        go [] e = refl
        go (x ∷ aw) e = absurd (omega arith)

    nests : Fine (deepest is 0) (read T (count T - 1) 1 [])
    nests =
        let e : count T - 1 ≡ length is = omega (arith, counted_on) in
        rw e (rw nothing-awaited at (reads T 1 is 0 have (good-closes t s is 0 0 good)))

    passes : Fine (deepest is 0) (tape_refusal s T)
    unfolding tape_refusal
    passes = rw (sized, kinds, spans, rooted) nests

    labels : label_refusal t s T ≡ None
    unfolding label_refusal
    labels =
        let e : count T - 1 ≡ length is = omega (arith, counted_on) in
        rw e (labels-none t s T 1 is 0 0 have good)

  few-nodes : node_count is ≤ length s + 1
  few-nodes = let r = good-few t s is 0 0 (omega arith) good in omega arith

  pub yields : Yields t s is
  unfolding T
  yields = record { tiled = good-tiles t s 1 is 0 0 good; few = few-nodes; over = over; deep = λ h. (passes h).1; passes = λ h. (passes h).0; labels = labels }
