-- The pieces of a well-formed text follow one another from its start to its end, and each ends between two characters.
-- Assumes nothing.
use mathlib.Core.Path.{◌≡◌, refl, sym, ap, ◌∙◌}
use mathlib.Core.Bool.{Bool, true, false}
use mathlib.Core.List.{List, [], ◌∷◌}
use Rattle.std.specs.Prelude.{Option, Some, None}
use Prim.Native.Nat.{ℕ, zero, suc, pred, ◌+◌, ◌-◌, ◌<◌, ◌≤◌}
use native.Mathlib.Nat.{add-zero, zero-add, not-suc-le-zero}
use native.Mathlib.Omega.{arith}
use lib.Dec.{eqb}
use lib.ListN.{length, take, drop, length-drop}
use lib.Seq.{length-take-le, drop-drop}
use native.Mathlib.Decide.{ℕ_discrete}
use borrow.Author.Tests.{ne_eqb, eqb-false}
use Rattle.text.specs.Pick.{pick}
use Rattle.text.specs.Utf8.{Made}
use Rattle.text.specs.Characters.{find_byte}
use Rattle.text.specs.Words.{not_blank}
use Rattle.text.proofs.Bool.{and_left, and_right}
use Rattle.text.proofs.Chars.{byte_le}
use Rattle.text.proofs.Induction.{by_length}
use Rattle.text.proofs.Boundary.{at_zero}
use Rattle.text.proofs.WellFormed.{boundary-le, made-from, made-find-from}
use Rattle.tape.proofs.Spans.{clear-end}
use Rattle.table.specs.Lines.{bad_table}
use Rattle.table.specs.Entries.{Entry, entries, nth}
use Rattle.table.specs.Inner.{category_at}
use Rattle.table.specs.Names.{looked_up}
use Rattle.cursor.specs.Names.{name_of}
use Rattle.refusals.specs.Refusal.{unknown_marker, unmatched_marker}
use Rattle.reader_spec.specs.Pieces.{backslash, star, bar, run_bar, closed_after, Piece, run, close, block, chapter, verse, inline, milestone, fault, size_of, byte_is, star_at, name_end, blanks_at, number_size, to_backslash, bar_at, last_at, milestone_piece, unless_star, known_piece, entry_piece, found_piece, marker_piece, backslash_piece, run_piece, piece_at, pieces_past, pieces}
use Rattle.reader_spec.proofs.Sound.{Edge, Fair, Laid, edge_on}
use Rattle.reader_spec.proofs.Below.{part-or-end, byte-boundary, past-byte}
use Rattle.reader_spec.proofs.Lookup.{marker-low}
use Rattle.reader_spec.proofs.Names.{name-edge, name-some, name-two, number-edge, number-le, number-node}
use Rattle.table.specs.declared.Category.{Category}
use Rattle.table.specs.declared.Category.TheVariants as category

pub record Cut (t l : List ℕ) (p : Piece) : Type 0 where
  pub stops : Edge l (size_of p)
  pub fair : Fair t l p

-- some bytes belong to it
pub some_bytes : (t l : List ℕ) (p : Piece) → Fair t l p → 1 ≤ size_of p
some_bytes t l (run x y) f = f.0
some_bytes t l (close name n) f = f
some_bytes t l (block m n) f = let h = f.0 in omega arith
some_bytes t l (chapter m n k) f = f.0
some_bytes t l (verse m n k) f = f.0
some_bytes t l (inline m name n) f = let h = f.0 in omega arith
some_bytes t l (milestone m n x y) f = let h = f.0 in omega arith
some_bytes t l (fault k n) f = f

-- a run has some bytes
run-some : (l : List ℕ) → 0 < length l → byte_is backslash l 0 ≡ false → 1 ≤ to_backslash l 0
unfolding find_byte
run-some [] h e = absurd (not-suc-le-zero h)
run-some (b ∷ l) h e = let no_slash : eqb backslash b ≡ false = ne_eqb backslash b (λ z. eqb-false b backslash e (sym z)) in rw no_slash (omega arith)

module _ (t l : List ℕ) (sound : bad_table t ≡ None) (made : Made l) (some_left : 0 < length l) where
  broken : (k : ℕ) → Cut t l (fault k (length l))
  broken k = record { stops = clear-end l (length l) refl; fair = some_left }

  pick-cut : (x : Bool) (p q : Piece) → (x ≡ true → Cut t l p) → (x ≡ false → Cut t l q) → Cut t l (pick x p q)
  pick-cut true p q f g = f refl
  pick-cut false p q f g = g refl

  -- a run
  slash-edge : Edge l (to_backslash l 0)
  slash-edge = rw (zero-add (to_backslash l 0)) at (byte-boundary made backslash 0 (omega arith) (at_zero l 0 refl))

  slash-le : to_backslash l 0 ≤ length l
  slash-le = boundary-le l (to_backslash l 0) slash-edge

  bar-in-run : Dec (run_bar l ≡ find_byte (eqb bar) l) → Edge l (run_bar l)
  bar-in-run (yes e) = rw e (rw (zero-add (find_byte (eqb bar) l)) at (byte-boundary made bar 0 (omega arith) (at_zero l 0 refl)))
  bar-in-run (no n) = rw (part-or-end (eqb bar) l (to_backslash l 0) slash-le n) slash-edge

  run-cut : byte_is backslash l 0 ≡ false → Cut t l (run_piece l)
  unfolding run_piece
  run-cut h =
      let long : length (take (to_backslash l 0) l) ≡ to_backslash l 0 = length-take-le (to_backslash l 0) l slash-le in
      let low : run_bar l ≤ to_backslash l 0 = rw long at (byte_le (eqb bar) (take (to_backslash l 0) l)) in
      let z : run_bar l + (to_backslash l 0 - run_bar l) ≡ to_backslash l 0 = omega arith in
      record { stops = rw z slash-edge; fair = (rw z (run-some l some_left h), bar-in-run (ℕ_discrete (run_bar l) (find_byte (eqb bar) l))) }

  module _ (slash : byte_is backslash l 0 ≡ true) where
    ends-name : Edge l (name_end l)
    ends-name = name-edge l made slash

    some-name : 1 ≤ name_end l
    some-name = name-some l made slash

    star-cut : (p : Piece) → Cut t l p → Cut t l (unless_star l p)
    star-cut p c = pick-cut (byte_is star l (name_end l)) (close (name_of l) (name_end l + 1)) p (λ e. record { stops = past-byte made star (name_end l) (omega arith) e ends-name; fair = omega arith }) (λ e. c)

    after-star : (k : ℕ) → star_at l k ≡ true → Edge l k → Edge l (k + 2)
    after-star k e b =
        let one = past-byte made backslash k (omega arith) (and_left _ _ e) b in
        let two = past-byte made star (k + 1) (omega arith) (and_right (byte_is backslash l k) _ e) one in
        let z : k + 1 + 1 ≡ k + 2 = omega arith in
        rw z at two

    bar-edge : Edge l (bar_at l)
    bar-edge = made-find-from made not_blank (name_end l) ends-name

    last-edge : Edge l (last_at l)
    last-edge = byte-boundary made backslash (bar_at l) (omega arith) bar-edge

    milestone-cut : (m : ℕ) → 2 ≤ name_end l → m < 65536 → Cut t l (milestone_piece m l)
    unfolding milestone_piece
    milestone-cut m two low =
        pick-cut (star_at l (name_end l)) (milestone m (name_end l) 0 0) _
        (λ e.
        let z : name_end l + 0 ≡ name_end l = add-zero (name_end l) in
        record { stops = rw (add-zero (name_end l), add-zero (name_end l)) (after-star (name_end l) e ends-name); fair = (two, low, ends-name, rw z ends-name, rw (z, z) ends-name) })
        (λ e. pick-cut (closed_after l) (milestone m (name_end l) (blanks_at l (name_end l)) (to_backslash l (bar_at l))) (fault unmatched_marker (length l))
        (λ f. record { stops = after-star (last_at l) (and_right (byte_is bar l (bar_at l)) _ f) last-edge; fair = (two, low, ends-name, bar-edge, last-edge) })
        (λ f. broken unmatched_marker))

    known-cut : (c : Category) (m : ℕ) (e : Entry) → looked_up t (name_of l) ≡ Some m → nth (entries t) m ≡ Some e → Cut t l (known_piece c m e l)
    unfolding known_piece
    known-cut category.Identification m e h n = star-cut _ (record { stops = ends-name; fair = (name-two l made slash t m e sound h n, marker-low t m e sound n) })
    known-cut category.Chapter m e h n =
        let some_number : 1 ≤ number_size e l = omega (arith, number-le l made slash e, some-name) in
        star-cut _ (record { stops = number-edge l made slash e; fair = (some_number, marker-low t m e sound n, number-node l made slash t m e h n) })
    known-cut category.Verse m e h n =
        let some_number : 1 ≤ number_size e l = omega (arith, number-le l made slash e, some-name) in
        star-cut _ (record { stops = number-edge l made slash e; fair = (some_number, marker-low t m e sound n, number-node l made slash t m e h n) })
    known-cut category.Paragraph m e h n = star-cut _ (record { stops = ends-name; fair = (name-two l made slash t m e sound h n, marker-low t m e sound n) })
    known-cut category.Character m e h n = star-cut _ (record { stops = ends-name; fair = (name-two l made slash t m e sound h n, marker-low t m e sound n, refl, h) })
    known-cut category.Note m e h n = star-cut _ (record { stops = ends-name; fair = (name-two l made slash t m e sound h n, marker-low t m e sound n, refl, h) })
    known-cut category.Milestone m e h n = star-cut _ (milestone-cut m (name-two l made slash t m e sound h n) (marker-low t m e sound n))
    known-cut category.Other m e h n = broken unknown_marker

    entry-cut : (m : ℕ) (o : Option Entry) → looked_up t (name_of l) ≡ Some m → nth (entries t) m ≡ o → Cut t l (entry_piece m o l)
    entry-cut m None h n = broken unknown_marker
    entry-cut m (Some e) h n = known-cut (category_at e.category) m e h n

    found-cut : (o : Option ℕ) → looked_up t (name_of l) ≡ o → Cut t l (found_piece t o l)
    found-cut None h = broken unknown_marker
    found-cut (Some m) h = entry-cut m (nth (entries t) m) h refl

    slash-cut : Cut t l (backslash_piece t l)
    unfolding marker_piece
    slash-cut = pick-cut (byte_is star l 1) (fault unmatched_marker (length l)) (marker_piece t l) (λ e. broken unmatched_marker) (λ e. found-cut (looked_up t (name_of l)) refl)

  pub piece_cut : Cut t l (piece_at t l)
  unfolding piece_at
  piece_cut = pick-cut (byte_is backslash l 0) (backslash_piece t l) (run_piece l) slash-cut run-cut

-- the pieces from a place on
skip : (t : List ℕ) (k : ℕ) (l : List ℕ) → pieces_past t k l ≡ pieces t (drop k l)
unfolding pieces_past
skip t zero l = refl
skip t (suc k) [] = refl
skip t (suc k) (b ∷ l) = skip t k l

pub pieces_none : (t : List ℕ) → pieces t [] ≡ []
unfolding pieces_past
pieces_none t = refl

pub next-pieces : (t : List ℕ) (l : List ℕ) → 0 < length l → 1 ≤ size_of (piece_at t l) → pieces t l ≡ piece_at t l ∷ pieces t (drop (size_of (piece_at t l)) l)
unfolding pieces_past
next-pieces t [] h k = absurd (not-suc-le-zero h)
next-pieces t (b ∷ l) h k = ap (piece_at t (b ∷ l) ∷◌) (go (size_of (piece_at t (b ∷ l))) k)
  where
    go : (n : ℕ) → 1 ≤ n → pieces_past t (pred n) l ≡ pieces t (drop n (b ∷ l))
    go zero k = absurd (not-suc-le-zero k)
    go (suc n) k = skip t n l

module _ (t s : List ℕ) (sound : bad_table t ≡ None) where
  abbrev LaidFrom : List ℕ → Type 0
  LaidFrom l = (at : ℕ) → Edge s at → drop at s ≡ l → Made l → Laid t s at (pieces t l)

  laid-step : (l : List ℕ) → ((k : List ℕ) → length k < length l → LaidFrom k) → LaidFrom l
  unfolding Laid
  laid-step [] ih at f e m = let z = ap length e in let is : at ≡ length s = omega (arith, length-drop at s, boundary-le s at f) in rw (pieces_none t) is
  laid-step (b ∷ r) ih at f e m =
      let n = size_of (piece_at t (b ∷ r)) in
      let c = piece_cut t (b ∷ r) sound m (omega arith) in
      let some_size : 1 ≤ size_of (piece_at t (b ∷ r)) = some_bytes t (b ∷ r) (piece_at t (b ∷ r)) c.fair in
      let to : Edge s (at + size_of (piece_at t (b ∷ r))) = edge_on s at (size_of (piece_at t (b ∷ r))) f (rw e c.stops) in
      let rest : drop (at + size_of (piece_at t (b ∷ r))) s ≡ drop (size_of (piece_at t (b ∷ r))) (b ∷ r) = sym (drop-drop (size_of (piece_at t (b ∷ r))) at s) ∙ ap (drop (size_of (piece_at t (b ∷ r)))) e in
      rw (next-pieces t (b ∷ r) (omega arith) some_size) (
        f,
        to,
        rw e c.fair,
        ih (drop (size_of (piece_at t (b ∷ r))) (b ∷ r)) (omega (arith, length-drop (size_of (piece_at t (b ∷ r))) (b ∷ r))) (at + size_of (piece_at t (b ∷ r))) to rest (made-from m (size_of (piece_at t (b ∷ r))) c.stops),
      )

  pub pieces-laid : Made s → Laid t s 0 (pieces t s)
  pieces-laid m = by_length LaidFrom laid-step s 0 (at_zero s 0 refl) refl m
