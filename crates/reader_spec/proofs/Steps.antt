-- Both passes of the code: a piece at a time, what is left gives what the whole gives.
-- Assumes nothing.
use Prim.Native.Nat.{ℕ, ◌+◌, ◌<◌, ◌≤◌}
use native.Mathlib.Nat.{add_assoc}
use native.Mathlib.Omega.{arith}
use mathlib.Core.Path.{◌≡◌, refl, sym, ap, ◌∙◌}
use mathlib.Core.List.{List, ◌∷◌, ◌++◌}
use Rattle.std.specs.Prelude.{None}
use lib.ListN.{length, drop, length-drop, length-append, drop_of_length-le}
use lib.Seq.{drop-drop}
use Rattle.text.specs.Utf8.{Made}
use Rattle.text.specs.Bytes.{equal}
use Rattle.text.proofs.WellFormed.{boundary-le, made-from}
use Rattle.table.specs.Lines.{bad_table}
use Rattle.cursor.specs.Names.{name_of}
use Rattle.reader_spec.specs.Pieces.{Piece, size_of, piece_at, pieces}
use Rattle.reader_spec.specs.Pass.{ReadNode, OpenMarker, ReadState, goes, stops, piece_step, PassOutcome, passed, faulty, with_nodes, pass_on, pass_end, pass}
use Rattle.reader_spec.specs.InnerSteps.{pass_at, PlacedOpens, nodes, fault_at, counted_on}
use Rattle.reader_spec.proofs.Cuts.{Cut, piece_cut, some_bytes, pieces_none, next-pieces}

-- at a place inside the text
module _ (t s : List ℕ) (at : ℕ) (sound : bad_table t ≡ None) (made : Made (drop at s)) (inside : at < length s) where
  left : 0 < length (drop at s)
  left = rw length-drop (omega arith)

  pub here-cut : Cut t (drop at s) (piece_at t (drop at s))
  here-cut = piece_cut t (drop at s) sound made left

  pub here-some : 1 ≤ size_of (piece_at t (drop at s))
  here-some = some_bytes t (drop at s) (piece_at t (drop at s)) here-cut.fair

  pub here-inside : at + size_of (piece_at t (drop at s)) ≤ length s
  here-inside = let h = boundary-le (drop at s) (size_of (piece_at t (drop at s))) here-cut.stops in omega (arith, length-drop at s)

  pub here-made : Made (drop (at + size_of (piece_at t (drop at s))) s)
  here-made = rw (drop-drop (size_of (piece_at t (drop at s))) at s) at (made-from made (size_of (piece_at t (drop at s))) here-cut.stops)

  -- one piece
  pub pass_step : (st : ReadState) → pass_at t s at st ≡ pass_on (piece_step st.block st.opened at (piece_at t (drop at s))) at (pass_at t s (at + size_of (piece_at t (drop at s))))
  unfolding pass
  pass_step st =
      ap (λ (ps : List Piece). pass at ps st) (next-pieces t (drop at s) left here-some ∙ ap (λ (l : List ℕ). piece_at t (drop at s) ∷ pieces t l) (drop-drop (size_of (piece_at t (drop at s))) at s))

-- at its end
pub pass-end : (t s : List ℕ) (at : ℕ) (st : ReadState) → length s ≤ at → pass_at t s at st ≡ pass_end st.block st.opened at
unfolding pass
pass-end t s at st h = rw (drop_of_length-le s h, pieces_none t)

-- the first pass: a piece that goes on, one that stops, the end
pub count-goes : (c at : ℕ) (is : List ReadNode) (st : ReadState) (rest : ReadState → PassOutcome) → counted_on c (pass_on (goes is st) at rest) ≡ counted_on (c + length is) (rest st)
count-goes c at is st rest = go (rest st)
  where
    go : (o : PassOutcome) → counted_on c (with_nodes is o) ≡ counted_on (c + length is) o
    go (passed js) = ap nodes (ap (c +◌) (length-append is js) ∙ sym (add_assoc c (length is) (length js)))
    go (faulty k p) = refl

pub count-stops : (c at k : ℕ) (rest : ReadState → PassOutcome) → counted_on c (pass_on (stops k) at rest) ≡ fault_at k at
count-stops c at k rest = refl

-- the second pass: the nodes of a piece before those after it
pub passed-goes : (at : ℕ) (is js : List ReadNode) (st : ReadState) (rest : ReadState → PassOutcome) → pass_on (goes is st) at rest ≡ passed js → (ks : List ReadNode) × (rest st ≡ passed ks) × (js ≡ is ++ ks)
passed-goes at is js st rest h = go (rest st) refl h
  where
    go : (o : PassOutcome) → rest st ≡ o → with_nodes is o ≡ passed js → (ks : List ReadNode) × (rest st ≡ passed ks) × (js ≡ is ++ ks)
    go (passed ks) e h = let z : is ++ ks ≡ js = cc in (ks, e, sym z)
    go (faulty k p) e h = let z : ◌≡◌ {A = ℕ} 0 1 = cc in absurd (omega arith)

-- a close is compared with the name at the place of the innermost
pub placed-name : (t s : List ℕ) (p : ℕ) (ps : List ℕ) (o : OpenMarker) (os : List OpenMarker) (name : List ℕ) → PlacedOpens t s (p ∷ ps) (o ∷ os) → equal o.name name ≡ equal (name_of (drop p s)) name
unfolding PlacedOpens
placed-name t s p ps o os name h = rw h.1
