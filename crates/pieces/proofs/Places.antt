-- A pass goes from piece to piece of a text: at a place, the piece that `piece_at` finds from there on, and the place behind it.
-- Assumes nothing.
use Prim.Native.Nat.{ℕ, ◌+◌, ◌-◌, ◌<◌, ◌≤◌}
use mathlib.Core.Path.{◌≡◌}
use mathlib.Core.List.{List}
use Rattle.std.specs.Prelude.{None}
use native.Mathlib.Omega.{arith}
use lib.ListN.{length, take, drop, length-drop}
use lib.Seq.{take_all}
use Rattle.text.specs.Utf8.{Made}
use Rattle.table.specs.Lines.{bad_table}
use Rattle.reader_spec.specs.Pieces.{size_of, piece_at}
use Rattle.reader_spec.proofs.Steps.{here-some, here-inside, here-made}
use Rattle.pieces.specs.declared.Piece.{Piece}
use Rattle.pieces.specs.Shown.{shown, bytes_of}
use Rattle.pieces.proofs.Sizes.{piece-size}

-- the part of a text from a place on, as the code lends it
pub rest_is : (s : List ℕ) (at : ℕ) → take (length s - at) (drop at s) ≡ drop at s
rest_is s at = take_all (length s - at) (drop at s) (rw length-drop (omega arith))

pub rest-length : (s : List ℕ) (at : ℕ) → length (drop at s) ≡ length s - at
rest-length s at = length-drop at s

module _ (t s : List ℕ) (at : ℕ) (p : Piece) (is : shown t (take (length s - at) (drop at s)) p ≡ piece_at t (take (length s - at) (drop at s))) where
  pub found_here : shown t (drop at s) p ≡ piece_at t (drop at s)
  found_here = rw (rest_is s at) at is

  pub here-size : bytes_of p (length s - at) ≡ size_of (piece_at t (drop at s))
  here-size = rw (rest-length s at) at (piece-size t (drop at s) p found_here)

  module _ (sound : bad_table t ≡ None) (made : Made (drop at s)) (inside : at < length s) where
    pub goes_on : 1 ≤ bytes_of p (length s - at)
    goes_on = rw here-size (here-some t s at sound made inside)

    pub next-inside : at + bytes_of p (length s - at) ≤ length s
    next-inside = rw here-size (here-inside t s at sound made inside)

    pub within-rest : bytes_of p (length s - at) ≤ length s - at
    within-rest = let h = next-inside in omega arith

    pub next-made : Made (drop (at + bytes_of p (length s - at)) s)
    next-made = rw here-size (here-made t s at sound made inside)
