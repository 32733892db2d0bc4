-- Each piece is written whole, and goes on to a later finding.
-- Assumes nothing.
use Prim.Native.Nat.{ℕ, ◌-◌, ◌<◌, ◌≤◌}
use native.Mathlib.Omega.{arith}
use mathlib.Core.Path.{◌≡◌}
use mathlib.Core.List.{List}
use lib.ListN.{length}
use Rattle.buffer.specs.Over.{Put}
use Rattle.findings.specs.Written.{whole_records}
use Rattle.listing.specs.Listing.{listed_each}
use Rattle.definition.specs.Outcome.{Lent, Answer, answer}
use Rattle.listing.specs.Pieces.{held_count, held_findings, piece_of, next_of}
use Rattle.listing.proofs.Joined.{piece-fits, piece-goes-on, piece-ends, held_fits}

pub written-whole : (xs : List (List ℕ)) (k : ℕ) (l l' : List ℕ) (r : ℕ) → Put (piece_of xs k (length l)) l 0 l' r → length l' ≡ length l → r ≤ length l'
written-whole xs k l l' r p e = let end = p.end in omega (arith, piece-fits xs k (length l))

module _ (table s t list : List ℕ) (held : ℕ) (short : length s ≤ 65536) (h : held ≤ whole_records list) (text out : List ℕ) (e : length text ≡ 65536) (f : length out ≡ 66048) (k next : ℕ) (n : next ≡ next_of (listed_each (length text) table s t (held_findings held list)) k (length out)) where
  pub nearer : k < held → held - next < held - k
  nearer g = omega (arith, piece-goes-on (length text) table s t (omega arith) held list h k (length out) g (omega arith))

  pub within : k ≤ held → next ≤ held
  within g = omega (arith, piece-ends (length text) table s t (omega arith) held list h k (length out) g)

-- the findings that the check has written are in the list that it was lent
pub held-few : (l : Lent) (a : Answer) (list' : List ℕ) (n : ℕ) → a ≡ answer l → length list' ≡ length l.list → n ≡ held_count a → n ≤ whole_records list'
held-few l a list' n e f g = rw (g, e, f) (held_fits l)
