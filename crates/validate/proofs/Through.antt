-- The entry: turned back by the check of its input, or gone through with the first entries of the working lists.
-- Assumes nothing.
use Prim.Native.Nat.{ℕ, ◌≤◌}
use mathlib.Core.Path.{◌≡◌, ◌∙◌}
use mathlib.Core.List.{List, ◌++◌}
use Rattle.std.specs.Prelude.{Some, None, Ok}
use lib.ListN.{length, take, drop}
use Rattle.tape.specs.Nodes.{count}
use Rattle.definition.specs.Outcome.{Lent, refused, answer, list_after, seen_after, open_after}
use Rattle.definition.specs.declared.OpenStart.{OpenStart}
use Rattle.validate.specs.Entry.{answer_of}
use Rattle.validate.specs.declared.Report.{Report}
use Rattle.refusals.specs.Refusal.{Refusal}
use Rattle.validate.proofs.Whole.{turned-back, seen-long, opens-long, fits, went-through}
use Rattle.table.specs.Inner.{Indexed}
use Rattle.validate.specs.Inner.{from_table, Fit, Finished}
use Rattle.validate.specs.Entry.{lent}

module _ (table s t seen : List ℕ) (opens : List OpenStart) (l : List ℕ) where
  abbrev it : Lent
  it = lent table s t seen opens l

  -- by the answer of the check of the input
  module _ (a b : ℕ) (a-is : a ≡ length seen) (b-is : b ≡ length opens) where
    pub refused-so : (r : Refusal) → Some r ≡ from_table table s t a b → (refused r ≡ answer it) × ((l ≡ list_after it) × ((seen ≡ seen_after it) × (opens ≡ open_after it)))
    refused-so r says = turned-back table s t seen opens l r (says ∙ rw (a-is, b-is))

    pub accepted-so : None ≡ from_table table s t a b → None ≡ from_table table s t (length seen) (length opens)
    accepted-so says = says ∙ rw (a-is, b-is)

  -- with the first entries of the working lists
  module _ (unturned : None ≡ from_table table s t (length seen) (length opens)) (n : ℕ) (n-is : n ≡ count t) where
    pub part-seen : n ≤ length seen
    part-seen = rw n-is (seen-long table s t seen opens l unturned)

    pub part-opens : n ≤ length opens
    part-opens = rw n-is (opens-long table s t seen opens l unturned)

    pub part-fit : (index : List ℕ) (entries : ℕ) → Indexed table index entries → Fit table index entries s t (take n seen) (take n opens)
    part-fit index entries p = rw n-is (fits table s t seen opens l unturned index entries p)

    pub through : (seen' : List ℕ) (opens' : List OpenStart) (l' : List ℕ) (r : Report) → Finished table s t (take n seen) (take n opens) l seen' opens' l' r → (answer_of (Ok r) ≡ answer it) × ((l' ≡ list_after it) × ((seen' ++ drop n seen ≡ seen_after it) × (opens' ++ drop n opens ≡ open_after it)))
    through seen' opens' l' r f = rw n-is (went-through table s t seen opens l unturned seen' opens' l' r (rw n-is at f))
