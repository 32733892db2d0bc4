-- What the inner function promises.
use Rattle.std.specs.Prelude.{ℕ, Bool, ◌&&◌, eqb, length}
use Rattle.tape.specs.Nodes.{Node}
use Rattle.table.specs.Entries.{Entry, milestone_category}
use Rattle.definition.specs.Milestones.{is_start, base_of}

-- a marker with its entry is a milestone start, and its base has the length
abbrev pub is_start_of : Entry → Node → ℕ → Bool
is_start_of e x len = (eqb e.category milestone_category && is_start x) && eqb len (length (base_of x))
