-- The table entry of a node, by what the code reads.
-- Assumes nothing.
use Prim.Native.Nat.{ℕ, ◌+◌, ◌≤◌}
use mathlib.Core.Path.{◌≡◌, refl}
use mathlib.Core.Bool.{Bool, true, false}
use mathlib.Core.List.{List}
use Rattle.std.specs.Prelude.{Option, Some}
use Rattle.std.proofs.lemmas.Option.{none-some}
use lib.ListN.{length}
use Rattle.tape.specs.Nodes.{node_at, kind_at, marker_at}
use Rattle.table.specs.Entries.{Entry, entries, nth, entry_of_info}
use Rattle.table.specs.declared.MarkerInfo.{MarkerInfo}
use Rattle.cursor.specs.Info.{has_marker, only_for, info_at}
use Rattle.definition.specs.Checks.{entry_of}
use Rattle.table.specs.Inner.{Indexed}

pub entry_read : (table s t : List ℕ) (i : ℕ) → entry_of table (node_at s t i) ≡ info_at table t i
unfolding info_at
entry_read table s t i = refl

-- an entry's name lies in the table
only-some : (b : Bool) (x : Option Entry) (e : Entry) → only_for b x ≡ Some e → x ≡ Some e
only-some true x e h = h
only-some false x e h = absurd (none-some e h)

pub entry-inside : (table index : List ℕ) (n : ℕ) (s t : List ℕ) (i : ℕ) (e : MarkerInfo) → Indexed table index n → entry_of table (node_at s t i) ≡ Some (entry_of_info e) → e.name_start + e.name_len ≤ length table
entry-inside table index n s t i e ix h = (ix.sound (marker_at t i) (entry_of_info e) (only-some (has_marker (kind_at t i)) (nth (entries table) (marker_at t i)) (entry_of_info e) h)).inside
