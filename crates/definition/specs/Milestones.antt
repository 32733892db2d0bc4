-- Document 01, module 9: milestones. "A milestone start or end and its base are read from its marker as in the Rust; it is visited unless module 8 passes it over."
use Rattle.std.specs.Prelude.{ℕ, ◌-◌, Bool, true, false, not, ◌&&◌, ◌||◌, List, [], ◌∷◌, ◌++◌, eqb, leb, length, take, drop}
use Rattle.std.specs.Prelude.{Option, Some, None}
use Rattle.text.specs.Pick.{pick}
use Rattle.tape.specs.Nodes.{Node}
use Rattle.tape.specs.Forest.{Forest, end, leaf, node}
use Rattle.table.specs.Entries.{Entry, milestone_category}
use Rattle.cursor.specs.Names.{name_of}
use Rattle.definition.specs.Setters.{set_open_starts}
use Rattle.definition.specs.State.{Milestone, milestone_of, node_of, WalkState}
use Rattle.definition.specs.Checks.{error, entry_of, Check, when}
use Rattle.findings.specs.Codes.{milestone_mismatch, end_alone}
use Rattle.text.specs.Bytes.{equal}

-- the name ends in a hyphen and the letter
abbrev pub ends_in : ℕ → List ℕ → Bool
ends_in letter name = equal (drop (length name - 2) name) (0x2D ∷ letter ∷ [])

-- `-s` and `-e`
abbrev pub is_start : Node → Bool
is_start x = ends_in 0x73 (name_of x.text)

abbrev pub is_end : Node → Bool
is_end x = ends_in 0x65 (name_of x.text)

-- "`qt-s`→`qt`, `zaln-e`→`zaln`"
abbrev pub base_of : Node → List ℕ
base_of x = take (length (name_of x.text) - 2) (name_of x.text)

abbrev pub same_base : Node → Node → Bool
same_base x y = equal (base_of x) (base_of y)

abbrev pub is_milestone : Entry → Node → Bool
is_milestone e x = eqb e.category milestone_category && (is_start x || is_end x)

-- A taking rule: `fits y x` says that the end x may take the start y. What follows is defined for any rule, and for module 9's by the names without `By`.
abbrev pub Fits : Type 0
Fits = Milestone → Milestone → Bool

-- module 9's rule: a start "of the same base"
abbrev pub pairing : Fits
pairing y x = same_base (node_of y) (node_of x)

-- an open start that x may take
unfoldable pub waits_by : Fits → Milestone → List Milestone → Bool
waits_by fits x [] = false
waits_by fits x (y ∷ ys) = fits y x || waits_by fits x ys

abbrev pub waits : Milestone → List Milestone → Bool
waits = waits_by pairing

-- the open starts without the latest that x may take
unfoldable pub without_by : Fits → Milestone → List Milestone → List Milestone
without_by fits x [] = []
without_by fits x (y ∷ ys) = pick (fits y x) ys (y ∷ without_by fits x ys)

abbrev pub without : Milestone → List Milestone → List Milestone
without = without_by pairing

abbrev pub starts_after_by : Fits → Bool → Milestone → List Milestone → List Milestone
starts_after_by fits begins x xs = pick begins (x ∷ xs) (without_by fits x xs)

abbrev pub starts_after : Bool → Milestone → List Milestone → List Milestone
starts_after = starts_after_by pairing

-- MilestoneMismatch: "1 end"
abbrev pub milestone_checks_by : Fits → Entry → WalkState → Milestone → List Check
milestone_checks_by fits e st x = when (is_milestone e (node_of x) && (not (is_start (node_of x)) && not (waits_by fits x st.open_starts))) (error (node_of x) milestone_mismatch end_alone) ∷ []

abbrev pub milestone_checks : Entry → WalkState → Milestone → List Check
milestone_checks = milestone_checks_by pairing

unfoldable pub after_milestone_by : Fits → Entry → WalkState → Milestone → WalkState
after_milestone_by fits e st x = set_open_starts (pick (is_milestone e (node_of x)) (starts_after_by fits (is_start (node_of x)) x st.open_starts) st.open_starts) st

abbrev pub after_milestone : Entry → WalkState → Milestone → WalkState
after_milestone = after_milestone_by pairing

-- The order of visits: the milestones of a run that are visited, in order.

abbrev pub visit_of : Option Entry → Milestone → List Milestone → List Milestone → List Milestone
visit_of None x below after = after
visit_of (Some e) x below after = pick (is_milestone e (node_of x)) (x ∷ []) [] ++ below ++ after

unfoldable pub visits : List ℕ → Forest → List Milestone
visits table end = []
visits table (leaf x r) = visits table r
visits table (node x c r) = visit_of (entry_of table x) (milestone_of x c) (visits table c) (visits table r)

-- "A visited end takes the nearest earlier visited start of the same base that no end took before". A visited milestone, and the end that took it, if one did
pub record Mark : Type 0 where
  pub milestone : Milestone
  pub taker : Option Milestone

abbrev pub free : Option Milestone → Bool
free None = true
free (Some e) = false

abbrev pub untaken : Mark → Bool
untaken m = is_start (node_of m.milestone) && free m.taker

-- among the milestones before it, the latest first, an end takes the nearest free start that it may take
unfoldable pub taking_by : Fits → Milestone → List Mark → List Mark
taking_by fits x [] = []
taking_by fits x (m ∷ ms) =
    pick (untaken m && fits m.milestone x) (record { milestone = m.milestone; taker = Some x } ∷ ms) (m ∷ taking_by fits x ms)

-- one visit more
abbrev pub with_visit_by : Fits → Milestone → List Mark → List Mark
with_visit_by fits x ms = record { milestone = x; taker = None } ∷ pick (is_start (node_of x)) ms (taking_by fits x ms)

-- the marks after further visits, the latest first
unfoldable pub marks_from_by : Fits → List Mark → List Milestone → List Mark
marks_from_by fits ms [] = ms
marks_from_by fits ms (x ∷ xs) = marks_from_by fits (with_visit_by fits x ms) xs

-- the marks after all visits
abbrev pub marks_by : Fits → List Milestone → List Mark
marks_by fits xs = marks_from_by fits [] xs

abbrev pub marks : List Milestone → List Mark
marks = marks_by pairing

-- the starts that no end took, the latest first
unfoldable pub free_starts : List Mark → List Milestone
free_starts [] = []
free_starts (m ∷ ms) = pick (untaken m) (m.milestone ∷ free_starts ms) (free_starts ms)

-- the milestone with the number is taken by an end whose number is at least `from`
abbrev pub taker_from : ℕ → Option Milestone → Bool
taker_from from None = false
taker_from from (Some e) = leb from (node_of e).number

unfoldable pub taken_from : ℕ → ℕ → List Mark → Bool
taken_from from number [] = false
taken_from from number (m ∷ ms) = (eqb (node_of m.milestone).number number && taker_from from m.taker) || taken_from from number ms
