-- Flags by the tests that the code takes.
-- Assumes nothing.
use Prim.Native.Nat.{ℕ}
use mathlib.Core.Path.{◌≡◌, refl, sym, ◌∙◌}
use mathlib.Core.Bool.{Bool, true, false, ◌&&◌}
use mathlib.Core.List.{List}
use Rattle.std.specs.Prelude.{Option, Some, None}
use Rattle.tape.specs.Nodes.{Node}
use Rattle.tape.specs.Forest.{Forest}
use Rattle.attachment.specs.Attached.{among}
use Rattle.findings.specs.declared.Counts.{Counts}
use Rattle.findings.proofs.Overlay.{wrote_none}
use Rattle.definition.specs.State.{WalkState, Anchor}
use Rattle.definition.specs.Checks.{given, id_checks, attached_to}
use Rattle.state.specs.Inner.{starts_for}
use Rattle.findings.specs.Inner.{Wrote}

-- the code's flag a is the test x
pub both-holds : (a x : Bool) (is : a ≡ x) (r y : Bool) → a ≡ true → r ≡ y → r ≡ (x && y)
both-holds a x is r y h e = rw (sym is ∙ h) e

-- the numbers attached to an anchor
pub attached-is : (a : Option Anchor) (f : Forest) (at : ℕ) → among at (starts_for a f) ≡ attached_to a f at
unfolding among
attached-is None f at = refl
attached-is (Some a) f at = refl

-- nothing is said of a marker that is no `id`
pub id-none : (named : Bool) (st : WalkState) (code : List ℕ) (x : Node) (l : List ℕ) (c : Counts) → named ≡ false → Wrote (given (id_checks named st code x)) l c l c
unfolding given
id-none named st code x l c h = rw h (wrote_none l c)
