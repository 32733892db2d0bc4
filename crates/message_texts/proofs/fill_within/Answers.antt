-- `message_texts::fill_within` meets its contract.
use native.Mathlib.Omega.{arith}
use Prim.Native.Nat.{◌≤◌}
use mathlib.Core.Path.{◌≡◌, ap, ◌∙◌}
use lib.ListN.{length}
use Rattle.message_texts.specs.Filled.{filled}
use Rattle.message_texts.specs.Inner.{values}
use Rattle.message_texts.proofs.Filling.{filled-room}
use Rattle.message_texts.proofs.Room.{most, none_before, has_room, written-short, written-long}
use Rattle.message_texts.proofs.fill_within.Goals as goal
use Rattle.message_texts.proofs.fill_within.Goals.{then-out-text+else-out-n, else-out-text}

pub overflow_mul-text : goal.overflow_mul-text
overflow_mul-text c =
    let s = c in
    let a = s.args in
    omega (arith, most a.text.now a.a.now a.b.now a.c.now s.requires.0 s.requires.1)

pub returns-then-out-n : goal.returns-then-out-n
returns-then-out-n c = written-short _ _ _ _ c.fill-n.ensures c.if-out-n.true

pub shape_of-out : goal.shape_of-out
shape_of-out c =
    let roomy : let a = c.args in (c.if-out-text.out ≡ a.out.now) × (length (filled a.text.now (values a.a.now a.b.now a.c.now)) ≤ length a.out.now) = let a = c.args in elim c.if-out-text.branch [ then-out-text+else-out-n w ↦ (w.out-is ∙ none_before _ _ _ _ w.fill-n.ensures, has_room _ _ _ _ w.fill-n.ensures w.if-out-n.false) | else-out-text w ↦ (w.out-is, omega (arith, w.if-out-text.false, filled-room a.text.now a.a.now a.b.now a.c.now)) ] in
    c.fill.auto.out ∙ ap length roomy.0

pub returns : goal.returns
returns c =
    let roomy : let a = c.args in (c.if-out-text.out ≡ a.out.now) × (length (filled a.text.now (values a.a.now a.b.now a.c.now)) ≤ length a.out.now) = let a = c.args in elim c.if-out-text.branch [ then-out-text+else-out-n w ↦ (w.out-is ∙ none_before _ _ _ _ w.fill-n.ensures, has_room _ _ _ _ w.fill-n.ensures w.if-out-n.false) | else-out-text w ↦ (w.out-is, omega (arith, w.if-out-text.false, filled-room a.text.now a.a.now a.b.now a.c.now)) ] in
    let z = roomy in
    written-long _ _ _ _ z.1 (rw z.0 at c.fill.ensures)
