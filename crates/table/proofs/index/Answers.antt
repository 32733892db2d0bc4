-- `table::index` meets its contract. The invariant: what is left of the text gives what the whole text gives.
use Prim.Native.Nat.{◌<◌}
use lib.ListN.{length-set}
use mathlib.Core.Path.{refl, ap, ◌∙◌}
use Rattle.refusals.specs.Refusal.{at_place, bad_table_layout}
use native.Mathlib.Omega.{arith}
use Rattle.table.proofs.Filling.{starts, goes_on, full, ends-well, indexed}
use Rattle.table.proofs.index.Goals as goal

pub loop-at-init : goal.loop-at-init
loop-at-init c = (refl, starts _ _ c.requires)

pub returns-then-k-eq512 : goal.returns-then-k-eq512
returns-then-k-eq512 c = let l = c.loop-at in record { refusal = rw c.at.ensures (ap (at_place bad_table_layout) (full _ _ _ _ l.invariant.1 c.if-k-eq512.true (omega arith))); entries = tt }

pub loop-at-preserved : goal.loop-at-preserved
loop-at-preserved c =
    let l = c.loop-at in
    let h : l.k < 512 = omega (arith, l.invariant.1.few, c.if-k-eq512.false) in
    (length-set l.index l.k c.in_ok-word.word ∙ l.invariant.0, goes_on _ _ _ _ l.invariant.1 h _ _ c.in_ok-word.ensures)

pub returns : goal.returns
returns c =
    let l = c.loop-at in
    record { refusal = ap (at_place bad_table_layout) (ends-well _ _ _ _ l.invariant.1 (omega arith)); entries = indexed _ _ _ _ l.invariant.1 (omega arith) }
