-- `tape::step` meets its contract: by the node's kind.
use mathlib.Core.Path.{sym, ◌∙◌}
use native.Mathlib.Omega.{arith}
use Rattle.tape.proofs.Machine.{at_open, at-close, at_leaf}
use Rattle.tape.proofs.step.Goals as goal

pub returns-then-kind-eq-MARKER_OPEN : goal.returns-then-kind-eq-MARKER_OPEN
returns-then-kind-eq-MARKER_OPEN c =
    rw c.in_ok-depth.was (at_open _ _ _ _ _ _ (rw c.in_ok-depth.was at c.requires) _ _ _ c.if-kind-eq-MARKER_OPEN.true c.link_at.ensures c.open_step.ensures)

pub returns-then-is_close : goal.returns-then-is_close
returns-then-is_close c =
    rw c.in_ok-depth.was (at-close _ _ _ _ _ _ (rw c.in_ok-depth.was at c.requires) _ c.if-kind-eq-MARKER_OPEN.false (sym c.is_close.ensures ∙ c.if-is_close.true) c.close_step.ensures)

pub returns : goal.returns
returns c =
    rw c.in_ok-depth.was (at_leaf _ _ _ _ _ _ (rw c.in_ok-depth.was at c.requires) c.if-kind-eq-MARKER_OPEN.false (sym c.is_close.ensures ∙ c.if-is_close.false))
