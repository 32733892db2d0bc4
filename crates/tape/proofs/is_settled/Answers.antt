-- `tape::is_settled` meets its contract.
use Rattle.std.proofs.Common.{sym, ◌∙◌}
use mathlib.Core.Bool.{false≢true}
use Rattle.tape.proofs.Settled.{settled}
use Rattle.tape.proofs.is_settled.Goals as goal
use Rattle.tape.proofs.is_settled.Goals.{then-good_root, else-good_root}

pub returns-then-are_clear : goal.returns-then-are_clear
returns-then-are_clear c =
    let a = c.args in
    let both = c.if-are_clear.true in
    λ e. elim c.if-good_root.branch [ then-good_root w ↦ settled a.source.now a.tape.now a.n c.link_at-root.result c.requires c.link_at-root.ensures (sym c.good_root.ensures ∙ w.if-good_root.true) (w.are_clear.ensures (sym w.value-is ∙ both)) (c.are_paired.ensures e) | else-good_root w ↦ absurd (false≢true (sym w.if-good_root.false ∙ (sym w.value-is ∙ both))) ]
