-- `text::find_where` meets its contract.
use lib.ListN.{length}
use mathlib.Core.Path.{◌≡◌, sym, ◌∙◌}
use native.Mathlib.Omega.{arith}
use Rattle.text.proofs.Chars.{ends}
use Rattle.text.proofs.Find.{past_ascii}
use Rattle.text.proofs.find_where.Goals as goal

pub returns-in_default : goal.returns-in_default
returns-in_default g c =
    let e = c.stop_at.ensures in
    record { is = e.is ∙ sym c.loop-i.invariant; inside = e.inside }

pub loop-i-preserved : goal.loop-i-preserved
loop-i-preserved g c =
    let e = c.in-Some-false.ensures in
    c.loop-i.invariant ∙ past_ascii _ c.args.s.now c.loop-i.i (omega arith) e.0 (e.1 ∙ c.in-Some-false.field-0-test)

pub returns : goal.returns
returns g c =
    let l = c.loop-i in
    let s = c.args.s.now in
    let z : l.i ≡ length s = omega arith in
    record { is = sym (l.invariant ∙ ends _ s l.i (omega arith) ∙ z); inside = omega arith }
