-- `text::search_where` meets its contract.
use mathlib.Core.Path.{sym, ◌∙◌}
use native.Mathlib.Omega.{arith}
use Rattle.text.proofs.Chars.{ends}
use Rattle.text.proofs.search_where.Goals as goal

pub returns : goal.returns
returns g c =
    let l = c.loop-i in
    record { is = sym (l.invariant.1 ∙ ends _ c.args.s.now l.i (omega arith)); inside = omega arith }
