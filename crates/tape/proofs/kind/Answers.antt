-- `tape::kind` meets its contract.
use mathlib.Core.Path.{◌∙◌}
use native.Mathlib.Omega.{arith}
use Rattle.tape.proofs.Nine.{ninth}
use Rattle.tape.proofs.kind.Goals as goal

pub returns-in_default : goal.returns-in_default
returns-in_default c =
    let k = c.kind_at-k in
    let r = c.in_default.in_default-own.rest in
    ninth k.result (omega (arith, k.ensures, c.requires.1)) r.0.0.0.0.0.0.0.1 r.0.0.0.0.0.0.1 r.0.0.0.0.0.1 r.0.0.0.0.1 r.0.0.0.1 r.0.0.1 r.0.1 r.1 ∙ k.ensures
