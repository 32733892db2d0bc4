-- `text::passed` meets its contract.
use native.Mathlib.Omega.{arith}
use Rattle.text.proofs.Scan.{passed-run, passed-width}
use Rattle.text.proofs.passed.Goals as goal

pub returns-then-s-at-lt128-2 : goal.returns-then-s-at-lt128-2
returns-then-s-at-lt128-2 c =
    let a = c.args in
    let r = c.ascii_end in
    passed-run a.s.now a.at r.result (omega arith) (omega arith) r.ensures.0 r.ensures.1 r.ensures.2

pub returns : goal.returns
returns c =
    let a = c.args in
    passed-width a.s.now a.at c.width_at.result (omega arith) c.width_at.ensures
