-- `tape::tape_check` meets its contract.
use native.Mathlib.Omega.{arith}
use Rattle.tape.proofs.Check.{check-short, check-ragged, check-long, check-root, check-rest}
use Rattle.tape.proofs.tape_check.Goals as goal
use Rattle.tape.proofs.tape_check.Goals.{then-n-eq0-via-then-n-eq0, then-n-eq0-via-else-n-eq0+then-tape-ne0, then-n-eq0-via-else-n-eq0+else-tape-ne0+then-n-gt-MOST_NODES}

pub returns-then-n-eq0 : goal.returns-then-n-eq0
returns-then-n-eq0 c =
    rw c.at.ensures
    (elim c.then-n-eq0.branch [
      | then-n-eq0-via-then-n-eq0 w ↦ check-short _ _ w.if-n-eq0.true
      | then-n-eq0-via-else-n-eq0+then-tape-ne0 w ↦ check-ragged _ _ w.if-tape-ne0.true
      | then-n-eq0-via-else-n-eq0+else-tape-ne0+then-n-gt-MOST_NODES w ↦ check-long _ _ w.if-n-gt-MOST_NODES.true
    ])

pub returns-then-kind_at-ne-ROOT : goal.returns-then-kind_at-ne-ROOT
returns-then-kind_at-ne-ROOT c =
    rw c.at-then-kind_at-ne-ROOT.ensures
    (check-root _ _ c.if-n-eq0.false (omega (arith, c.if-tape-ne0.false)) c.if-n-gt-MOST_NODES.false (λ z. omega (arith, c.if-kind_at-ne-ROOT.true, c.kind_at.ensures)))

pub returns : goal.returns
returns c =
    rw c.scan.ensures
    (check-rest _ _ c.if-n-eq0.false (omega (arith, c.if-tape-ne0.false)) c.if-n-gt-MOST_NODES.false (omega (arith, c.if-kind_at-ne-ROOT.false, c.kind_at.ensures)))
