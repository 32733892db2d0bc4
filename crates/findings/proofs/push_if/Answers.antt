-- `findings::push_if` meets its contract.
use Rattle.findings.proofs.Overlay.{wrote_none}
use Rattle.findings.proofs.push_if.Goals as goal

pub push-requires : goal.push-requires
push-requires c = rw c.if-there.true at c.requires

pub returns-then-there : goal.returns-then-there
returns-then-there c = rw c.if-there.true c.push.ensures

pub returns : goal.returns
returns c = rw c.if-there.false (wrote_none c.args.list.now c.args.c)
