-- `message_texts::fill` meets its contract.
use Rattle.std.proofs.Common.{◌+◌, arith}
use Rattle.std.proofs.lemmas.List.{length-take, take_rest}
use Rattle.message_texts.proofs.Filling.{filling-low, filling-between, filling-on, filling-end}
use Rattle.message_texts.proofs.fill.Goals as goal

pub put-at-requires : goal.put-at-requires
put-at-requires c = (filling-low c.loop-n.invariant c.requires.0 c.requires.1, omega (arith, c.loop-n.invariant.left, length-take c.in-Some.n c.loop-n.rest.now))

pub put_value-at-requires : goal.put_value-at-requires
put_value-at-requires c = (filling-between c.loop-n.invariant c.in-Some.ensures c.put-at.ensures c.requires.0 c.requires.1, c.requires.1)

pub loop-n-preserved : goal.loop-n-preserved
loop-n-preserved c = filling-on c.loop-n.invariant c.in-Some.ensures c.put-at.ensures (take_rest c.loop-n.rest.now (c.in-Some.n + 1)) c.put-at.auto.out c.put_value-at.auto.out c.put_value-at.ensures

pub put-requires : goal.put-requires
put-requires c = (filling-low c.loop-n.invariant c.requires.0 c.requires.1, omega (arith, c.loop-n.invariant.left))

pub returns : goal.returns
returns c = filling-end c.loop-n.invariant c.in_default.ensures c.put.ensures
