-- `closing::unclosed` meets its contract.
use Rattle.closing.proofs.Starts.{unclosed-none, unclosed-ready, unclosed-next}
use Rattle.closing.proofs.unclosed.Goals as goal

pub loop-o-init : goal.loop-o-init
loop-o-init c = unclosed-none _ _ _ _ _ _ _ c.counts-c.ensures c.requires.known c.requires.room

pub push_unclosed-c-requires : goal.push_unclosed-c-requires
push_unclosed-c-requires c = unclosed-ready c.loop-o.invariant c.loop-o-test.true

pub loop-o-preserved : goal.loop-o-preserved
loop-o-preserved c = unclosed-next c.loop-o.invariant c.loop-o-test.true c.push_unclosed-c.ensures
