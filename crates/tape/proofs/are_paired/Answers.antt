-- `tape::are_paired` meets its contract: the invariant is `Pairing`.
use mathlib.Core.Bool.{false≢true}
use mathlib.Core.Path.{refl}
use Rattle.tape.specs.Nodes.{count}
use Rattle.tape.proofs.Settled.{Turned, pairing-start, pairing-turn, pairing-end}
use Rattle.tape.proofs.are_paired.Goals as goal

pub loop-i-init : goal.loop-i-init
loop-i-init c = pairing-start _ _ _ _ refl refl

pub returns-then-closes-top : goal.returns-then-closes-top
returns-then-closes-top c = λ e. absurd (false≢true e)

pub overflow_sub-depth : goal.overflow_sub-depth
overflow_sub-depth c =
    let turn : Turned c.args.tape.now (count c.args.tape.now) c.args.root c.loop-i.stack c.loop-i.depth c.loop-i.i c.link_at-link.result c.one_if.result c.one_if-in-loop-i.result = let s = c in let a = s.args in let l = c.loop-i in let k = c.kind_at-kind in let m = c.link_at-link in let x = c.is_close-closes in pairing-turn a.tape.now (count a.tape.now) a.root l.stack l.depth l.i l.invariant c.loop-i-test.true s.requires k.result m.result x.result c.one_if.result c.one_if-in-loop-i.result k.ensures m.ensures x.ensures c.one_if.ensures.0 c.one_if-in-loop-i.ensures.0 c.if-closes-top.false in
    turn.enough

pub loop-i-preserved : goal.loop-i-preserved
loop-i-preserved c =
    let turn : Turned c.args.tape.now (count c.args.tape.now) c.args.root c.loop-i.stack c.loop-i.depth c.loop-i.i c.link_at-link.result c.one_if.result c.one_if-in-loop-i.result = let s = c in let a = s.args in let l = c.loop-i in let k = c.kind_at-kind in let m = c.link_at-link in let x = c.is_close-closes in pairing-turn a.tape.now (count a.tape.now) a.root l.stack l.depth l.i l.invariant c.loop-i-test.true s.requires k.result m.result x.result c.one_if.result c.one_if-in-loop-i.result k.ensures m.ensures x.ensures c.one_if.ensures.0 c.one_if-in-loop-i.ensures.0 c.if-closes-top.false in
    turn.again

pub returns : goal.returns
returns c =
    let a = c.args in
    let l = c.loop-i in
    pairing-end a.tape.now (count a.tape.now) a.root l.stack l.depth l.i l.invariant c.loop-i-test.false
