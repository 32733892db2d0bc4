-- `numbers::gather` meets its contract. The invariant: those kept so far, followed by those of the nodes that are left, are all.
use Prim.Native.Nat.{◌<◌}
use lib.ListN.{length, length-set}
use mathlib.Core.Path.{refl, sym, ap, ◌∙◌}
use native.Mathlib.Omega.{arith}
use Rattle.numbers.specs.Label.{numbered}
use Rattle.numbers.proofs.Gathered.{gathered, gathered-all}
use Rattle.numbers.proofs.gather.Goals as goal

pub loop-i-init : goal.loop-i-init
loop-i-init c = (omega arith, c.requires.0, omega arith, refl, refl)

pub bounds-found-k : goal.bounds-found-k
bounds-found-k c = let v = c.loop-i.invariant in omega (arith, v.2, v.3)

pub loop-i-preserved : goal.loop-i-preserved
loop-i-preserved c =
    let a = c.args in
    let t = a.tape.now in
    let l = c.loop-i in
    let v = l.invariant in
    let o = c.one_if-k.ensures in
    let x = c.is_numbered in
    let h : l.k < length l.found = omega (arith, v.2, v.3) in
    let n = x.ensures ∙ ap numbered c.kind_at.ensures in
    (omega arith, omega arith, omega (arith, o.1, v.2), simp length-set v.3, rw o.0 (gathered t l.found l.k l.i a.to x.result h (omega arith) n) ∙ v.4)

pub shape_of-found : goal.shape_of-found
shape_of-found c = c.loop-i.invariant.3

pub returns : goal.returns
returns c =
    let l = c.loop-i in
    let v = l.invariant in
    (omega (arith, v.2, v.3), sym (gathered-all c.args.tape.now l.found l.k l.i c.args.to (omega arith)) ∙ v.4)
