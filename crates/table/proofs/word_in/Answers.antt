-- `table::word_in` meets its contract. The invariant: the words from the place on give what all the words give.
use Prim.Native.Nat.{◌≤◌, ◌+◌}
use lib.ListN.{length}
use lib.Seq.{length-take-le}
use mathlib.Core.Path.{sym, ◌∙◌}
use native.Mathlib.Omega.{arith}
use Rattle.table.proofs.Parts.{words_are, word-hit, word-miss, word_end, break-le, break-inside}
use Rattle.table.proofs.word_in.Goals as goal

pub loop-at-init : goal.loop-at-init
loop-at-init c = (omega arith, omega arith, rw (words_are 0 c.args.words.now))

pub slice_bounds-equal-end : goal.slice_bounds-equal-end
slice_bounds-equal-end c =
    let a = c.args in
    sym (length-take-le _ _ (break-le a.words.now c.loop-at.at _ c.find_byte-n.ensures))

pub returns-then-equal : goal.returns-then-equal
returns-then-equal c =
    let l = c.loop-at in
    sym (l.invariant.2 ∙ word-hit _ _ l.k l.at _ c.find_byte-n.ensures (omega arith) (sym c.equal.ensures ∙ c.if-equal.true))

pub overflow_add-at : goal.overflow_add-at
overflow_add-at c =
    let reached : c.loop-at.at + c.find_byte-n.result ≤ length c.args.words.now = break-inside c.args.words.now c.loop-at.at _ c.find_byte-n.ensures (omega arith) in
    omega (arith, reached)

pub overflow_add-at-in-loop-at : goal.overflow_add-at-in-loop-at
overflow_add-at-in-loop-at c =
    let reached : c.loop-at.at + c.find_byte-n.result ≤ length c.args.words.now = break-inside c.args.words.now c.loop-at.at _ c.find_byte-n.ensures (omega arith) in
    omega (arith, reached)

pub loop-at-preserved : goal.loop-at-preserved
loop-at-preserved c =
    let reached : c.loop-at.at + c.find_byte-n.result ≤ length c.args.words.now = break-inside c.args.words.now c.loop-at.at _ c.find_byte-n.ensures (omega arith) in
    let l = c.loop-at in
    let n = reached in
    (omega arith, omega arith, l.invariant.2 ∙ word-miss _ _ l.k l.at _ c.find_byte-n.ensures (omega arith) (sym c.equal.ensures ∙ c.if-equal.false))

pub returns : goal.returns
returns c =
    let l = c.loop-at in
    sym (l.invariant.2 ∙ word_end _ _ l.k l.at (omega arith))
