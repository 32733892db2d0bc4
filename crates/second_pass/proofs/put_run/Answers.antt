-- `second_pass::put_run` meets its contract.
use Rattle.std.proofs.Common.{◌+◌, ◌-◌, length, arith}
use Rattle.node_writer.proofs.Leaves.{text-count, attribute-count, text-put, attribute-put}
use Rattle.second_pass.proofs.Laws.{flat-stored, bar-inside, text-ready, attribute-ready, split-stored}
use Rattle.second_pass.proofs.put_run.Goals as goal

pub returns-then-depth-eq0 : goal.returns-then-depth-eq0
returns-then-depth-eq0 c =
    let a = c.args in
    flat-stored a.t.now a.w a.depth a.at a.l.now c.requires c.if-depth-eq0.true c.put_leaf.new.t c.put_leaf.result (text-put a.t.now a.w.next a.at (length a.l.now) c.put_leaf.ensures)

pub put_leaf-next-requires : goal.put_leaf-next-requires
put_leaf-next-requires c =
    let a = c.args in
    let b = c.run_bar-bar in
    rw (text-count a.at b.result) (text-ready a.t.now a.w a.depth a.at a.l.now c.requires c.if-depth-eq0.false b.result b.ensures)

pub overflow_add-at : goal.overflow_add-at
overflow_add-at c =
    let a = c.args in
    let b = c.run_bar-bar in
    omega (arith, (text-ready a.t.now a.w a.depth a.at a.l.now c.requires c.if-depth-eq0.false b.result b.ensures).1)

pub overflow_sub-l : goal.overflow_sub-l
overflow_sub-l c =
    let a = c.args in
    let b = c.run_bar-bar in
    bar-inside a.t.now a.w a.depth a.at a.l.now c.requires c.if-depth-eq0.false b.result b.ensures

pub put_leaf-requires-2 : goal.put_leaf-requires-2
put_leaf-requires-2 c =
    let a = c.args in
    let b = c.run_bar-bar in
    let x = c.put_leaf-next in
    rw (attribute-count (a.at + b.result) (length a.l.now - b.result)) (attribute-ready a.t.now a.w a.depth a.at a.l.now c.requires c.if-depth-eq0.false b.result b.ensures x.new.t x.result (text-put a.t.now a.w.next a.at b.result x.ensures) x.auto.t)

pub returns : goal.returns
returns c =
    let a = c.args in
    let b = c.run_bar-bar in
    let x = c.put_leaf-next in
    let y = c.put_leaf-2 in
    split-stored a.t.now a.w a.depth a.at a.l.now c.requires c.if-depth-eq0.false b.result b.ensures x.new.t x.result (text-put a.t.now a.w.next a.at b.result x.ensures) y.new.t y.result (attribute-put x.new.t x.result (a.at + b.result) (length a.l.now - b.result) y.ensures)
