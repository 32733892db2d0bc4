-- `node_writer::put_milestone` meets its contract.
use Rattle.std.proofs.Common.{◌+◌, ◌<◌, ◌∙◌, arith}
use Rattle.node_writer.proofs.Leaves.{text-count, attribute-count, text-put, attribute-put}
use Rattle.node_writer.proofs.Milestone.{text-ready, attribute-ready, close-ready, milestone-stored}
use Rattle.node_writer.proofs.put_milestone.Goals as goal

pub put_leaf-second-requires : goal.put_leaf-second-requires
put_leaf-second-requires c =
    let a = c.args in
    let o = c.put_open-opened in
    rw (text-count (a.at + a.n) a.x) (text-ready a.t.now a.w a.m a.at a.n a.x a.y c.requires o.new.t o.result o.ensures.1 o.auto.t)

pub put_leaf-third-requires : goal.put_leaf-third-requires
put_leaf-third-requires c =
    let a = c.args in
    let o = c.put_open-opened in
    let b = c.put_leaf-second in
    rw (attribute-count (a.at + a.n + a.x) a.y) (attribute-ready a.t.now a.w a.m a.at a.n a.x a.y c.requires o.new.t o.result o.ensures.1 b.new.t b.result (text-put o.new.t o.result.next (a.at + a.n) a.x b.ensures).1 (b.auto.t ∙ o.auto.t))

pub put_close-requires : goal.put_close-requires
put_close-requires c =
    let a = c.args in
    let o = c.put_open-opened in
    let b = c.put_leaf-second in
    let d = c.put_leaf-third in
    close-ready a.t.now a.w a.m a.at a.n a.x a.y c.requires o.new.t o.result o.ensures.1 b.new.t b.result (text-put o.new.t o.result.next (a.at + a.n) a.x b.ensures).1 d.new.t d.result (attribute-put b.new.t b.result (a.at + a.n + a.x) a.y d.ensures).1 (d.auto.t ∙ b.auto.t ∙ o.auto.t)

pub returns : goal.returns
returns c =
    let low : c.args.m < 65536 = omega arith in
    let a = c.args in
    let o = c.put_open-opened in
    let b = c.put_leaf-second in
    let d = c.put_leaf-third in
    let blanks = text-put o.new.t o.result.next (a.at + a.n) a.x b.ensures in
    let attributes = attribute-put b.new.t b.result (a.at + a.n + a.x) a.y d.ensures in
    milestone-stored a.t.now a.w a.m a.at a.n a.x a.y c.requires o.new.t o.result o.ensures.1 b.new.t b.result blanks.1 d.new.t d.result attributes.1 low o.ensures.0 blanks.0 attributes.0 c.put_close.new.t c.put_close.result c.put_close.ensures
