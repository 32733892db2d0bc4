-- `cursor::next_sibling` meets its contract.
use mathlib.Core.Bool.{Bool, not}
use Rattle.std.specs.Prelude.{Some, None}
use mathlib.Core.Path.{sym, ap, ◌∙◌}
use Rattle.cursor.proofs.Around.{next-off, next-by}
use Rattle.text.specs.Pick.{pick}
use Rattle.cursor.proofs.next_sibling.Goals as goal

pub returns-then-tape-next : goal.returns-then-tape-next
returns-then-tape-next c =
    let a = c.args in
    let p = c.past_node-next in
    next-off a.tape.now a.i p.result p.ensures c.if-tape-next.true

pub returns-then-is_close : goal.returns-then-is_close
returns-then-is_close c =
    let a = c.args in
    let p = c.past_node-next in
    let k = c.kind_at in
    let x = c.is_close in
    sym (ap (λ (y : Bool). pick (not y) (Some p.result) None) c.if-is_close.true) ∙ next-by a.tape.now a.i p.result p.ensures k.result x.result c.if-tape-next.false k.ensures x.ensures

pub returns-else-is_close : goal.returns-else-is_close
returns-else-is_close c =
    let a = c.args in
    let p = c.past_node-next in
    let k = c.kind_at in
    let x = c.is_close in
    sym (ap (λ (y : Bool). pick (not y) (Some p.result) None) c.if-is_close.false) ∙ next-by a.tape.now a.i p.result p.ensures k.result x.result c.if-tape-next.false k.ensures x.ensures
