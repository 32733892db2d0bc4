-- `carried::is_start_of` meets its contract.
use Rattle.tape.specs.Nodes.{node_at}
use Rattle.table.specs.Entries.{entry_of_info}
use Rattle.carried.proofs.Tests.{other-category, no_start, start-by-base}
use Rattle.carried.proofs.is_start_of.Goals as goal

pub returns-then-not-is_of : goal.returns-then-not-is_of
returns-then-not-is_of c =
    let a = c.args in
    let m = c.is_of in
    other-category (entry_of_info a.m) (node_at a.doc.source.now a.doc.tape.now a.i) a.base_len m.result m.ensures c.if-not-is_of.true-raw

pub returns-then-not-ends_in : goal.returns-then-not-ends_in
returns-then-not-ends_in c =
    let a = c.args in
    let m = c.is_of in
    let n = c.marker_name-name in
    let y = c.ends_in in
    no_start (entry_of_info a.m) (node_at a.doc.source.now a.doc.tape.now a.i) a.base_len m.result m.ensures c.if-not-is_of.false-raw n.result.now n.ensures y.result y.ensures c.if-not-ends_in.true-raw

pub returns : goal.returns
returns c =
    let a = c.args in
    let m = c.is_of in
    let n = c.marker_name-name in
    let y = c.ends_in in
    let z = c.milestone_base-base in
    start-by-base (entry_of_info a.m) (node_at a.doc.source.now a.doc.tape.now a.i) a.base_len m.result m.ensures c.if-not-is_of.false-raw n.result.now n.ensures y.result y.ensures c.if-not-ends_in.false-raw z.result.now z.ensures
