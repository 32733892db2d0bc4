-- `milestones::has_base` meets its contract.
use mathlib.Core.Path.{◌≡◌, sym, ◌∙◌}
use Prim.Native.Nat.{◌+◌, ◌-◌, ◌≤◌}
use native.Mathlib.Omega.{arith}
use lib.ListN.{length, take, drop}
use Rattle.milestones.proofs.Endings.{part-long, apart, none, own_name, own-inside, own-base}
use borrow.Author.Rules.{rules}
use Rattle.milestones.proofs.has_base.Goals as goal

pub returns-then-n-len : goal.returns-then-n-len
returns-then-n-len c =
    let b = c in
    let a = b.args in
    apart a.doc.source.now a.doc.tape.now a.o.node a.o.base_len b.requires.0 (take a.len (drop a.at a.doc.source.now)) (λ e. c.if-n-len.true (e ∙ part-long a.doc.source.now a.at a.len b.requires.1))

pub returns-then-n-eq0 : goal.returns-then-n-eq0
returns-then-n-eq0 c =
    let b = c in
    let a = b.args in
    none a.doc.source.now a.doc.tape.now a.o.node a.o.base_len b.requires.0 (take a.len (drop a.at a.doc.source.now)) (c.if-n-len.false ∙ sym (part-long a.doc.source.now a.at a.len b.requires.1)) c.if-n-eq0.true

pub returns : goal.returns
returns c =
    let n = c in
    let b = n in
    let a = b.args in
    let l : a.at + a.len - a.at ≡ a.len = omega arith in
    own-base a.doc.source.now a.doc.tape.now a.o.node a.o.base_len b.requires.0 n.name_at-from.result n.name_at-from.ensures n.if-n-eq0.false (take a.len (drop a.at a.doc.source.now)) c.equal.result (rw l at c.equal.ensures)
