-- `milestones::step_named` meets its contract.
use mathlib.Core.Path.{◌≡◌, sym, ◌∙◌}
use native.Mathlib.Omega.{arith}
use Prim.Native.Nat.{ℕ, ◌+◌, ◌-◌, ◌≤◌}
use mathlib.Core.Bool.{true}
use lib.ListN.{length}
use Rattle.definition.specs.Milestones.{ends_in}
use Rattle.milestones.proofs.Reading.{name, base-long, a-start, an-end, neither}
use Rattle.milestones.proofs.step_named.Goals as goal

pub overflow_sub-result-then-ends_in : goal.overflow_sub-result-then-ends_in
overflow_sub-result-then-ends_in c =
    let fits : c.start_at-a.result + c.len_at-n.result ≤ length c.args.doc.source.now = let f = c.requires.0.fits in omega (arith, f, c.start_at-a.ensures, c.len_at-n.ensures) in
    let base-start : (letter : ℕ) → ends_in letter (name c.args.doc.source.now c.args.doc.tape.now c.args.i c.start_at-a.result c.len_at-n.result c.start_at-a.ensures c.len_at-n.ensures fits c.name_span-at.result c.name_span-at.ensures) ≡ true → 2 ≤ c.name_span-at.result.end - c.name_span-at.result.start = λ letter h. base-long c.args.doc.source.now c.args.doc.tape.now c.args.i c.start_at-a.result c.len_at-n.result c.start_at-a.ensures c.len_at-n.ensures fits c.name_span-at.result c.name_span-at.ensures letter h in
    base-start 0x73 (sym c.ends_in.ensures ∙ c.if-ends_in.true)

pub overflow_sub-result-then-ends_in-2-2 : goal.overflow_sub-result-then-ends_in-2-2
overflow_sub-result-then-ends_in-2-2 c =
    let fits : c.start_at-a.result + c.len_at-n.result ≤ length c.args.doc.source.now = let f = c.requires.0.fits in omega (arith, f, c.start_at-a.ensures, c.len_at-n.ensures) in
    let base-start : (letter : ℕ) → ends_in letter (name c.args.doc.source.now c.args.doc.tape.now c.args.i c.start_at-a.result c.len_at-n.result c.start_at-a.ensures c.len_at-n.ensures fits c.name_span-at.result c.name_span-at.ensures) ≡ true → 2 ≤ c.name_span-at.result.end - c.name_span-at.result.start = λ letter h. base-long c.args.doc.source.now c.args.doc.tape.now c.args.i c.start_at-a.result c.len_at-n.result c.start_at-a.ensures c.len_at-n.ensures fits c.name_span-at.result c.name_span-at.ensures letter h in
    base-start 0x65 (sym c.ends_in-2.ensures ∙ c.if-ends_in-2.true)

pub returns-then-ends_in-2 : goal.returns-then-ends_in-2
returns-then-ends_in-2 c =
    let fits : c.start_at-a.result + c.len_at-n.result ≤ length c.args.doc.source.now = let f = c.requires.0.fits in omega (arith, f, c.start_at-a.ensures, c.len_at-n.ensures) in
    let n = c in
    an-end n.args.doc.source.now n.args.doc.tape.now n.args.i n.start_at-a.result n.len_at-n.result n.start_at-a.ensures n.len_at-n.ensures fits n.name_span-at.result n.name_span-at.ensures c.ends_in.result c.ends_in-2.result c.ends_in.ensures c.ends_in-2.ensures c.if-ends_in.false c.if-ends_in-2.true (omega arith)
