-- `tape::are_clear` meets its contract. The invariant: if what is left is clear, the whole is; and the last span ends at a good place.
use Prim.Native.Nat.{◌<◌}
use mathlib.Core.Bool.{false≢true}
use mathlib.Core.Path.{refl}
use native.Mathlib.Omega.{arith}
use borrow.Author.Tests.{not-false}
use Rattle.tape.proofs.Settled.{clear-turn, clear-done}
use Rattle.tape.proofs.Spans.{end-clear}
use Rattle.tape.proofs.are_clear.Goals as goal

pub loop-i-init : goal.loop-i-init
loop-i-init c = (omega arith, c.requires.some, refl, λ h. h)

pub is_clear_span-requires : goal.is_clear_span-requires
is_clear_span-requires c = (omega arith, c.loop-i.invariant.2)

pub returns-then-not-is_clear_span : goal.returns-then-not-is_clear_span
returns-then-not-is_clear_span c = λ e. absurd (false≢true e)

pub returns-then-bad_kind : goal.returns-then-bad_kind
returns-then-bad_kind c = λ e. absurd (false≢true e)

pub loop-i-preserved : goal.loop-i-preserved
loop-i-preserved c =
    let a = c.args in
    let s = a.source.now in
    let t = a.tape.now in
    let l = c.loop-i in
    let k = c.kind_at in
    let x = c.bad_kind in
    let y = c.is_clear_span.ensures (not-false _ c.if-not-is_clear_span.false-raw) in
    let h : l.i < a.n = c.loop-i-test.true in
    (omega arith, omega arith, rw c.end_at-before.ensures (end-clear s t l.i y), λ r. l.invariant.3 (clear-turn s t a.n l.i k.result x.result l.invariant.0 h k.ensures x.ensures c.if-bad_kind.false y r))

pub returns : goal.returns
returns c =
    let a = c.args in
    let l = c.loop-i in
    λ e. l.invariant.3 (clear-done a.source.now a.tape.now a.n l.i c.loop-i-test.false)
