-- `pieces::word_end` meets its contract, as the search for a blank does.
use Prim.Native.Nat.{ℕ}
use lib.ListN.{drop}
use mathlib.Core.List.{List}
use mathlib.Core.Path.{◌≡◌, refl, sym, ap, ◌∙◌}
use native.Mathlib.Omega.{arith}
use Rattle.text.proofs.Chars.{tested-by, ends, in-text}
use Rattle.text.specs.Blank.{blank}
use Rattle.text.specs.Utf8.{decode}
use Rattle.text.specs.declared.Decoded.{Decoded}
use Rattle.reader_spec.specs.Pieces.{ends_word}
use Rattle.pieces.proofs.Tests.{stops-slash, past-plain, past_word, stops-blank}
use Rattle.pieces.proofs.word_end.Goals as goal

-- `pieces::word_end` meets its contract, as the search for a blank does.
-- Assumes nothing.

pub loop-i-init : goal.loop-i-init
loop-i-init c = (omega arith, refl)

pub returns-then-b-eq92 : goal.returns-then-b-eq92
returns-then-b-eq92 c =
    let s = c.args.l.now in
    let l = c.loop-i in
    record { is = sym (l.invariant.1 ∙ stops-slash s l.i (omega arith) c.if-b-eq92.true); inside = omega arith }

pub loop-i-preserved-then-holds : goal.loop-i-preserved-then-holds
loop-i-preserved-then-holds c =
    let s = c.args.l.now in
    let l = c.loop-i in
    let y = sym c.holds.ensures ∙ c.if-holds.true in
    (omega arith, l.invariant.1 ∙ past-plain s l.i (omega arith) c.if-b-eq92.false y)

pub returns-then-is_blank : goal.returns-then-is_blank
returns-then-is_blank c =
    let source : List ℕ = c.args.l.now in
    let d = c in
    let l = d.loop-i in
    let x = c.is_blank in
    let y = tested-by blank source l.i d.decode_at-d.result x.result _ d.decode_at-d.ensures x.ensures c.if-is_blank.true in
    record { is = sym (l.invariant.1 ∙ stops-blank source l.i (omega arith) y); inside = omega arith }

pub overflow_add-i-in-loop-i : goal.overflow_add-i-in-loop-i
overflow_add-i-in-loop-i c =
    let source : List ℕ = c.args.l.now in
    let wide : c.decode_at-d.result.width ≡ (decode (drop c.loop-i.i source)).width = ap (λ (x : Decoded). x.width) c.decode_at-d.ensures in
    let d = c in
    omega (arith, in-text source d.loop-i.i (omega arith), wide)

pub loop-i-smaller : goal.loop-i-smaller
loop-i-smaller c =
    let source : List ℕ = c.args.l.now in
    let wide : c.decode_at-d.result.width ≡ (decode (drop c.loop-i.i source)).width = ap (λ (x : Decoded). x.width) c.decode_at-d.ensures in
    let d = c in
    omega (arith, in-text source d.loop-i.i (omega arith), wide)

pub loop-i-preserved : goal.loop-i-preserved
loop-i-preserved c =
    let source : List ℕ = c.args.l.now in
    let wide : c.decode_at-d.result.width ≡ (decode (drop c.loop-i.i source)).width = ap (λ (x : Decoded). x.width) c.decode_at-d.ensures in
    let d = c in
    let l = d.loop-i in
    let x = c.is_blank in
    let y = tested-by blank source l.i d.decode_at-d.result x.result _ d.decode_at-d.ensures x.ensures c.if-is_blank.false in
    (omega (arith, in-text source l.i (omega arith), wide), l.invariant.1 ∙ past_word source l.i (omega arith) d.if-b-eq92.false d.decode_at-d.result.width wide y)

pub returns : goal.returns
returns c =
    let l = c.loop-i in
    record { is = sym (l.invariant.1 ∙ ends ends_word c.args.l.now l.i (omega arith)); inside = omega arith }
