-- `text::decode_wide` meets its contract.
use Prim.Native.Nat.{ℕ}
use lib.ListN.{drop}
use mathlib.Core.Path.{ap, ◌∙◌}
use native.Mathlib.Omega.{arith}
use Rattle.text.proofs.Decode.{decode-0, decode-2, decode-3}
use Rattle.text.proofs.Rows.{picked, unpicked}
use Rattle.text.proofs.Scan.{within_text}
use Rattle.text.specs.Utf8.{width_of}
use Rattle.text.proofs.decode_wide.Goals as goal

pub returns-then-not-two_at : goal.returns-then-not-two_at
returns-then-not-two_at c =
    let a = c.args in
    let f = c.two_at in
    decode-0 a.s.now a.at (omega arith) (unpicked (width_of (drop a.at a.s.now)) 2 f.result f.ensures c.if-not-two_at.true-raw)

pub bounds-s-at-then-b-lt224 : goal.bounds-s-at-then-b-lt224
bounds-s-at-then-b-lt224 c =
    let a = c.args in
    let f = c.two_at in
    let w = picked (width_of (drop a.at a.s.now)) 2 f.result f.ensures c.if-not-two_at.false-raw in
    omega (arith, w, within_text a.s.now a.at (omega arith))

pub returns-then-b-lt224 : goal.returns-then-b-lt224
returns-then-b-lt224 c =
    let a = c.args in
    let f = c.two_at in
    let w = picked (width_of (drop a.at a.s.now)) 2 f.result f.ensures c.if-not-two_at.false-raw in
    decode-2 a.s.now a.at (omega arith) w

pub returns-then-not-three_at : goal.returns-then-not-three_at
returns-then-not-three_at c =
    let a = c.args in
    let f = c.three_at in
    decode-0 a.s.now a.at (omega arith) (unpicked (width_of (drop a.at a.s.now)) 3 f.result f.ensures c.if-not-three_at.true-raw)

pub of_three-requires : goal.of_three-requires
of_three-requires c =
    let a = c.args in
    let f = c.three_at in
    let w = picked (width_of (drop a.at a.s.now)) 3 f.result f.ensures c.if-not-three_at.false-raw in
    omega (arith, w, within_text a.s.now a.at (omega arith))

pub returns-then-b-lt240 : goal.returns-then-b-lt240
returns-then-b-lt240 c =
    let a = c.args in
    let f = c.three_at in
    let w = picked (width_of (drop a.at a.s.now)) 3 f.result f.ensures c.if-not-three_at.false-raw in
    ap (λ (n : ℕ). record { cp = n; width = 3 }) c.of_three.ensures ∙ decode-3 a.s.now a.at (omega arith) w
