-- `text::decode_four` meets its contract.
use lib.ListN.{drop}
use native.Mathlib.Omega.{arith}
use Rattle.text.proofs.Decode.{decode-0, decode-4}
use Rattle.text.proofs.Rows.{picked, unpicked}
use Rattle.text.proofs.Scan.{within_text}
use Rattle.text.specs.Utf8.{width_of}
use Rattle.text.proofs.decode_four.Goals as goal

pub returns-then-not-four_at : goal.returns-then-not-four_at
returns-then-not-four_at c =
    let a = c.args in
    let f = c.four_at in
    decode-0 a.s.now a.at (omega arith) (unpicked (width_of (drop a.at a.s.now)) 4 f.result f.ensures c.if-not-four_at.true-raw)

pub bounds-s-at-2 : goal.bounds-s-at-2
bounds-s-at-2 c =
    let a = c.args in
    let f = c.four_at in
    let w = picked (width_of (drop a.at a.s.now)) 4 f.result f.ensures c.if-not-four_at.false-raw in
    omega (arith, w, within_text a.s.now a.at (omega arith))

pub bounds-s-at-3 : goal.bounds-s-at-3
bounds-s-at-3 c =
    let a = c.args in
    let f = c.four_at in
    let w = picked (width_of (drop a.at a.s.now)) 4 f.result f.ensures c.if-not-four_at.false-raw in
    omega (arith, w, within_text a.s.now a.at (omega arith))

pub bounds-s-at-4 : goal.bounds-s-at-4
bounds-s-at-4 c =
    let a = c.args in
    let f = c.four_at in
    let w = picked (width_of (drop a.at a.s.now)) 4 f.result f.ensures c.if-not-four_at.false-raw in
    omega (arith, w, within_text a.s.now a.at (omega arith))

pub returns : goal.returns
returns c =
    let a = c.args in
    let f = c.four_at in
    let w = picked (width_of (drop a.at a.s.now)) 4 f.result f.ensures c.if-not-four_at.false-raw in
    decode-4 a.s.now a.at (omega arith) (omega (arith, w))
