-- `rows::columns_in` meets its contract.
use lib.Seq.{length-take-le}
use Rattle.text.proofs.Chars.{found-le}
use mathlib.Core.Path.{sym}
use Rattle.rows.proofs.Reading.{two-columns, one-column}
use Rattle.rows.proofs.columns_in.Goals as goal

pub slice_bounds-parse-end : goal.slice_bounds-parse-end
slice_bounds-parse-end c = sym (length-take-le _ _ (found-le _ _ _ c.find_byte-at.ensures))

pub returns-then-at-s : goal.returns-then-at-s
returns-then-at-s c =
    let q = c in
    let p = q in
    let t = p in
    two-columns t.args.s.now _ t.find_byte-at.ensures p.parse.result q.parse-then-at-s.result _ t.if-at-s.true p.parse.ensures q.parse-then-at-s.ensures c.both_read.ensures

pub returns : goal.returns
returns c =
    let q = c in
    let p = q in
    let t = p in
    one-column t.args.s.now _ t.find_byte-at.ensures p.parse-2.result q.parse-3.result _ t.if-at-s.false p.parse-2.ensures q.parse-3.ensures c.both_read-2.ensures
