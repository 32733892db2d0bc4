-- `listing::put_whole` meets its contract.
use native.Mathlib.Omega.{arith}
use mathlib.Core.Path.{sym}
use lib.ListN.{length}
use lib.Seq.{length-take-le}
use Rattle.listing.proofs.Shown.{short-enough, whole-put, whole-left}
use Rattle.listing.proofs.put_whole.Goals as goal

pub slice_bounds-end_of-end-2 : goal.slice_bounds-end_of-end-2
slice_bounds-end_of-end-2 c = sym (length-take-le _ _ c.write_shown-n.ensures.inside)

pub end_of-end-requires : goal.end_of-end-requires
end_of-end-requires c =
    let s = c in
    (s.requires.3, short-enough _ _ s.args.text.now _ c.write_shown-n.ensures.inside c.write_shown-n.auto.text s.requires.2)

pub slice_bounds-put_finding-end-then-end-out : goal.slice_bounds-put_finding-end-then-end-out
slice_bounds-put_finding-end-then-end-out c = sym (length-take-le _ _ c.write_shown-n.ensures.inside)

pub put_finding-requires : goal.put_finding-requires
put_finding-requires c =
    let s = c in
    (s.requires.3, short-enough _ _ s.args.text.now _ c.write_shown-n.ensures.inside c.write_shown-n.auto.text s.requires.2)

pub returns-then-end-out : goal.returns-then-end-out
returns-then-end-out c =
    let a = c.args in
    let w = c.write_shown-n in
    let law = whole-put a.table.now a.doc.source.now a.doc.tape.now a.list.now (length a.text.now) a.k _ c.request_at-q.ensures _ w.result w.ensures c.listed_at-f.result c.listed_at-f.ensures a.out.now a.at c.end_of-end.result c.end_of-end.ensures in
    law (omega (arith, c.if-end-out.true)) _ _ c.put_finding.ensures

pub returns-else-end-out : goal.returns-else-end-out
returns-else-end-out c =
    let a = c.args in
    let w = c.write_shown-n in
    let law = whole-left a.table.now a.doc.source.now a.doc.tape.now a.list.now (length a.text.now) a.k _ c.request_at-q.ensures _ w.result w.ensures c.listed_at-f.result c.listed_at-f.ensures a.out.now a.at c.end_of-end.result c.end_of-end.ensures in
    law (omega (arith, c.if-end-out.false))
