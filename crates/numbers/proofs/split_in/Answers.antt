-- `numbers::split_in` meets its contract.
use lib.Seq.{length-take-le}
use mathlib.Core.Path.{sym, ◌∙◌}
use Rattle.numbers.proofs.Gathered.{kept-spanned, first-in}
use Rattle.numbers.proofs.split_in.Goals as goal

pub slice_bounds-first_split-end : goal.slice_bounds-first_split-end
slice_bounds-first_split-end c = sym (length-take-le c.gather-k.result c.gather-k.new.found c.gather-k.ensures.0)

pub first_split-requires : goal.first_split-requires
first_split-requires c =
    let b = c in
    let r = b.requires in
    (r.0, kept-spanned b.args.doc.source.now b.args.doc.tape.now _ b.args.from b.args.to r.1 r.2 r.3 r.4 c.gather-k.ensures.1)

pub returns : goal.returns
returns c =
    let a = c.args in
    c.first_split.ensures ∙ first-in a.table.now a.doc.source.now a.doc.tape.now _ a.from a.to c.gather-k.ensures.1
