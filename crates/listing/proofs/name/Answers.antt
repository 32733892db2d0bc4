-- `listing::name` meets its contract.
use Rattle.std.proofs.Common.{refl, arith}
use Rattle.std.proofs.lemmas.Option.{slice_get_read, slice_get_past}
use Rattle.listing.proofs.Words.{name-there, name-past, name-short}
use Rattle.listing.proofs.name.Goals as goal

pub returns-in-Some : goal.returns-in-Some
returns-in-Some c =
    let l = c.in-Some.ensures.lookup in
    let e = slice_get_read c.args.names.now _ c.args.k c.in-Some.name.now refl l.3.0 l.1 in
    (name-there _ _ _ e, omega (arith, name-short c.args.names.now c.args.k c.in-Some.name.now c.requires e))

pub returns-in-None : goal.returns-in-None
returns-in-None c = (name-past c.args.names.now c.args.k (slice_get_past _ _ c.in-None.ensures.lookup.3), omega arith)
