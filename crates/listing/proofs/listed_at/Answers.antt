-- `listing::listed_at` meets its contract.
use Prim.Native.Nat.{◌+◌, ◌*◌}
use native.Mathlib.Omega.{arith}
use lib.ListN.{get_or}
use Rattle.listing.proofs.Shown.{place_inside, listed-is}
use Rattle.listing.proofs.listed_at.Goals as goal

pub offset_bounds-lines-i : goal.offset_bounds-lines-i
offset_bounds-lines-i c =
    let z = c in
    let i = c.place-i.result in
    let h = place_inside _ _ _ z.requires.0 (get_or z.args.list.now (8 * z.args.k + 2) 0) i c.place-i.ensures in
    let short = z.requires.1 in
    omega arith

pub bounds-lines-i : goal.bounds-lines-i
bounds-lines-i c =
    let z = c in
    let i = c.place-i.result in
    let h = place_inside _ _ _ z.requires.0 (get_or z.args.list.now (8 * z.args.k + 2) 0) i c.place-i.ensures in
    let short = z.requires.1 in
    let r = z.requires.0.lines_room in
    omega arith

pub overflow_cast-result : goal.overflow_cast-result
overflow_cast-result c = omega (arith, c.type_inv.lines c.place-i.result)

pub offset_bounds-columns-i : goal.offset_bounds-columns-i
offset_bounds-columns-i c =
    let z = c in
    let i = c.place-i.result in
    let h = place_inside _ _ _ z.requires.0 (get_or z.args.list.now (8 * z.args.k + 2) 0) i c.place-i.ensures in
    let short = z.requires.1 in
    omega arith

pub bounds-columns-i : goal.bounds-columns-i
bounds-columns-i c =
    let z = c in
    let i = c.place-i.result in
    let h = place_inside _ _ _ z.requires.0 (get_or z.args.list.now (8 * z.args.k + 2) 0) i c.place-i.ensures in
    let short = z.requires.1 in
    let r = z.requires.0.columns_room in
    omega arith

pub overflow_cast-result-2 : goal.overflow_cast-result-2
overflow_cast-result-2 c = omega (arith, c.type_inv.columns c.place-i.result)

pub returns : goal.returns
returns c =
    let z = c in
    listed-is _ _ _ z.requires.0 z.args.list.now z.args.k _ c.place-i.ensures
