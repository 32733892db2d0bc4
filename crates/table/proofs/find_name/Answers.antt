-- `table::find_name` meets its contract. The invariant: the search stands on the chain of the name's bucket, and the entries that it has not passed give what all the entries give.
use Prim.Native.Nat.{◌-◌, ◌<◌}
use mathlib.Core.Path.{sym, ◌∙◌}
use native.Mathlib.Omega.{arith}
use Rattle.table.proofs.Unpack.{inside}
use Rattle.table.proofs.Buckets.{bucket-low, chain-start, chain-end, chain-low, chain-hit, chain-on, chain-less}
use Rattle.table.proofs.find_name.Goals as goal

pub offset_bounds-chains-bucket_of : goal.offset_bounds-chains-bucket_of
offset_bounds-chains-bucket_of c =
    let below : c.bucket_of.result < 256 = rw c.bucket_of.ensures (bucket-low _) in
    omega (arith, below)

pub bounds-chains-bucket_of : goal.bounds-chains-bucket_of
bounds-chains-bucket_of c =
    let below : c.bucket_of.result < 256 = rw c.bucket_of.ensures (bucket-low _) in
    omega (arith, below, c.requires.1.room)

pub loop-link-init : goal.loop-link-init
loop-link-init c =
    let s = c in
    (s.requires.0, s.requires.1, rw c.bucket_of.ensures (chain-start _ _ _ _ _ s.requires.0 s.requires.1))

pub offset_bounds-index-k : goal.offset_bounds-index-k
offset_bounds-index-k c = let l = c.loop-link in omega (arith, l.invariant.0.few, chain-low _ _ _ _ _ l.invariant.0 l.invariant.1 l.link l.invariant.2 (omega arith))

pub bounds-index-k : goal.bounds-index-k
bounds-index-k c = let l = c.loop-link in omega (arith, l.invariant.0.room, chain-low _ _ _ _ _ l.invariant.0 l.invariant.1 l.link l.invariant.2 (omega arith))

pub name_in-requires : goal.name_in-requires
name_in-requires c =
    let l = c.loop-link in
    inside _ _ _ l.invariant.0 _ (chain-low _ _ _ _ _ l.invariant.0 l.invariant.1 l.link l.invariant.2 (omega arith))

pub overflow_cast-result : goal.overflow_cast-result
overflow_cast-result c =
    let met : (c.loop-link.link - 1 < 512) × (0 < c.loop-link.link) = let l = c.loop-link in let h : 0 < l.link = omega arith in (omega (arith, l.invariant.0.few, chain-low _ _ _ _ _ l.invariant.0 l.invariant.1 _ l.invariant.2 h), h) in
    omega (arith, met)

pub returns-then-equal : goal.returns-then-equal
returns-then-equal c =
    let met : (c.loop-link.link - 1 < 512) × (0 < c.loop-link.link) = let l = c.loop-link in let h : 0 < l.link = omega arith in (omega (arith, l.invariant.0.few, chain-low _ _ _ _ _ l.invariant.0 l.invariant.1 _ l.invariant.2 h), h) in
    let l = c.loop-link in
    chain-hit _ _ _ _ _ l.invariant.0 l.invariant.1 _ l.invariant.2 met.1 _ c.name_in.ensures (sym c.equal.ensures ∙ c.if-equal.true)

pub overflow_add-link : goal.overflow_add-link
overflow_add-link c =
    let met : (c.loop-link.link - 1 < 512) × (0 < c.loop-link.link) = let l = c.loop-link in let h : 0 < l.link = omega arith in (omega (arith, l.invariant.0.few, chain-low _ _ _ _ _ l.invariant.0 l.invariant.1 _ l.invariant.2 h), h) in
    omega (arith, met)

pub offset_bounds-chains-k : goal.offset_bounds-chains-k
offset_bounds-chains-k c =
    let met : (c.loop-link.link - 1 < 512) × (0 < c.loop-link.link) = let l = c.loop-link in let h : 0 < l.link = omega arith in (omega (arith, l.invariant.0.few, chain-low _ _ _ _ _ l.invariant.0 l.invariant.1 _ l.invariant.2 h), h) in
    omega (arith, met)

pub bounds-chains-k : goal.bounds-chains-k
bounds-chains-k c =
    let met : (c.loop-link.link - 1 < 512) × (0 < c.loop-link.link) = let l = c.loop-link in let h : 0 < l.link = omega arith in (omega (arith, l.invariant.0.few, chain-low _ _ _ _ _ l.invariant.0 l.invariant.1 _ l.invariant.2 h), h) in
    omega (arith, met, c.loop-link.invariant.1.room)

pub loop-link-smaller : goal.loop-link-smaller
loop-link-smaller c =
    let met : (c.loop-link.link - 1 < 512) × (0 < c.loop-link.link) = let l = c.loop-link in let h : 0 < l.link = omega arith in (omega (arith, l.invariant.0.few, chain-low _ _ _ _ _ l.invariant.0 l.invariant.1 _ l.invariant.2 h), h) in
    let l = c.loop-link in
    chain-less _ _ _ _ _ l.invariant.0 l.invariant.1 _ l.invariant.2 met.1

pub loop-link-preserved : goal.loop-link-preserved
loop-link-preserved c =
    let met : (c.loop-link.link - 1 < 512) × (0 < c.loop-link.link) = let l = c.loop-link in let h : 0 < l.link = omega arith in (omega (arith, l.invariant.0.few, chain-low _ _ _ _ _ l.invariant.0 l.invariant.1 _ l.invariant.2 h), h) in
    let l = c.loop-link in
    (l.invariant.0, l.invariant.1, chain-on _ _ _ _ _ l.invariant.0 l.invariant.1 _ l.invariant.2 met.1 _ c.name_in.ensures (sym c.equal.ensures ∙ c.if-equal.false))

pub returns : goal.returns
returns c = let l = c.loop-link in chain-end _ _ _ _ _ l.invariant.0 l.invariant.1 _ l.invariant.2 (omega arith)
