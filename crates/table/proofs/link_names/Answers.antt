-- `table::link_names` meets its contract.
use Rattle.std.proofs.Common.{◌≡◌, ◌+◌, ◌-◌, ◌<◌}
use lib.ListN.{length-set}
use mathlib.Core.Path.{refl, ap, ◌∙◌}
use native.Mathlib.Omega.{arith}
use Rattle.table.specs.Inner.{bucket_of}
use Rattle.table.proofs.Unpack.{inside}
use Rattle.table.proofs.Buckets.{bucket-low}
use Rattle.table.proofs.Linking.{link_start, link-end, link_on}
use Rattle.table.proofs.link_names.Goals as goal

pub loop-k-init : goal.loop-k-init
loop-k-init c =
    let h = c.clear_heads in
    (refl, omega arith, c.requires.0, link_start _ _ _ c.requires.0 _ (omega (arith, h.auto.chains, c.requires.1)) h.ensures)

pub name_in-requires : goal.name_in-requires
name_in-requires c = let l = c.loop-k in inside _ _ _ l.invariant.2 _ (omega arith)

pub offset_bounds-chains-h : goal.offset_bounds-chains-h
offset_bounds-chains-h c =
    let h : c.bucket_of-h.result < 256 = rw c.bucket_of-h.ensures (bucket-low _) in
    omega arith

pub bounds-chains-h : goal.bounds-chains-h
bounds-chains-h c =
    let h : c.bucket_of-h.result < 256 = rw c.bucket_of-h.ensures (bucket-low _) in
    omega (arith, c.loop-k.invariant.3.room)

pub offset_bounds-chains-h-in-loop-k : goal.offset_bounds-chains-h-in-loop-k
offset_bounds-chains-h-in-loop-k c =
    let h : c.bucket_of-h.result < 256 = rw c.bucket_of-h.ensures (bucket-low _) in
    omega arith

pub bounds-chains-h-in-loop-k : goal.bounds-chains-h-in-loop-k
bounds-chains-h-in-loop-k c =
    let h : c.bucket_of-h.result < 256 = rw c.bucket_of-h.ensures (bucket-low _) in
    simp length-set (omega (arith, c.loop-k.invariant.3.room))

pub loop-k-preserved : goal.loop-k-preserved
loop-k-preserved c =
    let l = c.loop-k in
    let e : l.k - 1 + 1 ≡ l.k = omega arith in
    (simp length-set l.invariant.0, omega (arith, l.invariant.1), l.invariant.2, rw e (link_on _ _ _ l.invariant.2 _ _ l.invariant.3 (omega arith) l.invariant.1 _ (c.bucket_of-h.ensures ∙ ap bucket_of c.name_in.ensures)))

pub returns : goal.returns
returns c = let l = c.loop-k in link-end _ _ _ l.invariant.2 _ _ l.invariant.3 (omega arith)
