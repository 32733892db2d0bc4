-- `listing::put_findings` meets its contract. The invariant: the findings passed are written, and what is left gives what the whole gives.
use Prim.Native.Nat.{ℕ, ◌<◌, ◌≤◌}
use native.Mathlib.Omega.{arith}
use mathlib.Core.Path.{◌≡◌, refl, ◌∙◌}
use lib.ListN.{length}
use Rattle.listing.proofs.Pieces.{text_at, texts-end, writing_start, written_all, piece-full, piece-on}
use Rattle.listing.proofs.put_findings.Goals as goal

below-le : {k n m : ℕ} → k < n → n ≤ m → k < m
below-le h g = omega arith

as-low : {a b m : ℕ} → a ≡ b → b ≤ m → a ≤ m
as-low e h = omega arith

at_most : {a b m : ℕ} → a ≤ b → b ≤ m → a ≤ m
at_most h g = omega arith

pub loop-k-init : goal.loop-k-init
loop-k-init c = (writing_start _ _ _ _ c.requires.2, refl)

pub put_whole-end-requires : goal.put_whole-end-requires
put_whole-end-requires c =
    let p = c.requires in
    let v = c.loop-k.invariant in
    (p.0, below-le c.loop-k-test.true p.1, as-low v.1 p.3, at_most v.0.room p.4)

pub shape_of-text-then-out-end : goal.shape_of-text-then-out-end
shape_of-text-then-out-end c = c.put_whole-end.auto.text ∙ c.loop-k.invariant.1

pub shape_of-out-then-out-end : goal.shape_of-out-then-out-end
shape_of-out-then-out-end c = c.put_whole-end.auto.out ∙ c.loop-k.invariant.0.same

pub returns-then-out-end : goal.returns-then-out-end
returns-then-out-end c =
    let a = c.args in
    let p = c.requires in
    let l = c.loop-k in
    let h = c.loop-k-test.true in
    let e = text_at (length a.text.now) a.table.now a.doc.source.now a.doc.tape.now a.held a.list.now p.1 l.k h in
    let r = piece-full _ _ _ _ l.out l.k l.at l.invariant.0 _ e _ c.put_whole-end.result (rw l.invariant.1 at c.put_whole-end.ensures) in
    let z = r c.if-out-end.true c.put_whole-end.auto.out in
    record { piece = z.0; next = z.1 }

pub loop-k-preserved : goal.loop-k-preserved
loop-k-preserved c =
    let a = c.args in
    let p = c.requires in
    let l = c.loop-k in
    let h = c.loop-k-test.true in
    let e = text_at (length a.text.now) a.table.now a.doc.source.now a.doc.tape.now a.held a.list.now p.1 l.k h in
    let r = piece-on _ _ _ _ l.out l.k l.at l.invariant.0 _ e _ c.put_whole-end.result (rw l.invariant.1 at c.put_whole-end.ensures) in
    (r (omega (arith, c.if-out-end.false)) c.put_whole-end.auto.out h, c.put_whole-end.auto.text ∙ l.invariant.1)

pub shape_of-text : goal.shape_of-text
shape_of-text c = c.loop-k.invariant.1

pub shape_of-out : goal.shape_of-out
shape_of-out c = c.loop-k.invariant.0.same

pub returns : goal.returns
returns c =
    let a = c.args in
    let l = c.loop-k in
    let z = written_all _ _ _ _ l.out l.k l.at l.invariant.0 (texts-end (length a.text.now) a.table.now a.doc.source.now a.doc.tape.now a.held a.list.now c.requires.1 l.k (omega (arith, c.loop-k-test.false))) in
    let e : a.held ≡ l.k = omega (arith, c.loop-k-test.false) in
    record { piece = z.0; next = e ∙ z.1 }
