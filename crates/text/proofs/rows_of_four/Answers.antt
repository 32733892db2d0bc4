-- `text::rows_of_four` meets its contract: an arm for each row.
use mathlib.Core.Bool.{◌&&◌}
use mathlib.Core.List.{[], ◌∷◌}
use mathlib.Core.Logic.{inl, inr}
use mathlib.Core.Path.{◌≡◌, refl, ◌∙◌}
use native.Mathlib.Omega.{arith}
use Rattle.text.proofs.Second.{both_of, row-7, row-8, row-9, below-four, above-four}
use Rattle.text.specs.Pick.{within}
use Rattle.text.proofs.rows_of_four.Goals as goal
use Rattle.text.proofs.rows_of_four.Goals.{then-holds, else-holds, then-holds-3, else-holds-3, then-holds-5, else-holds-5}

pub returns-then-holds-2 : goal.returns-then-holds-2
returns-then-holds-2 c =
    let two-7 : c.if-holds.value ≡ (within 0x90 0xBF c.args.second && within 0x80 0xBF c.args.third) = both_of c.holds.result _ c.if-holds.value _ c.holds.ensures (elim c.if-holds.branch [ then-holds w ↦ inl (w.if-holds.true, w.value-is ∙ w.holds-then-holds.ensures) | else-holds w ↦ inr (w.if-holds.false, w.value-is) ]) in
    let j = c in
    let a = j.args in
    let e = j.in-240.is in
    both_of j.if-holds.value _ _ _ two-7 (inl (c.if-holds-2.true, c.holds-then-holds-2.ensures)) ∙ row-7 a.first a.second a.third a.fourth (omega arith) (omega arith)

pub returns-else-holds-2 : goal.returns-else-holds-2
returns-else-holds-2 c =
    let two-7 : c.if-holds.value ≡ (within 0x90 0xBF c.args.second && within 0x80 0xBF c.args.third) = both_of c.holds.result _ c.if-holds.value _ c.holds.ensures (elim c.if-holds.branch [ then-holds w ↦ inl (w.if-holds.true, w.value-is ∙ w.holds-then-holds.ensures) | else-holds w ↦ inr (w.if-holds.false, w.value-is) ]) in
    let j = c in
    let a = j.args in
    let e = j.in-240.is in
    both_of j.if-holds.value _ _ _ two-7 (inr (c.if-holds-2.false, refl)) ∙ row-7 a.first a.second a.third a.fourth (omega arith) (omega arith)

pub returns-then-holds-4 : goal.returns-then-holds-4
returns-then-holds-4 c =
    let two-9 : c.if-holds-3.value ≡ (within 0x80 0x8F c.args.second && within 0x80 0xBF c.args.third) = both_of c.holds-in-244.result _ c.if-holds-3.value _ c.holds-in-244.ensures (elim c.if-holds-3.branch [ then-holds-3 w ↦ inl (w.if-holds-3.true, w.value-is ∙ w.holds-then-holds-3.ensures) | else-holds-3 w ↦ inr (w.if-holds-3.false, w.value-is) ]) in
    let j = c in
    let a = j.args in
    let e = j.in-244.is in
    both_of j.if-holds-3.value _ _ _ two-9 (inl (c.if-holds-4.true, c.holds-then-holds-4.ensures)) ∙ row-9 a.first a.second a.third a.fourth (omega arith) (omega arith)

pub returns-else-holds-4 : goal.returns-else-holds-4
returns-else-holds-4 c =
    let two-9 : c.if-holds-3.value ≡ (within 0x80 0x8F c.args.second && within 0x80 0xBF c.args.third) = both_of c.holds-in-244.result _ c.if-holds-3.value _ c.holds-in-244.ensures (elim c.if-holds-3.branch [ then-holds-3 w ↦ inl (w.if-holds-3.true, w.value-is ∙ w.holds-then-holds-3.ensures) | else-holds-3 w ↦ inr (w.if-holds-3.false, w.value-is) ]) in
    let j = c in
    let a = j.args in
    let e = j.in-244.is in
    both_of j.if-holds-3.value _ _ _ two-9 (inr (c.if-holds-4.false, refl)) ∙ row-9 a.first a.second a.third a.fourth (omega arith) (omega arith)

pub returns-then-holds-6 : goal.returns-then-holds-6
returns-then-holds-6 c =
    let two-8 : c.if-holds-5.value ≡ (within 0x80 0xBF c.args.second && within 0x80 0xBF c.args.third) = both_of c.holds-in-241-to-243.result _ c.if-holds-5.value _ c.holds-in-241-to-243.ensures (elim c.if-holds-5.branch [ then-holds-5 w ↦ inl (w.if-holds-5.true, w.value-is ∙ w.holds-then-holds-5.ensures) | else-holds-5 w ↦ inr (w.if-holds-5.false, w.value-is) ]) in
    let j = c in
    let a = j.args in
    let n = j.in-241-to-243.in_default-own.rest.0.1 in
    both_of j.if-holds-5.value _ _ _ two-8 (inl (c.if-holds-6.true, c.holds-then-holds-6.ensures)) ∙ row-8 a.first a.second a.third a.fourth (omega arith) (omega arith)

pub returns-else-holds-6 : goal.returns-else-holds-6
returns-else-holds-6 c =
    let two-8 : c.if-holds-5.value ≡ (within 0x80 0xBF c.args.second && within 0x80 0xBF c.args.third) = both_of c.holds-in-241-to-243.result _ c.if-holds-5.value _ c.holds-in-241-to-243.ensures (elim c.if-holds-5.branch [ then-holds-5 w ↦ inl (w.if-holds-5.true, w.value-is ∙ w.holds-then-holds-5.ensures) | else-holds-5 w ↦ inr (w.if-holds-5.false, w.value-is) ]) in
    let j = c in
    let a = j.args in
    let n = j.in-241-to-243.in_default-own.rest.0.1 in
    both_of j.if-holds-5.value _ _ _ two-8 (inr (c.if-holds-6.false, refl)) ∙ row-8 a.first a.second a.third a.fourth (omega arith) (omega arith)

pub returns-in_default : goal.returns-in_default
returns-in_default c = let a = c.args in below-four a.first (a.second ∷ a.third ∷ a.fourth ∷ []) c.in_default.if-first-lt240-own.true

pub returns-in_default-2 : goal.returns-in_default-2
returns-in_default-2 c =
    let a = c.args in
    let n = c.in_default.in_default-own.rest.1 in
    above-four a.first (a.second ∷ a.third ∷ a.fourth ∷ []) (omega arith)
