-- `text::rows_of_three` meets its contract: an arm for each row.
use mathlib.Core.List.{[], ◌∷◌}
use mathlib.Core.Logic.{inl, inr}
use mathlib.Core.Path.{refl, ◌∙◌}
use native.Mathlib.Omega.{arith}
use Rattle.text.proofs.Second.{both_of, row-3, row-4, row-5, row-6, below-three, above-three}
use Rattle.text.proofs.rows_of_three.Goals as goal

pub returns-then-holds : goal.returns-then-holds
returns-then-holds c =
    let h = c in
    let a = h.args in
    let e = h.in-224.is in
    both_of h.holds.result _ _ _ h.holds.ensures (inl (c.if-holds.true, c.holds-then-holds.ensures)) ∙ row-3 a.first a.second a.third (omega arith) (omega arith)

pub returns-else-holds : goal.returns-else-holds
returns-else-holds c =
    let h = c in
    let a = h.args in
    let e = h.in-224.is in
    both_of h.holds.result _ _ _ h.holds.ensures (inr (c.if-holds.false, refl)) ∙ row-3 a.first a.second a.third (omega arith) (omega arith)

pub returns-then-holds-2 : goal.returns-then-holds-2
returns-then-holds-2 c =
    let h = c in
    let a = h.args in
    let e = h.in-237.is in
    both_of h.holds-in-237.result _ _ _ h.holds-in-237.ensures (inl (c.if-holds-2.true, c.holds-then-holds-2.ensures)) ∙ row-5 a.first a.second a.third (omega arith) (omega arith)

pub returns-else-holds-2 : goal.returns-else-holds-2
returns-else-holds-2 c =
    let h = c in
    let a = h.args in
    let e = h.in-237.is in
    both_of h.holds-in-237.result _ _ _ h.holds-in-237.ensures (inr (c.if-holds-2.false, refl)) ∙ row-5 a.first a.second a.third (omega arith) (omega arith)

pub returns-then-holds-3 : goal.returns-then-holds-3
returns-then-holds-3 c =
    let h = c in
    let a = h.args in
    let n = h.in-225-to-236.in_default-own.rest.0.1 in
    both_of h.holds-in-225-to-236.result _ _ _ h.holds-in-225-to-236.ensures (inl (c.if-holds-3.true, c.holds-then-holds-3.ensures)) ∙ row-4 a.first a.second a.third (omega arith) (omega arith)

pub returns-else-holds-3 : goal.returns-else-holds-3
returns-else-holds-3 c =
    let h = c in
    let a = h.args in
    let n = h.in-225-to-236.in_default-own.rest.0.1 in
    both_of h.holds-in-225-to-236.result _ _ _ h.holds-in-225-to-236.ensures (inr (c.if-holds-3.false, refl)) ∙ row-4 a.first a.second a.third (omega arith) (omega arith)

pub returns-then-holds-4 : goal.returns-then-holds-4
returns-then-holds-4 c =
    let h = c in
    let a = h.args in
    let n = h.in-238-to-239.in_default-own.rest.1 in
    both_of h.holds-in-238-to-239.result _ _ _ h.holds-in-238-to-239.ensures (inl (c.if-holds-4.true, c.holds-then-holds-4.ensures)) ∙ row-6 a.first a.second a.third (omega arith) (omega arith)

pub returns-else-holds-4 : goal.returns-else-holds-4
returns-else-holds-4 c =
    let h = c in
    let a = h.args in
    let n = h.in-238-to-239.in_default-own.rest.1 in
    both_of h.holds-in-238-to-239.result _ _ _ h.holds-in-238-to-239.ensures (inr (c.if-holds-4.false, refl)) ∙ row-6 a.first a.second a.third (omega arith) (omega arith)

pub returns-in_default : goal.returns-in_default
returns-in_default c = let a = c.args in below-three a.first (a.second ∷ a.third ∷ []) c.in_default.if-first-lt224-own.true

pub returns-in_default-2 : goal.returns-in_default-2
returns-in_default-2 c = let a = c.args in above-three a.first (a.second ∷ a.third ∷ []) (omega arith)
