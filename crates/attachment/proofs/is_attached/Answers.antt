-- `attachment::is_attached` meets its contract.
use Rattle.std.proofs.Common.{ℕ, eqb, ◌∷◌, [], ◌∙◌, rules, tests}
use Rattle.std.proofs.lemmas.Iterator.{YieldsList-from_slice, YieldsList-from_take}
use Rattle.std.proofs.lemmas.Iterator.Search.{any_from_yields_List}
use Rattle.attachment.proofs.Sorts.{among_any}
use Rattle.attachment.proofs.is_attached.Goals as goal

pub returns : goal.returns
returns c =
    let a = c.args in
    let starts = a.numbers.first ∷ a.numbers.second ∷ [] in
    any_from_yields_List (λ (x : ℕ). eqb x a.at) _ _ c.any.result c.any.ensures.ran (YieldsList-from_take a.numbers.count (YieldsList-from_slice starts cc) cc) (λ x b q k. search (rules, tests))
    ∙ among_any a.at _
