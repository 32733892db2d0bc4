-- `table::marker_at` meets its contract: each line that was read is good, and the first that is not is bad.
use mathlib.Core.Path.{sym, ◌∙◌}
use native.Mathlib.Omega.{arith}
use Rattle.std.proofs.lemmas.Result.{err_from_is_err_and}
use Rattle.table.proofs.Steps.{left_out, marked-first, marked-second, marked-third, marked-whole, good-first, good-second, low}
use Rattle.table.proofs.marker_at.Goals as goal

pub returns-in_err-len : goal.returns-in_err-len
returns-in_err-len c =
    let p = err_from_is_err_and c.from_residual.result c.from_residual.ensures.1 in
    let e = c.in_err-len.ensures in
    rw p.1 (marked-first _ _ c.requires.0 p.0 (p.2 ∙ left_out _ _ _ e.value e.ok_part ∙ c.at.ensures) (sym e.ok_part ∙ c.name_line.ensures))

pub category_line-requires : goal.category_line-requires
category_line-requires c = (good-first _ _ c.requires.0 _ _ (sym c.in_ok-len.ensures.ok_part ∙ c.name_line.ensures)).inside

pub returns-in_err-category : goal.returns-in_err-category
returns-in_err-category c =
    let p = err_from_is_err_and c.from_residual-in_err-category.result c.from_residual-in_err-category.ensures.1 in
    let e = c.in_err-category.ensures in
    rw p.1 (marked-second _ _ c.requires.0 _ _ (sym c.in_ok-len.ensures.ok_part ∙ c.name_line.ensures) p.0 (p.2 ∙ left_out _ _ _ e.value e.ok_part ∙ c.at-2.ensures) (sym e.ok_part ∙ c.category_line.ensures))

pub role_line-requires : goal.role_line-requires
role_line-requires c = (good-second _ _ c.requires.0 _ _ (sym c.in_ok-len.ensures.ok_part ∙ c.name_line.ensures) _ _ (sym c.in_ok-category.ensures.ok_part ∙ c.category_line.ensures)).inside

pub returns-in_err-role : goal.returns-in_err-role
returns-in_err-role c =
    let p = err_from_is_err_and c.from_residual-in_err-role.result c.from_residual-in_err-role.ensures.1 in
    let e = c.in_err-role.ensures in
    rw p.1 (marked-third _ _ c.requires.0 _ _ (sym c.in_ok-len.ensures.ok_part ∙ c.name_line.ensures) _ _ (sym c.in_ok-category.ensures.ok_part ∙ c.category_line.ensures) p.0 (p.2 ∙ left_out _ _ _ e.value e.ok_part ∙ c.at-3.ensures) (sym e.ok_part ∙ c.role_line.ensures))

pub overflow_mul-result : goal.overflow_mul-result
overflow_mul-result c = let parts = low _ _ c.requires.0 _ _ (sym c.in_ok-len.ensures.ok_part ∙ c.name_line.ensures) _ _ (sym c.in_ok-category.ensures.ok_part ∙ c.category_line.ensures) _ _ (sym c.in_ok-role.ensures.ok_part ∙ c.role_line.ensures) in omega (arith, c.requires.1, parts)

pub overflow_add-result : goal.overflow_add-result
overflow_add-result c = let parts = low _ _ c.requires.0 _ _ (sym c.in_ok-len.ensures.ok_part ∙ c.name_line.ensures) _ _ (sym c.in_ok-category.ensures.ok_part ∙ c.category_line.ensures) _ _ (sym c.in_ok-role.ensures.ok_part ∙ c.role_line.ensures) in omega (arith, c.requires.1, parts)

pub overflow_mul-result-2 : goal.overflow_mul-result-2
overflow_mul-result-2 c = let parts = low _ _ c.requires.0 _ _ (sym c.in_ok-len.ensures.ok_part ∙ c.name_line.ensures) _ _ (sym c.in_ok-category.ensures.ok_part ∙ c.category_line.ensures) _ _ (sym c.in_ok-role.ensures.ok_part ∙ c.role_line.ensures) in omega (arith, c.requires.1, parts)

pub overflow_add-result-2 : goal.overflow_add-result-2
overflow_add-result-2 c = let parts = low _ _ c.requires.0 _ _ (sym c.in_ok-len.ensures.ok_part ∙ c.name_line.ensures) _ _ (sym c.in_ok-category.ensures.ok_part ∙ c.category_line.ensures) _ _ (sym c.in_ok-role.ensures.ok_part ∙ c.role_line.ensures) in omega (arith, c.requires.1, parts)

pub overflow_mul-result-3 : goal.overflow_mul-result-3
overflow_mul-result-3 c = let parts = low _ _ c.requires.0 _ _ (sym c.in_ok-len.ensures.ok_part ∙ c.name_line.ensures) _ _ (sym c.in_ok-category.ensures.ok_part ∙ c.category_line.ensures) _ _ (sym c.in_ok-role.ensures.ok_part ∙ c.role_line.ensures) in omega (arith, c.requires.1, parts)

pub overflow_add-result-3 : goal.overflow_add-result-3
overflow_add-result-3 c = let parts = low _ _ c.requires.0 _ _ (sym c.in_ok-len.ensures.ok_part ∙ c.name_line.ensures) _ _ (sym c.in_ok-category.ensures.ok_part ∙ c.category_line.ensures) _ _ (sym c.in_ok-role.ensures.ok_part ∙ c.role_line.ensures) in omega (arith, c.requires.1, parts)

pub returns : goal.returns
returns c = marked-whole _ _ c.requires.0 _ _ (sym c.in_ok-len.ensures.ok_part ∙ c.name_line.ensures) _ _ (sym c.in_ok-category.ensures.ok_part ∙ c.category_line.ensures) _ _ (sym c.in_ok-role.ensures.ok_part ∙ c.role_line.ensures) c.requires.1
