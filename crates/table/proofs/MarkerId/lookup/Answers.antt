-- `table::MarkerId::lookup` meets its contract.
use mathlib.Core.Path.{sym, ap, ◌∙◌}
use Rattle.table.specs.Names.{found_of}
use Rattle.table.proofs.Finding.{look-first, look-second, look-third}
use Rattle.table.proofs.MarkerId.lookup.Goals as goal

pub returns-in-Some : goal.returns-in-Some
returns-in-Some c = look-first _ _ _ (sym (ap found_of c.in-Some.is) ∙ c.find_name.ensures)

pub returns-in-Some-find_stripped : goal.returns-in-Some-find_stripped
returns-in-Some-find_stripped c =
    let d = c in
    look-second _ _ _ (sym (ap found_of d.in_default.is) ∙ d.find_name.ensures) (sym (ap found_of c.in-Some-find_stripped.is) ∙ d.find_stripped.ensures)

pub returns : goal.returns
returns c =
    let d = c in
    look-third _ _ _ (sym (ap found_of d.in_default.is) ∙ d.find_name.ensures) (sym (ap found_of c.in_default-find_stripped.is) ∙ d.find_stripped.ensures) c.find_glued.ensures
