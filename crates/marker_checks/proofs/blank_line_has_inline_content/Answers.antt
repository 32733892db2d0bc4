-- `marker_checks::blank_line_has_inline_content` meets its contract.
use Rattle.std.proofs.Common.{◌≡◌, sym, ◌∙◌, rules, tests}
use Rattle.std.proofs.lemmas.Iterator.Consumers.{YieldsList-from_first}
use Rattle.std.proofs.lemmas.Iterator.Search.{find_from_yields_List}
use Rattle.std.proofs.lemmas.Iterator.Adapters.{option_map_id}
use Rattle.cursor.proofs.InTurn.{serves_from_siblings, found-spanned}
use Rattle.cursor.specs.InnerTurn.{left}
use Rattle.marker_checks.proofs.Children.{first_settled, line-settled}
use Rattle.marker_checks.proofs.blank_line_has_inline_content.Goals as goal

pub find-requires-clause-callable : goal.find-requires-clause-callable
find-requires-clause-callable c = serves_from_siblings c.requires c.new.ensures.items (λ i q r. search rules) (λ i h. search rules)

pub kind_at-requires : goal.kind_at-requires
kind_at-requires c =
    let first : c.find.result ≡ first_settled _ _ _ _ c.requires = sym (option_map_id c.find.result) ∙ find_from_yields_List _ c.find.new.self _ c.find.result c.find.ensures.ran (YieldsList-from_first (λ i. i) left _ c.new.ensures.items) (λ i v q r. search (rules, tests)) in
    (found-spanned _ _ _ _ _ c.requires _ (sym first ∙ c.in-Some.is)).inside

pub returns-in-Some : goal.returns-in-Some
returns-in-Some c =
    let first : c.find.result ≡ first_settled _ _ _ _ c.requires = sym (option_map_id c.find.result) ∙ find_from_yields_List _ c.find.new.self _ c.find.result c.find.ensures.ran (YieldsList-from_first (λ i. i) left _ c.new.ensures.items) (λ i v q r. search (rules, tests)) in
    rw (c.is_numbered.ensures, c.kind_at.ensures) (sym (line-settled _ _ _ _ c.requires ∙ rw (sym first ∙ c.in-Some.is)))

pub returns-in-None : goal.returns-in-None
returns-in-None c =
    let first : c.find.result ≡ first_settled _ _ _ _ c.requires = sym (option_map_id c.find.result) ∙ find_from_yields_List _ c.find.new.self _ c.find.result c.find.ensures.ran (YieldsList-from_first (λ i. i) left _ c.new.ensures.items) (λ i v q r. search (rules, tests)) in
    sym (line-settled _ _ _ _ c.requires ∙ rw (sym first ∙ c.in-None.is))
