-- `marker_checks::has_leaf` meets its contract.
use Rattle.std.proofs.Common.{sym, ◌∙◌, rules, tests}
use Rattle.std.proofs.lemmas.Iterator.Consumers.{YieldsList-from_first}
use Rattle.std.proofs.lemmas.Iterator.Search.{any_from_yields_List}
use Rattle.cursor.proofs.InTurn.{serves_from_siblings}
use Rattle.cursor.specs.InnerTurn.{left}
use Rattle.marker_checks.proofs.Children.{leaf-any}
use Rattle.marker_checks.proofs.has_leaf.Goals as goal

pub any-requires-clause-callable : goal.any-requires-clause-callable
any-requires-clause-callable c = serves_from_siblings c.requires.0 c.new.ensures.items (λ i q r. search rules) (λ i h. search rules)

pub returns : goal.returns
returns c =
    any_from_yields_List _ c.any.new.self _ c.any.result c.any.ensures.ran (YieldsList-from_first (λ i. i) left _ c.new.ensures.items) (λ i v q r. search (rules, tests))
    ∙ sym (leaf-any _ _ _ _ c.requires.0 _ _ c.requires.1)
