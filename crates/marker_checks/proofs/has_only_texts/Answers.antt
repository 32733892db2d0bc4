-- `marker_checks::has_only_texts` meets its contract.
use Rattle.std.proofs.Common.{sym, ◌∙◌, rules, tests}
use Rattle.std.proofs.lemmas.Iterator.Consumers.{YieldsList-from_first}
use Rattle.std.proofs.lemmas.Iterator.Search.{all_from_yields_List}
use Rattle.cursor.proofs.InTurn.{serves_from_siblings}
use Rattle.cursor.specs.InnerTurn.{left}
use Rattle.marker_checks.proofs.Children.{texts-all}
use Rattle.marker_checks.proofs.has_only_texts.Goals as goal

pub all-requires-clause-callable : goal.all-requires-clause-callable
all-requires-clause-callable c = serves_from_siblings c.requires c.new.ensures.items (λ i q r. search rules) (λ i h. search rules)

pub returns : goal.returns
returns c =
    all_from_yields_List _ c.all.new.self _ c.all.result c.all.ensures.ran (YieldsList-from_first (λ i. i) left _ c.new.ensures.items) (λ i v q r. search (rules, tests))
    ∙ sym (texts-all _ _ _ _ c.requires)
