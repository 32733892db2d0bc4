-- `text::find_non_digit` meets its contract.
use Rattle.std.proofs.Common.{rules, tests, ◌∙◌}
use Rattle.std.proofs.lemmas.Iterator.{YieldsList-from_slice}
use Rattle.std.proofs.lemmas.Iterator.Search.{position_from_yields_List}
use mathlib.Core.Bool.{not}
use Rattle.text.specs.Number.{digit}
use Rattle.text.proofs.Chars.{position-or-length}
use Rattle.text.proofs.find_non_digit.Goals as goal

pub returns : goal.returns
returns c =
    let s = c.args.s.now in
    c.unwrap_or.ensures ∙ position-or-length (λ b. not (digit b)) s _ (position_from_yields_List (λ b. not (digit b)) _ _ _ c.position.ensures.ran (YieldsList-from_slice s cc) (λ x b q k. search (rules, tests)))
