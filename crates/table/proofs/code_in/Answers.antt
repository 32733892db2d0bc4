-- `table::code_in` meets its contract.
use Rattle.std.proofs.Common.{rules, tests, ◌∙◌}
use Rattle.std.proofs.lemmas.Iterator.Search.{position_from_yields_List}
use Rattle.text.specs.Bytes.{equal}
use Rattle.table.specs.Inner.{triples}
use Rattle.table.proofs.Words.{position-is, YieldsList-from_codes}
use Rattle.table.proofs.code_in.Goals as goal

pub returns : goal.returns
returns c =
    let s = c.args.s.now in
    let l = c.args.codes.now in
    position_from_yields_List (λ w. equal w s) _ _ _ c.position.ensures.ran (YieldsList-from_codes l (cc) (cc)) (λ x b q k. search (rules, tests)) ∙ position-is s (triples l)
