-- `attachment::is_plain_text` meets its contract.
use Rattle.std.proofs.Common.{ℕ, refl, sym, ◌∙◌, not, rules, tests}
use Rattle.std.specs.List.{list_all}
use Rattle.std.proofs.lemmas.Iterator.Consumers.{YieldsList-from_first}
use Rattle.std.proofs.lemmas.Iterator.Search.{all_from_yields_List}
use Rattle.tape.specs.Nodes.{kind_at, is_open}
use Rattle.cursor.proofs.InTurn.{reads-list, serves_from_siblings}
use Rattle.cursor.specs.InnerTurn.{left}
use Rattle.attachment.specs.Attached.{plain}
use Rattle.attachment.proofs.is_plain_text.Goals as goal

pub all-requires-clause-callable : goal.all-requires-clause-callable
all-requires-clause-callable c = serves_from_siblings c.requires c.new.ensures.items (λ i q r. search rules) (λ i h. search rules)

pub returns : goal.returns
unfolding plain
returns c =
    let t = c.args.doc.tape.now in
    let test = λ (i : ℕ). not (is_open (kind_at t i)) in
    all_from_yields_List test c.all.new.self _ c.all.result c.all.ensures.ran (YieldsList-from_first (λ i. i) left _ c.new.ensures.items) (λ i v q r. search (rules, tests))
    ∙ sym (reads-list plain (list_all test) c.args.doc.source.now t refl (λ i f is o e. rw (o, e)) (λ i c f is o e. rw o) _ _ c.requires)
