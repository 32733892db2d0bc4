-- `text::is_blank_text` meets its contract.
use Rattle.text.proofs.Hits.{blank-text}
use Rattle.text.proofs.is_blank_text.Goals as goal

pub returns : goal.returns
returns c = blank-text c.args.s.now c.find_from.result c.find_from.ensures.is
