-- `chapter_verse::is_among_few` meets its contract.
use Rattle.std.proofs.Common.{◌∙◌}
use Rattle.chapter_verse.proofs.Seen.{seen-any}
use Rattle.chapter_verse.proofs.is_among_few.Goals as goal

pub returns : goal.returns
returns c = c.contains.ensures.value ∙ seen-any c.args.seen.now c.args.num c.args.k c.requires
