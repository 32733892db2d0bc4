-- `harkoxin::harkoxin_mark` meets its contract.
use mathlib.Core.Path.{◌∙◌, ap}
use Rattle.buffer.specs.Over.{over}
use Rattle.mark.specs.Mark.{MarkAnswer}
use Rattle.harkoxin.specs.Words.{mark_words}
use Rattle.harkoxin.proofs.harkoxin_mark.Goals as goal

pub returns : goal.returns
returns c =
    let a = c.args in
    c.write_mark.ensures ∙ ap (λ (x : MarkAnswer). over a.out.now 0 (mark_words x)) c.mark.ensures
