-- `text::second_word` meets its contract: the first word after the end of the first.
use Prim.Native.Nat.{ℕ}
use mathlib.Core.Path.{ap, ◌∙◌}
use Rattle.text.proofs.Cuts.{word_cut, word_end}
use Rattle.text.specs.Pick.{cut}
use Rattle.text.specs.Words.{word_from}
use Rattle.text.proofs.second_word.Goals as goal

pub returns : goal.returns
returns c =
    let s = c.args.s.now in
    let a = c.find_from-a in
    let e = c.find_from-e in
    let a₂ = c.find_from-a2 in
    let e₂ = c.find_from-e2 in
    word_cut s e.result a₂.result e₂.result a₂.ensures.is e₂.ensures.is
    ∙ ap (λ (i : ℕ). cut (word_from i s) s) (word_end s 0 a.result e.result a.ensures.is e.ensures.is)
